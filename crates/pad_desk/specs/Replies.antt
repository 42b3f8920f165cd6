-- Replies that are told.
use Rattle.pad_steps.specs.declared.answers.Out.TheVariants as out
use Rattle.pad_steps.specs.declared.answers.Out.{Out}
use Rattle.pad_steps.specs.declared.answers.Refusal.TheVariants as refusals
use Rattle.pad_steps.specs.declared.answers.Reply.TheVariants as replied
use Rattle.pad_steps.specs.declared.answers.Reply.{Reply}
use Rattle.pad_steps.specs.declared.answers.Told.TheVariants as telling
use Rattle.pad_steps.specs.declared.answers.Told.{Told}
use Rattle.pad_words.specs.declared.numbers.Session.{Session}
use Rattle.std.specs.Prelude.{List, [], ℕ, ◌∷◌, ◌≡◌}

-- one reply of this request is told, and nothing else
abbrev pub TellsReplyOf : Session → ℕ → List Out → Type 0
TellsReplyOf session id outs = (reply : Reply) × (outs ≡ out.Told session (telling.Reply id reply) ∷ [])

-- one reply is told, and nothing else
abbrev pub TellsReply : List Out → Type 0
TellsReply outs = (session : Session) × (id : ℕ) × TellsReplyOf session id outs

-- the reply in what is told; where none is, a refusal that stands for none
abbrev pub reply_told : Told → Reply
reply_told (telling.Reply id reply) = reply
reply_told other = replied.No refusals.InvalidReqId

-- the same of one out
abbrev pub reply_out : Out → Reply
reply_out (out.Told session told) = reply_told told
reply_out other = replied.No refusals.InvalidReqId

-- the reply that these outs tell first
abbrev pub reply_in : List Out → Reply
reply_in [] = replied.No refusals.InvalidReqId
reply_in (first ∷ rest) = reply_out first
