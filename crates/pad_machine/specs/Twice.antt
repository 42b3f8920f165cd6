-- What a step is told with once more, without memory.
use Rattle.flat_machine.specs.declared.types.Owner.{Owner}
use Rattle.flat_machine.specs.declared.types.Work.TheVariants as work
use Rattle.flat_machine.specs.declared.types.Work.{Work}
use Rattle.key_attributes.specs.declared.KeyRow.{KeyRow}
use Rattle.key_table.specs.KeyRows.{KeyRows}
use Rattle.pad_machine.specs.declared.prepared.Prepared.TheVariants as prepared
use Rattle.pad_machine.specs.declared.prepared.Prepared.{Prepared}
use Rattle.pad_steps.specs.declared.answers.Answer.TheVariants as answers
use Rattle.pad_steps.specs.declared.answers.Answer.{Answer}
use Rattle.pad_steps.specs.declared.answers.Out.TheVariants as out
use Rattle.pad_steps.specs.declared.answers.Out.{Out}
use Rattle.pad_steps.specs.declared.answers.Reply.TheVariants as replied
use Rattle.pad_steps.specs.declared.answers.Reply.{Reply}
use Rattle.pad_steps.specs.declared.answers.Told.TheVariants as telling
use Rattle.pad_steps.specs.declared.answers.Told.{Told}
use Rattle.pad_steps.specs.declared.steps.DiskWord.TheVariants as words
use Rattle.pad_steps.specs.declared.steps.DiskWord.{DiskWord}
use Rattle.std.specs.Global.{Vec}
use Rattle.std.specs.List.{All}
use Rattle.std.specs.Prelude.{Bool, List, None, Option, Some, [], false, length, true, vec_capacity, ℕ, ◌++◌, ◌∷◌, ◌≡◌, ◌≤◌}

-- the answer holds a list: the bytes of CRYPT
abbrev pub answer_holds_list : Answer → Bool
answer_holds_list (answers.Crypt bytes) = true
answer_holds_list other = false

-- so does the reply
abbrev pub reply_holds_list : Reply → Bool
reply_holds_list (replied.Ok answer) = answer_holds_list answer
reply_holds_list (replied.No refusal) = false

-- what is told holds a list: the names of keys, or such a reply
abbrev pub told_holds_list : Told → Bool
told_holds_list (telling.Names names) = true
told_holds_list (telling.Reply id reply) = reply_holds_list reply
told_holds_list other = false

-- the out holds a list, and no copy of it is made without memory
abbrev pub holds_list : Out → Bool
holds_list (out.Ended session id reply) = reply_holds_list reply
holds_list (out.Told session told) = told_holds_list told
holds_list other = false

-- the out of a command that is answered at once
abbrev pub answer_out : Owner → Work → Option Out
answer_out owner (work.Answer answer) = Some (out.Ended owner.session owner.id (replied.Ok answer))
answer_out owner other = None

-- the one out of a prepared step, where it is known before the step is done
abbrev pub known_out : Prepared → Option Out
known_out (prepared.Say only) = Some only
known_out (prepared.Finish owner work told) = answer_out owner work
known_out other = None

-- the room that a prepared loading has for rows
abbrev pub rows_room : Prepared → Option (Vec (ℕ × KeyRow))
rows_room (prepared.Reset owner kept) = Some kept
rows_room (prepared.Boot kept) = Some kept
rows_room other = None

-- what was said is the out that was known, or holds no list
abbrev pub AreAsKnown : Option Out → List Out → Type 0
AreAsKnown (Some only) said = said ≡ only ∷ []
AreAsKnown None said = All (λ item. holds_list item ≡ false) said

-- there is room for so many rows
abbrev pub HasRoomFor : KeyRows → Option (Vec (ℕ × KeyRow)) → Type 0
HasRoomFor rows None = ⊥
HasRoomFor rows (Some room) = length rows ≤ vec_capacity room

-- there is room for the rows that the word loaded, if it did
abbrev pub HasRoomForWord : DiskWord → Option (Vec (ℕ × KeyRow)) → Type 0
HasRoomForWord (words.Loaded loaded) room = HasRoomFor loaded room
HasRoomForWord other room = Unit {0}

-- both lists have what they had, and behind it the same
abbrev pub SayAlike : List Out → List Out → List Out → List Out → Type 0
SayAlike before after second_before second_after = (said : List Out) × (after ≡ before ++ said) × (second_after ≡ second_before ++ said)
