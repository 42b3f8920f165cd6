-- Replies to commands.
use Rattle.std.specs.Prelude.{List, codes, ℕ, ◌++◌}
use Rattle.std.specs.Fmt.{decimal}
use Rattle.hex.specs.Hex.{encode_upper}
use Rattle.pad_steps.specs.declared.answers.Answer.{Answer}
use Rattle.pad_steps.specs.declared.answers.Answer.TheVariants as answer
use Rattle.pad_steps.specs.declared.answers.Completion.{Completion}
use Rattle.pad_steps.specs.declared.answers.Completion.TheVariants as completion
use Rattle.pad_steps.specs.declared.answers.Reply.{Reply}
use Rattle.pad_steps.specs.declared.answers.Reply.TheVariants as reply
use Rattle.transcript.specs.Refusals.{refusal_text}
use Rattle.transcript.specs.Values.{check_text, digits_text, yes_no_text}

-- how an entry ended
unfoldable pub completion_text : Completion → List ℕ
completion_text completion.Auto = codes "auto"
completion_text completion.Enter = codes "enter"
completion_text completion.Cancel = codes "cancel"
completion_text completion.Help = codes "help"
completion_text (completion.Fdk n) = codes "fdk" ++ decimal n

-- what a command that succeeded gives, behind its `OK`
unfoldable pub answer_text : Answer → List ℕ
answer_text answer.Done = codes "OK"
answer_text (answer.Entered n c) = codes "OK entered " ++ decimal n ++ codes " " ++ completion_text c
answer_text (answer.Figures digits c) = codes "OK figures " ++ digits_text digits ++ codes " " ++ completion_text c
answer_text (answer.Part n c check) = codes "OK part " ++ decimal n ++ codes " " ++ completion_text c ++ codes " " ++ check_text check
answer_text (answer.Block block) = codes "OK block " ++ encode_upper block.0
answer_text (answer.Wide left right) = codes "OK block " ++ encode_upper left.0 ++ encode_upper right.0
answer_text (answer.Checked holds) = codes "OK check " ++ yes_no_text holds
answer_text (answer.Crypt bytes) = codes "OK crypt " ++ encode_upper bytes
answer_text (answer.Mac block) = codes "OK mac " ++ encode_upper block.0
answer_text (answer.Key check) = codes "OK key " ++ check_text check

-- what a command ended with
unfoldable pub reply_text : Reply → List ℕ
reply_text (reply.Ok a) = answer_text a
reply_text (reply.No r) = refusal_text r
