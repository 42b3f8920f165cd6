-- What is printed is read again.
use Rattle.std.proofs.Common.{◌≡◌, ℕ, List, [], ◌∷◌, ◌++◌, Some, refl, sym, subst, arith}
use Rattle.std.specs.Prelude.{IsTrue}
use Rattle.std.specs.List.{AllByRecursion}
use Rattle.pad_steps.specs.Formed.{is_well_formed}
use Rattle.script_lang.specs.declared.kinds.CommandVerb.TheVariants as command_verb
use Rattle.script_lang.specs.declared.kinds.LineVerb.TheVariants as line_verb
use Rattle.script_lang.specs.declared.kinds.QuestionVerb.TheVariants as question_verb
use Rattle.script_lang.specs.declared.kinds.SourceKind.TheVariants as source_kind
use Rattle.pad_words.specs.declared.numbers.Session.{Session}
use Rattle.pad_steps.specs.declared.commands.BlockRequest.{BlockRequest}
use Rattle.pad_steps.specs.declared.commands.CheckRequest.{CheckRequest}
use Rattle.pad_steps.specs.declared.commands.Command.{Command}
use Rattle.pad_steps.specs.declared.commands.Command.TheVariants as command
use Rattle.pad_steps.specs.declared.commands.CryptRequest.{CryptRequest}
use Rattle.pad_steps.specs.declared.commands.ImportRequest.{ImportRequest}
use Rattle.pad_steps.specs.declared.commands.ImportSource.{ImportSource}
use Rattle.pad_steps.specs.declared.commands.ImportSource.TheVariants as origin
use Rattle.pad_steps.specs.declared.commands.PinRequest.{PinRequest}
use Rattle.pad_steps.specs.declared.commands.PinRequest.TheVariants as pin
use Rattle.pad_steps.specs.declared.steps.Question.{Question}
use Rattle.pad_steps.specs.declared.steps.Question.TheVariants as question
use Rattle.pad_steps.specs.declared.steps.Step.{Step}
use Rattle.pad_steps.specs.declared.steps.Step.TheVariants as step
use Rattle.script_lang.specs.declared.kinds.Line.TheVariants.{Do}
use Rattle.script_lang.specs.Words.{Word, Says, spaced, joined}
use Rattle.script_lang.specs.Reading.{line_of}
use Rattle.script_lang.specs.Spelling.{block_word, block_words, check_words, command_words, crypt_words, import_words, name_word, pin_words, question_words, session_word, source_words, step_text, step_words, uses_word, verify_word, Spells}
use Rattle.script_lang.proofs.Fits.{BlockFits, CheckFits, CommandFits, CryptFits, ImportFits, NameFits, PinFits, QuestionFits, RequestFits, SourceFits, StepFits, StepFits-from_line}
use Rattle.script_lang.proofs.LineLaws.{line_again}
use Rattle.script_lang.proofs.Readers.{Prints}
use Rattle.script_lang.proofs.WordLaws.{algorithm_prints, classes_print, command_verb_prints, direction_prints, end_prints, form_prints, line_verb_prints, question_verb_prints, source_kind_prints, switch_prints, verify_prints, zero_prints}
use Rattle.script_lang.proofs.WordPrints.{block_prints, body_prints, byte_prints, bytes_print, digits_print, key_prints, mask_prints, name_prints, nibbles_print, number_prints, optional_prints, says_spaced, start_prints, uses_print}

-- ---- commands

block_words_print : (r : BlockRequest) → RequestFits r → AllByRecursion Prints (block_words r)
block_words_print r fits = (form_prints r.form, (name_prints r.key fits.0, (optional_prints NameFits name_word name_prints r.second fits.1, (optional_prints BlockFits block_word block_prints r.xor fits.2, (nibbles_print r.customer fits.3.2, (digits_print (r.pad ∷ []) (fits.4, tt), tt))))))

source_prints : (s : ImportSource) (more : List Word) → SourceFits s → AllByRecursion Prints more → AllByRecursion Prints (source_words s ++ more)
source_prints (origin.Clear value) more fits all = (source_kind_prints source_kind.Clear, (bytes_print value fits.2, all))
source_prints (origin.Sealed name value) more fits all = (source_kind_prints source_kind.Sealed, (name_prints name fits.0, (bytes_print value fits.1.2, all)))
source_prints origin.Part more fits all = (source_kind_prints source_kind.Part, all)

import_prints : (r : ImportRequest) → ImportFits r → AllByRecursion Prints (import_words r)
import_prints r fits = (name_prints r.name fits.0, source_prints r.source (uses_word r.uses ∷ verify_word r.verify ∷ []) fits.1 (uses_print r.uses fits.2, (verify_prints r.verify, tt)))

crypt_words_print : (r : CryptRequest) → CryptFits r → AllByRecursion Prints (crypt_words r)
crypt_words_print r fits = (algorithm_prints r.algorithm, (direction_prints r.direction, (name_prints r.key fits.0, (start_prints r.start fits.1, (byte_prints r.pad fits.2, (body_prints r.body fits.3.2, tt))))))

check_words_print : (r : CheckRequest) → CheckFits r → AllByRecursion Prints (check_words r)
check_words_print r fits = (name_prints r.key fits.0, (digits_print r.validation fits.1.2, (digits_print (r.pad ∷ []) (fits.2, tt), (nibbles_print r.offset fits.3.0.2, (number_prints r.count (omega (arith, fits.4)), (zero_prints r.no_zero, (digits_print r.table fits.5.0.2, tt)))))))

pin_words_print : (request : PinRequest) → PinFits request → AllByRecursion Prints (pin_words request)
pin_words_print (pin.Block r) fits = (command_verb_prints command_verb.PinBlock, block_words_print r fits)
pin_words_print (pin.Check r) fits = (command_verb_prints command_verb.LocalDes, check_words_print r fits)
pin_words_print (pin.Extra r) fits = (command_verb_prints command_verb.Extra, (number_prints r.kind (omega (arith, fits.0)), (name_prints r.key fits.1, (body_prints r.body fits.2.2, tt))))

command_prints : (c : Command) → CommandFits c → AllByRecursion Prints (command_words c)
command_prints (command.GetPin r) fits = (command_verb_prints command_verb.GetPin, (number_prints r.min (omega (arith, fits.0)), (number_prints r.max (omega (arith, fits.1)), (end_prints r.auto_end, (mask_prints r.active fits.2, (mask_prints r.terminate fits.3, tt))))))
command_prints (command.GetData r) fits = (command_verb_prints command_verb.GetData, (number_prints r.min (omega (arith, fits.0)), (number_prints r.max (omega (arith, fits.1)), (end_prints r.auto_end, (mask_prints r.active fits.2, (mask_prints r.terminate fits.3, tt))))))
command_prints (command.SecureKeyEntry r) fits = (command_verb_prints command_verb.KeyEntry, (number_prints r.count (omega (arith, fits.0)), (end_prints r.auto_end, (mask_prints r.active fits.1, (mask_prints r.terminate fits.2, (verify_prints r.verify, tt))))))
command_prints (command.MaintainPin on) fits = (command_verb_prints command_verb.Maintain, (switch_prints on, tt))
command_prints (command.Pin request) fits = pin_words_print request fits
command_prints (command.Crypt r) fits = (command_verb_prints command_verb.Crypt, crypt_words_print r fits)
command_prints (command.ImportKey r) fits = (command_verb_prints command_verb.Import, import_prints r fits)
command_prints (command.DeleteKey name) fits = (command_verb_prints command_verb.Delete, (name_prints name fits, tt))
command_prints command.Init fits = (command_verb_prints command_verb.Init, tt)
command_prints command.Reset fits = (command_verb_prints command_verb.Reset, tt)
command_prints command.RsaImport fits = (command_verb_prints command_verb.Rsa, tt)

-- ---- steps

question_prints : (asked : Question) → QuestionFits asked → AllByRecursion Prints (question_words asked)
question_prints question.Status fits = (question_verb_prints question_verb.Status, tt)
question_prints (question.Key name) fits = (question_verb_prints question_verb.Key, (name_prints name fits, tt))
question_prints question.Names fits = (question_verb_prints question_verb.Names, tt)
question_prints (question.Reply id) fits = (question_verb_prints question_verb.Reply, (number_prints id (omega (arith, fits)), tt))

session_prints : (s : Session) → Prints (session_word s)
session_prints s = number_prints s.number (omega (arith, s.valid))

step_prints : (s : Step) → StepFits s → AllByRecursion Prints (step_words s)
step_prints (step.Open s) fits = (line_verb_prints line_verb.Open, (session_prints s, tt))
step_prints (step.Close s) fits = (line_verb_prints line_verb.Close, (session_prints s, tt))
step_prints (step.Listen s c) fits = (line_verb_prints line_verb.Listen, (session_prints s, (classes_print c, tt)))
step_prints (step.Lock s) fits = (line_verb_prints line_verb.Lock, (session_prints s, tt))
step_prints (step.Unlock s) fits = (line_verb_prints line_verb.Unlock, (session_prints s, tt))
step_prints (step.Submit s t c) fits = (line_verb_prints line_verb.Submit, (session_prints s, (number_prints t (omega (arith, fits.0)), command_prints c fits.1)))
step_prints (step.Cancel s id) fits = (line_verb_prints line_verb.Cancel, (session_prints s, (number_prints id (omega (arith, fits)), tt)))
step_prints step.Begin fits = (line_verb_prints line_verb.Begin, tt)
step_prints step.Finish fits = (line_verb_prints line_verb.Finish, tt)
step_prints (step.Press k) fits = (line_verb_prints line_verb.Press, (key_prints k fits, tt))
step_prints (step.Tick n) fits = (line_verb_prints line_verb.Tick, (number_prints n (omega (arith, fits.1)), tt))
step_prints (step.Ask s asked) fits = (line_verb_prints line_verb.Ask, (session_prints s, question_prints asked fits))
step_prints step.Off fits = (line_verb_prints line_verb.Off, tt)
step_prints step.Boot fits = (line_verb_prints line_verb.Boot, tt)

-- every step has words
some_words : (s : Step) → 32 ∷ joined (step_words s) ≡ spaced (step_words s)
some_words step.Begin = refl
some_words other = refl

-- the printed line spells the step
pub text_spells : (s : Step) → IsTrue (is_well_formed s) → Spells (step_text s) (Do s)
unfolding step_text
text_spells s spelled = (spelled, subst (λ (bytes : List ℕ). Says bytes (step_words s)) (sym (some_words s)) (says_spaced (step_words s) (step_prints s (StepFits-from_line s spelled))))

pub text_again : (s : Step) → IsTrue (is_well_formed s) → line_of (step_text s) ≡ Some (Do s)
text_again s spelled = line_again (step_text s) (Do s) (text_spells s spelled)
