-- The laws of each command: what is read is spelled so, and what is spelled so is read.
use Rattle.std.proofs.Common.{◌≡◌, ℕ, List, [], ◌∷◌, Option, Some, Bool, refl, ap, ◌∙◌}
use Rattle.std.specs.Option.{option_map}
use Rattle.script_lang.specs.Words.{Says, Word}
use Rattle.script_lang.specs.Reading.{command_after, read_check, read_command, read_command_verb, read_crypt, read_extra, read_import, read_name, read_only_name, read_only_switch, read_part, read_pinblock, read_rules, read_switch, with_field}
use Rattle.script_lang.specs.Spelling.{block_words, check_words, command_verb_word, command_words, crypt_words, extra_words, import_words, name_word, part_words, rules_words, switch_word}
use Rattle.pad_steps.specs.declared.commands.BlockRequest.{BlockRequest}
use Rattle.pad_steps.specs.declared.commands.CheckRequest.{CheckRequest}
use Rattle.pad_steps.specs.declared.commands.CryptRequest.{CryptRequest}
use Rattle.pad_steps.specs.declared.commands.EntryRules.{EntryRules}
use Rattle.pad_steps.specs.declared.commands.ExtraRequest.{ExtraRequest}
use Rattle.pad_steps.specs.declared.commands.ImportRequest.{ImportRequest}
use Rattle.pad_steps.specs.declared.commands.PartRules.{PartRules}
use Rattle.pad_steps.specs.declared.commands.PinRequest.TheVariants as pin
use Rattle.pad_steps.specs.declared.commands.Command.{Command}
use Rattle.pad_steps.specs.declared.commands.Command.TheVariants as command
use Rattle.script_lang.specs.declared.kinds.CommandVerb.{CommandVerb}
use Rattle.script_lang.specs.declared.kinds.CommandVerb.TheVariants as command_verb
use Rattle.script_lang.proofs.CheckLaws.{check_reads, extra_reads}
use Rattle.script_lang.proofs.CryptLaws.{crypt_reads}
use Rattle.script_lang.proofs.EntryLaws.{part_reads, rules_reads}
use Rattle.script_lang.proofs.Fits.{CheckFits, CommandFits, CryptFits, ExtraFits, ImportFits, NameFits, PartFits, RequestFits, RulesFit}
use Rattle.script_lang.proofs.ImportLaws.{import_reads}
use Rattle.script_lang.proofs.NameLaws.{name_field}
use Rattle.script_lang.proofs.PinBlockLaws.{block_reads}
use Rattle.script_lang.proofs.Readers.{Always, Reads, ended_reads}
use Rattle.script_lang.proofs.RowLaws.{RowTakes, Spelled, alone_reads, row_at, row_mapped, row_none, rows_take, says_end}
use Rattle.script_lang.proofs.WordLaws.{command_verb_field, switch_field}

only_name : Reads read_only_name (Spelled NameFits (λ name. name_word name ∷ []))
unfolding read_only_name
only_name = alone_reads read_name NameFits name_word name_field

only_switch : Reads read_only_switch (Spelled Always (λ on. switch_word on ∷ []))
unfolding read_only_switch
only_switch = alone_reads read_switch Always switch_word switch_field

-- the row of a command that is made of one request
row_request : {A : Type 0} (read : List ℕ → Option A) (F : A → Type 0) (words : A → List Word) (make : A → Command) (verb : CommandVerb) → Reads read (Spelled F words) → ((x : A) → F x → CommandFits (make x))
    → ((x : A) → command_words (make x) ≡ command_verb_word verb ∷ words x) → RowTakes CommandFits command_words (command_verb_word verb) (λ bytes. option_map make (read bytes))
row_request read F words make verb = row_mapped read F words make CommandFits command_words (command_verb_word verb)

rows_take_commands : (verb : CommandVerb) → RowTakes CommandFits command_words (command_verb_word verb) (command_after verb)
rows_take_commands command_verb.GetPin = row_request read_rules RulesFit rules_words (λ rules. command.GetPin rules) command_verb.GetPin rules_reads (λ r f. f) (λ r. refl)
rows_take_commands command_verb.GetData = row_request read_rules RulesFit rules_words (λ rules. command.GetData rules) command_verb.GetData rules_reads (λ r f. f) (λ r. refl)
rows_take_commands command_verb.KeyEntry = row_request read_part PartFits part_words (λ rules. command.SecureKeyEntry rules) command_verb.KeyEntry part_reads (λ r f. f) (λ r. refl)
rows_take_commands command_verb.Maintain = row_request read_only_switch Always (λ on. switch_word on ∷ []) (λ on. command.MaintainPin on) command_verb.Maintain only_switch (λ on f. tt) (λ on. refl)
rows_take_commands command_verb.PinBlock = row_request read_pinblock RequestFits block_words (λ request. command.Pin (pin.Block request)) command_verb.PinBlock block_reads (λ r f. f) (λ r. refl)
rows_take_commands command_verb.LocalDes = row_request read_check CheckFits check_words (λ request. command.Pin (pin.Check request)) command_verb.LocalDes check_reads (λ r f. f) (λ r. refl)
rows_take_commands command_verb.Extra = row_request read_extra ExtraFits extra_words (λ request. command.Pin (pin.Extra request)) command_verb.Extra extra_reads (λ r f. f) (λ r. refl)
rows_take_commands command_verb.Import = row_request read_import ImportFits import_words (λ request. command.ImportKey request) command_verb.Import import_reads (λ r f. f) (λ r. refl)
rows_take_commands command_verb.Crypt = row_request read_crypt CryptFits crypt_words (λ request. command.Crypt request) command_verb.Crypt crypt_reads (λ r f. f) (λ r. refl)
rows_take_commands command_verb.Delete = row_request read_only_name NameFits (λ name. name_word name ∷ []) (λ name. command.DeleteKey name) command_verb.Delete only_name (λ name f. f) (λ name. refl)
rows_take_commands command_verb.Init = row_none CommandFits command_words (command_verb_word command_verb.Init) command.Init tt refl
rows_take_commands command_verb.Reset = row_none CommandFits command_words (command_verb_word command_verb.Reset) command.Reset tt refl
rows_take_commands command_verb.Rsa = row_none CommandFits command_words (command_verb_word command_verb.Rsa) command.RsaImport tt refl

command_takes : (bytes : List ℕ) (c : Command) → read_command bytes ≡ Some c → Spelled CommandFits command_words c bytes
unfolding read_command
command_takes = rows_take read_command_verb command_verb_word command_after command_verb_field CommandFits command_words rows_take_commands

-- a command behind its first word
command_row : (verb : CommandVerb) (ws : List Word) (bytes : List ℕ) (s : Says bytes (command_verb_word verb ∷ ws)) → with_field read_command_verb command_after bytes ≡ command_after verb s.0
command_row = row_at read_command_verb command_verb_word command_after command_verb_field

command_again : (bytes : List ℕ) (c : Command) → CommandFits c → Says bytes (command_words c) → read_command bytes ≡ Some c
unfolding read_command
command_again bytes (command.GetPin r) fits s = command_row command_verb.GetPin (rules_words r) bytes s ∙ ap (option_map (λ (rules : EntryRules). command.GetPin rules)) (rules_reads.again s.0 r (fits, s.2))
command_again bytes (command.GetData r) fits s = command_row command_verb.GetData (rules_words r) bytes s ∙ ap (option_map (λ (rules : EntryRules). command.GetData rules)) (rules_reads.again s.0 r (fits, s.2))
command_again bytes (command.SecureKeyEntry r) fits s = command_row command_verb.KeyEntry (part_words r) bytes s ∙ ap (option_map (λ (rules : PartRules). command.SecureKeyEntry rules)) (part_reads.again s.0 r (fits, s.2))
command_again bytes (command.MaintainPin on) fits s = command_row command_verb.Maintain (switch_word on ∷ []) bytes s ∙ ap (option_map (λ (on : Bool). command.MaintainPin on)) (only_switch.again s.0 on (tt, s.2))
command_again bytes (command.Pin (pin.Block r)) fits s = command_row command_verb.PinBlock (block_words r) bytes s ∙ ap (option_map (λ (request : BlockRequest). command.Pin (pin.Block request))) (block_reads.again s.0 r (fits, s.2))
command_again bytes (command.Pin (pin.Check r)) fits s = command_row command_verb.LocalDes (check_words r) bytes s ∙ ap (option_map (λ (request : CheckRequest). command.Pin (pin.Check request))) (check_reads.again s.0 r (fits, s.2))
command_again bytes (command.Pin (pin.Extra r)) fits s = command_row command_verb.Extra (extra_words r) bytes s ∙ ap (option_map (λ (request : ExtraRequest). command.Pin (pin.Extra request))) (extra_reads.again s.0 r (fits, s.2))
command_again bytes (command.Crypt r) fits s = command_row command_verb.Crypt (crypt_words r) bytes s ∙ ap (option_map (λ (request : CryptRequest). command.Crypt request)) (crypt_reads.again s.0 r (fits, s.2))
command_again bytes (command.ImportKey r) fits s = command_row command_verb.Import (import_words r) bytes s ∙ ap (option_map (λ (request : ImportRequest). command.ImportKey request)) (import_reads.again s.0 r (fits, s.2))
command_again bytes (command.DeleteKey name) fits s = command_row command_verb.Delete (name_word name ∷ []) bytes s ∙ ap (option_map (λ (name : List ℕ). command.DeleteKey name)) (only_name.again s.0 name (fits, s.2))
command_again bytes command.Init fits s = command_row command_verb.Init [] bytes s ∙ (ended_reads command.Init).again s.0 command.Init (refl, s.2)
command_again bytes command.Reset fits s = command_row command_verb.Reset [] bytes s ∙ (ended_reads command.Reset).again s.0 command.Reset (refl, s.2)
command_again bytes command.RsaImport fits s = command_row command_verb.Rsa [] bytes s ∙ (ended_reads command.RsaImport).again s.0 command.RsaImport (refl, s.2)

pub command_reads : Reads read_command (Spelled CommandFits command_words)
command_reads = record { takes = command_takes; again = λ bytes c s. command_again bytes c s.0 s.1; ends = λ bytes c s. says_end (command_words c) bytes s.1 }
