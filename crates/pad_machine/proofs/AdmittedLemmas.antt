-- What is so of commands that may wait.
use Rattle.entry_core.specs.Entries.{Entry, entry_by, entry_of, greatest_length}
use Rattle.entry_core.specs.Presses.{IsEntrySize}
use Rattle.flat_machine.specs.PinFacts.{passes_submit}
use Rattle.flat_machine.specs.RequestSteps.{import_invalid, invalid_if, is_part_count, rules_invalid}
use Rattle.pad_machine.specs.Prepares.{IsPartSized}
use Rattle.pad_machine.specs.Stands.{is_admitted}
use Rattle.pad_steps.specs.Formed.{is_pin_request, is_well_formed_command}
use Rattle.pin_blocks.specs.PinRules.{PinRules}
use Rattle.pin_blocks.specs.declared.work.AdmitFault.{AdmitFault}
use Rattle.flat_machine.specs.PinCommands.{admit_refusal}
use Rattle.pad_steps.specs.declared.commands.Command.{Command}
use Rattle.pad_steps.specs.declared.commands.Command.TheVariants as command
use Rattle.pad_steps.specs.declared.commands.EntryKind.TheVariants.{Figures, Pin}
use Rattle.pad_steps.specs.declared.commands.EntryRules.{EntryRules}
use Rattle.pad_steps.specs.declared.commands.ImportRequest.{ImportRequest}
use Rattle.pad_steps.specs.declared.commands.PinRequest.{PinRequest}
use Rattle.request_queue.specs.Requests.{request_command}
use Rattle.request_queue.specs.declared.requests.Request.{Request}
use Rattle.std.specs.Option.{option_copied}
use Rattle.std.proofs.Common.{Bor, arith, subst, sym}
use Rattle.std.proofs.lemmas.Bool.Decides.{nat_tests}
use Rattle.std.proofs.lemmas.Option.{same_Some}
use Rattle.std.specs.Prelude.{Bool, IfSome, IsTrue, None, Option, Some, false, if◌then◌else◌, is_some, not, option_map, refl, true, ℕ, ◌&&◌, ◌==◌, ◌≡◌, ◌≤◌}

pub both_left : (a b : Bool) → (a && b) ≡ true → a ≡ true
both_left true b e = refl
both_left false b e = cc

pub both_right : (a b : Bool) → (a && b) ≡ true → b ≡ true
both_right true b e = e
both_right false b e = cc

admitted-formed : (pin_rules : PinRules) → (c : Command) → IsTrue (is_admitted pin_rules c) → is_well_formed_command c ≡ true
admitted-formed pin_rules c admitted = both_left (is_well_formed_command c) (passes_submit pin_rules c) admitted

admitted-passes : (pin_rules : PinRules) → (c : Command) → IsTrue (is_admitted pin_rules c) → passes_submit pin_rules c ≡ true
admitted-passes pin_rules c admitted = both_right (is_well_formed_command c) (passes_submit pin_rules c) admitted

pub pin-formed : (pin_rules : PinRules) → (c : Command) (request : PinRequest) → c ≡ command.Pin request → IsTrue (is_admitted pin_rules c) → is_pin_request request ≡ true
pin-formed pin_rules c request is admitted = admitted-formed pin_rules (command.Pin request) (subst (λ (d : Command). IsTrue (is_admitted pin_rules d)) is admitted)

none_admitted : (fault : Option AdmitFault) → not (is_some (option_map admit_refusal fault)) ≡ true → fault ≡ None
none_admitted None e = refl
none_admitted (Some fault) e = cc

pub pin-admitted : (pin_rules : PinRules) → (c : Command) (request : PinRequest) → c ≡ command.Pin request → IsTrue (is_admitted pin_rules c) → pin_rules.admit request ≡ None
pin-admitted pin_rules c request is admitted = none_admitted (pin_rules.admit request) (admitted-passes pin_rules (command.Pin request) (subst (λ (d : Command). IsTrue (is_admitted pin_rules d)) is admitted))

-- what is not refused INVALIDDATA is valid
valid : (b : Bool) → not (is_some (invalid_if b)) ≡ true → b ≡ false
valid true e = cc
valid false e = refl

-- an entry takes no more digits than one of its kind may

at_most_16 : (stands : Bool) (most : ℕ) → most ≤ 16 → (if stands then 16 else most) ≤ 16
at_most_16 true most few = omega arith
at_most_16 false most few = few

greatest-few : (rules : EntryRules) → rules_invalid rules ≡ false → greatest_length rules.max ≤ 16
greatest-few rules passes = at_most_16 (rules.max == 0) rules.max (grind (arith, nat_tests, passes))

part-few : (count : ℕ) → is_part_count count ≡ true → count ≤ 48
part-few count counted = grind (arith, nat_tests, counted)

counted : (b : Bool) → not (is_some (invalid_if (not b))) ≡ true → b ≡ true
counted true e = refl
counted false e = cc

passed_size : (pin_rules : PinRules) (c : Command) → passes_submit pin_rules c ≡ true → IsEntrySize (entry_of c)
passed_size pin_rules (command.GetPin rules) passes = greatest-few rules (valid (rules_invalid rules) passes)
passed_size pin_rules (command.GetData rules) passes = greatest-few rules (valid (rules_invalid rules) passes)
passed_size pin_rules (command.SecureKeyEntry rules) passes = part-few rules.count (counted (is_part_count rules.count) passes)
passed_size pin_rules (command.MaintainPin on) passes = tt
passed_size pin_rules (command.Pin request) passes = tt
passed_size pin_rules (command.Crypt request) passes = tt
passed_size pin_rules (command.ImportKey request) passes = tt
passed_size pin_rules (command.DeleteKey name) passes = tt
passed_size pin_rules command.Init passes = tt
passed_size pin_rules command.Reset passes = tt
passed_size pin_rules command.RsaImport passes = tt

pub admitted_size : (pin_rules : PinRules) → (c : Command) → IsTrue (is_admitted pin_rules c) → IsEntrySize (entry_of c)
admitted_size pin_rules c admitted = passed_size pin_rules c (admitted-passes pin_rules c admitted)

-- one of a key part takes 16, 32 or 48, and no fewer

as_sized : (entry other : Entry) → IsPartSized other → Some entry ≡ Some other → IsPartSized entry
as_sized entry other sized is = subst IsPartSized (same_Some other entry (sym is)) sized

passed_part : (pin_rules : PinRules) (c : Command) (entry : Entry) → passes_submit pin_rules c ≡ true → Some entry ≡ entry_of c → IsPartSized entry
passed_part pin_rules (command.GetPin rules) entry passes is = as_sized entry (entry_by Pin rules) (record { count = λ part. cc; whole = λ part. cc }) is
passed_part pin_rules (command.GetData rules) entry passes is = as_sized entry (entry_by Figures rules) (record { count = λ part. cc; whole = λ part. cc }) is
passed_part pin_rules (command.SecureKeyEntry rules) entry passes is = as_sized entry _ (record { count = λ part. counted (is_part_count rules.count) passes; whole = λ part. refl }) is
passed_part pin_rules (command.MaintainPin on) entry passes is = cc
passed_part pin_rules (command.Pin request) entry passes is = cc
passed_part pin_rules (command.Crypt request) entry passes is = cc
passed_part pin_rules (command.ImportKey request) entry passes is = cc
passed_part pin_rules (command.DeleteKey name) entry passes is = cc
passed_part pin_rules command.Init entry passes is = cc
passed_part pin_rules command.Reset entry passes is = cc
passed_part pin_rules command.RsaImport entry passes is = cc

pub admitted_part : (pin_rules : PinRules) → (c : Command) (entry : Entry) → IsTrue (is_admitted pin_rules c) → Some entry ≡ entry_of c → IsPartSized entry
admitted_part pin_rules c entry admitted is = passed_part pin_rules c entry (admitted-passes pin_rules c admitted) is

-- an import is valid

pub import-valid : (pin_rules : PinRules) → (request : ImportRequest) → IsTrue (is_admitted pin_rules (command.ImportKey request)) → import_invalid request ≡ false
import-valid pin_rules request admitted = valid (import_invalid request) (admitted-passes pin_rules (command.ImportKey request) admitted)

-- the command of the request in work may wait

same_command : (c d : Command) → Some c ≡ Some d → d ≡ c
same_command c d is = cc

-- a command that was found in a request that passes may wait
found-admitted : (pin_rules : PinRules) → (found : Option (Request Command)) (c : Command) → ((request : Request Command) → found ≡ Some request → IsTrue (is_admitted pin_rules request.command)) → Some c ≡ option_map request_command found → IsTrue (is_admitted pin_rules c)
found-admitted pin_rules None c passes is = cc
found-admitted pin_rules (Some request) c passes is = subst (λ (d : Command). IsTrue (is_admitted pin_rules d)) (same_command c request.command is) (passes request refl)

pub if_found-admitted : (pin_rules : PinRules) → (found : Option (Request Command)) (result : Option (Bor Command)) → ((request : Request Command) → found ≡ Some request → IsTrue (is_admitted pin_rules request.command))
    → option_copied result ≡ option_map request_command found → IfSome result (λ command. IsTrue (is_admitted pin_rules command.now))
if_found-admitted pin_rules found None passes is = tt
if_found-admitted pin_rules found (Some command) passes is = found-admitted pin_rules found command.now passes is
