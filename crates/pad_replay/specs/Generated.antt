-- The generated script: a large run of PIN checks and of MACs, with a power cut in every fourth round. Each definition has the text of its line or lines above it.
use Rattle.disk_core.specs.declared.disk.Keep.TheVariants as keeps
use Rattle.disk_core.specs.declared.disk.Strike.TheVariants as strikes
use Rattle.key_source.specs.declared.Key.TheVariants as keypad
use Rattle.pad_steps.specs.declared.commands.Algorithm.TheVariants as algorithms
use Rattle.pad_steps.specs.declared.commands.Command.{Command}
use Rattle.pad_steps.specs.declared.commands.Command.TheVariants as commands
use Rattle.pad_steps.specs.declared.commands.ImportSource.TheVariants as sources
use Rattle.pad_steps.specs.declared.commands.PinRequest.TheVariants as pin
use Rattle.pad_steps.specs.declared.commands.Start.TheVariants as starts
use Rattle.pad_steps.specs.declared.commands.Verify.{Verify}
use Rattle.pad_steps.specs.declared.commands.Verify.TheVariants as verify
use Rattle.pad_steps.specs.declared.steps.Step.TheVariants as steps
use Rattle.pad_words.specs.Numbers.{is_session}
use Rattle.pad_words.specs.declared.Direction.TheVariants as directions
use Rattle.pad_words.specs.declared.numbers.Digit.{Digit}
use Rattle.pad_words.specs.declared.numbers.Session.{Session}
use Rattle.script_lang.specs.declared.kinds.Line.{Line}
use Rattle.script_lang.specs.declared.kinds.Line.TheVariants as line
use Rattle.std.proofs.Common.{arith}
use Rattle.std.specs.Prelude.{List, [], codes, false, if◌then◌else◌, refl, replicate, suc, true, zero, ℕ, ◌%◌, ◌+◌, ◌++◌, ◌<◌, ◌==◌, ◌∷◌}

-- session 1
abbrev pub session_one : Session
session_one = record { number = 1; valid = is_session 1 refl }

-- session 2
abbrev pub session_two : Session
session_two = record { number = 2; valid = is_session 2 refl }

-- a last digit is one
pub last_digit-small : (n : ℕ) → n % 10 < 10
last_digit-small n = omega arith

-- the last decimal digit of a number
abbrev pub last_digit : ℕ → Digit
last_digit n = record { value = n % 10; small = last_digit-small n }

-- `press D`, with the last decimal digit of a number
abbrev pub press : ℕ → Line
press n = line.Do (steps.Press (keypad.Digit (last_digit n)))

-- `submit S 0 COMMAND`
abbrev pub submit : Session → Command → Line
submit session command = line.Do (steps.Submit session 0 command)

-- `import NAME clear VALUE USES MODE`
abbrev pub import_clear : List ℕ → List ℕ → ℕ → Verify → Command
import_clear name value uses mode = commands.ImportKey (record { name = name; source = sources.Clear value; uses = uses; verify = mode })

-- `import P clear 0000000000000000 0002 zero`
abbrev pub import_check_key : Command
import_check_key = import_clear (codes "P") (replicate 8 0) 0x0002 verify.Zero

-- the bytes 0123456789ABCDEF
abbrev pub mac_key : List ℕ
mac_key = 0x01 ∷ 0x23 ∷ 0x45 ∷ 0x67 ∷ 0x89 ∷ 0xAB ∷ 0xCD ∷ 0xEF ∷ []

-- `import M clear 0123456789ABCDEF 0004 MODE`
abbrev pub import_mac_key : Verify → Command
import_mac_key mode = import_clear (codes "M") mac_key 0x0004 mode

-- `getpin 4 4 auto 000303FF00000000 0003000000000000`
abbrev pub enter_pin : Command
enter_pin = commands.GetPin (record { min = 4; max = 4; auto_end = true; active = record { keys = 0x000303FF; fdks = 0 }; terminate = record { keys = 0x00030000; fdks = 0 } })

-- the digits 2163
abbrev pub check_offset : List ℕ
check_offset = 2 ∷ 1 ∷ 6 ∷ 3 ∷ []

-- the digits 0123456789012345
abbrev pub check_table : List ℕ
check_table = 0 ∷ 1 ∷ 2 ∷ 3 ∷ 4 ∷ 5 ∷ 6 ∷ 7 ∷ 8 ∷ 9 ∷ 0 ∷ 1 ∷ 2 ∷ 3 ∷ 4 ∷ 5 ∷ []

-- `localdes P 0000000000000000 0 2163 4 lead 0123456789012345`
abbrev pub check_pin : Command
check_pin = commands.Pin (pin.Check (record { key = codes "P"; validation = replicate 16 0; pad = 0; offset = check_offset; count = 4; no_zero = false; table = check_table }))

-- `crypt mac encrypt M - 00 4E6F772069732074`
abbrev pub make_mac : Command
make_mac = commands.Crypt (record { algorithm = algorithms.Mac; direction = directions.Encrypt; key = codes "M"; start = starts.Zero; pad = 0x00; body = codes "Now is t" })

-- boot
-- open 1
-- open 2
-- listen 1 both
-- listen 2 service
-- submit 1 0 import P clear 0000000000000000 0002 zero
-- submit 2 0 import M clear 0123456789ABCDEF 0004 zero
-- auto
abbrev pub head_lines : List Line
head_lines =
    line.Do steps.Boot ∷
    line.Do (steps.Open session_one) ∷
    line.Do (steps.Open session_two) ∷
    line.Do (steps.Listen session_one (record { service = true; execute = true })) ∷
    line.Do (steps.Listen session_two (record { service = true; execute = false })) ∷
    submit session_one import_check_key ∷
    submit session_two (import_mac_key verify.Zero) ∷
    line.Auto ∷ []

-- submit 1 0 getpin 4 4 auto 000303FF00000000 0003000000000000
-- auto
-- press (the last digit of the round's number)
-- press (of 3 more)
-- press (of 6 more)
-- press (of 9 more)
-- submit 1 0 localdes P 0000000000000000 0 2163 4 lead 0123456789012345
-- auto
-- submit 2 0 crypt mac encrypt M - 00 4E6F772069732074
-- auto
abbrev pub round_lines : ℕ → List Line
round_lines round =
    submit session_one enter_pin ∷
    line.Auto ∷
    press round ∷
    press (round + 3) ∷
    press (round + 6) ∷
    press (round + 9) ∷
    submit session_one check_pin ∷
    line.Auto ∷
    submit session_two make_mac ∷
    line.Auto ∷ []

-- cut 3 fill 77
-- submit 2 0 import M clear 0123456789ABCDEF 0004 none
-- auto
-- boot
abbrev pub cut_lines : List Line
cut_lines =
    line.Arm 3 (strikes.Cut (keeps.Fill 0x77)) ∷
    submit session_two (import_mac_key verify.Nothing) ∷
    line.Auto ∷
    line.Do steps.Boot ∷ []

-- the power is cut behind round 3 and every fourth round from there
abbrev pub lines_behind_round : ℕ → List Line
lines_behind_round round = if round % 4 == 3 then cut_lines else []

-- so many rounds, from the one with this number on
unfoldable pub rounds_from : ℕ → ℕ → List Line
rounds_from round zero = []
rounds_from round (suc more) = round_lines round ++ lines_behind_round round ++ rounds_from (round + 1) more

-- the script of so many rounds, numbered from 0
abbrev pub generated_lines : ℕ → List Line
generated_lines rounds = head_lines ++ rounds_from 0 rounds
