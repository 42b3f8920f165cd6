-- CRYPT, computed by the definitions alone. The cipher here leaves blocks other than the zero block as they are, so the chaining shows.
use Rattle.pad_words.specs.Bytes.{exclusive_or, zero_block}
use Rattle.flat_machine.proofs.RunCommands.{import_clear, refused}
use Rattle.flat_machine.proofs.RunWords.{beginning, counting_key, done_on_disk, done_quietly, quiet, reply_in, said_after, session_1}
use Rattle.cbc_mac.specs.Modes.{blocks, cbc, cbc_back, last_or, padded}
use Rattle.flat_machine.specs.Machine.{Act}
use Rattle.pad_steps.specs.declared.answers.Reply.{Reply}
use Rattle.pad_steps.specs.declared.commands.Algorithm.{Algorithm}
use Rattle.pad_steps.specs.declared.commands.Command.{Command}
use Rattle.pad_steps.specs.declared.commands.Start.{Start}
use Rattle.pad_words.specs.declared.Direction.{Direction}
use Rattle.std.specs.Prelude.{List, [], codes, filter_map, refl, replicate, ℕ, ◌++◌, ◌∷◌, ◌≡◌}
use Rattle.pad_steps.specs.declared.answers.Answer.TheVariants as answer
use Rattle.pad_steps.specs.declared.answers.Refusal.TheVariants as refusal
use Rattle.pad_steps.specs.declared.answers.Reply.TheVariants as reply
use Rattle.pad_steps.specs.declared.commands.Algorithm.TheVariants as mode
use Rattle.pad_steps.specs.declared.commands.Command.TheVariants as command
use Rattle.pad_steps.specs.declared.commands.Start.TheVariants as started
use Rattle.pad_steps.specs.declared.commands.Verify.TheVariants as verify
use Rattle.pad_steps.specs.declared.steps.DiskWord.TheVariants as word
use Rattle.pad_steps.specs.declared.steps.Step.TheVariants as step
use Rattle.pad_words.specs.declared.Direction.TheVariants as way

-- a key for CRYPT and MACING, and one of two parts for MACING
abbrev with_crypt_keys : List Act
with_crypt_keys = beginning ++ done_on_disk (import_clear (codes "CK") counting_key 5 verify.Nothing) word.Done ++ done_on_disk (import_clear (codes "MK") (counting_key ++ zero_block) 4 verify.Nothing) word.Done

abbrev crypt : Algorithm → Direction → List ℕ → Start → ℕ → List ℕ → Command
crypt algorithm direction name start pad bytes = command.Crypt (record { algorithm = algorithm; direction = direction; key = name; start = start; pad = pad; body = bytes })

abbrev after_keys : List Act → List Reply
after_keys acts = filter_map reply_in (said_after with_crypt_keys acts)

abbrev encrypted : List ℕ → Reply
encrypted bytes = reply.Ok (answer.Crypt bytes)

abbrev authenticated : List ℕ → Reply
authenticated bytes = reply.Ok (answer.Mac (record { 0 = bytes }))

abbrev two_blocks : List ℕ
two_blocks = replicate 8 0x11 ++ replicate 8 0x22

-- cipher block chaining from zero and from a clear start value, and back
chaining : after_keys (done_quietly (crypt mode.Cbc way.Encrypt (codes "CK") started.Zero 0 two_blocks) ++ done_quietly (crypt mode.Cbc way.Encrypt (codes "CK") (started.Clear (record { 0 = replicate 8 1 })) 0 two_blocks) ++ done_quietly (crypt mode.Cbc way.Decrypt (codes "CK") started.Zero 0 (replicate 8 0x11 ++ replicate 8 0x33)))
    ≡ encrypted (replicate 8 0x11 ++ replicate 8 0x33) ∷ encrypted (replicate 8 0x10 ++ replicate 8 0x32) ∷ encrypted two_blocks ∷ []
unfolding exclusive_or blocks cbc cbc_back padded last_or
chaining = refl

-- an authentication code is the last block, of bytes that are padded; also under the two parts of a key
authentication : after_keys (done_quietly (crypt mode.Mac way.Encrypt (codes "CK") started.Zero 5 (replicate 8 0x11 ++ 0x22 ∷ [])) ++ done_quietly (crypt mode.Retail way.Encrypt (codes "MK") started.Zero 0 two_blocks))
    ≡ authenticated (0x33 ∷ replicate 7 0x14) ∷ authenticated (replicate 8 0x33) ∷ []
unfolding exclusive_or blocks cbc cbc_back padded last_or
authentication = refl

-- refused as it is done: a key of the wrong length, bytes that are no whole blocks, no bytes, a key without the use
refused_when_done : after_keys (done_quietly (crypt mode.Mac way.Encrypt (codes "MK") started.Zero 0 two_blocks) ++ done_quietly (crypt mode.Ecb way.Decrypt (codes "CK") started.Zero 0 (replicate 7 0)) ++ done_quietly (crypt mode.Ecb way.Encrypt (codes "CK") started.Zero 0 [])
    ++ done_quietly (crypt mode.Ecb way.Encrypt (codes "MK") started.Zero 0 two_blocks) ++ done_quietly (crypt mode.Cbc way.Encrypt (codes "CK") (started.Sealed (codes "MK") (record { 0 = zero_block })) 0 two_blocks))
    ≡ refused refusal.InvalidKeyLength ∷ refused refusal.LengthError ∷ refused refusal.LengthError ∷ refused refusal.UseViolation ∷ refused refusal.UseViolation ∷ []
refused_when_done = refl

-- refused as it is submitted: cipher feedback, a start value without chaining, an authentication code to decrypt
refused_when_submitted : after_keys (quiet (step.Submit session_1 0 (crypt mode.Cfb way.Encrypt (codes "CK") started.Zero 0 two_blocks)) ∷ quiet (step.Submit session_1 0 (crypt mode.Mac way.Encrypt (codes "CK") (started.Clear (record { 0 = zero_block })) 0 two_blocks)) ∷ quiet (step.Submit session_1 0 (crypt mode.Mac way.Decrypt (codes "CK") started.Zero 0 two_blocks)) ∷ [])
    ≡ refused refusal.ModeNotSupported ∷ refused refusal.InvalidData ∷ refused refusal.InvalidData ∷ []
refused_when_submitted = refl
