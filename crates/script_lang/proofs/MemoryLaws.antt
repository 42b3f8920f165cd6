-- A line that holds bytes is spelled where it is read, and what is read behind a field of bytes.
use Rattle.std.proofs.Common.{◌≡◌, ℕ, List, [], ◌∷◌, Option, Some, None, Bool, true, false, cond, eqb, length, refl, arith}
use Rattle.std.specs.Option.{option_map}
use Rattle.std.specs.Prelude.{◌&&◌, IsTrue, nat_le}
use Rattle.std.specs.List.{AllByRecursion}
use Rattle.std.proofs.lemmas.Bool.Decides.{nat_tests}
use Rattle.pad_words.specs.declared.bytes.Block.{Block}
use Rattle.pad_steps.specs.Formed.{all_bytes, is_block, is_body, is_crypt_request, is_extra_request, is_import_request, is_source, is_start, is_value, is_well_formed, is_well_formed_command}
use Rattle.pad_steps.specs.declared.commands.Command.{Command}
use Rattle.pad_steps.specs.declared.commands.Command.TheVariants as command
use Rattle.pad_steps.specs.declared.commands.CryptRequest.{CryptRequest}
use Rattle.pad_steps.specs.declared.commands.ExtraRequest.{ExtraRequest}
use Rattle.pad_steps.specs.declared.commands.ImportRequest.{ImportRequest}
use Rattle.pad_steps.specs.declared.commands.ImportSource.{ImportSource}
use Rattle.pad_steps.specs.declared.commands.ImportSource.TheVariants as origin
use Rattle.pad_steps.specs.declared.commands.PinRequest.TheVariants as pin
use Rattle.pad_steps.specs.declared.commands.Start.{Start}
use Rattle.pad_steps.specs.declared.commands.Start.TheVariants as started
use Rattle.pad_steps.specs.declared.commands.Verify.{Verify}
use Rattle.pad_steps.specs.declared.steps.Step.{Step}
use Rattle.pad_steps.specs.declared.steps.Step.TheVariants as step
use Rattle.script_lang.specs.declared.kinds.Line.{Line}
use Rattle.script_lang.specs.declared.kinds.Line.TheVariants as line
use Rattle.script_lang.specs.declared.kinds.LineVerb.{LineVerb}
use Rattle.script_lang.specs.Memory.{WantsMemory, command_holds_bytes, holds_bytes, step_holds_bytes}
use Rattle.script_lang.specs.Spelling.{is_spelled}
use Rattle.script_lang.proofs.Fits.{BlockFits, BytesFit, CommandFits, CryptFits, ExtraFits, ImportFits, IsByte, LineFits, SourceFits, StartFits, StepFits}
use Rattle.script_lang.proofs.LineLaws.{rows_take_lines}
use Rattle.script_lang.specs.Reading.{◌>>=◌, ended, import_of, line_after, next_word, read_sourced, read_usage, read_uses, read_verify, where_spelled, with_field}

-- a value put into a larger one at the end, or after each field
mapped_bind : {A B C : Type 0} (o : Option A) (f : A → Option B) (h : A → Option C) (g : B → C) → ((x : A) → h x ≡ option_map g (f x)) → (o >>= h) ≡ option_map g (o >>= f)
mapped_bind (Some x) f h g same = same x
mapped_bind None f h g same = refl

mapped_field : {A B C : Type 0} (field : List ℕ → Option A) (f : A → List ℕ → Option B) (h : A → List ℕ → Option C) (g : B → C) → ((x : A) (bytes : List ℕ) → h x bytes ≡ option_map g (f x bytes))
    → (bytes : List ℕ) → with_field field h bytes ≡ option_map g (with_field field f bytes)
mapped_field field f h g same bytes =
    mapped_bind (next_word bytes) (λ w. field w.0 >>= λ x. f x w.1) (λ w. field w.0 >>= λ x. h x w.1) g
    (λ w. mapped_bind (field w.0) (λ x. f x w.1) (λ x. h x w.1) g (λ x. same x w.1))

mapped_choice : {B C : Type 0} (b : Bool) (x : B) (g : B → C) → cond b (Some (g x)) None ≡ option_map g (cond b (Some x) None)
mapped_choice true x g = refl
mapped_choice false x g = refl

-- what is read behind a source, by its uses and its check mode
pub sourced_is : (name : List ℕ) (source : ImportSource) (bytes : List ℕ) → read_sourced name source bytes ≡ option_map (λ (usage : ℕ × Verify). import_of name source usage) (read_usage bytes)
unfolding read_sourced read_usage
sourced_is name source =
    mapped_field read_uses (λ uses. with_field read_verify (λ v. ended (uses, v))) (λ uses. with_field read_verify (λ v. ended (import_of name source (uses, v)))) (λ (usage : ℕ × Verify). import_of name source usage)
    (λ uses. mapped_field read_verify (λ v. ended (uses, v)) (λ v. ended (import_of name source (uses, v))) (λ (usage : ℕ × Verify). import_of name source usage)
    (λ v bytes. mapped_choice (eqb (length bytes) 0) (uses, v) (λ (usage : ℕ × Verify). import_of name source usage)))

-- ---- what is read of a line that holds bytes is well formed

and_holds : (a b : Bool) → a ≡ true → b ≡ true → (a && b) ≡ true
and_holds true true e f = refl
and_holds true false e f = absurd cc
and_holds false b e f = absurd cc

all_bytes-from_fit : (values : List ℕ) → AllByRecursion IsByte values → all_bytes values ≡ true
all_bytes-from_fit [] fit = refl
all_bytes-from_fit (v ∷ vs) fit = and_holds _ (all_bytes vs) (grind (arith, nat_tests, fit.0)) (all_bytes-from_fit vs fit.1)

is_block-from_fit : (block : Block) → BlockFits block → is_block block ≡ true
is_block-from_fit block fit = and_holds _ _ (grind (arith, nat_tests, fit.0)) (all_bytes-from_fit block.0 fit.1)

is_body-from_fit : (body : List ℕ) → BytesFit 0 1024 body → is_body body ≡ true
is_body-from_fit body fit = and_holds _ _ (grind (arith, nat_tests, fit.1)) (all_bytes-from_fit body fit.2)

is_value-from_fit : (value : List ℕ) → BytesFit 1 64 value → is_value value ≡ true
is_value-from_fit value fit = and_holds _ _ (and_holds (nat_le 1 (length value)) (nat_le (length value) 64) (grind (arith, nat_tests, fit.0)) (grind (arith, nat_tests, fit.1))) (all_bytes-from_fit value fit.2)

is_source-from_fit : (source : ImportSource) → SourceFits source → is_source source ≡ true
is_source-from_fit (origin.Clear value) fit = is_value-from_fit value fit
is_source-from_fit (origin.Sealed name value) fit = and_holds _ _ fit.0 (is_value-from_fit value fit.1)
is_source-from_fit origin.Part fit = refl

is_import-from_fit : (r : ImportRequest) → ImportFits r → is_import_request r ≡ true
is_import-from_fit r fit = and_holds _ _ (and_holds _ _ fit.0 (is_source-from_fit r.source fit.1)) (grind (arith, nat_tests, fit.2))

is_start-from_fit : (start : Start) → StartFits start → is_start start ≡ true
is_start-from_fit started.Zero fit = refl
is_start-from_fit (started.Clear block) fit = is_block-from_fit block fit
is_start-from_fit (started.Sealed name block) fit = and_holds _ _ fit.0 (is_block-from_fit block fit.1)

is_crypt-from_fit : (r : CryptRequest) → CryptFits r → is_crypt_request r ≡ true
is_crypt-from_fit r fit = and_holds _ _ (and_holds _ _ (and_holds _ _ fit.0 (is_start-from_fit r.start fit.1)) (grind (arith, nat_tests, fit.2))) (is_body-from_fit r.body fit.3)

is_extra-from_fit : (r : ExtraRequest) → ExtraFits r → is_extra_request r ≡ true
is_extra-from_fit r fit = and_holds _ _ (and_holds _ _ (grind (arith, nat_tests, fit.0)) fit.1) (is_body-from_fit r.body fit.2)

formed-from_bytes : (c : Command) → CommandFits c → IsTrue (command_holds_bytes c) → is_well_formed_command c ≡ true
formed-from_bytes (command.ImportKey request) fit has = is_import-from_fit request fit
formed-from_bytes (command.Crypt request) fit has = is_crypt-from_fit request fit
formed-from_bytes (command.Pin (pin.Extra request)) fit has = is_extra-from_fit request fit
formed-from_bytes (command.Pin (pin.Block request)) fit has = absurd cc
formed-from_bytes (command.Pin (pin.Check request)) fit has = absurd cc
formed-from_bytes other fit has = absurd cc

step-from_bytes : (s : Step) → StepFits s → IsTrue (step_holds_bytes s) → is_well_formed s ≡ true
step-from_bytes (step.Submit session limit c) fit has = and_holds _ _ (grind (arith, nat_tests, fit.0)) (formed-from_bytes c fit.1 has)
step-from_bytes other fit has = absurd cc

spelled-from_bytes : (l : Line) → LineFits l → IsTrue (holds_bytes l) → is_spelled l ≡ true
spelled-from_bytes (line.Do s) fit has = step-from_bytes s fit has
spelled-from_bytes other fit has = absurd cc

wants_spelled : (read : Option Line) → ((l : Line) → read ≡ Some l → LineFits l) → WantsMemory read → WantsMemory (read >>= where_spelled)
wants_spelled None fits wants = absurd wants
wants_spelled (Some l) fits wants = rw (spelled-from_bytes l (fits l refl) wants) wants

-- a row that holds bytes is a line
pub row_wants : (verb : LineVerb) (rest : List ℕ) → WantsMemory (line_after verb rest) → WantsMemory (line_after verb rest >>= where_spelled)
row_wants verb rest = wants_spelled (line_after verb rest) (λ l e. (rows_take_lines verb rest l e).0)
