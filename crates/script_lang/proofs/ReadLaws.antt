-- What `read_line` promises, from what it reads exactly.
use Rattle.std.proofs.Common.{◌≡◌, ℕ, List, Option, Some, None, Result, Ok, Err, sym, subst, ◌∙◌}
use Rattle.std.specs.Prelude.{IfOk}
use Rattle.script_lang.specs.declared.kinds.Line.{Line}
use Rattle.script_lang.specs.declared.kinds.LineFault.{LineFault}
use Rattle.script_lang.specs.declared.kinds.LineFault.TheVariants as fault
use Rattle.script_lang.specs.Spelling.{Spells}
use Rattle.script_lang.specs.Reading.{Gives, line_of}
use Rattle.script_lang.proofs.Options.{some_is}
use Rattle.script_lang.proofs.LineLaws.{line_takes, line_again}

pub is_found : (bytes : List ℕ) (r : Result Line LineFault) → Gives r (line_of bytes) → IfOk r (λ l. Spells bytes l)
is_found bytes (Ok l) given = line_takes bytes l given
is_found bytes (Err e) given = tt

none_some : (o : Option Line) (l : Line) → o ≡ None → o ≡ Some l → ⊥
none_some o l none some = let e : None ≡ Some l = sym none ∙ some in absurd cc

pub is_outside : (bytes : List ℕ) (r : Result Line LineFault) → Gives r (line_of bytes) → r ≡ Err fault.Outside → (l : Line) → Spells bytes l → ⊥
is_outside bytes r given e = let none = subst (λ (r : Result Line LineFault). Gives r (line_of bytes)) e given in λ l spells. none_some (line_of bytes) l none (line_again bytes l spells)

pub one_line : (bytes : List ℕ) (l m : Line) → Spells bytes l → Spells bytes m → l ≡ m
one_line bytes l m h k = some_is l m (sym (line_again bytes l h) ∙ line_again bytes m k)
