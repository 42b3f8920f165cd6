-- The number of fill words, and their generator, place by place.
use Rattle.std.proofs.Common.{◌≤◌, ◌≡◌, ◌∙◌, ◌+◌, List, ap, arith, ℕ}
use Rattle.std.proofs.Math.Nat.{mod-add-mod}
use Rattle.std.specs.Prelude.{◌%◌, ◌^◌}
use Rattle.pad_steps.specs.declared.commands.Form.{Form}
use Rattle.pad_steps.specs.declared.commands.Form.TheVariants as forms
use Rattle.pin_blocks.specs.BlockWork.{fill_count}
use Rattle.rand_chacha.specs.ChaCha.{ChaCha, key_of, next_word}

-- the generator of a seed whose next word is that of this place
abbrev pub generator_at : List ℕ → ℕ → ChaCha
generator_at seed place = record { key = key_of seed; stream = 0; word_pos = place % 2 ^ 68 }

-- after a word it is at the next place
pub generator_at-next : (seed : List ℕ) (place next : ℕ) → next ≡ place + 1 → (next_word 10 (generator_at seed place)).1 ≡ generator_at seed next
generator_at-next seed place next follows =
    let at : ℕ → ChaCha = λ word_pos. record { key = key_of seed; stream = 0; word_pos = word_pos } in
    let more : (place % 2 ^ 68 + 1) % 2 ^ 68 ≡ next % 2 ^ 68 = mod-add-mod place (2 ^ 68) 1 ∙ ap (λ number. number % 2 ^ 68) (omega arith) in
    ap at more

-- no form draws more than fourteen
pub few_fill_words : (form : Form) (size : ℕ) → fill_count form size ≤ 14
few_fill_words forms.Iso3 size = omega arith
few_fill_words forms.Iso0 size = omega arith
few_fill_words forms.Iso1 size = omega arith
few_fill_words forms.Iso2 size = omega arith
few_fill_words forms.Iso4 size = omega arith
few_fill_words forms.Ibm3624 size = omega arith
few_fill_words forms.Diebold size = omega arith
few_fill_words forms.DieboldCo size = omega arith
