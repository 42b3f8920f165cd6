-- The fill words of a run: random words of a seed that is handed in (ChaCha20, RFC 8439).
use Rattle.rand_chacha.specs.ChaCha.{key_of, word_at}
use Rattle.std.specs.Prelude.{List, ℕ, ◌%◌, ◌^◌}

-- the word of this number, from 0: the word of 32 bits at this place of ChaCha20's stream 0 under the seed
abbrev pub fill_word : List ℕ → ℕ → ℕ
fill_word seed number = word_at 10 (key_of seed) 0 (number % 2 ^ 68)
