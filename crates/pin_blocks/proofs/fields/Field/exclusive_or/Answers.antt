use Rattle.std.proofs.Common.{◌≡◌, ◌∙◌, ◌<◌, List, ap, arith, drop, length, sym, ℕ}
use Rattle.std.specs.List.{refill}
use Rattle.std.proofs.lemmas.List.{take-append-le, take_all}
use Rattle.std.proofs.lemmas.List.Elements.{All-same}
use Rattle.pad_words.specs.Bytes.{exclusive_or}
use Rattle.pin_blocks.proofs.BlockLemmas.{AreNibbles-exclusive_or, length-exclusive_or}
use Rattle.pin_blocks.proofs.fields.Field.exclusive_or.Goals as goal

-- a whole list written over another of its length
refill-whole : (xs ws : List ℕ) → length ws ≡ length xs → refill (length xs) xs ws ≡ ws
refill-whole xs ws long =
    take-append-le (length xs) ws (drop (length ws) xs) (omega arith) ∙ take_all (length xs) ws (omega arith)

pub invariant_of-self : goal.invariant_of-self
invariant_of-self c =
    let mine : List ℕ = c.self.inside.nibbles.items in
    let others : List ℕ = c.other.inside.nibbles.items in
    let same : length mine ≡ length others = ap length c.self.view_is ∙ (c.requires ∙ ap length (sym c.other.view_is)) in
    let new : c.exclusive_or.new.bytes ≡ exclusive_or mine others =
    c.exclusive_or.ensures
    ∙ (ap (λ nibbles. exclusive_or nibbles c.as_slice.result.now) c.as_mut_slice.ensures.value
    ∙ ap (λ nibbles. exclusive_or mine nibbles) c.as_slice.ensures.value) in
    let whole : refill (length mine) mine c.exclusive_or.new.bytes ≡ exclusive_or mine others =
    refill-whole mine c.exclusive_or.new.bytes (ap length new ∙ length-exclusive_or mine others same) ∙ new in
    All-same (λ nibble. nibble < 16) (refill (length mine) mine c.exclusive_or.new.bytes) (exclusive_or mine others) whole
    (AreNibbles-exclusive_or mine others c.self.invariant c.other.invariant)
