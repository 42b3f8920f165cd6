-- Fields one behind another.
use Rattle.std.proofs.Common.{◌≡◌, ℕ, ◌+◌, ◌-◌, ◌≤◌, List, ◌++◌, length, take, drop, replicate, sym, ◌∙◌, ap, arith, append_assoc}
use Rattle.std.proofs.lemmas.List.{take_all, length-append, length-replicate, length-take-le}
use Rattle.std.proofs.lemmas.Slice.{take-put_mid}
use borrow.Rule.Slice.PartMut.{put_mid}
use Rattle.key_record.specs.Records.{padded}

-- a field, and zero bytes behind it, end what was written before
pub take-put_field : (cell field ys zs : List ℕ) (at size k1 k2 : ℕ) → at + size ≤ length cell → length field ≤ size → k1 ≡ length field → ys ≡ field → k2 ≡ size - length field → zs ≡ replicate k2 0
    → take (at + size) (put_mid (at + length field) k2 (put_mid at k1 cell ys) zs) ≡ take at cell ++ padded size field
take-put_field cell field ys zs at size k1 k2 fits le is1 ys_is is2 zs_is =
    let long_ys : length ys ≡ length field = ap length ys_is in
    let long_zs : length zs ≡ k2 = ap length zs_is ∙ length-replicate {A = ℕ} k2 0 in
    let inner : take (at + length field) (put_mid at k1 cell ys) ≡ take at cell ++ ys = take-put_mid at k1 cell ys (at + length field) (omega (arith, long_ys)) (omega arith) in
    take-put_mid (at + length field) k2 (put_mid at k1 cell ys) zs (at + size) (omega (arith, long_zs)) (enough long_ys)
    ∙ ap (λ (l : List ℕ). l ++ zs) inner
    ∙ append_assoc (take at cell) ys zs
    ∙ ap (λ (l : List ℕ). take at cell ++ (l ++ zs)) ys_is
    ∙ ap (λ (l : List ℕ). take at cell ++ (field ++ l)) zs_is
    ∙ ap (λ (n : ℕ). take at cell ++ (field ++ replicate n 0)) is2
  where
    enough : length ys ≡ length field → at + length field ≤ length (put_mid at k1 cell ys)
    enough long_ys = omega (arith, long_ys, length-append (take at cell) (ys ++ drop k1 (drop at cell)), length-append ys (drop k1 (drop at cell)), length-take-le at cell (omega arith))

-- six fields in order make the whole
pub six_fields : (c0 c1 c2 c3 c4 c5 c6 f1 f2 f3 f4 f5 f6 : List ℕ) → take 2 c1 ≡ take 0 c0 ++ f1 → take 34 c2 ≡ take 2 c1 ++ f2 → take 36 c3 ≡ take 34 c2 ++ f3 → take 37 c4 ≡ take 36 c3 ++ f4 → take 61 c5 ≡ take 37 c4 ++ f5 → take 96 c6 ≡ take 61 c5 ++ f6 → length c6 ≡ 96
    → c6 ≡ f1 ++ f2 ++ f3 ++ f4 ++ f5 ++ f6
six_fields c0 c1 c2 c3 c4 c5 c6 f1 f2 f3 f4 f5 f6 e1 e2 e3 e4 e5 e6 long =
    sym (take_all 96 c6 (omega (arith, long)))
    ∙ e6
    ∙ ap (λ (l : List ℕ). l ++ f6) (e5 ∙ ap (λ (l : List ℕ). l ++ f5) (e4 ∙ ap (λ (l : List ℕ). l ++ f4) (e3 ∙ ap (λ (l : List ℕ). l ++ f3) (e2 ∙ ap (λ (l : List ℕ). l ++ f2) e1))))
