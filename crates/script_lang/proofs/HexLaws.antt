-- Numbers in hexadecimal digits, and masks.
use Rattle.std.proofs.Common.{◌≡◌, ◌<◌, ℕ, suc, ◌+◌, List, [], ◌∷◌, ◌++◌, length, take, drop, Option, Some, None, eqb, refl, sym, ap, subst, ◌∙◌, arith, ◌/◌, ◌%◌, ◌*◌, ◌^◌}
use Rattle.std.specs.List.{AllByRecursion}
use Rattle.std.proofs.lemmas.List.{take_at, drop_at, take-append-drop, length-take, length-drop}
use Rattle.std.proofs.lemmas.Bool.{eqb-true}
use Rattle.script_lang.specs.Words.{hex_value, hex_values, with_value}
use Rattle.pad_words.specs.Bytes.{unpacked}
use Rattle.script_lang.specs.Reading.{◌>>=◌, digits_onto, hex_number, read_byte, read_mask, read_uses}
use Rattle.script_lang.specs.Spelling.{byte_word, mask_values, mask_word, four_values, eight_values, uses_word}
use Rattle.script_lang.proofs.Fits.{IsByte, IsNibble, MaskFits, UsesFit}
use Rattle.script_lang.proofs.Options.{bind_some, guard_some, some_is}
use Rattle.script_lang.proofs.Readers.{IsField}

-- the number of digits of these values behind the digits of n
abbrev pub hex_fold : ℕ → List ℕ → ℕ
hex_fold n [] = n
hex_fold n (d ∷ ds) = hex_fold (16 * n + d) ds

pub hex_value-small : (c v : ℕ) → hex_value c ≡ Some v → v < 16
hex_value-small c v h = grind (arith)

pub digits_more : (o : Option ℕ) (p : Option (List ℕ)) (ds : List ℕ) → with_value o p ≡ Some ds → (v : ℕ) × (vs : List ℕ) × (o ≡ Some v) × (p ≡ Some vs) × (v ∷ vs ≡ ds)
digits_more None p ds e = absurd cc
digits_more (Some v) None ds e = absurd cc
digits_more (Some v) (Some vs) ds e = (v, vs, refl, refl, some_is (v ∷ vs) ds e)

pub digits_some : (v : ℕ) (vs : List ℕ) (o : Option ℕ) (p : Option (List ℕ)) → o ≡ Some v → p ≡ Some vs → with_value o p ≡ Some (v ∷ vs)
digits_some v vs o p e f = rw (e, f) refl

pub hex_takes : (w : List ℕ) (n m : ℕ) → digits_onto 16 hex_value n w ≡ Some m → (ds : List ℕ) × (hex_values w ≡ Some ds) × (hex_fold n ds ≡ m)
unfolding digits_onto hex_values
hex_takes [] n m e = ([], refl, some_is n m e)
hex_takes (c ∷ cs) n m e =
    let v = bind_some (hex_value c) (λ v. digits_onto 16 hex_value (16 * n + v) cs) m e in
    let t = hex_takes cs (16 * n + v.0) m v.2 in
    (v.0 ∷ t.0, digits_some v.0 t.0 (hex_value c) (hex_values cs) v.1 t.1, t.2)

pub hex_again : (w ds : List ℕ) (n : ℕ) → hex_values w ≡ Some ds → digits_onto 16 hex_value n w ≡ Some (hex_fold n ds)
unfolding digits_onto hex_values
hex_again [] ds n e = ap (λ (ds : List ℕ). Some (hex_fold n ds)) (some_is [] ds e)
hex_again (c ∷ cs) ds n e =
    let d = digits_more (hex_value c) (hex_values cs) ds e in
    ap (λ (o : Option ℕ). o >>= λ v. digits_onto 16 hex_value (16 * n + v) cs) d.2 ∙ hex_again cs d.1 (16 * n + d.0) d.3 ∙ ap (λ (ds : List ℕ). Some (hex_fold n ds)) d.4

pub digits_len : (w ds : List ℕ) → hex_values w ≡ Some ds → length ds ≡ length w
unfolding hex_values
digits_len [] ds e = rw (← some_is [] ds e) refl
digits_len (c ∷ cs) ds e =
    let d = digits_more (hex_value c) (hex_values cs) ds e in
    rw (← d.4) (ap suc (digits_len cs d.1 d.3))

pub digits_small : (w ds : List ℕ) → hex_values w ≡ Some ds → AllByRecursion IsNibble ds
unfolding hex_values
digits_small [] ds e = rw (← some_is [] ds e) tt
digits_small (c ∷ cs) ds e =
    let d = digits_more (hex_value c) (hex_values cs) ds e in
    rw (← d.4) (hex_value-small c d.0 d.2, digits_small cs d.1 d.3)

digits_join : (u v a b : List ℕ) → hex_values u ≡ Some a → hex_values v ≡ Some b → hex_values (u ++ v) ≡ Some (a ++ b)
unfolding hex_values
digits_join [] v a b e f = rw (← some_is [] a e) f
digits_join (c ∷ cs) v a b e f =
    let d = digits_more (hex_value c) (hex_values cs) a e in
    rw (← d.4) (digits_some d.0 (d.1 ++ b) (hex_value c) (hex_values (cs ++ v)) d.2 (digits_join cs v d.1 b d.3 f))

digits_split : (u v ds : List ℕ) → hex_values (u ++ v) ≡ Some ds → (a : List ℕ) × (b : List ℕ) × (hex_values u ≡ Some a) × (hex_values v ≡ Some b) × (ds ≡ a ++ b)
unfolding hex_values
digits_split [] v ds e = ([], ds, refl, e, refl)
digits_split (c ∷ cs) v ds e =
    let d = digits_more (hex_value c) (hex_values (cs ++ v)) ds e in
    let s = digits_split cs v d.1 d.3 in
    (d.0 ∷ s.0, s.1, digits_some d.0 s.0 (hex_value c) (hex_values cs) d.2 s.2, s.3, sym d.4 ∙ ap (λ (x : List ℕ). d.0 ∷ x) s.4)

-- ---- numbers of eight digits

pub four_of : (a b c d n : ℕ) → a < 16 → b < 16 → c < 16 → d < 16 → n ≡ 16 * (16 * (16 * a + b) + c) + d → four_values n ≡ a ∷ b ∷ c ∷ d ∷ []
four_of a b c d n ha hb hc hd is =
    let e0 : n / 4096 ≡ a = omega (arith, is, ha, hb, hc, hd) in
    let e1 : (n / 256) % 16 ≡ b = omega (arith, is, ha, hb, hc, hd) in
    let e2 : (n / 16) % 16 ≡ c = omega (arith, is, ha, hb, hc, hd) in
    let e3 : n % 16 ≡ d = omega (arith, is, ha, hb, hc, hd) in
    rw (e0, e1, e2, e3) refl

eight_of : (a b c d e f g h n : ℕ) → a < 16 → b < 16 → c < 16 → d < 16 → e < 16 → f < 16 → g < 16 → h < 16
    → n ≡ 65536 * (16 * (16 * (16 * a + b) + c) + d) + (16 * (16 * (16 * e + f) + g) + h) → eight_values n ≡ a ∷ b ∷ c ∷ d ∷ e ∷ f ∷ g ∷ h ∷ []
eight_of a b c d e f g h n ha hb hc hd he hf hg hh is =
    let top : n / 65536 ≡ 16 * (16 * (16 * a + b) + c) + d = omega (arith, is, he, hf, hg, hh) in
    let low : n % 65536 ≡ 16 * (16 * (16 * e + f) + g) + h = omega (arith, is, he, hf, hg, hh) in
    ap (λ (xs : List ℕ). xs ++ four_values (n % 65536)) (four_of a b c d (n / 65536) ha hb hc hd top) ∙ ap (λ (ys : List ℕ). a ∷ b ∷ c ∷ d ∷ ys) (four_of e f g h (n % 65536) he hf hg hh low)

fold_four : (n m : ℕ) (ds : List ℕ) → m < 65536 → hex_fold n (four_values m ++ ds) ≡ hex_fold (65536 * n + m) ds
fold_four n m ds small = let same : 16 * (16 * (16 * (16 * n + m / 4096) + (m / 256) % 16) + (m / 16) % 16) + m % 16 ≡ 65536 * n + m = omega (arith, small) in ap (λ (k : ℕ). hex_fold k ds) same

fold_eight : (n : ℕ) → n < 2 ^ 32 → hex_fold 0 (eight_values n) ≡ n
fold_eight n small = fold_four 0 (n / 65536) (four_values (n % 65536)) (omega (arith, small)) ∙ fold_four (65536 * 0 + n / 65536) (n % 65536) [] (omega (arith, small)) ∙ omega (arith)

eight_folded : (ds : List ℕ) → length ds ≡ 8 → AllByRecursion IsNibble ds → (eight_values (hex_fold 0 ds) ≡ ds) × (hex_fold 0 ds < 2 ^ 32)
eight_folded (a ∷ b ∷ c ∷ d ∷ e ∷ f ∷ g ∷ h ∷ []) len all =
    (eight_of a b c d e f g h _ all.0 all.1.0 all.1.1.0 all.1.1.1.0 all.1.1.1.1.0 all.1.1.1.1.1.0 all.1.1.1.1.1.1.0 all.1.1.1.1.1.1.1.0 (omega arith), omega (arith, all.0, all.1.0, all.1.1.0, all.1.1.1.0, all.1.1.1.1.0, all.1.1.1.1.1.0, all.1.1.1.1.1.1.0, all.1.1.1.1.1.1.1.0))
eight_folded ds len all = absurd (omega (arith, len))

hex8_takes : (w : List ℕ) (m : ℕ) → length w ≡ 8 → hex_number w ≡ Some m → (hex_values w ≡ Some (eight_values m)) × (m < 2 ^ 32)
hex8_takes w m len e =
    let t = hex_takes w 0 m e in
    let f = eight_folded t.0 (digits_len w t.0 t.1 ∙ len) (digits_small w t.0 t.1) in
    let is : eight_values m ≡ t.0 = ap eight_values (sym t.2) ∙ f.0 in
    (t.1 ∙ ap (λ (ds : List ℕ). Some ds) (sym is), omega (arith, t.2, f.1))

hex8_again : (w : List ℕ) (m : ℕ) → m < 2 ^ 32 → hex_values w ≡ Some (eight_values m) → hex_number w ≡ Some m
hex8_again w m small e = hex_again w (eight_values m) 0 e ∙ ap (λ (n : ℕ). Some n) (fold_eight m small)

halves : (a b c d : List ℕ) → length a ≡ length c → a ++ b ≡ c ++ d → (a ≡ c) × (b ≡ d)
halves a b c d len e =
    (sym (take_at a b (length c) len) ∙ ap (take (length c)) e ∙ take_at c d (length c) refl, sym (drop_at a b (length c) len) ∙ ap (drop (length c)) e ∙ drop_at c d (length c) refl)

pub mask_field : IsField read_mask MaskFits mask_word
unfolding read_mask mask_values
mask_field = record {
  takes = λ text m e.
      let g = guard_some (eqb (length text) 16) _ m e in
      let long : length text ≡ 16 = eqb-true (length text) 16 g.0 in
      let k = bind_some (hex_number (take 8 text)) (λ k. hex_number (drop 8 text) >>= λ f. Some (record { keys = k; fdks = f })) m g.1 in
      let f = bind_some (hex_number (drop 8 text)) (λ f. Some (record { keys = k.0; fdks = f })) m k.2 in
      let kt = hex8_takes (take 8 text) k.0 (omega (arith, length-take 8 text)) k.1 in
      let ft = hex8_takes (drop 8 text) f.0 (omega (arith, length-drop 8 text)) f.1 in
      let both = digits_join (take 8 text) (drop 8 text) (eight_values k.0) (eight_values f.0) kt.0 ft.0 in
      let whole : hex_values text ≡ Some (eight_values k.0 ++ eight_values f.0) = ap hex_values (sym (take-append-drop 8 text)) ∙ both in
      subst (λ m. MaskFits m × (hex_values text ≡ Some (eight_values m.keys ++ eight_values m.fdks))) (some_is _ m f.2) ((kt.1, ft.1), whole);
  again = λ text m fits says.
      let long : length text ≡ 16 = sym (digits_len text (eight_values m.keys ++ eight_values m.fdks) says) in
      let s = digits_split (take 8 text) (drop 8 text) (eight_values m.keys ++ eight_values m.fdks) (ap hex_values (take-append-drop 8 text) ∙ says) in
      let len : length s.0 ≡ 8 = digits_len (take 8 text) s.0 s.2 ∙ omega (arith, length-take 8 text) in
      let h = halves s.0 s.1 (eight_values m.keys) (eight_values m.fdks) len (sym s.4) in
      let k = hex8_again (take 8 text) m.keys fits.0 (s.2 ∙ ap (λ (ds : List ℕ). Some ds) h.0) in
      let f = hex8_again (drop 8 text) m.fdks fits.1 (s.3 ∙ ap (λ (ds : List ℕ). Some ds) h.1) in
      rw (long, k, f) refl;
}

-- ---- numbers of four digits

four_folded : (ds : List ℕ) → length ds ≡ 4 → AllByRecursion IsNibble ds → (four_values (hex_fold 0 ds) ≡ ds) × (hex_fold 0 ds < 65536)
four_folded (a ∷ b ∷ c ∷ d ∷ []) len all = (four_of a b c d _ all.0 all.1.0 all.1.1.0 all.1.1.1.0 (omega arith), omega (arith, all.0, all.1.0, all.1.1.0, all.1.1.1.0))
four_folded ds len all = absurd (omega (arith, len))

pub uses_field : IsField read_uses UsesFit uses_word
unfolding read_uses
uses_field = record {
  takes = λ text uses e.
      let g = guard_some (eqb (length text) 4) _ uses e in
      let t = hex_takes text 0 uses g.1 in
      let f = four_folded t.0 (digits_len text t.0 t.1 ∙ eqb-true (length text) 4 g.0) (digits_small text t.0 t.1) in
      let is : four_values uses ≡ t.0 = ap four_values (sym t.2) ∙ f.0 in
      (omega (arith, t.2, f.1), t.1 ∙ ap (λ (ds : List ℕ). Some ds) (sym is));
  again = λ text uses small says.
      let long : length text ≡ 4 = sym (digits_len text (four_values uses) says) in
      let same : hex_fold 0 (four_values uses) ≡ uses = fold_four 0 uses [] small ∙ omega (arith) in
      let value : hex_number text ≡ Some uses = hex_again text (four_values uses) 0 says ∙ ap (λ (n : ℕ). Some n) same in
      rw (long, value) refl;
}

-- ---- numbers of two digits

two_folded : (ds : List ℕ) → length ds ≡ 2 → AllByRecursion IsNibble ds → (unpacked (hex_fold 0 ds ∷ []) ≡ ds) × IsByte (hex_fold 0 ds)
two_folded (a ∷ b ∷ []) len all =
    let high : (16 * (16 * 0 + a) + b) / 16 ≡ a = omega (arith, all.0, all.1.0) in
    let low : (16 * (16 * 0 + a) + b) % 16 ≡ b = omega (arith, all.0, all.1.0) in
    (rw (high, low) refl, omega (arith, all.0, all.1.0))
two_folded ds len all = absurd (omega (arith, len))

pub byte_field : IsField read_byte IsByte byte_word
unfolding read_byte
byte_field = record {
  takes = λ text byte e.
      let g = guard_some (eqb (length text) 2) _ byte e in
      let t = hex_takes text 0 byte g.1 in
      let f = two_folded t.0 (digits_len text t.0 t.1 ∙ eqb-true (length text) 2 g.0) (digits_small text t.0 t.1) in
      let is : unpacked (byte ∷ []) ≡ t.0 = ap (λ (b : ℕ). unpacked (b ∷ [])) (sym t.2) ∙ f.0 in
      (omega (arith, t.2, f.1), t.1 ∙ ap (λ (ds : List ℕ). Some ds) (sym is));
  again = λ text byte small says.
      let long : length text ≡ 2 = sym (digits_len text (unpacked (byte ∷ [])) says) in
      let same : hex_fold 0 (unpacked (byte ∷ [])) ≡ byte = omega arith in
      let value : hex_number text ≡ Some byte = hex_again text (unpacked (byte ∷ [])) 0 says ∙ ap (λ (n : ℕ). Some n) same in
      rw (long, value) refl;
}
