use Rattle.std.proofs.Common.{List, ap, arith, drop, length, refl, rules, subst, sym, take, ◌*◌, ◌+◌, ◌/◌, ◌≡◌, ◌∙◌, ℕ}
use Rattle.std.specs.List.{concat}
use Rattle.cbc_mac.specs.Modes.{blocks_of, ecb, tdea_block}
use Rattle.cbc_mac.proofs.ModeLemmas.{IsChanged, all_changed, block_changed, concat-ecb, none_changed, tdea_ecb_is, three_changed}
use Rattle.cbc_mac.proofs.modes.ecb.Goals as goal

pub loop-i-init : goal.loop-i-init
loop-i-init c = none_changed c.args.buf.now (λ blocks. concat (ecb (tdea_block c.args.way c.args.key.now) blocks)) c.requires

pub loop-i-preserved : goal.loop-i-preserved
loop-i-preserved c =
    let i = c.loop-i.i in
    let buf = c.loop-i.buf in
    let n = length c.args.buf.now / 8 in
    let f = tdea_block c.args.way c.args.key.now in
    let whole : List (List ℕ) → List ℕ = λ blocks. concat (ecb f blocks) in
    let all = whole (blocks_of c.args.buf.now) in
    let read = c.three_at-blocks.ensures in
    let out = c.three_turned.result in
    let are = c.three_turned.ensures in
    let P : List ℕ → Type 0 = λ bytes. IsChanged bytes n (3 * (i + 1)) whole all in
    subst P (sym c.put_three.ensures)
    (three_changed buf out.first.0 out.second.0 out.third.0 n i whole whole whole whole all (omega arith) (search rules) (search rules) (search rules)
    (λ others. concat-ecb f (take 8 (drop (24 * i) buf)) out.first.0 others (are.first ∙ ap f read.first))
    (λ others. concat-ecb f (take 8 (drop (24 * i + 8) buf)) out.second.0 others (are.second ∙ ap f read.second))
    (λ others. concat-ecb f (take 8 (drop (24 * i + 16) buf)) out.third.0 others (are.third ∙ ap f read.third)) c.loop-i.invariant)

pub loop-i-2-init : goal.loop-i-2-init
loop-i-2-init c =
    let n = length c.args.buf.now / 8 in
    let whole : List (List ℕ) → List ℕ = λ blocks. concat (ecb (tdea_block c.args.way c.args.key.now) blocks) in
    let done : c.loop-i.i ≡ length c.args.buf.now / 24 = omega arith in
    let P : ℕ → Type 0 = λ m. IsChanged c.loop-i.buf n (3 * m) whole (whole (blocks_of c.args.buf.now)) in
    subst P done c.loop-i.invariant

pub loop-i-2-preserved : goal.loop-i-2-preserved
loop-i-2-preserved c =
    let i = c.loop-i-2.i in
    let buf = c.loop-i-2.buf in
    let n = length c.args.buf.now / 8 in
    let f = tdea_block c.args.way c.args.key.now in
    let block = take 8 (drop (8 * i) buf) in
    let out = c.turned.result.0 in
    let whole : List (List ℕ) → List ℕ = λ blocks. concat (ecb f blocks) in
    let all = whole (blocks_of c.args.buf.now) in
    let P : List ℕ → Type 0 = λ bytes. IsChanged bytes n (i + 1) whole all in
    subst P (sym c.put_block.ensures)
    (block_changed buf out n i whole whole all (omega arith) (search rules)
    (λ others. concat-ecb f block out others (c.turned.ensures ∙ ap f c.block_at-block.ensures)) c.loop-i-2.invariant)

pub returns : goal.returns
returns c =
    let way = c.args.way in
    let key = c.args.key.now in
    let whole : List (List ℕ) → List ℕ = λ blocks. concat (ecb (tdea_block way key) blocks) in
    all_changed c.loop-i-2.buf (length c.args.buf.now / 8) c.loop-i-2.i whole _ (omega arith) refl c.loop-i-2.invariant
    ∙ ap concat (tdea_ecb_is way key (blocks_of c.args.buf.now))
