use Rattle.std.proofs.Common.{List, ap, arith, length, rules, subst, sym, ◌*◌, ◌+◌, ◌/◌, ◌≡◌, ◌∙◌, ℕ}
use Rattle.std.specs.List.{concat}
use Rattle.pad_words.specs.Bytes.{exclusive_or}
use Rattle.des_core.specs.TripleDes.{tdea_back_bytes}
use Rattle.cbc_mac.specs.Modes.{blocks_of, cbc_back}
use Rattle.cbc_mac.proofs.ModeLemmas.{IsChanged, all_changed, block_changed, concat-cbc_back-none, none_changed, same_chain, three_changed}
use Rattle.cbc_mac.proofs.modes.cbc_decrypt.Goals as goal

pub loop-i-init : goal.loop-i-init
loop-i-init c = none_changed c.args.buf.now (λ blocks. concat (cbc_back (tdea_back_bytes c.args.key.now) c.args.start.0 blocks)) c.requires

pub loop-i-preserved : goal.loop-i-preserved
loop-i-preserved c =
    let i = c.loop-i.i in
    let buf = c.loop-i.buf in
    let n = length c.args.buf.now / 8 in
    let f = tdea_back_bytes c.args.key.now in
    let chained : List ℕ → List (List ℕ) → List ℕ = λ start blocks. concat (cbc_back f start blocks) in
    let all = chained c.args.start.0 (blocks_of c.args.buf.now) in
    let before = c.loop-i.before.0 in
    let read = c.three_at-blocks.result in
    let read_is = c.three_at-blocks.ensures in
    let out = c.three_unchained.result in
    let out_is = c.three_unchained.ensures in
    let P : List ℕ → Type 0 = λ bytes. IsChanged bytes n (3 * (i + 1)) (chained read.third.0) all in
    subst P (sym c.put_three.ensures)
    (three_changed buf out.first.0 out.second.0 out.third.0 n i (chained before) (chained read.first.0) (chained read.second.0) (chained read.third.0)
    all (omega arith) (search rules) (search rules) (search rules)
    (same_chain f before read.first.0 out.first.0 _ read_is.first out_is.first)
    (same_chain f read.first.0 read.second.0 out.second.0 _ read_is.second out_is.second)
    (same_chain f read.second.0 read.third.0 out.third.0 _ read_is.third out_is.third) c.loop-i.invariant)

pub loop-i-2-init : goal.loop-i-2-init
loop-i-2-init c =
    let n = length c.args.buf.now / 8 in
    let chained : List ℕ → List (List ℕ) → List ℕ = λ start blocks. concat (cbc_back (tdea_back_bytes c.args.key.now) start blocks) in
    let done : c.loop-i.i ≡ length c.args.buf.now / 24 = omega arith in
    let P : ℕ → Type 0 = λ m. IsChanged c.loop-i.buf n (3 * m) (chained c.loop-i.before.0) (chained c.args.start.0 (blocks_of c.args.buf.now)) in
    subst P done c.loop-i.invariant

pub loop-i-2-preserved : goal.loop-i-2-preserved
loop-i-2-preserved c =
    let i = c.loop-i-2.i in
    let buf = c.loop-i-2.buf in
    let n = length c.args.buf.now / 8 in
    let f = tdea_back_bytes c.args.key.now in
    let chained : List ℕ → List (List ℕ) → List ℕ = λ start blocks. concat (cbc_back f start blocks) in
    let all = chained c.args.start.0 (blocks_of c.args.buf.now) in
    let before = c.loop-i-2.before.0 in
    let read = c.block_at-block.result.0 in
    let out = c.exclusive_or.result.0 in
    let P : List ℕ → Type 0 = λ bytes. IsChanged bytes n (i + 1) (chained read) all in
    subst P (sym c.put_block.ensures)
    (block_changed buf out n i (chained before) (chained read) all (omega arith) (search rules)
    (same_chain f before read out _ c.block_at-block.ensures (c.exclusive_or.ensures ∙ ap (λ b. exclusive_or b before) c.decrypt.ensures))
    c.loop-i-2.invariant)

pub returns : goal.returns
returns c =
    let f = tdea_back_bytes c.args.key.now in
    let before = c.loop-i-2.before.0 in
    let whole : List (List ℕ) → List ℕ = λ blocks. concat (cbc_back f before blocks) in
    all_changed c.loop-i-2.buf (length c.args.buf.now / 8) c.loop-i-2.i whole _ (omega arith) (concat-cbc_back-none f before) c.loop-i-2.invariant
