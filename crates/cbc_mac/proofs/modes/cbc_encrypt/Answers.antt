use Rattle.std.proofs.Common.{List, ap, arith, drop, length, rules, subst, sym, take, ◌*◌, ◌+◌, ◌/◌, ◌≡◌, ◌∙◌, ℕ}
use Rattle.std.specs.List.{concat}
use Rattle.pad_words.specs.Bytes.{exclusive_or}
use Rattle.des_core.specs.TripleDes.{tdea_bytes}
use Rattle.cbc_mac.specs.Modes.{blocks_of, cbc}
use Rattle.cbc_mac.proofs.ModeLemmas.{IsChanged, all_changed, block_changed, concat-cbc, concat-cbc-none, none_changed, replaced}
use Rattle.cbc_mac.proofs.modes.cbc_encrypt.Goals as goal

pub loop-i-init : goal.loop-i-init
loop-i-init c =
    let buf = c.args.buf.now in
    let chained : List ℕ → List (List ℕ) → List ℕ = λ start blocks. concat (cbc (tdea_bytes c.args.key.now) start blocks) in
    let P : List ℕ → Type 0 = λ before. IsChanged buf (length buf / 8) 0 (chained before) (chained c.args.start.0 (blocks_of buf)) in
    subst P (sym c.new-before.ensures) (none_changed buf (chained c.args.start.0) c.requires)

pub loop-i-preserved : goal.loop-i-preserved
loop-i-preserved c =
    let i = c.loop-i.i in
    let buf = c.loop-i.buf in
    let n = length c.args.buf.now / 8 in
    let f = tdea_bytes c.args.key.now in
    let block = take 8 (drop (8 * i) buf) in
    let before = c.loop-i.before in
    let sealed = c.encrypt_permuted-before.result in
    let chained : List ℕ → List (List ℕ) → List ℕ = λ start blocks. concat (cbc f start blocks) in
    let all = chained c.args.start.0 (blocks_of c.args.buf.now) in
    let sealed_is : sealed ≡ f (exclusive_or block before) =
    c.encrypt_permuted-before.ensures
    ∙ ap f (c.exclusive_or.ensures ∙ ap (λ b. exclusive_or b before) (c.new-block.ensures ∙ c.block_at.ensures)) in
    let eight : length sealed ≡ 8 = ap length (sym c.block.ensures) ∙ search rules in
    let P : List ℕ → Type 0 = λ bytes. IsChanged bytes n (i + 1) (chained sealed) all in
    subst P (sym (c.put_block.ensures ∙ ap (λ out. replaced buf (8 * i) out 8) c.block.ensures))
    (block_changed buf sealed n i (chained before) (chained sealed) all (omega arith) eight
    (λ others. concat-cbc f before block sealed others sealed_is) c.loop-i.invariant)

pub returns : goal.returns
returns c =
    let f = tdea_bytes c.args.key.now in
    let before = c.loop-i.before in
    let whole : List (List ℕ) → List ℕ = λ blocks. concat (cbc f before blocks) in
    all_changed c.loop-i.buf (length c.args.buf.now / 8) c.loop-i.i whole _ (omega arith) (concat-cbc-none f before) c.loop-i.invariant
