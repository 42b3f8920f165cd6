use Rattle.std.proofs.Common.{◌≡◌, ◌++◌, ◌-◌, replicate, take, ap, subst, sym, ◌∙◌}
use Rattle.pad_words.specs.Bytes.{exclusive_or}
use Rattle.des_core.specs.Des.{des_bytes}
use Rattle.cbc_mac.specs.Macs.{Fed, mac}
use Rattle.cbc_mac.proofs.MacLemmas.{last_whole, last_filled, left_of}
use Rattle.cbc_mac.proofs.mac.Mac.last_cipher_block.Goals as goal

pub returns-then-self-eq0 : goal.returns-then-self-eq0
returns-then-self-eq0 c =
    let s = c.self.inside in
    let P : Fed → Type 0 = λ fed. s.chained ≡ mac des_bytes (take 8 fed.key) fed.message c.args.pad in
    c.block.ensures
    ∙ subst P c.self.view_is
    (last_whole s.left s.chained s.held s.message.bytes s.held_count c.args.pad c.self.invariant c.if-self-eq0.true
    ∙ ap (λ key. mac des_bytes key s.message.bytes c.args.pad) (sym (left_of s.left s.right c.self.invariant.left_length)))

pub returns : goal.returns
returns c =
    let s = c.self.inside in
    let P : Fed → Type 0 = λ fed. c.sealed.result ≡ mac des_bytes (take 8 fed.key) fed.message c.args.pad in
    let sealed : c.sealed.result ≡ des_bytes s.left (exclusive_or (take s.held_count s.held ++ replicate (8 - s.held_count) c.args.pad) s.chained) =
    c.sealed.ensures ∙ ap (λ block. des_bytes s.left (exclusive_or block s.chained)) c.padded_block-block.ensures in
    c.block-2.ensures
    ∙ subst P c.self.view_is
    (last_filled s.left s.chained s.held s.message.bytes c.sealed.result s.held_count c.args.pad c.self.invariant c.if-self-eq0.false sealed
    ∙ ap (λ key. mac des_bytes key s.message.bytes c.args.pad) (sym (left_of s.left s.right c.self.invariant.left_length)))
