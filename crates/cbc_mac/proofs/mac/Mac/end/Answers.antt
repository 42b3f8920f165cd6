use Rattle.std.proofs.Common.{◌≡◌, take, subst, refl, sym}
use Rattle.des_core.specs.Des.{des_bytes}
use Rattle.cbc_mac.specs.Macs.{Fed, code_of, mac}
use Rattle.cbc_mac.proofs.MacLemmas.{code_single, code_retail}
use Rattle.cbc_mac.proofs.mac.Mac.end.Goals as goal

pub returns-in-None : goal.returns-in-None
returns-in-None c =
    let s = c.self.inside in
    let last = c.last_cipher_block-last.result.0 in
    let P : Fed → Type 0 = λ fed. last ≡ code_of fed.kind fed.key fed.message c.args.pad in
    let Q : Fed → Type 0 = λ fed. last ≡ mac des_bytes (take 8 fed.key) fed.message c.args.pad in
    subst P c.self.view_is
    (code_single s.left s.message.bytes last last s.right c.args.pad c.self.invariant.left_length c.in-None.is
    (subst Q (sym c.self.view_is) c.last_cipher_block-last.ensures) refl)

pub returns-in-Some : goal.returns-in-Some
returns-in-Some c =
    let s = c.self.inside in
    let last = c.last_cipher_block-last.result.0 in
    let out = c.under_both.result.0 in
    let P : Fed → Type 0 = λ fed. out ≡ code_of fed.kind fed.key fed.message c.args.pad in
    let Q : Fed → Type 0 = λ fed. last ≡ mac des_bytes (take 8 fed.key) fed.message c.args.pad in
    subst P c.self.view_is
    (code_retail s.left c.in-Some.right s.message.bytes last out s.right c.args.pad c.self.invariant.left_length c.in-Some.is
    (subst Q (sym c.self.view_is) c.last_cipher_block-last.ensures) c.under_both.ensures)
