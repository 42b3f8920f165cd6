use Rattle.std.proofs.Common.{◌≡◌, ◌∙◌, ◌++◌, List, ap, replicate, ℕ}
use Rattle.std.proofs.lemmas.List.{take_all}
use Rattle.pad_words.specs.Bytes.{packed}
use Rattle.pin_blocks.specs.Blocks.{sixteen}
use Rattle.local_check.proofs.checking.padded.Goals as goal

pub returns : goal.returns
returns c =
    let validation : List ℕ = c.args.validation.now in
    let front : c.put_all.new.self ≡ validation =
    c.put_all.ensures
    ∙ (ap (λ field. sixteen (field ++ c.items.result.now)) c.empty-field.ensures
    ∙ (ap sixteen c.items.ensures.items ∙ take_all 16 validation c.requires.few)) in
    c.block.ensures ∙ ap packed (c.pad_with.ensures.padded ∙ ap (λ field. sixteen (field ++ replicate 16 c.args.pad)) front)
