-- Key check values (the check modes KCVNONE, KCVSELF and KCVZERO of CEN/XFS 3.30, WFS_CMD_PIN_IMPORT_KEY).
use Rattle.pad_steps.specs.declared.commands.Verify.{Verify}
use Rattle.pad_steps.specs.declared.commands.Verify.TheVariants as verify
use Rattle.pad_words.specs.Bytes.{zero_block}
use Rattle.std.specs.Prelude.{List, None, Option, Some, take, ℕ}

-- none; or the first three bytes of the key's own first block encrypted under the key; or those of the zero block
abbrev pub check_value : (encrypt : List ℕ → List ℕ → List ℕ) → Verify → List ℕ → Option (List ℕ)
check_value encrypt verify.Nothing key = None
check_value encrypt verify.Own key = Some (take 3 (encrypt key (take 8 key)))
check_value encrypt verify.Zero key = Some (take 3 (encrypt key zero_block))
