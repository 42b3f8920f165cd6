-- What a key may be used for (the uses of WFS_INF_PIN_KEY_DETAIL; the rules behind them are this project's own).
use Rattle.key_attributes.specs.UseBits.{allows, under_construction}
use Rattle.key_attributes.specs.declared.KeyRow.{KeyRow}
use Rattle.key_attributes.specs.declared.Use.{Use}
use Rattle.key_table.specs.KeyRows.{KeyRows, find_row}
use Rattle.key_table.specs.declared.Denied.{Denied}
use Rattle.key_table.specs.declared.Denied.TheVariants as denied
use Rattle.std.specs.Prelude.{Err, List, None, Ok, Option, Result, Some, if◌then◌else◌, ℕ}

-- KEYNOTFOUND where there is no row, else KEYNOVALUE where it is under construction, else USEVIOLATION where it lacks the use, else its value
abbrev pub permit_row : Use → Option KeyRow → Result (List ℕ) Denied
permit_row wanted None = Err denied.KeyNotFound
permit_row wanted (Some row) = if under_construction row.uses then Err denied.KeyNoValue else (if allows row.uses wanted then Ok row.value else Err denied.UseViolation)

-- the value of the key of this name for this use, or why it is denied
abbrev pub permit : KeyRows → List ℕ → Use → Result (List ℕ) Denied
permit rows name wanted = permit_row wanted (find_row name rows)
