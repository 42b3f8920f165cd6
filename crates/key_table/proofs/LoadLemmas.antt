-- What a loading makes of one slot after another.
use Rattle.key_attributes.specs.declared.KeyRow.{KeyRow}
use Rattle.key_record.specs.Records.{record_of}
use Rattle.key_table.proofs.ScanLemmas.{scan-suc, scan-zero}
use Rattle.key_table.proofs.TableLemmas.{SlotRow}
use Rattle.key_table.specs.KeyRows.{KeyRows}
use Rattle.key_table.specs.StoredRows.{BadAt, bad_in, bad_slot, rows_in, rows_of, scan, scan_slot}
use Rattle.nv_store.specs.Cells.{cell_of}
use Rattle.std.proofs.Common.{add-one, ap, arith, sym, ◌∙◌}
use Rattle.std.specs.List.{list_any}
use Rattle.std.specs.Prelude.{Bool, IfSome, List, None, Option, Some, [], bytes_eq, false, if◌then◌else◌, not, true, ℕ, ◌++◌, ◌+◌, ◌-◌, ◌<◌, ◌∷◌, ◌≡◌}

scan_next : (b : List ℕ) (i : ℕ) (rows : KeyRows) → i < 64 → scan b i (64 - i) rows ≡ scan_slot i (record_of (cell_of b i)) rows (scan b (i + 1) (64 - (i + 1)))
scan_next b i rows lt =
    let e : 64 - i ≡ 64 - (i + 1) + 1 = omega (arith, lt) in
    ap (λ (n : ℕ). scan b i n rows) (e ∙ add-one (64 - (i + 1))) ∙ scan-suc b i (64 - (i + 1)) rows

pub slot_none : (o : Option (List ℕ)) (i : ℕ) (rows : KeyRows) → i < 64 → IfSome o (λ b. record_of (cell_of b i) ≡ Some None) → IfSome o (λ b. scan b i (64 - i) rows ≡ scan b (i + 1) (64 - (i + 1)) rows)
slot_none None i rows lt cell = tt
slot_none (Some b) i rows lt cell = scan_next b i rows lt ∙ ap (λ (x : Option (Option KeyRow)). scan_slot i x rows (scan b (i + 1) (64 - (i + 1)))) cell

pub slot_some : (o : Option (List ℕ)) (i : ℕ) (rows new : KeyRows) (row : KeyRow) → i < 64 → IfSome o (λ b. record_of (cell_of b i) ≡ Some (Some row)) → list_any (λ (r : SlotRow). bytes_eq r.1.name row.name) rows ≡ false → new ≡ rows ++ (i, row) ∷ []
    → IfSome o (λ b. scan b i (64 - i) rows ≡ scan b (i + 1) (64 - (i + 1)) new)
slot_some None i rows new row lt cell free is = tt
slot_some (Some b) i rows new row lt cell free is =
    scan_next b i rows lt ∙ ap (λ (x : Option (Option KeyRow)). scan_slot i x rows (scan b (i + 1) (64 - (i + 1)))) cell
    ∙ ap (λ (t : Bool). if not t then scan b (i + 1) (64 - (i + 1)) (rows ++ (i, row) ∷ []) else BadAt i) free
    ∙ ap (λ (l : KeyRows). scan b (i + 1) (64 - (i + 1)) l) (sym is)

pub slot_no_record : (o : Option (List ℕ)) (i : ℕ) (rows : KeyRows) → i < 64 → IfSome o (λ b. record_of (cell_of b i) ≡ None) → IfSome o (λ b. scan b i (64 - i) rows ≡ BadAt i)
slot_no_record None i rows lt cell = tt
slot_no_record (Some b) i rows lt cell = scan_next b i rows lt ∙ ap (λ (x : Option (Option KeyRow)). scan_slot i x rows (scan b (i + 1) (64 - (i + 1)))) cell

pub slot_taken_name : (o : Option (List ℕ)) (i : ℕ) (rows : KeyRows) (row : KeyRow) → i < 64 → IfSome o (λ b. record_of (cell_of b i) ≡ Some (Some row)) → list_any (λ (r : SlotRow). bytes_eq r.1.name row.name) rows ≡ true → IfSome o (λ b. scan b i (64 - i) rows ≡ BadAt i)
slot_taken_name None i rows row lt cell taken = tt
slot_taken_name (Some b) i rows row lt cell taken = scan_next b i rows lt ∙ ap (λ (x : Option (Option KeyRow)). scan_slot i x rows (scan b (i + 1) (64 - (i + 1)))) cell
    ∙ ap (λ (t : Bool). if not t then scan b (i + 1) (64 - (i + 1)) (rows ++ (i, row) ∷ []) else BadAt i) taken

pub far_then : (o : Option (List ℕ)) (i : ℕ) (rows new : KeyRows) → IfSome o (λ b. scan b 0 64 [] ≡ scan b i (64 - i) rows) → IfSome o (λ b. scan b i (64 - i) rows ≡ scan b (i + 1) (64 - (i + 1)) new) → IfSome o (λ b. scan b 0 64 [] ≡ scan b (i + 1) (64 - (i + 1)) new)
far_then None i rows new far one = tt
far_then (Some b) i rows new far one = far ∙ one

pub far_bad : (o : Option (List ℕ)) (i : ℕ) (rows : KeyRows) → IfSome o (λ b. scan b 0 64 [] ≡ scan b i (64 - i) rows) → IfSome o (λ b. scan b i (64 - i) rows ≡ BadAt i) → IfSome o (λ b. bad_slot b ≡ Some i)
far_bad None i rows far bad = tt
far_bad (Some b) i rows far bad = ap bad_in (far ∙ bad)

pub all_shown : (o : Option (List ℕ)) (i : ℕ) (rows : KeyRows) → i ≡ 64 → IfSome o (λ b. scan b 0 64 [] ≡ scan b i (64 - i) rows) → IfSome o (λ b. rows_of b ≡ Some rows)
all_shown None i rows is far = tt
all_shown (Some b) i rows is far = ap rows_in (far ∙ ap (λ (n : ℕ). scan b n (64 - n) rows) is ∙ scan-zero b 64 rows)
