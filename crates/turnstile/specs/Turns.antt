-- What a clause says of a turn and of its passes.
use Rattle.std.specs.Prelude.{◌≡◌, ℕ, ◌+◌, ◌<◌, ◌≤◌, List, [], ◌∷◌, ◌++◌, length, Option}
use Rattle.atomic_table.specs.declared.shared.Seat.{Seat}
use Rattle.turnstile.specs.declared.turn.Turn.{Turn}
use Rattle.turnstile.specs.declared.machine.Entry.{Entry}
use Rattle.turnstile.specs.declared.held.Held.{Held}
use Rattle.turnstile.specs.declared.view.MadeEntry.{MadeEntry}
use Rattle.turnstile.specs.declared.view.PassView.{PassView}
use Rattle.turnstile.specs.declared.view.Stage.TheVariants.{Idle}
use Rattle.turnstile.specs.Rules.{made_by, entries_of, StartsWith, NotesTrue, passes_known}
use Rattle.turnstile.specs.Numbers.{TellsPasses, AreWhole, IsPlaceOf}
use Rattle.turnstile.specs.Entries.{entry}

-- what contracts see of a pass
abbrev pub view : {X O R : Type 0} → Seat (Option (Held X O R)) (PassView O R) → PassView O R
view pass = pass.me.0

module _ {X O R P H : Type 0} where
  -- the machine that the turn was made with, as it was then
  abbrev pub made_with : Turn X O R P H → X
  made_with turn = turn.table.shared.key.value

  -- the pass is of this turn, and no step of it is under way
  abbrev pub IsPassOf : Turn X O R P H → Seat (Option (Held X O R)) (PassView O R) → Type 0
  IsPassOf turn pass = (pass.table_id ≡ turn.table.shared.table_id) × (pass.me.1 ≡ []) × (pass.me.0.stage ≡ Idle)

module _ {O R : Type 0} where
  -- a call was entered: what a pass sees after it, from what it saw before
  pub record Enters (legal : List (Entry O R) → Type 0) (status : List (Entry O R) → ℕ) (before : PassView O R) (place : ℕ) (op : O) (outcome : R) (after : PassView O R) : Type 0 where
    -- the history that is seen begins with all that was seen, and ends with the operation and its outcome, under the pass's number
    pub between : List (MadeEntry O R)
    pub seen : after.seen ≡ (before.seen ++ between) ++ made_by before.number (entry op outcome) ∷ []
    pub lawful : legal (entries_of after.seen)
    -- the place is that of the last entry, of at most 1,048,576
    pub at : place + 1 ≡ length after.seen
    pub room : place < 1048576
    -- the place is put behind those of the pass's own entries, and nothing else of the pass changes
    pub kept : after ≡ record before { seen = after.seen; mine = before.mine ++ place ∷ [] }
    -- the entries of each known pass stand at just its places, and no number that it did not give is there
    pub known : TellsPasses after.seen (passes_known after)
    -- each note is true of what stands before this entry, and of the whole
    pub notes_before : NotesTrue status (before.seen ++ between) before.notes
    pub notes : NotesTrue status after.seen before.notes

  -- a call was refused: nothing of the pass changed but what it has seen
  pub record Sees (legal : List (Entry O R) → Type 0) (status : List (Entry O R) → ℕ) (before after : PassView O R) : Type 0 where
    pub seen : StartsWith after.seen before.seen
    pub lawful : legal (entries_of after.seen)
    pub kept : after ≡ record before { seen = after.seen }
    pub known : TellsPasses after.seen (passes_known after)
    pub notes : NotesTrue status after.seen before.notes

  -- the whole history at the end: what the pass has seen is a beginning of it, its notes are true of it, and the places of each known pass are those of its entries. Where the known passes are whole, each entry is that of exactly one of them
  pub record Closes (status : List (Entry O R) → ℕ) (pass : PassView O R) (history : List (Entry O R)) : Type 0 where
    pub log : List (MadeEntry O R)
    pub bare : history ≡ entries_of log
    -- of at most 1,048,576 entries
    pub short : length log ≤ 1048576
    pub seen : StartsWith log pass.seen
    pub notes : NotesTrue status log pass.notes
    pub known : TellsPasses log (passes_known pass)
    pub makers : AreWhole (passes_known pass) → (place : ℕ) → place < length log
        → (i : ℕ) × IsPlaceOf (passes_known pass) place i × ((j : ℕ) → IsPlaceOf (passes_known pass) place j → j ≡ i)
