-- Which bytes the store can have after a run, as far as the words of the run tell.
use Rattle.key_table.specs.Changes.{Change}
use Rattle.key_table.specs.KeyRows.{KeyRows}
use Rattle.flat_machine.specs.Machine.{Act, next, plan}
use Rattle.flat_machine.specs.Power.{Loading, Nothing, Plan, Replacing}
use Rattle.flat_machine.specs.State.{Flat, opening}
use Rattle.flat_machine.specs.Settings.{Setting}
use Rattle.key_attributes.specs.declared.KeyRow.{KeyRow}
use Rattle.pad_steps.specs.declared.steps.DiskWord.{DiskWord}
use Rattle.std.specs.Prelude.{Bool, IsTrue, List, None, Option, Some, [], slice_get, take, ℕ, ◌∷◌, ◌≡◌}
use Rattle.pad_steps.specs.declared.steps.DiskWord.TheVariants as words

-- what bytes mean to a store: the rows that they show, none where a slot is bad; the lowest bad slot, where there is one; the bytes with a slot replaced; and whether bytes can be left by a replacement that was struck
pub record Layout : Type 0 where
  pub rows_of : List ℕ → Option KeyRows
  pub bad_slot : List ℕ → Option ℕ
  pub put : List ℕ → ℕ → Option KeyRow → List ℕ
  pub torn : List ℕ → ℕ → Option KeyRow → List ℕ → Bool

-- what is known of the store's bytes: that they are these, or that a struck change left them from these
pub data Known : Type 0 where
  These : List ℕ → Known
  TornFrom : List ℕ → Change → Known

module _ (layout : Layout) where
  -- the bytes after changes one by one
  abbrev pub put_all : List ℕ → List Change → List ℕ
  put_all bytes [] = bytes
  put_all bytes (change ∷ rest) = put_all (layout.put bytes change.slot change.row) rest

  -- the bytes can be these
  abbrev pub CanBe : Known → List ℕ → Type 0
  CanBe (These bytes) read = read ≡ bytes
  CanBe (TornFrom bytes change) read = IsTrue (layout.torn bytes change.slot change.row read)

  -- these bytes before a change that was struck, if there was one
  abbrev pub struck_at : List ℕ → Option Change → Known
  struck_at bytes None = These bytes
  struck_at bytes (Some change) = TornFrom bytes change

  -- what is known after replacements with this word
  abbrev pub replaced : List Change → DiskWord → Known → Known
  replaced todo words.Done (These bytes) = These (put_all bytes todo)
  replaced todo (words.Failed count) (These bytes) = struck_at (put_all bytes (take count todo)) (slice_get todo count)
  replaced todo (words.Cut count) (These bytes) = struck_at (put_all bytes (take count todo)) (slice_get todo count)
  replaced todo word (TornFrom bytes change) = TornFrom bytes change
  replaced todo other (These bytes) = These bytes

  -- what is known after a step that loaded nothing
  abbrev pub known_after : Plan → DiskWord → Known → Known
  known_after Nothing word known = known
  known_after Loading word known = known
  known_after (Replacing todo) word known = replaced todo word known

  -- a loading read bytes that can be and show the loaded rows, and from then on these are the bytes; other words change what is known
  abbrev pub HoldsStep : Plan → DiskWord → Known → (Known → Type 0) → Type 0
  HoldsStep calls words.Quiet known rest = rest (known_after calls words.Quiet known)
  HoldsStep calls words.Done known rest = rest (known_after calls words.Done known)
  HoldsStep calls (words.Failed count) known rest = rest (known_after calls (words.Failed count) known)
  HoldsStep calls (words.Cut count) known rest = rest (known_after calls (words.Cut count) known)
  HoldsStep calls (words.Loaded rows) known rest = (read : List ℕ) × CanBe known read × (layout.rows_of read ≡ Some rows) × rest (These read)
  HoldsStep calls (words.Bad slot) known rest = rest (known_after calls (words.Bad slot) known)

module _ (layout : Layout) (set : Setting) where
  -- the store can have these bytes after the run from a state in which this was known
  abbrev pub HoldsFrom : Flat → Known → List Act → List ℕ → Type 0
  HoldsFrom state known [] bytes = CanBe layout known bytes
  HoldsFrom state known (act ∷ acts) bytes = HoldsStep layout (plan set state.shared act.step) act.word known (λ after. HoldsFrom (next set state act.step act.word).state after acts bytes)

  -- the store can have these bytes after the run, where the first loading of it read the bytes `first`
  abbrev pub Holds : List ℕ → List Act → List ℕ → Type 0
  Holds first acts bytes = HoldsFrom opening (These first) acts bytes
