-- What the calls of a machine say.
use Rattle.std.specs.Prelude.{List, [], length, ◌++◌, ◌<◌, ◌∷◌}
use Rattle.turnstile.specs.Entries.{entry}
use Rattle.turnstile.specs.declared.machine.Entry.{Entry}

module _ {X O R : Type 0} (stands : X → List (Entry O R) → Type 0) where
  -- the machine stands for a history in which there is room for one entry more
  abbrev pub HasRoom : X → Type 0
  HasRoom machine = (history : List (Entry O R)) × stands machine history × (length history < 1048576)

  -- each history that the machine stood for before, with this entry at its end, it stands for after
  abbrev pub Appends : X → X → O → R → Type 0
  Appends before after op outcome = (history : List (Entry O R)) → stands before history → stands after (history ++ entry op outcome ∷ [])
