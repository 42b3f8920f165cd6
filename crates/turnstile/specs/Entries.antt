-- Entries of a history, and calls that are refused.
use Rattle.std.specs.Prelude.{ℕ, ◌<◌, ◌≡◌}
use Rattle.turnstile.specs.declared.machine.CallFault.{CallFault}
use Rattle.turnstile.specs.declared.machine.CallFault.TheVariants.{HistoryFull, NoMemory}
use Rattle.turnstile.specs.declared.machine.Entry.{Entry}

-- an operation with its outcome
abbrev pub entry : {O R : Type 0} → O → R → Entry O R
entry op outcome = record { op = op; outcome = outcome }

-- the operation comes back; and the history has 1,048,576 entries exactly where the answer says that it is full
abbrev pub Refuses : {O : Type 0} → O → ℕ → CallFault O → Type 0
Refuses op length (NoMemory given) = (given ≡ op) × (length < 1048576)
Refuses op length (HistoryFull count given) = (given ≡ op) × (count ≡ 1048576) × (length ≡ 1048576)
