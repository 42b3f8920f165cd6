-- What a status says.
use Rattle.std.specs.Prelude.{Bool, ℕ, ◌%◌, ◌/◌, ◌==◌}

-- an entry runs
abbrev pub entry_runs_at : ℕ → Bool
entry_runs_at status = status / 4 % 2 == 1

-- how many requests ended
abbrev pub ended_at : ℕ → ℕ
ended_at status = status / 2048
