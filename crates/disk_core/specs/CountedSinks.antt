-- A sink with a count of its own round another.
use Rattle.std.specs.Prelude.{ℕ, ◌≡◌, ◌+◌, ◌-◌, ◌^◌, ◌<◌, min, length, List, Option}
use Rattle.disk_core.specs.Causes.{Rose, next_count}
use Rattle.disk_core.specs.declared.counted_sink.Counted.{Counted}

-- the sink inside
abbrev pub counted_inner : {K : Type 0} → Counted K → K
counted_inner s = s.inner

-- how often the sink inside took nothing of a piece that is not empty, at most 2^64 - 1
abbrev pub counted_zeros : {K : Type 0} → Counted K → ℕ
counted_zeros s = s.zeros

-- what was given to the sink inside
abbrev pub counted_given : {K : Type 0} → (K → Option (List ℕ)) → Counted K → Option (List ℕ)
counted_given given s = given s.inner

-- the faults of the sink inside, and those that were counted here
abbrev pub counted_faults : {K : Type 0} → (K → ℕ) → Counted K → ℕ
counted_faults faults s = min (faults s.inner + s.zeros) (2 ^ 64 - 1)

-- the calls of the sink inside
abbrev pub counted_calls : {K : Type 0} → (K → ℕ) → Counted K → ℕ
counted_calls calls s = calls s.inner

-- the sink inside failed, and counted it
pub record FailsInside {K : Type 0} (faults : K → ℕ) (old new : Counted K) : Type 0 where
  pub inside : Rose (faults old.inner) (faults new.inner)
  pub zeros : new.zeros ≡ old.zeros

-- the sink inside took nothing of a piece that is not empty, and it is counted here
pub record FailsByZero {K : Type 0} (piece : List ℕ) (old new : Counted K) : Type 0 where
  pub some_bytes : 0 < length piece
  pub zeros : new.zeros ≡ next_count old.zeros
