-- Counts that stay at their greatest value, and calls that are to fail.
use Rattle.std.specs.Prelude.{ℕ, ◌+◌, ◌-◌, ◌^◌, ◌≤◌, min, Bool, ◌==◌, List}
use Rattle.std.specs.List.{list_any}

-- a count that goes on by n, and stays at its greatest value once it is there
abbrev pub count_on : ℕ → ℕ → ℕ
count_on count n = min (count + n) (2 ^ 64 - 1)

-- the count rose; one that stands at its greatest value counts as risen
abbrev pub Rose : ℕ → ℕ → Type 0
Rose before now = count_on before 1 ≤ now

-- whether a call, by its number, is one of those that are to fail
abbrev pub is_listed : List ℕ → ℕ → Bool
is_listed failing call = list_any (λ n. n == call) failing
