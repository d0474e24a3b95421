-- What a sink means, and what its calls do.
use Rattle.std.specs.Prelude.{◌≡◌, ℕ, ◌<◌, ◌≤◌, List, ◌++◌, length, take, Option, Some, IfSome, Result, IfOk, OnOk}
use Rattle.std.specs.Prelude.{OnErr}
use Rattle.tk_io.specs.declared.Failed.{Failed}
use Rattle.tk_io.specs.Causes.{Rose}

-- all that a sink means
pub record Sunk : Type 0 where
  -- the bytes taken, where it tells them
  pub bytes : Option (List ℕ)
  -- a count that never falls
  pub faults : ℕ

-- the sink has taken these bytes more, where it tells them
abbrev pub Takes : Sunk → Sunk → List ℕ → Type 0
Takes old new piece = IfSome old.bytes (λ bytes. new.bytes ≡ Some (bytes ++ piece))

-- what writing a piece does
pub record Writes (piece : List ℕ) (old new : Sunk) (result : Result ℕ Failed) : Type 0 where
  pub no_fall : old.faults ≤ new.faults
  pub cause : OnErr result (Rose old.faults new.faults)
  pub none : OnErr result (new.bytes ≡ old.bytes)
  pub bound : IfOk result (λ n. n ≤ length piece)
  pub some : IfOk result (λ n. 0 < length piece → 0 < n)
  pub bytes : IfOk result (λ n. Takes old new (take n piece))

-- a piece was written whole, or only a part of it was, and then the sink failed
pub record WritesAll
    (piece : List ℕ) (old new : Sunk) (result : Result (Unit {0}) Failed) : Type 0 where
  pub no_fall : old.faults ≤ new.faults
  pub cause : OnErr result (Rose old.faults new.faults)
  pub part : OnErr result ((n : ℕ) × (n < length piece) × Takes old new (take n piece))
  pub whole : OnOk result (Takes old new piece)
