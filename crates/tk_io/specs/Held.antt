-- A sink in memory.
use Rattle.std.specs.Prelude.{◌≡◌, ◌↔◌, ◌⊎◌, ℕ, ◌-◌, ◌<◌, min, IsTrue, List, ◌++◌, length, take, Some, Result, IfOk}
use Rattle.std.specs.Prelude.{OnErr, IsErr}
use Rattle.tk_io.specs.declared.Failed.{Failed}
use Rattle.tk_io.specs.Causes.{count_on, is_listed}
use Rattle.tk_io.specs.Sink.{Sunk}

-- a sink in memory as its callers see it
pub record Held : Type 0 where
  -- the bytes taken
  pub bytes : List ℕ
  -- how many bytes it has room for
  pub room : ℕ
  -- the most bytes that a write takes
  pub most : ℕ
  -- the numbers of the calls that are to fail
  pub failing : List ℕ
  -- how many calls were made
  pub calls : ℕ
  -- how many of them failed
  pub faults : ℕ

-- what a sink in memory means as a sink
abbrev pub held_means : Held → Sunk
held_means sink = record { bytes = Some sink.bytes; faults = sink.faults }

-- what writing a piece to a sink in memory does
pub record WritesHeld (piece : List ℕ) (old new : Held) (result : Result ℕ Failed) : Type 0 where
  -- it fails exactly on the listed calls, and on a piece that isn't empty where the room is full
  pub fails :
      IsErr result
      ↔ (IsTrue (is_listed old.failing (count_on old.calls 1))
      ⊎ ((0 < length piece) × (length old.bytes ≡ old.room)))
  -- it takes as much as it may
  pub count : IfOk result (λ n. n ≡ min (min (length piece) old.most) (old.room - length old.bytes))
  pub takes :
      IfOk result (λ n.
      new ≡ record old { bytes = old.bytes ++ take n piece; calls = count_on old.calls 1 })
  pub failed :
      OnErr result
      (new ≡ record old { calls = count_on old.calls 1; faults = count_on old.faults 1 })
