use Rattle.std.proofs.Common.{ℕ, ◌<◌}
use Rattle.tk_io.proofs.Names.{IsFirst}
use Rattle.tk_io.proofs.desk.names_differ.Given as goal

abbrev pub invariant-loop-place : goal.invariant-loop-place
invariant-loop-place l = (k : ℕ) → k < l.place → IsFirst l.files k
