-- The lengths up to here are copied.
use Rattle.std.proofs.Common.{◌≡◌, take}
use Rattle.tk_item.proofs.dashes.Dashes.copy.Given as goal

abbrev pub invariant-loop-dash : goal.invariant-loop-dash
invariant-loop-dash l = l.copy-inside.lengths.items ≡ take l.dash-index l.self
