use Rattle.std.proofs.Common.{ap}
use Rattle.std.specs.Prelude.{reverse}
use Rattle.tk_store.specs.Undo.{levels_of, outer_of}
use Rattle.tk_store.proofs.Undoing.{marks_none}
use Rattle.tk_store.proofs.store.Store.new.Goals as goal

pub invariant_of-result : goal.invariant_of-result
invariant_of-result c = marks_none _ (reverse c.new-3.result.items) (ap reverse c.new-3.ensures)

pub returns : goal.returns
unfolding outer_of
returns c = λ i. levels_of (reverse (c.new-2.ensures.items i)) (reverse (c.new-3.ensures i)) (c.new.ensures i)
