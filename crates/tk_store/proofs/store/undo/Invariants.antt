use Rattle.std.proofs.Common.{◌≡◌, ◌+◌, ◌≤◌, length}
use Rattle.std.specs.Prelude.{reverse}
use Rattle.tk_store.specs.Undo.{before_all, made_since, made_until}
use Rattle.tk_store.proofs.store.undo.Given as goal

abbrev pub invariant-loop-saved : goal.invariant-loop-saved
invariant-loop-saved g l = record {
  enough : l.mark ≤ length (reverse l.saved.items);
  back : before_all (made_since l.mark (reverse l.saved.items)) l.tables ≡ before_all (made_since l.mark (reverse l.fn.saved.items)) l.fn.tables;
  left : made_until l.mark (reverse l.saved.items) ≡ made_until l.mark (reverse l.fn.saved.items);
  cost : l.steps + length (reverse l.saved.items) ≡ l.fn.steps + length (reverse l.fn.saved.items);
}

abbrev pub decreases-loop-saved : goal.decreases-loop-saved
decreases-loop-saved g l = length (reverse l.saved.items)
