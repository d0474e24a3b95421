use Rattle.std.proofs.Common.{◌≡◌, ◌≤◌, ◌+◌, ◌-◌, length}
use Rattle.tk_expand.specs.Expand.{stream, full}
use Rattle.tk_expand.specs.Unread.{unread}
use Rattle.tk_expand.proofs.Fronts.{with_kept}
use Rattle.tk_expand.proofs.expansion.expand_by_one.Given as goal

abbrev pub invariant-loop-text : goal.invariant-loop-text
invariant-loop-text l = record {
  told : full l.fn.units.budget l.store.top.macros (stream l.fn.units.used (unread l.fn.list 0))
      ≡ with_kept l.text.items (full l.units.budget l.store.top.macros (stream l.units.used l.input));
  end : l.input.end ≡ 0;
  budget : l.units.budget ≡ l.fn.units.budget;
  used : l.fn.units.used ≤ l.units.used;
}

abbrev pub decreases-loop-text : goal.decreases-loop-text
decreases-loop-text l = (l.units.budget - l.units.used) + length l.input.rest
