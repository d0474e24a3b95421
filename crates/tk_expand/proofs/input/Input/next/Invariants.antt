use Rattle.std.proofs.Common.{◌≡◌, ◌≤◌, ◌+◌, ◌-◌, length}
use Rattle.tk_expand.specs.Expand.{stream}
use Rattle.tk_expand.specs.Reading.{next}
use Rattle.tk_expand.proofs.input.Input.next.Given as goal

abbrev pub invariant-loop-tok : goal.invariant-loop-tok
invariant-loop-tok l = record {
  told : next l.fn.units.budget l.store.top.macros (stream l.fn.units.used l.fn.self)
      ≡ next l.units.budget l.store.top.macros (stream l.units.used l.self);
  end : l.self.end ≡ l.fn.self.end;
  budget : l.units.budget ≡ l.fn.units.budget;
  used : l.fn.units.used ≤ l.units.used;
  work : (l.units.budget - l.units.used) + length l.self.rest ≤ (l.fn.units.budget - l.fn.units.used) + length l.fn.self.rest;
}

abbrev pub decreases-loop-tok : goal.decreases-loop-tok
decreases-loop-tok l = (l.units.budget - l.units.used) + length l.self.rest
