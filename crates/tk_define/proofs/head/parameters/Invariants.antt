use Rattle.std.proofs.Common.{◌≡◌, ◌≤◌, ◌-◌, length}
use Rattle.tk_define.specs.Heads.{parameters}
use Rattle.tk_define.proofs.head.parameters.Given as goal

abbrev pub invariant-loop-count : goal.invariant-loop-count
invariant-loop-count l = record {
  told : parameters 0 9 l.fn.input ≡ parameters l.count (9 - l.count) l.input;
  end : l.input.end ≡ l.fn.input.end;
  fewer : length l.input.rest ≤ length l.fn.input.rest;
}
