use Rattle.std.proofs.Common.{◌≡◌, ◌≤◌, ◌-◌, map}
use Rattle.tk_expand.specs.Arguments.{arguments_of}
use Rattle.tk_expand.proofs.Calls.{with_taken}
use Rattle.tk_expand.proofs.input.Input.arguments.Given as goal

abbrev pub invariant-loop : goal.invariant-loop
invariant-loop l = record {
  told : arguments_of l.at l.count l.fn.self.rest ≡ with_taken (map (λ text. text.items) l.arguments.items)
      (arguments_of l.at (l.count - l.counter) l.self.rest);
  end : l.self.end ≡ l.fn.self.end;
  within : l.counter ≤ l.count;
}
