use Rattle.std.proofs.Common.{◌≡◌, ◌+◌, ◌-◌, ◌*◌, ◌≤◌, length}
use Rattle.std.specs.Option.{option_to_list}
use Rattle.tk_path.specs.Paths.{stretch, operations}
use Rattle.tk_path.specs.Undoing.{most_steps}
use Rattle.tk_path.specs.Views.{given_to, configuration_of, KeepsDrawn}
use Rattle.tk_path.proofs.drawer.Drawer.+operations.Given as goal

abbrev pub decreases-operations : goal.decreases-operations
decreases-operations g l = 4 * ((l.self.now.state.budget - l.self.now.state.units) + length l.input.now.rest) + 3

abbrev pub decreases-part_from : goal.decreases-part_from
decreases-part_from g l = 4 * ((l.self.now.state.budget - l.self.now.state.units) + length (option_to_list l.first) + length l.input.now.rest) + 2

abbrev pub decreases-path_group : goal.decreases-path_group
decreases-path_group g l = 4 * ((l.self.now.state.budget - l.self.now.state.units) + length l.input.now.rest) + 4

abbrev pub invariant-operations-loop-first : goal.invariant-operations-loop-first
invariant-operations-loop-first g l = record {
  told : operations (given_to l.fn.self) (stretch l.opener (configuration_of l.fn.self l.fn.path l.fn.input))
      ≡ operations (given_to l.fn.self) (stretch l.opener (configuration_of l.self l.path l.input));
  kept : KeepsDrawn l.fn.self l.self;
  work : (l.self.state.budget - l.self.state.units) + length l.input.rest ≤ (l.fn.self.state.budget - l.fn.self.state.units) + length l.fn.input.rest;
  most : most_steps l.steps l.self (length l.input.rest) ≤ most_steps l.fn.steps l.fn.self (length l.fn.input.rest);
}

abbrev pub decreases-operations-loop-first : goal.decreases-operations-loop-first
decreases-operations-loop-first g l = (l.self.state.budget - l.self.state.units) + length l.input.rest
