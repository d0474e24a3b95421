use Rattle.std.proofs.Common.{◌≡◌, ◌+◌, ◌-◌, ◌*◌, ◌≤◌, length}
use Rattle.std.specs.Option.{option_to_list}
use Rattle.tk_picture.specs.Commands.{block, commands}
use Rattle.tk_keys.specs.State.{Keeps}
use Rattle.tk_path.specs.Undoing.{most_steps}
use Rattle.tk_path.specs.Views.{given_to, IsSound}
use Rattle.tk_picture.specs.Views.{place_of_run, opener_of}
use Rattle.tk_picture.proofs.commands.+commands.Given as goal

abbrev pub decreases-commands : goal.decreases-commands
decreases-commands g l = 4 * ((l.drawer.now.state.budget - l.drawer.now.state.units) + length l.input.now.rest) + 3

abbrev pub decreases-command_at : goal.decreases-command_at
decreases-command_at g l = 4 * ((l.drawer.now.state.budget - l.drawer.now.state.units) + length (option_to_list l.first) + length l.input.now.rest) + 2

abbrev pub decreases-command : goal.decreases-command
decreases-command g l = 4 * ((l.drawer.now.state.budget - l.drawer.now.state.units) + length l.input.now.rest) + 5

abbrev pub decreases-group : goal.decreases-group
decreases-group g l = 4 * ((l.drawer.now.state.budget - l.drawer.now.state.units) + length l.input.now.rest) + 4

abbrev pub decreases-styled_commands : goal.decreases-styled_commands
decreases-styled_commands g l = 4 * ((l.drawer.now.state.budget - l.drawer.now.state.units) + length l.input.now.rest) + 4

abbrev pub decreases-scope : goal.decreases-scope
decreases-scope g l = 4 * ((l.drawer.now.state.budget - l.drawer.now.state.units) + length l.input.now.rest) + 4

abbrev pub invariant-commands-loop-first : goal.invariant-commands-loop-first
invariant-commands-loop-first g l = record {
  told : commands (given_to l.fn.drawer) (block (opener_of l.opener) (place_of_run l.fn.drawer l.fn.input))
      ≡ commands (given_to l.fn.drawer) (block (opener_of l.opener) (place_of_run l.drawer l.input));
  sound : IsSound l.drawer;
  kept : Keeps l.fn.drawer.state l.drawer.state;
  work : (l.drawer.state.budget - l.drawer.state.units) + length l.input.rest ≤ (l.fn.drawer.state.budget - l.fn.drawer.state.units)
      + length l.fn.input.rest;
  most : most_steps l.steps l.drawer (length l.input.rest) ≤ most_steps l.fn.steps l.fn.drawer (length l.fn.input.rest);
}

abbrev pub decreases-commands-loop-first : goal.decreases-commands-loop-first
decreases-commands-loop-first g l = (l.drawer.state.budget - l.drawer.state.units) + length l.input.rest
