use Rattle.std.specs.Prelude.{◌≡◌, ◌-◌, ◌*◌, length, true, is_some}
use Rattle.tk_expr.specs.Evaluated.{evaluated}
use Rattle.tk_look.specs.Dashes.{all_dashes, pattern_lengths}
use Rattle.tk_look.proofs.DashCounts.{before, lengths_of}
use Rattle.tk_look.proofs.dashes.dash_lengths.Given as goal

abbrev pub invariant-loop : goal.invariant-loop
invariant-loop l = record {
  told : pattern_lengths l.at evaluated l.font l.list ≡ before l.dashes (lengths_of l.at evaluated l.font (all_dashes (8 - l.counter) l.rest));
  there : is_some (all_dashes (8 - l.counter) l.rest) ≡ true;
  room : length l.dashes ≡ 2 * l.counter;
}
