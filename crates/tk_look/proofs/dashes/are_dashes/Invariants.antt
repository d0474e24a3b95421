use Rattle.std.specs.Prelude.{◌≡◌, ◌-◌, is_some}
use Rattle.tk_look.specs.Dashes.{all_dashes}
use Rattle.tk_look.proofs.dashes.are_dashes.Given as goal

abbrev pub invariant-loop : goal.invariant-loop
invariant-loop l = is_some (all_dashes 8 l.list) ≡ is_some (all_dashes (8 - l.counter) l.rest)
