use Rattle.std.specs.Prelude.{◌≡◌, length}
use Rattle.tk_affine.specs.Steps.{with_steps}
use Rattle.tk_look.proofs.graphics.with_steps.Given as goal

abbrev pub invariant-loop-step : goal.invariant-loop-step
invariant-loop-step l = with_steps l.fn.matrix l.fn.steps.items ≡ with_steps l.moved l.rest

abbrev pub decreases-loop-step : goal.decreases-loop-step
decreases-loop-step l = length l.rest
