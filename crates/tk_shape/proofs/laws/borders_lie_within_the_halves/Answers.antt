use Rattle.tk_shape.proofs.Within.{rectangle_within, circle_within}
use Rattle.tk_shape.proofs.laws.borders_lie_within_the_halves.Goals as goal

pub returns : goal.returns
returns c = record { rectangle = rectangle_within; circle = circle_within }
