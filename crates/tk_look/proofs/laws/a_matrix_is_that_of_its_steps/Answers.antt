use Rattle.std.proofs.Common.{refl}
use Rattle.tk_look.proofs.MadeBySteps.{behind_steps, longer_steps}
use Rattle.tk_look.proofs.laws.a_matrix_is_that_of_its_steps.Goals as goal

pub returns : goal.returns
returns c = record {
  begins = λ font. refl;
  below = λ steps g made. made;
  behind = behind_steps;
  longer = longer_steps;
}
