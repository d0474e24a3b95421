use Rattle.tk_affine.proofs.Neutral.{neutral_before, neutral_behind}
use Rattle.tk_affine.proofs.laws.unmoved_is_neutral.Goals as goal

pub returns : goal.returns
returns c = record { before = neutral_before; behind = neutral_behind }
