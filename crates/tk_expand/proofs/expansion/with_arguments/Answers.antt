use Rattle.std.proofs.Common.{arith}
use Rattle.std.proofs.lemmas.Grind.{common_steps}
use Rattle.tk_expand.proofs.expansion.with_arguments.Goals as goal

pub loop-tok-preserved : goal.loop-tok-preserved
loop-tok-preserved c = grind (arith, common_steps)
