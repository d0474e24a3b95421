use Rattle.std.proofs.Common.{arith, rules}
use Rattle.tk_expr.specs.Evaluated.{evaluated}
use Rattle.tk_expr.proofs.Runs.{evaluated_is_the_answer}
use Rattle.tk_picture.proofs.SettingsLeft.{set_falls}
use Rattle.tk_picture.proofs.commands.set.Goals as goal

pub returns-then-branch-clause-most : goal.returns-then-branch-clause-most
returns-then-branch-clause-most g c =
    let one = c.in_ok-run_one.ensures in
    let k = set_falls c.args.drawer.now.state c.run_one.new.self c.args.first c.args.input.now c.run_one.new.input _
    (one.gives evaluated evaluated_is_the_answer) (search rules) in
    omega (arith, k.0, k.1, one.most, one.kept.budget)
