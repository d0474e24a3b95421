use Rattle.std.proofs.Common.{subst}
use Rattle.tk_token.specs.Refusals.{Gives}
use Rattle.tk_expr.specs.Evaluates.{Evaluation}
use Rattle.tk_expr.proofs.Evaluations.{is_evaluated}
use Rattle.tk_keys.specs.State.{given_of}
use Rattle.tk_outline.specs.CurrentPaths.{no_path}
use Rattle.tk_path.specs.Paths as paths
use Rattle.tk_path.specs.Views.{configuration_of}
use Rattle.tk_path.proofs.drawer.Drawer.run_path.Goals as goal

pub returns-clause-gives : goal.returns-clause-gives
returns-clause-gives g c ev is =
    subst (λ (e : Evaluation). Gives (λ _. configuration_of c.path.new.self no_path c.path.new.input) c.path.result
    (paths.path (given_of e c.args.self.now.state) (configuration_of c.args.self.now no_path c.args.input.now)))
    (is_evaluated ev is) c.path.ensures.gives
