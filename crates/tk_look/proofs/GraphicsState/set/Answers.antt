use Rattle.std.specs.Prelude.{option_copied}
use Rattle.std.proofs.Common.{subst}
use Rattle.tk_token.specs.Refusals.{Gives}
use Rattle.tk_expr.specs.Evaluates.{Evaluation}
use Rattle.tk_expr.proofs.Evaluations.{is_evaluated}
use Rattle.tk_look.specs.Graphics as spec
use Rattle.tk_look.proofs.GraphicsState.set.Goals as goal

pub returns : goal.returns
returns c ev is =
    subst (λ (ev : Evaluation). Gives (λ _. c.set_by_machine.new.self) c.set_by_machine.result (spec.graphics_by c.args.at ev c.args.font c.args.key
    c.args.name.now (option_copied c.args.value) c.args.self.now)) (is_evaluated ev is) c.set_by_machine.ensures
