use Rattle.std.specs.Prelude.{option_copied}
use Rattle.std.proofs.Common.{subst}
use Rattle.tk_token.specs.Refusals.{Gives}
use Rattle.tk_expr.specs.Evaluates.{Evaluation}
use Rattle.tk_expr.proofs.Evaluations.{is_evaluated}
use Rattle.tk_look.specs.Applied as spec
use Rattle.tk_look.proofs.keys.apply.Goals as goal

pub returns : goal.returns
returns c ev is =
    subst (λ (ev : Evaluation). Gives (λ steps. spec.stepping c.apply.new.self steps.items) c.apply.result (spec.native_applied c.args.at ev
    c.args.font c.args.key c.args.name.now (option_copied c.args.value) c.args.look.now)) (is_evaluated ev is) c.apply.ensures
