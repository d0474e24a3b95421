use Rattle.std.proofs.Common.{subst}
use Rattle.tk_token.specs.Refusals.{Gives}
use Rattle.tk_affine.specs.declared.Anchor.{Anchor}
use Rattle.tk_expr.specs.Evaluates.{Evaluation}
use Rattle.tk_expr.proofs.Evaluations.{is_evaluated}
use Rattle.tk_look.specs.Values as spec
use Rattle.tk_look.proofs.values.anchor_in_text.Goals as goal

pub returns : goal.returns
returns c ev is =
    subst (λ (ev : Evaluation). Gives (λ (anchor : Anchor). anchor) c.anchor_by_machine.result (spec.anchor_in_text c.args.at ev c.args.font
    c.args.list.now)) (is_evaluated ev is) c.anchor_by_machine.ensures
