use Rattle.std.proofs.Common.{subst}
use Rattle.tk_token.specs.Refusals.{Gives}
use Rattle.tk_expr.specs.Evaluates.{Evaluation}
use Rattle.tk_expr.proofs.Evaluations.{is_evaluated}
use Rattle.tk_coord.specs.declared.TextTarget.{TextTarget}
use Rattle.tk_coord.specs.Coordinates.{target_of}
use Rattle.tk_coord.proofs.points.resolve.Goals as goal

-- what the machine gives is what each evaluation gives
pub returns : goal.returns
returns c = record {
  gives = λ ev is.
      subst (λ (ev : Evaluation).
      Gives (λ (target : TextTarget). target) c.target.result
      (target_of ev c.args.font c.args.look.now c.args.matrix c.args.at c.args.from c.args.list.now))
      (is_evaluated ev is) c.target.ensures;
}
