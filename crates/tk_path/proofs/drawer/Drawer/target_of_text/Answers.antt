use Rattle.std.proofs.Common.{subst}
use Rattle.tk_coord.specs.Coordinates.{target_of}
use Rattle.tk_coord.specs.declared.TextTarget.{TextTarget}
use Rattle.tk_expr.specs.declared.FontUnits.{FontUnits}
use Rattle.tk_expr.specs.Evaluated.{evaluated}
use Rattle.tk_expr.proofs.Runs.{evaluated_is_the_answer}
use Rattle.tk_look.specs.declared.GraphicsState.{GraphicsState}
use Rattle.tk_token.specs.Refusals.{Gives}
use Rattle.tk_path.proofs.drawer.Drawer.target_of_text.Goals as goal

-- the look, the matrix and the units of the font are those of the state
pub returns : goal.returns
returns c =
    subst (λ (g : GraphicsState). Gives (λ (target : TextTarget). target) c.resolve.result
    (target_of evaluated c.args.self.now.state.font g.look g.matrix c.args.at c.args.from c.args.text.now)) c.graphics-graphics.ensures
    (subst (λ (font : FontUnits). Gives (λ (target : TextTarget). target) c.resolve.result
    (target_of evaluated font c.graphics-graphics.result.now.look c.graphics-graphics.result.now.matrix c.args.at c.args.from c.args.text.now))
    c.font_units.ensures (c.resolve.ensures.gives evaluated evaluated_is_the_answer))
