use Rattle.std.proofs.Common.{◌≡◌, ◌∷◌, List, drop, subst, arith}
use Rattle.tk_expr.specs.declared.machine.OpenFrame.{OpenFrame}
use Rattle.tk_expr.specs.declared.machine.OpenFrame.TheVariants.{Else}
use Rattle.tk_expr.proofs.Stacks.{top_is}
use Rattle.tk_expr.proofs.frames.Frames.choice.Goals as goal

pub returns-in-Else : goal.returns-in-Else
returns-in-Else c =
    let top = top_is c.self.inside.stack c.self.inside.len _ _ (omega arith) (omega arith) c.in-Else.is in
    subst (λ (v : List OpenFrame). v ≡ Else c.in-Else.condition c.in-Else.first ∷ drop 1 v) c.self.view_is top
