use Rattle.std.proofs.Common.{ap}
use Rattle.tk_item.specs.declared.Point.{Point}
use Rattle.tk_geom.proofs.Sums.{same_xy, sum_is, sum_within}
use Rattle.tk_geom.proofs.places.Place.plus.Goals as goal

pub returns-clause-value : goal.returns-clause-value
returns-clause-value c =
    same_xy _ _ _ _
    (sum_is c.self.inside.x c.sp.result _ _ (ap (λ (p : Point). p.x) c.self.view_is) c.sp.ensures.value c.requires.x c.sp.ensures.range)
    (sum_is c.self.inside.y c.sp-2.result _ _ (ap (λ (p : Point). p.y) c.self.view_is) c.sp-2.ensures.value c.requires.y c.sp-2.ensures.range)

pub returns-clause-x : goal.returns-clause-x
returns-clause-x c = sum_within c.self.inside.x c.sp.result _ (ap (λ (p : Point). p.x) c.self.view_is) c.requires.x c.sp.ensures.range

pub returns-clause-y : goal.returns-clause-y
returns-clause-y c = sum_within c.self.inside.y c.sp-2.result _ (ap (λ (p : Point). p.y) c.self.view_is) c.requires.y c.sp-2.ensures.range
