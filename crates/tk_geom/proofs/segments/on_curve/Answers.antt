use Rattle.std.proofs.Common.{◌∙◌, ap, sym, subst, unsigned_abs, ◌≤◌}
use Rattle.tk_geom.specs.Segments.{waypoint_at, cubic, heading}
use Rattle.tk_geom.proofs.Waypoints.{rest_is, rest_within, rest_is_scaled, behind_within}
use Rattle.tk_geom.proofs.segments.on_curve.Goals as goal

pub within-requires : goal.within-requires
within-requires c = rest_is_scaled c.sp.result c.args.t c.sp.ensures.value c.requires

pub on_axes-requires-clause-u : goal.on_axes-requires-clause-u
on_axes-requires-clause-u c =
    subst (λ z. unsigned_abs z ≤ 589824) (sym c.within.ensures) (rest_within c.sp.result c.args.t c.sp.ensures.value c.requires)

pub on_axes-requires-clause-t : goal.on_axes-requires-clause-t
on_axes-requires-clause-t c = behind_within c.args.t c.requires

pub returns-clause-value : goal.returns-clause-value
returns-clause-value c =
    c.on_axes.ensures.value
    ∙ ap (λ u. waypoint_at
    (cubic u c.args.t c.args.a.now.x c.args.b.now.x c.args.c.now.x c.args.d.now.x)
    (cubic u c.args.t c.args.a.now.y c.args.b.now.y c.args.c.now.y c.args.d.now.y)
    (heading u c.args.t c.args.a.now.x c.args.b.now.x c.args.c.now.x c.args.d.now.x)
    (heading u c.args.t c.args.a.now.y c.args.b.now.y c.args.c.now.y c.args.d.now.y))
    (c.within.ensures ∙ rest_is c.sp.result c.args.t c.sp.ensures.value c.requires)
