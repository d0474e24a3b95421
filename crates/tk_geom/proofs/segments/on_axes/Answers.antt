use Rattle.std.proofs.Common.{◌∙◌}
use Rattle.tk_geom.proofs.Waypoints.{short_direction, same_waypoint}
use Rattle.tk_geom.proofs.segments.on_axes.Goals as goal

pub waypoint_at-requires-clause-dx : goal.waypoint_at-requires-clause-dx
waypoint_at-requires-clause-dx c = short_direction c.heading.result c.heading.ensures.short

pub waypoint_at-requires-clause-dy : goal.waypoint_at-requires-clause-dy
waypoint_at-requires-clause-dy c = short_direction c.heading-2.result c.heading-2.ensures.short

pub returns-clause-value : goal.returns-clause-value
returns-clause-value c =
    c.waypoint_at.ensures.value
    ∙ same_waypoint c.cubic.result c.cubic-2.result c.heading.result c.heading-2.result _ _ _ _ (record { sfits = c.cubic.type_inv })
    (record { sfits = c.cubic-2.type_inv }) c.heading.ensures.short c.heading-2.ensures.short c.cubic.ensures c.cubic-2.ensures
    c.heading.ensures.value c.heading-2.ensures.value
