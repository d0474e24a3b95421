use Rattle.std.proofs.Common.{◌∙◌}
use Rattle.tk_geom.proofs.Waypoints.{short_direction, same_waypoint, way_passed_on, place_passed_on, way_is_short, advanced_place}
use Rattle.tk_geom.proofs.segments.on_line.Goals as goal

pub advanced-x-requires-clause-way : goal.advanced-x-requires-clause-way
advanced-x-requires-clause-way c = way_passed_on c.difference-dx.result c.difference-dx.ensures.within

pub advanced-x-requires-clause-t : goal.advanced-x-requires-clause-t
advanced-x-requires-clause-t c = place_passed_on c.args.t c.requires

pub advanced-y-requires-clause-way : goal.advanced-y-requires-clause-way
advanced-y-requires-clause-way c = way_passed_on c.difference-dy.result c.difference-dy.ensures.within

pub advanced-y-requires-clause-t : goal.advanced-y-requires-clause-t
advanced-y-requires-clause-t c = place_passed_on c.args.t c.requires

pub waypoint_at-requires-clause-dx : goal.waypoint_at-requires-clause-dx
waypoint_at-requires-clause-dx c = short_direction c.difference-dx.result (way_is_short c.difference-dx.result c.difference-dx.ensures.within)

pub waypoint_at-requires-clause-dy : goal.waypoint_at-requires-clause-dy
waypoint_at-requires-clause-dy c = short_direction c.difference-dy.result (way_is_short c.difference-dy.result c.difference-dy.ensures.within)

pub returns-clause-value : goal.returns-clause-value
returns-clause-value c =
    c.waypoint_at.ensures.value
    ∙ same_waypoint c.from.result c.from-2.result c.difference-dx.result c.difference-dy.result _ _ _ _ (record { sfits = c.from.type_inv })
    (record { sfits = c.from-2.type_inv }) (way_is_short c.difference-dx.result c.difference-dx.ensures.within)
    (way_is_short c.difference-dy.result c.difference-dy.ensures.within)
    (advanced_place c.from.result c.advanced-x.result c.args.p.now.x c.difference-dx.result _ c.args.t (record { sfits = c.advanced-x.type_inv })
    c.from.ensures c.advanced-x.ensures c.difference-dx.ensures.value c.difference-dx.ensures.within c.requires)
    (advanced_place c.from-2.result c.advanced-y.result c.args.p.now.y c.difference-dy.result _ c.args.t (record { sfits = c.advanced-y.type_inv })
    c.from-2.ensures c.advanced-y.ensures c.difference-dy.ensures.value c.difference-dy.ensures.within c.requires)
    c.difference-dx.ensures.value c.difference-dy.ensures.value
