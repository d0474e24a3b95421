use Rattle.std.proofs.Common.{◌∙◌}
use Rattle.tk_geom.proofs.Turns.{turn_fits, turn_within, angle_sum_fits, angle_fits, angle_is}
use Rattle.tk_geom.proofs.arcs.angle_at.Goals as goal

pub overflow_sub-to : goal.overflow_sub-to
overflow_sub-to c = turn_fits c.sp-from.result c.sp-to.result c.sp-from.ensures.range c.sp-to.ensures.range

pub parts_of-requires-clause-turn : goal.parts_of-requires-clause-turn
parts_of-requires-clause-turn c = turn_within c.sp-from.result c.sp-to.result c.sp-from.ensures.range c.sp-to.ensures.range

pub overflow_add-from : goal.overflow_add-from
overflow_add-from c =
    angle_sum_fits c.sp-from.result c.sp-to.result c.parts_of.result c.args.i c.args.n c.sp-from.ensures.range c.sp-to.ensures.range c.requires.within
    c.parts_of.ensures

pub within-requires : goal.within-requires
within-requires c =
    angle_fits c.sp-from.result c.sp-to.result c.parts_of.result c.args.i c.args.n c.sp-from.ensures.range c.sp-to.ensures.range c.requires.within
    c.parts_of.ensures

pub returns : goal.returns
returns c =
    c.within.ensures
    ∙ angle_is c.sp-from.result c.sp-to.result c.parts_of.result c.args.i c.args.n c.sp-from.ensures.range c.sp-to.ensures.range c.requires.within
    c.parts_of.ensures _ _ c.sp-from.ensures.value c.sp-to.ensures.value
