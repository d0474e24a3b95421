use Rattle.tk_geom.proofs.Forms.{way_fits, part_fits, advanced_fits, advanced_is}
use Rattle.tk_geom.proofs.segments.advanced.Goals as goal

pub overflow_mul-result : goal.overflow_mul-result
overflow_mul-result c = way_fits c.sp.result c.args.from c.args.way c.args.t c.sp.ensures.value c.sp.ensures.range c.requires.way c.requires.t

pub nonzero_div-result : goal.nonzero_div-result
nonzero_div-result c = part_fits c.sp.result c.args.from c.args.way c.args.t c.sp.ensures.value c.sp.ensures.range c.requires.way c.requires.t

pub overflow_add-result : goal.overflow_add-result
overflow_add-result c = advanced_fits c.sp.result c.args.from c.args.way c.args.t c.sp.ensures.value c.sp.ensures.range c.requires.way c.requires.t

pub returns : goal.returns
returns c = advanced_is c.sp.result c.args.from c.args.way c.args.t c.sp.ensures.value c.sp.ensures.range c.requires.way c.requires.t
