use Rattle.tk_geom.proofs.Multiples.{index_fits, which_fits, multiple_fits, multiple_is}
use Rattle.tk_geom.proofs.grids.multiple_at.Goals as goal

pub overflow_cast-result : goal.overflow_cast-result
overflow_cast-result c = index_fits c.args.lines.now.first c.args.i c.requires.first c.requires.within

pub overflow_add-result : goal.overflow_add-result
overflow_add-result c = which_fits c.args.lines.now.first c.args.i c.requires.first c.requires.within

pub overflow_mul-result : goal.overflow_mul-result
overflow_mul-result c = multiple_fits c.args.lines.now.first c.args.i c.requires.first c.requires.within c.sp.result c.sp.ensures.range

pub returns : goal.returns
returns c = multiple_is c.args.lines.now.first c.args.i c.requires.first c.requires.within c.sp.result _ c.sp.ensures.value c.sp.ensures.range
