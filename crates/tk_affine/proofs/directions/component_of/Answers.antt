use Rattle.std.proofs.Common.{◌∙◌}
use Rattle.tk_affine.proofs.Lengths.{part_fits, part_is, part_times_fits, length_fits, part_quotient_fits}
use Rattle.tk_affine.proofs.directions.component_of.Goals as goal

pub within-requires : goal.within-requires
within-requires c = part_fits c.args.part c.args.length c.requires.some c.requires.part c.requires.most

pub overflow_mul-part : goal.overflow_mul-part
overflow_mul-part c = part_times_fits c.args.part c.args.length c.requires.part c.requires.most

pub overflow_cast-length : goal.overflow_cast-length
overflow_cast-length c = length_fits c.args.length c.requires.most

pub nonzero_div-part : goal.nonzero_div-part
nonzero_div-part c = part_quotient_fits c.args.part c.args.length c.requires.some c.requires.part c.requires.most

pub returns : goal.returns
returns c = c.within.ensures ∙ part_is c.args.part c.args.length c.requires.some c.requires.part c.requires.most
