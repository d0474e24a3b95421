use Rattle.std.proofs.Common.{◌∙◌}
use Rattle.tk_geom.proofs.Turns.{four_fit, quarter_fits, quarter_is_scaled, quarter_is, quarter_within}
use Rattle.tk_geom.proofs.arcs.quarter_of.Goals as goal

pub overflow_mul-from : goal.overflow_mul-from
overflow_mul-from c = four_fit c.args.turn c.from.result c.args.n c.from.ensures c.requires.some c.requires.few c.requires.wide

pub nonzero_div-turn : goal.nonzero_div-turn
nonzero_div-turn c = quarter_fits c.args.turn c.from.result c.args.n c.from.ensures c.requires.some c.requires.few c.requires.wide

pub within-requires : goal.within-requires
within-requires c = quarter_is_scaled c.args.turn c.from.result c.args.n c.from.ensures c.requires.some c.requires.few c.requires.wide

pub returns-clause-value : goal.returns-clause-value
returns-clause-value c =
    c.within.ensures ∙ quarter_is c.args.turn c.from.result c.args.n c.from.ensures c.requires.some c.requires.few c.requires.wide

pub returns-clause-within : goal.returns-clause-within
returns-clause-within c =
    quarter_within c.args.turn c.from.result c.args.n c.from.ensures c.requires.some c.requires.few c.requires.wide
    c.within.result c.within.ensures
