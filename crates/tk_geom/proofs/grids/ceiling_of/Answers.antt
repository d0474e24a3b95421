use Rattle.tk_geom.proofs.Multiples.{negated_fits, negated_dividend_fits, negated_dividend_within, negated_quotient_within, still_positive, ceiling_is}
use Rattle.tk_geom.proofs.grids.ceiling_of.Goals as goal

pub overflow_sub-z : goal.overflow_sub-z
overflow_sub-z c = negated_dividend_fits c.args.z c.requires.z

pub floor_of-requires-clause-step : goal.floor_of-requires-clause-step
floor_of-requires-clause-step c = still_positive c.args.step c.ranges.step c.requires.step

pub floor_of-requires-clause-z : goal.floor_of-requires-clause-z
floor_of-requires-clause-z c = negated_dividend_within c.args.z c.requires.z

pub overflow_sub-result : goal.overflow_sub-result
overflow_sub-result c = negated_fits c.floor_of.result c.floor_of.ensures.within

pub returns-clause-value : goal.returns-clause-value
returns-clause-value c =
    ceiling_is c.floor_of.result c.args.z c.args.step c.ranges.step c.requires.z c.floor_of.ensures.within c.floor_of.ensures.value

pub returns-clause-within : goal.returns-clause-within
returns-clause-within c = negated_quotient_within c.floor_of.result c.floor_of.ensures.within
