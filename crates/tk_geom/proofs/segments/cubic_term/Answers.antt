use Rattle.tk_geom.proofs.Forms.{times_fits, far_enough, term_fits, term_is, cubic_term_within}
use Rattle.tk_geom.proofs.segments.cubic_term.Goals as goal

pub overflow_mul-times : goal.overflow_mul-times
overflow_mul-times c = times_fits c.args.times c.product_of_three.result c.requires.times c.product_of_three.ensures.within

pub overflow_mul-result : goal.overflow_mul-result
overflow_mul-result c =
    term_fits c.from.result c.from-2.result c.args.times c.product_of_three.result c.sp.result c.from.ensures c.from-2.ensures c.requires.times
    c.product_of_three.ensures.within (far_enough c.sp.result c.sp.ensures.range)

pub returns-clause-value : goal.returns-clause-value
returns-clause-value c =
    term_is c.from.result c.from-2.result c.args.times c.product_of_three.result c.sp.result c.from.ensures c.from-2.ensures c.requires.times
    c.product_of_three.ensures.within (far_enough c.sp.result c.sp.ensures.range) _ _ c.product_of_three.ensures.value c.sp.ensures.value

pub returns-clause-most : goal.returns-clause-most
returns-clause-most c =
    cubic_term_within c.from.result c.from-2.result c.args.times c.product_of_three.result c.sp.result c.from.ensures c.from-2.ensures c.requires.times
    c.product_of_three.ensures.within (far_enough c.sp.result c.sp.ensures.range)
