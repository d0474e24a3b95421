use Rattle.tk_geom.proofs.Forms.{few_times_fits, quadratic_term_fits, quadratic_term_is, quadratic_term_within}
use Rattle.tk_geom.proofs.segments.quadratic_term.Goals as goal

pub overflow_mul-times : goal.overflow_mul-times
overflow_mul-times c = few_times_fits c.args.times c.product_of_two.result c.requires.times c.product_of_two.ensures.within

pub overflow_mul-result : goal.overflow_mul-result
overflow_mul-result c =
    quadratic_term_fits c.from.result c.from-2.result c.args.times c.product_of_two.result c.difference.result c.from.ensures c.from-2.ensures c.requires.times
    c.product_of_two.ensures.within c.difference.ensures.within

pub returns-clause-value : goal.returns-clause-value
returns-clause-value c =
    quadratic_term_is c.from.result c.from-2.result c.args.times c.product_of_two.result c.difference.result c.from.ensures c.from-2.ensures c.requires.times
    c.product_of_two.ensures.within c.difference.ensures.within _ _
    c.product_of_two.ensures.value c.difference.ensures.value

pub returns-clause-most : goal.returns-clause-most
returns-clause-most c =
    quadratic_term_within c.from.result c.from-2.result c.args.times c.product_of_two.result c.difference.result c.from.ensures c.from-2.ensures
    c.requires.times
    c.product_of_two.ensures.within c.difference.ensures.within
