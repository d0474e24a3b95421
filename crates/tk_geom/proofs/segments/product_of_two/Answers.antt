use Rattle.tk_geom.proofs.Forms.{product_of_two_fits, product_of_two_is, product_of_two_within}
use Rattle.tk_geom.proofs.segments.product_of_two.Goals as goal

pub overflow_mul-result : goal.overflow_mul-result
overflow_mul-result c = product_of_two_fits c.sp.result c.sp-2.result c.sp.ensures.range c.sp-2.ensures.range

pub returns-clause-value : goal.returns-clause-value
returns-clause-value c =
    product_of_two_is c.sp.result c.sp-2.result c.args.x c.args.y c.sp.ensures.value c.sp-2.ensures.value c.requires.x c.requires.y

pub returns-clause-within : goal.returns-clause-within
returns-clause-within c =
    product_of_two_within c.sp.result c.sp-2.result c.args.x c.args.y c.sp.ensures.value c.sp-2.ensures.value c.requires.x c.requires.y
