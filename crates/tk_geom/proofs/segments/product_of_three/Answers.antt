use Rattle.tk_geom.proofs.Forms.{product_of_three_fits, product_of_three_is, product_of_three_within}
use Rattle.tk_geom.proofs.segments.product_of_three.Goals as goal

pub overflow_mul-result : goal.overflow_mul-result
overflow_mul-result c = product_of_three_fits c.product_of_two.result c.sp.result c.args.z c.sp.ensures.value c.product_of_two.ensures.within c.requires.z

pub returns-clause-value : goal.returns-clause-value
returns-clause-value c =
    product_of_three_is c.product_of_two.result c.sp.result _ c.args.z c.product_of_two.ensures.value c.sp.ensures.value c.product_of_two.ensures.within
    c.requires.z

pub returns-clause-within : goal.returns-clause-within
returns-clause-within c =
    product_of_three_within c.product_of_two.result c.sp.result c.args.z c.sp.ensures.value c.product_of_two.ensures.within c.requires.z
