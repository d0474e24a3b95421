use Rattle.tk_geom.proofs.Forms.{two_fit, three_fit, four_fit, four_over_fits, cubic_is}
use Rattle.tk_geom.proofs.segments.cubic.Goals as goal

pub overflow_add-result : goal.overflow_add-result
overflow_add-result c = two_fit c.cubic_term-first.result c.cubic_term-second.result c.cubic_term-first.ensures.most c.cubic_term-second.ensures.most

pub overflow_add-result-2 : goal.overflow_add-result-2
overflow_add-result-2 c =
    three_fit c.cubic_term-first.result c.cubic_term-second.result c.cubic_term-third.result c.cubic_term-first.ensures.most c.cubic_term-second.ensures.most
    c.cubic_term-third.ensures.most

pub overflow_add-result-3 : goal.overflow_add-result-3
overflow_add-result-3 c =
    four_fit c.cubic_term-first.result c.cubic_term-second.result c.cubic_term-third.result c.cubic_term-fourth.result
    c.cubic_term-first.ensures.most c.cubic_term-second.ensures.most c.cubic_term-third.ensures.most c.cubic_term-fourth.ensures.most

pub nonzero_div-result : goal.nonzero_div-result
nonzero_div-result c =
    four_over_fits c.cubic_term-first.result c.cubic_term-second.result c.cubic_term-third.result c.cubic_term-fourth.result
    c.cubic_term-first.ensures.most c.cubic_term-second.ensures.most c.cubic_term-third.ensures.most c.cubic_term-fourth.ensures.most

pub returns : goal.returns
returns c =
    let axis = c.args.axis.now in
    cubic_is c.cubic_term-first.result c.cubic_term-second.result c.cubic_term-third.result c.cubic_term-fourth.result
    c.args.u c.args.t axis.a axis.b axis.c axis.d
    c.cubic_term-first.ensures.most c.cubic_term-second.ensures.most c.cubic_term-third.ensures.most c.cubic_term-fourth.ensures.most
    c.cubic_term-first.ensures.value c.cubic_term-second.ensures.value c.cubic_term-third.ensures.value c.cubic_term-fourth.ensures.value
