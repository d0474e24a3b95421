use Rattle.tk_geom.proofs.Forms.{first_terms_fit, all_terms_fit, heading_fits, heading_short, heading_is}
use Rattle.tk_geom.proofs.segments.heading.Goals as goal

pub overflow_add-result : goal.overflow_add-result
overflow_add-result c =
    first_terms_fit c.quadratic_term-first.result c.quadratic_term-second.result c.quadratic_term-third.result c.quadratic_term-first.ensures.most
    c.quadratic_term-second.ensures.most
    c.quadratic_term-third.ensures.most

pub overflow_add-result-2 : goal.overflow_add-result-2
overflow_add-result-2 c =
    all_terms_fit c.quadratic_term-first.result c.quadratic_term-second.result c.quadratic_term-third.result c.quadratic_term-first.ensures.most
    c.quadratic_term-second.ensures.most
    c.quadratic_term-third.ensures.most

pub overflow_cast-result : goal.overflow_cast-result
overflow_cast-result c =
    heading_fits c.quadratic_term-first.result c.quadratic_term-second.result c.quadratic_term-third.result c.quadratic_term-first.ensures.most
    c.quadratic_term-second.ensures.most
    c.quadratic_term-third.ensures.most

pub returns-clause-short : goal.returns-clause-short
returns-clause-short c =
    heading_short c.quadratic_term-first.result c.quadratic_term-second.result c.quadratic_term-third.result c.quadratic_term-first.ensures.most
    c.quadratic_term-second.ensures.most
    c.quadratic_term-third.ensures.most

pub returns-clause-value : goal.returns-clause-value
returns-clause-value c =
    heading_is c.quadratic_term-first.result c.quadratic_term-second.result c.quadratic_term-third.result c.quadratic_term-first.ensures.most
    c.quadratic_term-second.ensures.most
    c.quadratic_term-third.ensures.most
    c.args.u c.args.t c.args.axis.now.a c.args.axis.now.b c.args.axis.now.c c.args.axis.now.d
    c.quadratic_term-first.ensures.value c.quadratic_term-second.ensures.value c.quadratic_term-third.ensures.value
