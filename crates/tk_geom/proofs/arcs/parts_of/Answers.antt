use Rattle.std.proofs.Common.{pos, refl}
use Rattle.tk_geom.proofs.Turns.{times_fit, parts_fit, parts_are}
use Rattle.tk_geom.proofs.arcs.parts_of.Goals as goal

pub overflow_mul-result : goal.overflow_mul-result
overflow_mul-result c =
    times_fit c.args.turn c.from.result (pos c.args.n) c.args.i c.args.n c.from.ensures refl c.requires.turn c.requires.some c.requires.few
    c.requires.within

pub nonzero_div-result : goal.nonzero_div-result
nonzero_div-result c =
    parts_fit c.args.turn c.from.result c.from-2.result c.args.i c.args.n c.from.ensures c.from-2.ensures c.requires.turn c.requires.some c.requires.few
    c.requires.within

pub returns : goal.returns
returns c =
    parts_are c.args.turn c.from.result c.from-2.result c.args.i c.args.n c.from.ensures c.from-2.ensures c.requires.turn c.requires.some c.requires.few
    c.requires.within
