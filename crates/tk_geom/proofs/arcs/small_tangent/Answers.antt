use Rattle.std.proofs.Common.{◌≡◌, subst, unsigned_abs, ◌≤◌}
use Rattle.tk_geom.proofs.Tangents.{tangent_there}
use Rattle.tk_geom.proofs.arcs.small_tangent.Goals as goal

pub unreachable-requires : goal.unreachable-requires
unreachable-requires c = let there = (tangent_there c.args.angle c.requires).1 in cc (there, c.tan.ensures, c.in-Err.is)

pub returns-clause-within : goal.returns-clause-within
returns-clause-within c =
    let there = tangent_there c.args.angle c.requires in
    let same : there.0 ≡ c.in-Ok.tangent = cc (there.1, c.tan.ensures, c.in-Ok.is) in
    subst (λ z. unsigned_abs z ≤ 32768) same there.2
