use Rattle.std.proofs.Common.{◌≡◌, ◌∙◌, ap, pos, ◌-ℤ◌, ◌*ℤ◌, true, false, int_lt, arith, refl, sym}
use Rattle.std.specs.Int.{w64}
use Rattle.std.proofs.lemmas.Int.{to_z-of_z, ints}
use Rattle.tk_geom.specs.Segments.{on_line}
use Rattle.tk_geom.proofs.Wrapped.{in64}
use Rattle.tk_geom.proofs.segments.on_corner.Goals as goal

pub returns-then-t-lt32768-clause-value : goal.returns-then-t-lt32768-clause-value
returns-then-t-lt32768-clause-value c =
    let twice : in64 (pos 2 *ℤ in64 c.args.t) ≡ pos 2 *ℤ c.args.t = omega (arith, ints) in
    let test : int_lt c.args.t (pos 32768) ≡ true = ap (λ z. int_lt z (pos 32768)) (sym (to_z-of_z w64 c.args.t c.ranges.t)) ∙ c.if-t-lt32768.true in
    c.on_line.ensures.value ∙ ap (on_line c.args.p.now c.args.corner.now) twice ∙ rw test refl

pub returns-else-t-lt32768-clause-value : goal.returns-else-t-lt32768-clause-value
returns-else-t-lt32768-clause-value c =
    let twice : in64 (in64 (pos 2 *ℤ in64 c.args.t) -ℤ pos 65536) ≡ pos 2 *ℤ c.args.t -ℤ pos 65536 = omega (arith, ints) in
    let test : int_lt c.args.t (pos 32768) ≡ false = ap (λ z. int_lt z (pos 32768)) (sym (to_z-of_z w64 c.args.t c.ranges.t))
    ∙ c.if-t-lt32768.false in
    c.on_line-else-t-lt32768.ensures.value ∙ ap (on_line c.args.corner.now c.args.q.now) twice ∙ rw test refl
