use Rattle.std.proofs.Common.{◌≡◌, ◌∙◌, ap, pos, ◌-ℤ◌, ◌*ℤ◌, int_div, ◌*◌}
use Rattle.std.specs.Int.{w64}
use Rattle.std.proofs.lemmas.Int.{to_z-of_z}
use Rattle.tk_geom.specs.Arcs.{small_tangent}
use Rattle.tk_geom.proofs.Turns.{turn_passed_on, four_times_fit, four_thirds_fit, four_thirds_are, four_thirds_are_scaled, four_thirds_within}
use Rattle.tk_geom.proofs.arcs.control_ratio.Goals as goal

pub returns-clause-value : goal.returns-clause-value
returns-clause-value c =
    let quarter : c.quarter_of.result ≡ int_div (c.args.b -ℤ c.args.a) (pos (4 * c.args.n)) =
    c.quarter_of.ensures.value
    ∙ ap (λ z. int_div z (pos (4 * c.args.n))) (to_z-of_z w64 c.difference.result (record { sfits = c.difference.type_inv })
    ∙ c.difference.ensures.value) in
    c.within.ensures
    ∙ four_thirds_are c.sp.result c.small_tangent-tangent.result c.sp.ensures.value c.small_tangent-tangent.ensures.within
    ∙ ap (λ z. int_div (pos 4 *ℤ z) (pos 3)) (c.small_tangent-tangent.ensures.value ∙ ap small_tangent quarter)

pub quarter_of-requires-clause-some : goal.quarter_of-requires-clause-some
quarter_of-requires-clause-some c = c.requires.some

pub quarter_of-requires-clause-few : goal.quarter_of-requires-clause-few
quarter_of-requires-clause-few c = c.requires.few

pub quarter_of-requires-clause-wide : goal.quarter_of-requires-clause-wide
quarter_of-requires-clause-wide c =
    turn_passed_on c.difference.result c.args.b c.args.a _ (record { sfits = c.difference.type_inv }) c.difference.ensures.value c.requires.wide

pub small_tangent-tangent-requires : goal.small_tangent-tangent-requires
small_tangent-tangent-requires c = c.quarter_of.ensures.within

pub overflow_mul-sp : goal.overflow_mul-sp
overflow_mul-sp c = four_times_fit c.sp.result c.small_tangent-tangent.result c.sp.ensures.value c.small_tangent-tangent.ensures.within

pub nonzero_div-sp : goal.nonzero_div-sp
nonzero_div-sp c = four_thirds_fit c.sp.result c.small_tangent-tangent.result c.sp.ensures.value c.small_tangent-tangent.ensures.within

pub within-requires : goal.within-requires
within-requires c = four_thirds_are_scaled c.sp.result c.small_tangent-tangent.result c.sp.ensures.value c.small_tangent-tangent.ensures.within

pub returns-clause-within : goal.returns-clause-within
returns-clause-within c =
    four_thirds_within c.sp.result c.small_tangent-tangent.result c.sp.ensures.value c.small_tangent-tangent.ensures.within
    c.within.result c.within.ensures
