use Rattle.std.proofs.Common.{◌^◌, ◌<◌, ◌≤◌, sym, subst, arith}
use Rattle.tk_num.proofs.Digits.{length_of_first, nearest_is_small}
use Rattle.tk_num.proofs.decimal.fraction.Goals as goal

pub nearest_65536th-requires-clause-below : goal.nearest_65536th-requires-clause-below
nearest_65536th-requires-clause-below c =
    let count = length_of_first c.min-count.result 17 c.args.digits.now c.min-count.ensures in
    let below = subst (λ k. c.short_number.result < 10 ^ k) count c.short_number.ensures.below in
    omega (arith, below)

pub returns-clause-most : goal.returns-clause-most
returns-clause-most c =
    let count = length_of_first c.min-count.result 17 c.args.digits.now c.min-count.ensures in
    let below = subst (λ k. c.short_number.result < 10 ^ k) count c.short_number.ensures.below in
    subst (λ n. n ≤ 65536) (sym c.nearest_65536th.ensures.value) (nearest_is_small c.min-count.result c.short_number.result below)
