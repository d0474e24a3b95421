use Rattle.std.proofs.Common.{arith}
use Rattle.tk_num.proofs.Digits.{digit_at, bounds_at, value_more, below_pow_more, powers_of_ten_rise_to_17}
use Rattle.tk_num.proofs.decimal.short_number.Goals as goal

pub overflow_mul-value : goal.overflow_mul-value
overflow_mul-value c = let p = powers_of_ten_rise_to_17 c.loop-digit.digit-index (omega arith) in omega (arith, p, c.loop-digit.invariant.below)

pub overflow_add-value : goal.overflow_add-value
overflow_add-value c =
    let p = powers_of_ten_rise_to_17 c.loop-digit.digit-index (omega arith) in
    let b = bounds_at c.args.digits.now c.loop-digit.digit-index c.requires.digits c.loop-digit-test.true in
    omega (arith, p, b, c.loop-digit.invariant.below, c.from.ensures)

pub loop-digit-preserved : goal.loop-digit-preserved
loop-digit-preserved c =
    let d = digit_at c.args.digits.now c.loop-digit.digit-index c.requires.digits c.loop-digit-test.true in
    let b = bounds_at c.args.digits.now c.loop-digit.digit-index c.requires.digits c.loop-digit-test.true in
    let more = value_more c.args.digits.now c.loop-digit.digit-index c.loop-digit-test.true d in
    record {
      value = omega (arith, more, c.loop-digit.invariant.value, c.from.ensures);
      below =
          below_pow_more c.loop-digit.value c.loop-digit.digit-index c.from.result c.loop-digit.invariant.below (omega (arith, b, c.from.ensures));
    }
