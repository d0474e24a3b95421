use Rattle.std.proofs.Common.{◌≡◌, ◌+◌, get_or, arith, sym, ◌∙◌, true}
use Rattle.std.specs.Char.{is_ascii_digit}
use Rattle.tk_num.proofs.Digits.{all_more, value_more, value_bound}
use Rattle.tk_num.proofs.decimal.whole_number.Goals as goal

pub returns-then-value-gt-MOST_WHOLE : goal.returns-then-value-gt-MOST_WHOLE
returns-then-value-gt-MOST_WHOLE c =
    let d : is_ascii_digit (get_or c.args.digits.now c.loop-digit.digit-index 0) ≡ true = sym c.is_ascii_digit.ensures.value
    ∙ c.if-not-is_ascii_digit.false in
    let more = value_more c.args.digits.now c.loop-digit.digit-index c.loop-digit-test.true d in
    let above = value_bound c.args.digits.now (c.loop-digit.digit-index + 1) 1073741823 (omega (
      arith,
      more,
      c.loop-digit.invariant.value,
      c.from.ensures,
      c.if-value-gt-MOST_WHOLE.true,
    )) in
    λ h. absurd (omega (arith, above, h.1))

pub loop-digit-preserved : goal.loop-digit-preserved
loop-digit-preserved c =
    let d : is_ascii_digit (get_or c.args.digits.now c.loop-digit.digit-index 0) ≡ true = sym c.is_ascii_digit.ensures.value
    ∙ c.if-not-is_ascii_digit.false in
    let more = value_more c.args.digits.now c.loop-digit.digit-index c.loop-digit-test.true d in
    record {
      value = omega (arith, more, c.loop-digit.invariant.value, c.from.ensures);
      digits = all_more c.args.digits.now c.loop-digit.digit-index c.loop-digit-test.true c.loop-digit.invariant.digits d;
      most = c.if-value-gt-MOST_WHOLE.false;
    }
