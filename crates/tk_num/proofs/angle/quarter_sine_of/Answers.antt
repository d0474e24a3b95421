use Rattle.std.proofs.Common.{◌≤◌, ◌-◌, ◌/◌, ◌%◌, ◌+◌, arith}
use Rattle.std.proofs.Math.Nat.{mul-le-mul_right}
use Rattle.tk_num.proofs.Sines.{sines_rise, sines_within, quarter_within}
use Rattle.tk_num.proofs.angle.quarter_sine_of.Goals as goal

pub returns-then-part-eq0-clause-within : goal.returns-then-part-eq0-clause-within
returns-then-part-eq0-clause-within c =
    let most = sines_within (c.args.angle / 65536) (omega (arith, c.requires)) in omega (arith, most, c.table_sine-low.ensures)

pub overflow_sub-rise : goal.overflow_sub-rise
overflow_sub-rise c = let rise = sines_rise (c.args.angle / 65536) (omega (arith, c.requires, c.if-part-eq0.false)) in omega
    (arith, rise, c.table_sine-low.ensures, c.table_sine.ensures)

pub overflow_mul-result : goal.overflow_mul-result
overflow_mul-result c =
    let most = sines_within (c.args.angle / 65536 + 1) (omega (arith, c.requires, c.if-part-eq0.false)) in
    let rise : c.table_sine.result - c.table_sine-low.result ≤ 65536 = omega (arith, most, c.table_sine.ensures) in
    let product = mul-le-mul_right (c.args.angle % 65536) rise in
    omega (arith, product)

pub returns-clause-within : goal.returns-clause-within
returns-clause-within c = let within = quarter_within c.args.angle (omega (arith, c.requires, c.if-part-eq0.false)) in rw (
  c.table_sine-low.ensures,
  c.table_sine.ensures,
) within
