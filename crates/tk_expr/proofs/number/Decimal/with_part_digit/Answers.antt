use Rattle.std.proofs.Common.{ℕ, ◌<◌, ◌≤◌, ◌^◌, arith, lit<}
use Rattle.std.proofs.Math.Nat.{pow-le-pow_right}
use Rattle.tk_expr.proofs.number.Decimal.with_part_digit.Goals as goal

-- ten to a number below 17
few : (n : ℕ) → n < 17 → 10 ^ n ≤ 10000000000000000
few n lt = pow-le-pow_right {n = 10} (lit< tt) {i = n} {j = 16} (omega arith)

pub overflow_mul-result : goal.overflow_mul-result
overflow_mul-result c = let p = few c.self.inside.count (omega arith) in omega (arith, p, c.self.invariant)

pub overflow_add-result-2 : goal.overflow_add-result-2
overflow_add-result-2 c = let p = few c.self.inside.count (omega arith) in omega (arith, p, c.self.invariant, c.from.ensures)
