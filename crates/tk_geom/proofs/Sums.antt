-- Sums of points and vectors.
use Rattle.std.proofs.Common.{◌≡◌, ℤ, ◌+ℤ◌, ◌-ℤ◌, unsigned_abs, ◌+◌, ◌≤◌, ap, ◌∙◌, arith}
use Rattle.std.proofs.lemmas.Int.{ints}
use Rattle.tk_affine.proofs.Wide.{sum_bound, difference_bound}
use Rattle.tk_geom.specs.Pieces.{xy}
use Rattle.tk_geom.proofs.Wrapped.{in64}

pub same_xy : (x y a b : ℤ) → x ≡ a → y ≡ b → xy x y ≡ xy a b
same_xy x y a b e h = ap (λ z. xy z y) e ∙ ap (λ z. xy a z) h

sum_fits : (a b : ℤ) → unsigned_abs a ≤ 8589934592 → unsigned_abs b ≤ 1073741823 → in64 (in64 a +ℤ in64 b) ≡ a +ℤ b
sum_fits a b la lb = omega (arith, ints)

-- a sum of numbers that are known by others
pub sum_is : (x y a b : ℤ) → x ≡ a → y ≡ b → unsigned_abs a ≤ 8589934592 → unsigned_abs y ≤ 1073741823 → in64 (in64 x +ℤ in64 y) ≡ a +ℤ b
sum_is x y a b e h la ly = ap (λ z. in64 (in64 z +ℤ in64 y)) e ∙ sum_fits a y la ly ∙ ap (λ z. a +ℤ z) h

-- how large it is
pub sum_within : (x y a : ℤ) → x ≡ a → unsigned_abs a ≤ 8589934592 → unsigned_abs y ≤ 1073741823
    → unsigned_abs (in64 (in64 x +ℤ in64 y)) ≤ unsigned_abs a + 1073741823
sum_within x y a e la ly = rw (e, sum_fits a y la ly) (omega (arith, sum_bound a y, ly))

difference_fits : (a b : ℤ) → unsigned_abs a ≤ 8589934592 → unsigned_abs b ≤ 1073741823 → in64 (in64 a -ℤ in64 b) ≡ a -ℤ b
difference_fits a b la lb = omega (arith, ints)

-- a difference of numbers that are known by others
pub difference_is : (x y a b : ℤ) → x ≡ a → y ≡ b → unsigned_abs a ≤ 8589934592 → unsigned_abs y ≤ 1073741823 → in64 (in64 x -ℤ in64 y) ≡ a -ℤ b
difference_is x y a b e h la ly =
    ap (λ z. in64 (in64 z -ℤ in64 y)) e ∙ difference_fits a y la ly ∙ ap (λ z. a -ℤ z) h

-- how large it is
pub difference_within : (x y a : ℤ) → x ≡ a → unsigned_abs a ≤ 8589934592 → unsigned_abs y ≤ 1073741823
    → unsigned_abs (in64 (in64 x -ℤ in64 y)) ≤ unsigned_abs a + 1073741823
difference_within x y a e la ly = rw (e, difference_fits a y la ly) (omega (arith, difference_bound a y, ly))

-- what is near enough that a vector may be added
pub near_enough : (z : ℤ) → unsigned_abs z ≤ 2147483646 → unsigned_abs z ≤ 8589934592
near_enough z le = omega arith

pub near_enough_moved : (r z : ℤ) → unsigned_abs r ≤ unsigned_abs z + 1073741823 → unsigned_abs z ≤ 2147483646 → unsigned_abs r ≤ 8589934592
near_enough_moved r z moved le = omega arith
