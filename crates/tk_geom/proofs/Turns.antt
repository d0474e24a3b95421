-- Parts of turns, which stay in range.
use Rattle.std.proofs.Common.{◌≡◌, ℕ, zero, suc, ℤ, pos, negsuc, neg_ℤ, ◌+ℤ◌, ◌-ℤ◌, ◌*ℤ◌, int_div, unsigned_abs, ◌*◌, ◌/◌, ◌<◌, ◌≤◌, refl, ap}
use Rattle.std.proofs.Common.{◌∙◌, arith, SFits, of_z}
use Rattle.std.specs.Int.{w64}
use Rattle.std.proofs.lemmas.Int.{ints, to_z-of_z, fits_signed_from_abs}
use Rattle.std.proofs.Math.Nat.{mul-le-mul_left, mul-div_left, div-le_of_le-mul, div-le_self}
use Rattle.tk_num.specs.Number.{IsScaled}
use Rattle.tk_num.specs.Angle.{degrees}
use Rattle.tk_affine.proofs.Wide.{difference_bound, fits_scaled, product_bound, quotient_bound, wrapped_product}
use Rattle.tk_geom.specs.Arcs.{angle_at}
use Rattle.tk_geom.proofs.Forms.{fits_64_bits, product_fits}
use Rattle.tk_geom.proofs.Quotients.{abs_quotient}
use Rattle.tk_geom.proofs.Wrapped.{in64}

-- the quotient of a number that isn't positive
quotient_of_neg : (m n : ℕ) → int_div (neg_ℤ (pos m)) (pos n) ≡ neg_ℤ (pos (m / n))
quotient_of_neg zero n = let e : zero / n ≡ zero = omega (arith, div-le_self 0 n) in rw e refl
quotient_of_neg (suc m) n = refl

part_most : (t i n : ℕ) → i ≤ n → t * i / n ≤ t
part_most t i n le = div-le_of_le-mul n {m = t * i} {n = t} (let m = mul-le-mul_left t le in omega (arith, m))

-- a number and a part of the way to another lie no further out than the two
between_from : (a b z : ℤ) (i n : ℕ) → IsScaled a → IsScaled b → z ≡ b -ℤ a → i ≤ n → IsScaled (a +ℤ int_div (z *ℤ pos i) (pos n))
between_from a b (pos t) i n la lb e le = let m = part_most t i n le in omega (arith, ints)
between_from a b (negsuc t) i n la lb e le =
    let m = part_most (suc t) i n le in
    rw (quotient_of_neg (suc t * i) n) (omega (arith, ints))

pub angle_between_is_scaled : (a b : ℤ) (i n : ℕ) → IsScaled a → IsScaled b → i ≤ n → IsScaled (a +ℤ int_div ((b -ℤ a) *ℤ pos i) (pos n))
angle_between_is_scaled a b i n la lb le = between_from a b (b -ℤ a) i n la lb refl le

-- all n of n parts are the whole
whole_of : (z : ℤ) (n : ℕ) → 1 ≤ n → int_div (z *ℤ pos n) (pos n) ≡ z
whole_of (pos t) n some = ap pos (mul-div_left t {n = n} some)
whole_of (negsuc t) n some = quotient_of_neg (suc t * n) n ∙ ap (λ k. neg_ℤ (pos k)) (mul-div_left (suc t) {n = n} some)

pub angle_at-last : (a b : ℤ) (n : ℕ) → 1 ≤ n → angle_at a b n n ≡ b
angle_at-last a b n some = let e = whole_of (b -ℤ a) n some in omega (arith, ints, e)

-- i of n parts of a turn, as they are computed of the numbers f and g
module _ (turn f g : ℤ) (i n : ℕ) (ef : f ≡ pos i) (eg : g ≡ pos n)
    (lt : unsigned_abs turn ≤ 2147483646) (some : 1 ≤ n) (few : n ≤ 365) (li : i ≤ n) where
  times_is : in64 (in64 turn *ℤ in64 f) ≡ turn *ℤ pos i
  times_is = rw ef (wrapped_product turn (pos i) 2147483646 365 lt (omega arith) (omega arith) (omega arith) (omega arith))

  pub times_fit : SFits w64 (in64 turn *ℤ in64 f)
  times_fit = rw ef (product_fits turn (pos i) 2147483646 365 lt (omega arith) (omega arith) (omega arith) (omega arith))

  count_is : in64 g ≡ pos n
  count_is = rw eg (fits_64_bits (pos n) (omega arith))

  parts_within : unsigned_abs (int_div (turn *ℤ pos i) (pos n)) ≤ 783831530790
  parts_within =
      let most = product_bound turn (pos i) 2147483646 365 lt (omega arith) in
      omega (arith, most, quotient_bound (turn *ℤ pos i) (pos n))

  pub parts_fit : (0 < of_z w64 g) × SFits w64 (int_div (in64 (in64 turn *ℤ in64 f)) (in64 g))
  parts_fit =
      let positive : 0 < of_z w64 g = rw eg (omega (arith, ints)) in
      rw (times_is, count_is) (positive, fits_signed_from_abs w64 (int_div (turn *ℤ pos i) (pos n)) (omega (arith, parts_within)))

  pub parts_are : in64 (int_div (in64 (in64 turn *ℤ in64 f)) (in64 g)) ≡ int_div (turn *ℤ pos i) (pos n)
  parts_are = rw (times_is, count_is) (fits_64_bits (int_div (turn *ℤ pos i) (pos n)) (omega (arith, parts_within)))

-- a quarter of one of n parts of a turn, as it is computed of the number f
module _ (turn f : ℤ) (n : ℕ) (ef : f ≡ pos n) (some : 1 ≤ n) (few : n ≤ 365) (wide : unsigned_abs turn ≤ degrees 90 * n) where
  four_is : in64 (pos 4 *ℤ in64 f) ≡ pos (4 * n)
  four_is = rw (ef, fits_64_bits (pos n) (omega arith)) (fits_64_bits (pos (4 * n)) (omega arith))

  same_turn : in64 turn ≡ turn
  same_turn = fits_64_bits turn (omega arith)

  quotient_within : unsigned_abs (int_div turn (pos (4 * n))) ≤ 1474560
  quotient_within =
      let most = div-le_of_le-mul (4 * n) {m = unsigned_abs turn} {n = 1474560} (omega arith) in
      omega (arith, abs_quotient turn (4 * n), most)

  pub four_fit : SFits w64 (pos 4 *ℤ in64 f)
  four_fit = rw (ef, fits_64_bits (pos n) (omega arith)) (fits_signed_from_abs w64 (pos (4 * n)) (omega arith))

  pub quarter_fits : (0 < of_z w64 (pos 4 *ℤ in64 f)) × SFits w64 (int_div (in64 turn) (in64 (pos 4 *ℤ in64 f)))
  quarter_fits =
      let positive : 0 < of_z w64 (pos 4 *ℤ in64 f) = rw (ef, fits_64_bits (pos n) (omega arith)) (omega (arith, ints)) in
      rw (same_turn, four_is) (positive, fits_signed_from_abs w64 (int_div turn (pos (4 * n))) (omega (arith, quotient_within)))

  pub quarter_is : in64 (int_div (in64 turn) (in64 (pos 4 *ℤ in64 f))) ≡ int_div turn (pos (4 * n))
  quarter_is = rw (same_turn, four_is) (fits_64_bits (int_div turn (pos (4 * n))) (omega (arith, quotient_within)))

  pub quarter_within : (q : ℤ) → q ≡ in64 (int_div (in64 turn) (in64 (pos 4 *ℤ in64 f))) → unsigned_abs q ≤ 1474560
  quarter_within q e = rw (e, quarter_is) quotient_within

  pub quarter_is_scaled : IsScaled (in64 (int_div (in64 turn) (in64 (pos 4 *ℤ in64 f))))
  quarter_is_scaled = omega (arith, quarter_within (in64 (int_div (in64 turn) (in64 (pos 4 *ℤ in64 f)))) refl)

-- the turn between two angles
turn_is_difference : (x y : ℤ) → IsScaled x → IsScaled y → in64 y -ℤ in64 x ≡ y -ℤ x
turn_is_difference x y lx ly = ap (λ z. z -ℤ in64 x) (fits_scaled y ly) ∙ ap (λ z. y -ℤ z) (fits_scaled x lx)

difference_within : (x y : ℤ) → IsScaled x → IsScaled y → unsigned_abs (y -ℤ x) ≤ 2147483646
difference_within x y lx ly = omega (arith, difference_bound y x)

pub turn_fits : (x y : ℤ) → IsScaled x → IsScaled y → SFits w64 (in64 y -ℤ in64 x)
turn_fits x y lx ly =
    rw (turn_is_difference x y lx ly) (fits_signed_from_abs w64 (y -ℤ x) (omega (arith, difference_within x y lx ly)))

pub turn_is : (x y : ℤ) → IsScaled x → IsScaled y → in64 (in64 y -ℤ in64 x) ≡ y -ℤ x
turn_is x y lx ly = ap in64 (turn_is_difference x y lx ly) ∙ fits_64_bits (y -ℤ x) (omega (arith, difference_within x y lx ly))

pub turn_within : (x y : ℤ) → IsScaled x → IsScaled y → unsigned_abs (in64 (in64 y -ℤ in64 x)) ≤ 2147483646
turn_within x y lx ly = rw (turn_is x y lx ly) (difference_within x y lx ly)

-- the angle of a piece, as it is computed of the angles x and y of the arc
module _ (x y q : ℤ) (i n : ℕ) (lx : IsScaled x) (ly : IsScaled y) (le : i ≤ n)
    (eq : q ≡ int_div (in64 (in64 y -ℤ in64 x) *ℤ pos i) (pos n)) where
  part_is : q ≡ int_div ((y -ℤ x) *ℤ pos i) (pos n)
  part_is = eq ∙ ap (λ z. int_div (z *ℤ pos i) (pos n)) (turn_is x y lx ly)

  angle_is_scaled : IsScaled (x +ℤ q)
  angle_is_scaled = rw part_is (angle_between_is_scaled x y i n lx ly le)

  part_within : unsigned_abs q ≤ 2147483646
  part_within = omega (arith, ints, angle_is_scaled)

  sum_is : in64 x +ℤ in64 q ≡ x +ℤ q
  sum_is = ap (λ z. z +ℤ in64 q) (fits_scaled x lx) ∙ ap (λ z. x +ℤ z) (fits_64_bits q (omega (arith, part_within)))

  pub angle_sum_fits : SFits w64 (in64 x +ℤ in64 q)
  angle_sum_fits = rw sum_is (fits_signed_from_abs w64 (x +ℤ q) (omega (arith, angle_is_scaled)))

  wrapped_sum_is : in64 (in64 x +ℤ in64 q) ≡ x +ℤ q
  wrapped_sum_is = ap in64 sum_is ∙ fits_scaled (x +ℤ q) angle_is_scaled

  pub angle_fits : IsScaled (in64 (in64 x +ℤ in64 q))
  angle_fits = rw wrapped_sum_is angle_is_scaled

  pub angle_is : (a b : ℤ) → x ≡ a → y ≡ b → in64 (in64 x +ℤ in64 q) ≡ angle_at a b n i
  angle_is a b e h =
      wrapped_sum_is
      ∙ ap (λ z. x +ℤ z) part_is
      ∙ ap (λ z. z +ℤ int_div ((y -ℤ z) *ℤ pos i) (pos n)) e
      ∙ ap (λ z. a +ℤ int_div ((z -ℤ a) *ℤ pos i) (pos n)) h

-- four thirds of a small number z, as they are computed of x
module _ (x z : ℤ) (e : x ≡ z) (small : unsigned_abs z ≤ 32768) where
  four_times : pos 4 *ℤ in64 x ≡ pos 4 *ℤ z
  four_times = rw e (ap (λ y. pos 4 *ℤ y) (fits_64_bits z (omega arith)))

  four_times_within : unsigned_abs (pos 4 *ℤ z) ≤ 131072
  four_times_within = product_bound (pos 4) z 4 32768 (omega arith) small

  thirds_within : unsigned_abs (int_div (pos 4 *ℤ z) (pos 3)) ≤ 65536
  thirds_within = omega (arith, abs_quotient (pos 4 *ℤ z) 3, four_times_within)

  pub four_times_fit : SFits w64 (pos 4 *ℤ in64 x)
  four_times_fit = rw four_times (fits_signed_from_abs w64 (pos 4 *ℤ z) (omega (arith, four_times_within)))

  wrapped_four_times : in64 (pos 4 *ℤ in64 x) ≡ pos 4 *ℤ z
  wrapped_four_times = rw four_times (fits_64_bits (pos 4 *ℤ z) (omega (arith, four_times_within)))

  pub four_thirds_fit : (0 < 3) × SFits w64 (int_div (in64 (pos 4 *ℤ in64 x)) (pos 3))
  four_thirds_fit =
      let positive : 0 < 3 = omega arith in
      rw wrapped_four_times (positive, fits_signed_from_abs w64 (int_div (pos 4 *ℤ z) (pos 3)) (omega (arith, thirds_within)))

  pub four_thirds_are : in64 (int_div (in64 (pos 4 *ℤ in64 x)) (pos 3)) ≡ int_div (pos 4 *ℤ z) (pos 3)
  four_thirds_are = rw wrapped_four_times (fits_64_bits (int_div (pos 4 *ℤ z) (pos 3)) (omega (arith, thirds_within)))

  pub four_thirds_are_scaled : IsScaled (in64 (int_div (in64 (pos 4 *ℤ in64 x)) (pos 3)))
  four_thirds_are_scaled = rw four_thirds_are (omega (arith, thirds_within))

  pub four_thirds_within : (r : ℤ) → r ≡ in64 (int_div (in64 (pos 4 *ℤ in64 x)) (pos 3)) → unsigned_abs r ≤ 65536
  four_thirds_within r is = rw (is, four_thirds_are) thirds_within

-- a turn that is passed on
pub turn_passed_on : (turn b a : ℤ) (n : ℕ) → SFits w64 turn → turn ≡ b -ℤ a → unsigned_abs (b -ℤ a) ≤ n → unsigned_abs (in64 turn) ≤ n
turn_passed_on turn b a n fits is le = rw (to_z-of_z w64 turn fits, is) le
