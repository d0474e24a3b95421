-- Borders lie within the halves of their nodes.
use Rattle.std.proofs.Common.{◌≡◌, ℕ, zero, suc, ℤ, pos, negsuc, neg_ℤ, ◌*ℤ◌, int_div, unsigned_abs, ◌+◌, ◌*◌, ◌/◌, ◌<◌, ◌≤◌, refl, arith, Bool, true, false}
use Rattle.std.specs.Prelude.{cond, ◌&&◌, ◌==◌, nat_lt, nat_le, int_lt}
use Rattle.std.proofs.Math.Nat.{mul-le-mul_right, div-le_of_le-mul}
use Rattle.std.proofs.lemmas.Bool.Decides.{nat_tests}
use Rattle.std.proofs.lemmas.Int.{unsigned_abs-mul}
use Rattle.tk_num.specs.Number.{IsFloorRoot}
use Rattle.tk_num.proofs.FloorRoot.{is_floor_root}
use Rattle.tk_item.specs.declared.Point.{Point}
use Rattle.tk_affine.specs.declared.Shape.TheVariants.{Rectangle, Circle}
use Rattle.tk_affine.specs.Inverses.{signed_by}
use Rattle.tk_affine.specs.Directions.{whole_length}
use Rattle.tk_affine.proofs.Lengths.{root_least, second_root_least}
use Rattle.tk_shape.specs.Borders.{origin, meets_side, rectangle_border, circle_border, border, IsWithin}

abs_neg : (k : ℕ) → unsigned_abs (neg_ℤ (pos k)) ≡ k
abs_neg zero = refl
abs_neg (suc k) = refl

abs_quotient : (z d : ℤ) → unsigned_abs (int_div z d) ≡ unsigned_abs z / unsigned_abs d
abs_quotient (pos a) (pos b) = refl
abs_quotient (pos a) (negsuc b) = abs_neg (a / suc b)
abs_quotient (negsuc a) (pos b) = abs_neg (suc a / b)
abs_quotient (negsuc a) (negsuc b) = refl

-- a half is as long with either sign
abs_either : (b : Bool) (x : ℕ) → unsigned_abs (cond b (neg_ℤ (pos x)) (pos x)) ≡ x
abs_either true x = abs_neg x
abs_either false x = refl

abs_signed : (u : ℤ) (x : ℕ) → unsigned_abs (signed_by u (pos x)) ≡ x
abs_signed u x = abs_either (int_lt u (pos 0)) x

-- what equals a number is at most that number
as_long : (m n : ℕ) → m ≡ n → m ≤ n
as_long m n e = omega (arith, e)

-- a part of a half, whatever its sign, is within a length if that many of the whole is
part_within : (h n d : ℤ) (x y : ℕ) → unsigned_abs h ≡ x → x * unsigned_abs n ≤ unsigned_abs d * y → unsigned_abs (int_div (h *ℤ n) d) ≤ y
part_within h n d x y e le =
    let most : unsigned_abs h * unsigned_abs n ≤ unsigned_abs d * y = rw e le in
    rw (abs_quotient (h *ℤ n) d, unsigned_abs-mul h n)
    (div-le_of_le-mul (unsigned_abs d) {m = unsigned_abs h * unsigned_abs n} {n = y} most)

meets : (x y m n : ℕ) → (nat_lt 0 m && nat_le (x * n) (y * m)) ≡ true → x * n ≤ m * y
meets x y m n e = let le : x * n ≤ y * m = grind (arith, nat_tests) in omega (arith, le)

misses : (x y m n : ℕ) → (nat_lt 0 m && nat_le (x * n) (y * m)) ≡ false → y * m ≤ n * x
misses x y zero n e = omega arith
misses x y (suc m) n e = let lt : y * suc m < x * n = grind (arith, nat_tests) in omega (arith, lt)

-- the branches of a rectangle's border
at_side : (x y : ℕ) (u v : ℤ) → meets_side (pos x) (pos y) u v ≡ true
    → IsWithin x y (record { x = signed_by u (pos x); y = int_div (signed_by u (pos x) *ℤ v) u })
at_side x y u v e = record {
  across = as_long _ _ (abs_signed u x);
  upward = part_within (signed_by u (pos x)) v u x y (abs_signed u x) (meets x y (unsigned_abs u) (unsigned_abs v) e);
}

at_middle : (x y : ℕ) (u : ℤ) → IsWithin x y (record { x = signed_by u (pos x); y = pos 0 })
at_middle x y u = record { across = as_long _ _ (abs_signed u x); upward = omega arith }

at_top : (x y : ℕ) (u v : ℤ) → meets_side (pos x) (pos y) u v ≡ false
    → IsWithin x y (record { x = int_div (signed_by v (pos y) *ℤ u) v; y = signed_by v (pos y) })
at_top x y u v e = record {
  across = part_within (signed_by v (pos y)) u v y x (abs_signed v y) (misses x y (unsigned_abs u) (unsigned_abs v) e);
  upward = as_long _ _ (abs_signed v y);
}

rectangle_by : (x y : ℕ) (u v : ℤ) (b c : Bool) → meets_side (pos x) (pos y) u v ≡ b
    → IsWithin x y (cond b (record { x = signed_by u (pos x); y = int_div (signed_by u (pos x) *ℤ v) u })
    (cond c (record { x = signed_by u (pos x); y = pos 0 })
    (record { x = int_div (signed_by v (pos y) *ℤ u) v; y = signed_by v (pos y) })))
rectangle_by x y u v true c e = at_side x y u v e
rectangle_by x y u v false true e = at_middle x y u
rectangle_by x y u v false false e = at_top x y u v e

rectangle_border_within : (x y : ℕ) (u v : ℤ) → IsWithin x y (rectangle_border (pos x) (pos y) u v)
rectangle_border_within x y u v = rectangle_by x y u v (meets_side (pos x) (pos y) u v) (unsigned_abs v == 0) refl

-- that many of a radius is at most that much of the length
within_length : (x m n : ℕ) → m ≤ n → x * m ≤ n * x
within_length x m n le = let more = mul-le-mul_right x le in omega (arith, more)

circle_border_within : (x : ℕ) (u v : ℤ) → IsWithin x x (circle_border (pos x) u v)
circle_border_within x u v =
    let root : IsFloorRoot (unsigned_abs u * unsigned_abs u + unsigned_abs v * unsigned_abs v) (whole_length u v) = is_floor_root _ in
    record {
      across = part_within (pos x) u (pos (whole_length u v)) x x refl
          (within_length x (unsigned_abs u) (whole_length u v) (root_least _ _ _ root.next));
      upward = part_within (pos x) v (pos (whole_length u v)) x x refl
          (within_length x (unsigned_abs v) (whole_length u v) (second_root_least _ _ _ root.next));
    }

-- the centre, which is where a ray toward (0,0) leads
or_centre : (b : Bool) (x y : ℕ) (p : Point) → IsWithin x y p → IsWithin x y (cond b origin p)
or_centre true x y p h = record { across = omega arith; upward = omega arith }
or_centre false x y p h = h

pub rectangle_within : (x y : ℕ) (u v : ℤ) → IsWithin x y (border Rectangle (pos x) (pos y) u v)
unfolding border
rectangle_within x y u v = or_centre (unsigned_abs u + unsigned_abs v == 0) x y _ (rectangle_border_within x y u v)

pub circle_within : (x y : ℕ) (u v : ℤ) → IsWithin x x (border Circle (pos x) (pos y) u v)
unfolding border
circle_within x y u v = or_centre (unsigned_abs u + unsigned_abs v == 0) x x _ (circle_border_within x u v)
