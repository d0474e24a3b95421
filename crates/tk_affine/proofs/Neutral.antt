-- What moves nothing.
use Rattle.std.proofs.Common.{◌≡◌, ℤ, pos, ◌+ℤ◌, ◌-ℤ◌, ◌*ℤ◌, int_div, unsigned_abs, leb, true, refl, ◌∙◌, arith, Ok}
use Rattle.std.proofs.lemmas.Bool.{le-leb}
use Rattle.std.proofs.lemmas.Int.{ints}
use Rattle.tk_num.specs.Number.{IsScaled}
use Rattle.tk_item.specs.declared.Point.{Point}
use Rattle.tk_affine.specs.declared.Matrix.{Matrix}
use Rattle.tk_affine.specs.Images.{IsPoint, point_at, image, vector_image}
use Rattle.tk_affine.specs.Inverses.{inverse_image, corner_of}
use Rattle.tk_affine.specs.Steps.{IsMatrix, composed, unmoved}
use Rattle.tk_affine.proofs.Wide.{same_point}

pub point_is : (x y a b : ℤ) → x ≡ a → y ≡ b → IsScaled a → IsScaled b → point_at x y ≡ Ok (record { x = a; y = b })
point_is x y a b e h la lb =
    let ta : leb (unsigned_abs a) 1073741823 ≡ true = le-leb (unsigned_abs a) 1073741823 la in
    let tb : leb (unsigned_abs b) 1073741823 ≡ true = le-leb (unsigned_abs b) 1073741823 lb in
    same_point x y a b e h ∙ rw (ta, tb) refl

-- one of two parts alone counts
first_cut : (x y : ℤ) → int_div (pos 65536 *ℤ x +ℤ pos 0 *ℤ y) (pos 65536) ≡ x
first_cut x y = omega (arith, ints)

second_cut : (x y : ℤ) → int_div (pos 0 *ℤ x +ℤ pos 65536 *ℤ y) (pos 65536) ≡ y
second_cut x y = omega (arith, ints)

first_kept : (x y : ℤ) → int_div (x *ℤ pos 65536 +ℤ y *ℤ pos 0) (pos 65536) ≡ x
first_kept x y = omega (arith, ints)

second_kept : (x y : ℤ) → int_div (x *ℤ pos 0 +ℤ y *ℤ pos 65536) (pos 65536) ≡ y
second_kept x y = omega (arith, ints)

none_kept : (x y z : ℤ) → int_div (x *ℤ pos 0 +ℤ y *ℤ pos 0) (pos 65536) +ℤ z ≡ z
none_kept x y z = omega (arith, ints)

first_back : (x y : ℤ) → int_div (pos 65536 *ℤ (pos 65536 *ℤ (x -ℤ pos 0) -ℤ pos 0 *ℤ (y -ℤ pos 0))) (pos 4294967296) ≡ x
first_back x y = omega (arith, ints)

across_first : (a b x y : ℤ) → a +ℤ int_div (pos 65536 *ℤ (pos 65536 *ℤ (x -ℤ a) -ℤ pos 0 *ℤ (y -ℤ b))) (pos 4294967296) ≡ x
across_first a b x y = omega (arith, ints)

not_across : (a b x y : ℤ) → b +ℤ int_div (pos 0 *ℤ (pos 65536 *ℤ (x -ℤ a) -ℤ pos 0 *ℤ (y -ℤ b))) (pos 4294967296) ≡ b
not_across a b x y = omega (arith, ints)

shifted_none : (x y : ℤ) → x ≡ y → x +ℤ pos 0 ≡ y
shifted_none x y e = omega (arith, ints)

pub vector_stays : (p : Point) → IsPoint p → vector_image unmoved p ≡ Ok p
unfolding vector_image
vector_stays p h = point_is _ _ p.x p.y (first_cut p.x p.y) (second_cut p.x p.y) h.x h.y

pub point_stays : (p : Point) → IsPoint p → image unmoved p ≡ Ok p
unfolding image
point_stays p h = point_is _ _ p.x p.y (shifted_none _ _ (first_cut p.x p.y)) (shifted_none _ _ (second_cut p.x p.y)) h.x h.y

pub inverse_stays : (p : Point) → IsPoint p → inverse_image unmoved p ≡ Ok p
unfolding inverse_image
inverse_stays p h = point_is _ _ p.x p.y (first_back p.x p.y) (first_back p.y p.x) h.x h.y

pub corner_is : (p q : Point) → IsPoint p → IsPoint q → corner_of unmoved p q ≡ Ok (record { x = q.x; y = p.y })
unfolding corner_of
corner_is p q h k = point_is _ _ q.x p.y (across_first p.x p.y q.x q.y) (not_across p.x p.y q.x q.y) k.x h.y

first_column : (m : Matrix) → IsMatrix m → vector_image m (record { x = pos 65536; y = pos 0 }) ≡ Ok (record { x = m.a; y = m.b })
unfolding vector_image
first_column m h = point_is _ _ m.a m.b (first_kept m.a m.c) (first_kept m.b m.d) h.a h.b

second_column : (m : Matrix) → IsMatrix m → vector_image m (record { x = pos 0; y = pos 65536 }) ≡ Ok (record { x = m.c; y = m.d })
unfolding vector_image
second_column m h = point_is _ _ m.c m.d (second_kept m.a m.c) (second_kept m.b m.d) h.c h.d

pub origin_shifted : (m : Matrix) → IsMatrix m → image m (record { x = pos 0; y = pos 0 }) ≡ Ok (record { x = m.tx; y = m.ty })
unfolding image
origin_shifted m h = point_is _ _ m.tx m.ty (none_kept m.a m.c m.tx) (none_kept m.b m.d m.ty) h.tx h.ty

pub neutral_before : (m : Matrix) → IsMatrix m → composed m unmoved ≡ Ok m
unfolding composed
neutral_before m h = rw (first_column m h, second_column m h, origin_shifted m h) refl

pub neutral_behind : (m : Matrix) → IsMatrix m → composed unmoved m ≡ Ok m
unfolding composed
neutral_behind m h =
    rw (
      vector_stays (record { x = m.a; y = m.b }) (record { x = h.a; y = h.b }),
      vector_stays (record { x = m.c; y = m.d }) (record { x = h.c; y = h.d }),
      point_stays (record { x = m.tx; y = m.ty }) (record { x = h.tx; y = h.ty }),
    )
    refl
