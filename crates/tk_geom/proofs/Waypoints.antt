-- Waypoints, and what is left of the way to them.
use Rattle.std.proofs.Common.{◌≡◌, ℤ, pos, ◌+ℤ◌, ◌-ℤ◌, ◌*ℤ◌, int_div, unsigned_abs, ◌^◌, ◌≤◌, refl, ap, ◌∙◌, arith, SFits}
use Rattle.std.specs.Int.{w64, w128}
use Rattle.std.proofs.lemmas.Int.{to_z-of_z, ints}
use Rattle.tk_geom.specs.Segments.{waypoint_at}
use Rattle.tk_geom.proofs.Forms.{fits_64_bits}
use Rattle.tk_geom.proofs.Wrapped.{in64, in128}

-- a direction stays short where it is passed on
pub short_direction : (z : ℤ) → unsigned_abs z ≤ 2 ^ 40 → unsigned_abs (in64 z) ≤ 2 ^ 40
short_direction z le = rw (fits_64_bits z (omega arith)) le

-- the waypoint of numbers that are known by others
pub same_waypoint : (x y dx dy a b da db : ℤ) → SFits w128 x → SFits w128 y → unsigned_abs dx ≤ 2 ^ 40 → unsigned_abs dy ≤ 2 ^ 40
    → x ≡ a → y ≡ b → dx ≡ da → dy ≡ db → waypoint_at (in128 x) (in128 y) (in64 dx) (in64 dy) ≡ waypoint_at a b da db
same_waypoint x y dx dy a b da db fx fy lx ly ex ey edx edy =
    rw (to_z-of_z w128 x fx, to_z-of_z w128 y fy, fits_64_bits dx (omega arith), fits_64_bits dy (omega arith), ex, ey, edx, edy) refl

-- ---- on a line

pub way_passed_on : (z : ℤ) → unsigned_abs z ≤ 2147483646 → unsigned_abs (in64 z) ≤ 2147483646
way_passed_on z le = rw (fits_64_bits z (omega arith)) le

pub place_passed_on : (t : ℤ) → unsigned_abs t ≤ 1114112 → unsigned_abs (in64 t) ≤ 1114112
place_passed_on t le = rw (fits_64_bits t (omega arith)) le

pub way_is_short : (z : ℤ) → unsigned_abs z ≤ 2147483646 → unsigned_abs z ≤ 2 ^ 40
way_is_short z le = omega arith

-- the coordinate f of a place, taken over from r, which was computed of the way d
pub advanced_place : (f r from d way t : ℤ) → SFits w64 r → f ≡ in64 r → r ≡ from +ℤ int_div (in64 d *ℤ in64 t) (pos 65536) → d ≡ way
    → unsigned_abs d ≤ 2147483646 → unsigned_abs t ≤ 1114112 → f ≡ from +ℤ int_div (way *ℤ t) (pos 65536)
advanced_place f r from d way t fits ef er ed ld lt =
    ef
    ∙ to_z-of_z w64 r fits
    ∙ er
    ∙ ap (λ z. from +ℤ int_div (z *ℤ in64 t) (pos 65536)) (fits_64_bits d (omega arith) ∙ ed)
    ∙ ap (λ z. from +ℤ int_div (way *ℤ z) (pos 65536)) (fits_64_bits t (omega arith))

-- ---- on a curve

rest_of : (t : ℤ) → unsigned_abs t ≤ 524288 → in64 (pos 65536 -ℤ in64 t) ≡ pos 65536 -ℤ t
rest_of t le = omega (arith, ints)

-- what is left of the way, where t counts what lies behind
pub rest_is : (r t : ℤ) → r ≡ t → unsigned_abs t ≤ 524288 → in64 (pos 65536 -ℤ in64 r) ≡ pos 65536 -ℤ t
rest_is r t e le = rw e (rest_of t le)

pub rest_within : (r t : ℤ) → r ≡ t → unsigned_abs t ≤ 524288 → unsigned_abs (in64 (pos 65536 -ℤ in64 r)) ≤ 589824
rest_within r t e le = rw (rest_is r t e le) (omega (arith, ints))

pub rest_is_scaled : (r t : ℤ) → r ≡ t → unsigned_abs t ≤ 524288 → unsigned_abs (in64 (pos 65536 -ℤ in64 r)) ≤ 1073741823
rest_is_scaled r t e le = omega (arith, rest_within r t e le)

pub behind_within : (t : ℤ) → unsigned_abs t ≤ 524288 → unsigned_abs t ≤ 589824
behind_within t le = omega arith
