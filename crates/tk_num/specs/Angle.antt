-- Sine, cosine and tangent of degrees, from a table.
use Rattle.std.specs.Prelude.{ℕ, ◌+◌, ◌-◌, ◌*◌, ◌/◌, ◌%◌, nat_lt, nat_le, if◌then◌else◌, List, [], ◌∷◌, slice_index}
use Rattle.std.specs.Prelude.{Result, ℤ, pos, neg_ℤ, ◌+ℤ◌, unsigned_abs}
use Rattle.std.specs.Int.{int_rem_euclid}
use Rattle.tk_num.specs.Number.{one, quotient}
use Rattle.tk_num.specs.declared.NumFault.{NumFault}

-- the sines of 0 to 90 degrees, in 65536ths
unfoldable pub sines : List ℕ
sines =
    0 ∷ 1144 ∷ 2287 ∷ 3430 ∷ 4572 ∷ 5712 ∷ 6850 ∷ 7987 ∷ 9121 ∷ 10252 ∷
    11380 ∷ 12505 ∷ 13626 ∷ 14742 ∷ 15855 ∷ 16962 ∷ 18064 ∷ 19161 ∷ 20252 ∷ 21336 ∷
    22415 ∷ 23486 ∷ 24550 ∷ 25607 ∷ 26656 ∷ 27697 ∷ 28729 ∷ 29753 ∷ 30767 ∷ 31772 ∷
    32768 ∷ 33754 ∷ 34729 ∷ 35693 ∷ 36647 ∷ 37590 ∷ 38521 ∷ 39441 ∷ 40348 ∷ 41243 ∷
    42126 ∷ 42995 ∷ 43852 ∷ 44695 ∷ 45525 ∷ 46341 ∷ 47143 ∷ 47930 ∷ 48703 ∷ 49461 ∷
    50203 ∷ 50931 ∷ 51643 ∷ 52339 ∷ 53020 ∷ 53684 ∷ 54332 ∷ 54963 ∷ 55578 ∷ 56175 ∷
    56756 ∷ 57319 ∷ 57865 ∷ 58393 ∷ 58903 ∷ 59396 ∷ 59870 ∷ 60326 ∷ 60764 ∷ 61183 ∷
    61584 ∷ 61966 ∷ 62328 ∷ 62672 ∷ 62997 ∷ 63303 ∷ 63589 ∷ 63856 ∷ 64104 ∷ 64332 ∷
    64540 ∷ 64729 ∷ 64898 ∷ 65048 ∷ 65177 ∷ 65287 ∷ 65376 ∷ 65446 ∷ 65496 ∷ 65526 ∷
    65536 ∷ []

-- n degrees, in 65536ths
abbrev pub degrees : ℕ → ℕ
degrees n = one * n

-- the sine up to 90 degrees, on the straight line between two whole degrees, cut downward
abbrev pub quarter_sine : ℕ → ℕ
quarter_sine a =
    slice_index sines (a / one)
    + (slice_index sines (a / one + 1) - slice_index sines (a / one)) * (a % one) / one

-- the sine up to 180 degrees: past 90 it is that of 180 minus the angle
abbrev pub half_sine : ℕ → ℕ
half_sine a = if nat_le a (degrees 90) then quarter_sine a else quarter_sine (degrees 180 - a)

-- the sine below 360 degrees: from 180 on it is the negative of that of the angle minus 180
abbrev pub turn_sine : ℕ → ℤ
turn_sine a = if nat_lt a (degrees 180) then pos (half_sine a) else neg_ℤ (pos (half_sine (a - degrees 180)))

-- the sine of any angle, reduced by whole turns
abbrev pub sine : ℤ → ℤ
sine angle = turn_sine (unsigned_abs (int_rem_euclid angle (pos (degrees 360))))

-- the cosine of any angle: the sine of the angle and 90 degrees
abbrev pub cosine : ℤ → ℤ
cosine angle = sine (angle +ℤ pos (degrees 90))

-- the tangent of any angle: the quotient of sine and cosine
abbrev pub tangent : ℤ → Result ℤ NumFault
tangent angle = quotient (sine angle) (cosine angle)
