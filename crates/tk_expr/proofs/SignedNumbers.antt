-- Numbers below 0, and from 0 on.
use Rattle.std.proofs.Common.{◌≡◌, ℕ, zero, suc, ◌/◌, ℤ, pos, negsuc, neg_ℤ, unsigned_abs, Bool, true, false, Ok, Err}
use Rattle.std.proofs.Common.{refl, subst, add-one, arith, to_z, of_z}
use Rattle.std.specs.Prelude.{if◌then◌else◌, nat_le}
use Rattle.std.specs.Int.Signed.{lt_z}
use Rattle.std.specs.Int.{w64}
use Rattle.std.proofs.lemmas.Int.{to_z-of_z, fits_signed_from_abs}
use borrow.Author.Tests.{ltb-true}
use Rattle.tk_num.specs.Number.{IsScaled, scaled}
use Rattle.tk_num.specs.declared.NumFault.{NumFault}
use Rattle.tk_num.specs.declared.NumFault.TheVariants.{TooLarge}
use Rattle.tk_num.specs.declared.unit.Unit.{Unit}
use Rattle.tk_expr.specs.declared.FontUnits.{FontUnits}
use Rattle.tk_expr.specs.Values.{power, inverse, whole_power, in_unit, unit_length}

-- a number in range fits in 64 bits
pub bits_of_scaled : (z : ℤ) → IsScaled z → to_z w64 (of_z w64 z) ≡ z
bits_of_scaled z small = to_z-of_z w64 z (fits_signed_from_abs w64 z (omega arith))

-- ---- powers

-- a negative exponent
pub power_below_zero : (x y : ℤ) (n : ℕ) → n ≡ unsigned_abs y → lt_z y (pos 0) ≡ true → whole_power x y ≡ inverse (power x (n / 65536))
power_below_zero x (pos k) n e below = absurd (omega (arith, ltb-true k 0 below))
power_below_zero x (negsuc k) n e below = rw (e, add-one) refl

-- any other exponent
pub power_from_zero : (x y : ℤ) (n : ℕ) → n ≡ unsigned_abs y → lt_z y (pos 0) ≡ false → whole_power x y ≡ power x (n / 65536)
power_from_zero x (pos k) n e above = rw e refl
power_from_zero x (negsuc k) n e above = cc

-- ---- the other sign

same_size : (z : ℤ) → unsigned_abs (neg_ℤ z) ≡ unsigned_abs z
same_size (pos zero) = refl
same_size (pos (suc n)) = refl
same_size (negsuc n) = refl

negated_choice : (b : Bool) (z s : ℤ) → Ok s ≡ (if b then Ok z else Err TooLarge) → Ok (neg_ℤ s) ≡ (if b then Ok (neg_ℤ z) else Err TooLarge)
negated_choice true z s e = cc
negated_choice false z s e = cc

negated_fault : (b : Bool) (z : ℤ) (f : NumFault) → Err f ≡ (if b then Ok z else Err TooLarge) → Err f ≡ (if b then Ok (neg_ℤ z) else Err TooLarge)
negated_fault true z f e = cc
negated_fault false z f e = e

-- a number in range is so with the other sign
pub scaled_negated : (z s : ℤ) → Ok s ≡ scaled z → Ok (neg_ℤ s) ≡ scaled (neg_ℤ z)
scaled_negated z s e = rw (same_size z) (negated_choice (nat_le (unsigned_abs z) 1073741823) z s e)

-- one out of range isn't
scaled_negated_fails : (z : ℤ) (f : NumFault) → Err f ≡ scaled z → Err f ≡ scaled (neg_ℤ z)
scaled_negated_fails z f e = rw (same_size z) (negated_fault (nat_le (unsigned_abs z) 1073741823) z f e)

-- ---- units

-- a negative number in a unit
pub in_unit_below_zero : (font : FontUnits) (unit : Unit) (x : ℤ) (n : ℕ) → n ≡ unsigned_abs x → lt_z x (pos 0) ≡ true
    → in_unit font unit x ≡ scaled (neg_ℤ (unit_length font unit n))
in_unit_below_zero font unit (pos k) n e below = absurd (omega (arith, ltb-true k 0 below))
in_unit_below_zero font unit (negsuc k) n e below = rw (e, add-one) refl

-- any other
pub in_unit_from_zero : (font : FontUnits) (unit : Unit) (x : ℤ) (n : ℕ) → n ≡ unsigned_abs x → lt_z x (pos 0) ≡ false
    → in_unit font unit x ≡ scaled (unit_length font unit n)
in_unit_from_zero font unit (pos k) n e above = rw e refl
in_unit_from_zero font unit (negsuc k) n e above = cc

-- a size out of range
pub in_unit_fails : (font : FontUnits) (unit : Unit) (x : ℤ) (n : ℕ) (f : NumFault) → n ≡ unsigned_abs x → Err f ≡ scaled (unit_length font unit n)
    → Err f ≡ in_unit font unit x
in_unit_fails font unit (pos k) n f e fails = subst (λ m. Err f ≡ scaled (unit_length font unit m)) e fails
in_unit_fails font unit (negsuc k) n f e fails =
    rw add-one (scaled_negated_fails _ f (subst (λ m. Err f ≡ scaled (unit_length font unit m)) e fails))
