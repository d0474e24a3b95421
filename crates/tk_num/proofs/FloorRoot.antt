-- The root that is cut downward.
use Rattle.std.proofs.Common.{◌≡◌, ℕ, zero, suc, ◌+◌, ◌*◌, ◌<◌, ◌≤◌, Bool, true, false, leb, cond, refl, ap, arith, inl, inr, ℤ, pos, negsuc}
use Rattle.std.proofs.Common.{unsigned_abs, Ok}
use Rattle.std.proofs.lemmas.Bool.{cases_lt, leb-true, leb-false, le-leb}
use Rattle.std.specs.Int.Signed.{lt_z}
use Rattle.std.proofs.Math.Nat.{mul-le-mul_left, mul-le-mul_right}
use Rattle.tk_num.specs.Number.{floor_root, IsFloorRoot, IsScaled, scaled, square_root}

floor_root_grows : (n r : ℕ) (b : Bool) → leb ((r + 1) * (r + 1)) (suc n) ≡ b → IsFloorRoot n r → IsFloorRoot (suc n) (cond b (r + 1) r)
floor_root_grows n r true e h = let le : (r + 1) * (r + 1) ≤ suc n = leb-true _ _ e in record { within = le; next = omega (arith, h.next) }
floor_root_grows n r false e h = let lt : suc n < (r + 1) * (r + 1) = leb-false _ _ e in record { within = omega (arith, h.within); next = lt }

pub is_floor_root : (n : ℕ) → IsFloorRoot n (floor_root n)
unfolding floor_root
is_floor_root zero = record { within = omega arith; next = omega arith }
is_floor_root (suc n) = floor_root_grows n (floor_root n) (leb ((floor_root n + 1) * (floor_root n + 1)) (suc n)) refl (is_floor_root n)

square_more : (a b : ℕ) → a ≤ b → a * a ≤ b * b
square_more a b le = let l = mul-le-mul_left a le in let r = mul-le-mul_right b le in omega (arith, l, r)

not_above : (n r s : ℕ) → IsFloorRoot n r → IsFloorRoot n s → r ≤ s
not_above n r s h k =
    elim (cases_lt s r) [
      | inl lt ↦ absurd (let m = square_more (s + 1) r (omega arith) in omega (arith, m, h.within, k.next))
      | inr ge ↦ ge
    ]

pub only_root : (n r : ℕ) → IsFloorRoot n r → r ≡ floor_root n
only_root n r h = let a = not_above n r (floor_root n) h (is_floor_root n) in let b = not_above n (floor_root n) r (is_floor_root n) h in omega arith

root_small : (n r : ℕ) → n ≤ 1073741823 → IsFloorRoot (n * 65536) r → r ≤ 8388608
root_small n r le h =
    elim (cases_lt 8388608 r) [
      | inl lt ↦ absurd (let m = square_more 8388609 r (omega arith) in omega (arith, m, h.within))
      | inr ge ↦ ge
    ]

pub root_is : (x : ℤ) (r : ℕ) → IsScaled x → lt_z x (pos 0) ≡ false → IsFloorRoot (unsigned_abs x * 65536) r → scaled (pos r) ≡ square_root x
root_is (pos n) r small positive h =
    let few = root_small n r small h in
    let yes : leb r 1073741823 ≡ true = le-leb r 1073741823 (omega arith) in
    rw yes (ap (λ k. Ok (pos k)) (only_root (n * 65536) r h))
root_is (negsuc n) r small positive h = absurd (cc)
