-- Matrices that have an inverse, and what is found by it.
use Rattle.std.proofs.Common.{◌≡◌, ◌≢◌, ◌≤◌, ℕ, ℤ, pos, negsuc, ◌*ℤ◌, int_div, unsigned_abs, false, eqb, refl, sym, ap, ◌∙◌, arith, Result, Err, SFits, to_z}
use Rattle.std.proofs.Common.{of_z}
use Rattle.std.specs.Int.{w64, w128}
use Rattle.std.proofs.lemmas.Bool.Decides.{nat_tests}
use Rattle.std.proofs.lemmas.Int.{to_z-of_z, ints}
use Rattle.tk_affine.specs.declared.AffFault.{AffFault}
use Rattle.tk_affine.specs.declared.AffFault.TheVariants.{Singular}
use Rattle.tk_affine.specs.declared.Matrix.{Matrix}
use Rattle.tk_affine.specs.Inverses.{determinant, by_inverse}

not_zero : (n : ℕ) → n ≢ 0 → eqb n 0 ≡ false
not_zero n ne = grind (arith, nat_tests)

some_bits : (z : ℤ) → of_z w64 z ≢ 0 → unsigned_abs z ≢ 0
some_bits (pos n) ne e = ne e
some_bits (negsuc n) ne e = absurd (omega arith)

-- where the determinant isn't 0, what is found stands
pub found_by_inverse : {A : Type 0} (m : Matrix) (found : Result A AffFault) (whole : ℤ) → whole ≡ determinant m → of_z w64 whole ≢ 0
    → found ≡ by_inverse m found
found_by_inverse m found whole e ne =
    let some : unsigned_abs (determinant m) ≢ 0 = rw e at (some_bits whole ne) in
    sym (rw (not_zero (unsigned_abs (determinant m)) some) refl)

-- a share of numbers that were passed on in 64 bits, passed on in 128
pub share_is : (r n d r' n' d' s : ℤ) → SFits w128 s → to_z w64 (of_z w64 r) ≡ r' → to_z w64 (of_z w64 n) ≡ n' → to_z w64 (of_z w64 d) ≡ d'
    → s ≡ int_div (to_z w64 (of_z w64 r) *ℤ to_z w64 (of_z w64 n)) (to_z w64 (of_z w64 d)) → to_z w128 (of_z w128 s) ≡ int_div (r' *ℤ n') d'
share_is r n d r' n' d' s f er en ed e =
    to_z-of_z w128 s f
    ∙ e
    ∙ ap (λ z. int_div (z *ℤ to_z w64 (of_z w64 n)) (to_z w64 (of_z w64 d))) er
    ∙ ap (λ z. int_div (r' *ℤ z) (to_z w64 (of_z w64 d))) en
    ∙ ap (λ z. int_div (r' *ℤ n') z) ed

-- where it is 0, there is no inverse
no_bits : (z : ℤ) → unsigned_abs z ≤ 4611686009837453316 → of_z w64 z ≡ 0 → unsigned_abs z ≡ 0
no_bits (pos n) le e = e
no_bits (negsuc n) le e = absurd (omega (arith, ints))

pub no_inverse : {A : Type 0} (m : Matrix) (found : Result A AffFault) (whole : ℤ) → whole ≡ determinant m → unsigned_abs whole ≤ 4611686009837453316
    → of_z w64 whole ≡ 0 → Err Singular ≡ by_inverse m found
no_inverse m found whole e le none =
    let zero : unsigned_abs (determinant m) ≡ 0 = rw e at (no_bits whole le none) in
    sym (rw zero refl)

-- a determinant that isn't 0 and is passed on may divide
pub divisor_passed_on : (whole : ℤ) → SFits w64 whole → of_z w64 whole ≢ 0 → 1 ≤ unsigned_abs (to_z w64 (of_z w64 whole))
divisor_passed_on whole fits ne = rw (to_z-of_z w64 whole fits) (let some = some_bits whole ne in omega (arith, some))
