-- Parts of lengths that are passed on.
use Rattle.std.proofs.Common.{◌≡◌, ◌∙◌, ap, ℕ, ℤ, pos, ◌+◌, ◌*ℤ◌, ◌≤◌, int_div, unsigned_abs, SFits, to_z, of_z, arith}
use Rattle.std.specs.Int.{w64, w128}
use Rattle.std.proofs.lemmas.Int.{to_z-of_z, to_z_pos}
use Rattle.tk_affine.specs.Directions.{whole_length}

-- the length of a vector that was passed on is that of the vector, also where it is passed on itself
pub length_is : (n : ℕ) (x y u v : ℤ) → x ≡ u → y ≡ v → n ≡ whole_length x y → n ≤ unsigned_abs x + unsigned_abs y
    → unsigned_abs u ≤ 4611686009837453316 → unsigned_abs v ≤ 4611686009837453316 → to_z w64 n ≡ pos (whole_length u v)
length_is n x y u v ex ey e most lu lv =
    let small : n ≤ unsigned_abs u + unsigned_abs v = rw (ex, ey) at most in
    let same : n ≡ whole_length u v = rw (ex, ey) at e in
    to_z_pos w64 n (omega (arith, small, lu, lv)) ∙ ap pos same

-- a quotient of numbers that were passed on, passed on itself
pub part_is : (r n d r' n' d' s : ℤ) → SFits w128 s → r ≡ r' → n ≡ n' → d ≡ d' → s ≡ int_div (r *ℤ n) d
    → to_z w128 (of_z w128 s) ≡ int_div (r' *ℤ n') d'
part_is r n d r' n' d' s f er en ed e =
    to_z-of_z w128 s f
    ∙ e
    ∙ ap (λ z. int_div (z *ℤ n) d) er
    ∙ ap (λ z. int_div (r' *ℤ z) d) en
    ∙ ap (λ z. int_div (r' *ℤ n') z) ed
