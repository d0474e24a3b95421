-- The ends of a span, moved a hundredth of a step further out, as they are computed.
use Rattle.std.proofs.Common.{◌≡◌, ℤ, pos, ◌+ℤ◌, ◌-ℤ◌, int_div, unsigned_abs, ◌<◌, ◌≤◌, ◌<ℤ◌, sym, subst, ◌∙◌, arith, SFits}
use Rattle.std.specs.Int.{w64}
use Rattle.std.proofs.lemmas.Int.{fits_signed_from_abs}
use Rattle.tk_num.specs.Number.{IsScaled}
use Rattle.tk_affine.proofs.Wide.{sum_bound, difference_bound, fits_scaled}
use Rattle.tk_geom.proofs.Forms.{fits_64_bits}
use Rattle.tk_geom.proofs.Quotients.{abs_quotient}
use Rattle.tk_geom.proofs.Wrapped.{in64}

module _ (s : ℤ) (ls : IsScaled s) where
  edge_within : unsigned_abs (int_div s (pos 100)) ≤ 10737418
  edge_within = omega (arith, abs_quotient s 100)

  edge_is : in64 (int_div (in64 s) (pos 100)) ≡ int_div s (pos 100)
  edge_is = rw (fits_scaled s ls) (fits_64_bits (int_div s (pos 100)) (omega (arith, edge_within)))

  pub edge_fits : (0 < 100) × SFits w64 (int_div (in64 s) (pos 100))
  edge_fits =
      let positive : 0 < 100 = omega arith in
      rw (fits_scaled s ls) (positive, fits_signed_from_abs w64 (int_div s (pos 100)) (omega (arith, edge_within)))

  pub still_a_step : (step : ℤ) → s ≡ step → pos 0 <ℤ step → pos 0 <ℤ in64 s
  still_a_step step e lt = subst (λ z. pos 0 <ℤ z) (sym (fits_scaled s ls ∙ e)) lt

  -- below the number x
  below_within : (x : ℤ) → IsScaled x → unsigned_abs (x -ℤ int_div s (pos 100)) ≤ 1084479241
  below_within x lx = omega (arith, difference_bound x (int_div s (pos 100)), edge_within)

  pub below_fits : (x : ℤ) → IsScaled x → SFits w64 (in64 x -ℤ in64 (int_div (in64 s) (pos 100)))
  below_fits x lx =
      rw (edge_is, fits_scaled x lx) (fits_signed_from_abs w64 (x -ℤ int_div s (pos 100)) (omega (arith, below_within x lx)))

  pub below_is : (x : ℤ) → IsScaled x → in64 (in64 x -ℤ in64 (int_div (in64 s) (pos 100))) ≡ x -ℤ int_div s (pos 100)
  below_is x lx = rw (edge_is, fits_scaled x lx) (fits_64_bits (x -ℤ int_div s (pos 100)) (omega (arith, below_within x lx)))

  pub below_is_near : (x : ℤ) → IsScaled x → unsigned_abs (in64 (in64 x -ℤ in64 (int_div (in64 s) (pos 100)))) ≤ 1084479241
  below_is_near x lx = rw (below_is x lx) (below_within x lx)

  -- above it
  above_within : (x : ℤ) → IsScaled x → unsigned_abs (x +ℤ int_div s (pos 100)) ≤ 1084479241
  above_within x lx = omega (arith, sum_bound x (int_div s (pos 100)), edge_within)

  pub above_fits : (x : ℤ) → IsScaled x → SFits w64 (in64 x +ℤ in64 (int_div (in64 s) (pos 100)))
  above_fits x lx =
      rw (edge_is, fits_scaled x lx) (fits_signed_from_abs w64 (x +ℤ int_div s (pos 100)) (omega (arith, above_within x lx)))

  pub above_is : (x : ℤ) → IsScaled x → in64 (in64 x +ℤ in64 (int_div (in64 s) (pos 100))) ≡ x +ℤ int_div s (pos 100)
  above_is x lx = rw (edge_is, fits_scaled x lx) (fits_64_bits (x +ℤ int_div s (pos 100)) (omega (arith, above_within x lx)))

  pub above_is_near : (x : ℤ) → IsScaled x → unsigned_abs (in64 (in64 x +ℤ in64 (int_div (in64 s) (pos 100)))) ≤ 1084479241
  above_is_near x lx = rw (above_is x lx) (above_within x lx)

-- a quotient that is passed on
pub quotient_is : (z : ℤ) → unsigned_abs z ≤ 1084479242 → in64 z ≡ z
quotient_is z le = fits_64_bits z (omega arith)

pub quotient_is_near : (z : ℤ) → unsigned_abs z ≤ 1084479242 → unsigned_abs (in64 z) ≤ 1084479242
quotient_is_near z le = rw (quotient_is z le) le
