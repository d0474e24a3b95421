-- Where the faults of a grid stand, and that no unit comes back.
use Rattle.std.specs.Prelude.{◌≡◌, ℕ, IfOk, ◌&&◌, ◌+◌, ◌≤◌, nat_lt, int_lt, if◌then◌else◌, List, [], ◌∷◌, Result, Ok, Err, ℤ, pos}
use Rattle.std.proofs.Common.{arith}
use Rattle.tk_token.specs.declared.Code.TheVariants.{Budget, Domain}
use Rattle.tk_token.specs.Answers.{Answer, ◌>>=◌, fault}
use Rattle.tk_expand.specs.Expand.{pay}
use Rattle.tk_expand.proofs.Falling.{paid_units_are_within}
use Rattle.tk_expand.proofs.Places.{Stands}
use Rattle.tk_item.specs.declared.Point.{Point}
use Rattle.tk_item.specs.declared.Seg.{Seg}
use Rattle.tk_affine.specs.declared.AffFault.{AffFault}
use Rattle.tk_affine.specs.declared.Matrix.{Matrix}
use Rattle.tk_affine.specs.Faults.{answer_at}
use Rattle.tk_geom.specs.GridLines.{GridLine, line_pieces, corners, grid_lines}
use Rattle.tk_geom.specs.Grids.{Grid, line_drawn, lines_drawn, grid_pieces}
use Rattle.tk_keys.proofs.Standing.{then_at, if_at, both_at, only_fault}

module _ (P : ℕ → Type 0) (at : ℕ) (here : P at) where
  found_stands : {A : Type 0} (found : Result A AffFault) → Stands P (λ (a : A). Unit {0}) (answer_at at found)
  found_stands (Ok a) = tt
  found_stands (Err e) = here

  -- a unit is paid, or the fault stands there
  pay_stands : (budget units : ℕ) → Stands P (λ (now : ℕ). (now ≡ units + 1) × (now ≤ budget)) (pay budget units 1 at)
  pay_stands budget units = by (pay budget units 1 at) (paid_units_are_within budget units 1 at) (if_at P (λ (n : ℕ). Unit {0})
      (nat_lt budget (units + 1)) (fault Budget at) (Ok (units + 1)) here tt)
    where
      by : (r : Answer ℕ) → IfOk r (λ now. (now ≡ units + 1) × (now ≤ budget)) → Stands P (λ (n : ℕ). Unit {0}) r
          → Stands P (λ (now : ℕ). (now ≡ units + 1) × (now ≤ budget)) r
      by (Ok n) h k = h
      by (Err e) h k = k

  line_stands : (m : Matrix) (budget units : ℕ) (line : GridLine) → Stands P (λ (g : Grid). units ≤ g.units) (line_drawn m budget at units line)
  line_stands m budget units line =
      then_at P (λ (now : ℕ). (now ≡ units + 1) × (now ≤ budget)) (λ (g : Grid). units ≤ g.units) (pay budget units 1 at) _
      (pay_stands budget units) (λ now h.
      then_at P (λ (segs : List Seg). Unit {0}) (λ (g : Grid). units ≤ g.units) (answer_at at (line_pieces m line)) _
      (found_stands (line_pieces m line)) (λ segs _. (let a = h.0 in omega arith)))

  lines_stand : (m : Matrix) (budget units : ℕ) (lines : List GridLine)
      → Stands P (λ (g : Grid). units ≤ g.units) (lines_drawn m budget at units lines)
  lines_stand m budget units [] = omega arith
  lines_stand m budget units (line ∷ lines) =
      then_at P (λ (g : Grid). units ≤ g.units) (λ (g : Grid). units ≤ g.units) (line_drawn m budget at units line) _ (line_stands m budget units
      line) (λ first h.
      then_at P (λ (g : Grid). first.units ≤ g.units) (λ (g : Grid). units ≤ g.units) (lines_drawn m budget at first.units lines) _
      (lines_stand m budget first.units lines) (λ others k. omega arith))

  pub grid_stands : (m : Matrix) (p q : Point) (sx sy : ℤ) (budget units : ℕ)
      → Stands P (λ (g : Grid). units ≤ g.units) (grid_pieces m p q sx sy budget at units)
  unfolding grid_pieces
  grid_stands m p q sx sy budget units =
      if_at P (λ (g : Grid). units ≤ g.units) (int_lt (pos 0) sx && int_lt (pos 0) sy) _ (fault Domain at)
      (then_at P (λ (ends : Point × Point). Unit {0}) (λ (g : Grid). units ≤ g.units) (answer_at at (corners m p q)) _
      (found_stands (corners m p q)) (λ between _.
      lines_stand m budget units (grid_lines between.0 between.1 sx sy)))
      here
