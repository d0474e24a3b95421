-- The pieces of a grid, by its steps and by what there is between its corners.
use Rattle.std.proofs.Common.{◌≡◌, ℕ, ◌&&◌, true, false, Ok, Err, ℤ, pos, int_lt, ◌<ℤ◌, refl, arith}
use Rattle.std.proofs.lemmas.Int.{ints}
use Rattle.tk_token.specs.declared.Code.TheVariants.{Domain}
use Rattle.tk_token.specs.declared.Fault.{Fault}
use Rattle.tk_token.specs.Answers.{fault}
use Rattle.tk_item.specs.declared.Point.{Point}
use Rattle.tk_affine.specs.declared.Matrix.{Matrix}
use Rattle.tk_affine.specs.Faults.{answer_at}
use Rattle.tk_geom.specs.GridLines.{corners, grid_lines}
use Rattle.tk_geom.specs.Grids.{lines_drawn, grid_pieces}

pub positive_steps : (sx sy : ℤ) → (int_lt (pos 0) sx && int_lt (pos 0) sy) ≡ true → (pos 0 <ℤ sx) × (pos 0 <ℤ sy)
positive_steps sx sy e = grind (arith, ints)

module _ (m : Matrix) (p q : Point) (sx sy : ℤ) (budget at units : ℕ) where
  pub no_grid_without_steps : (int_lt (pos 0) sx && int_lt (pos 0) sy) ≡ false → grid_pieces m p q sx sy budget at units ≡ fault Domain at
  unfolding grid_pieces
  no_grid_without_steps e = rw e refl

  pub no_grid_without_corners : (f : Fault) → (int_lt (pos 0) sx && int_lt (pos 0) sy) ≡ true → answer_at at (corners m p q) ≡ Err f
      → grid_pieces m p q sx sy budget at units ≡ Err f
  unfolding grid_pieces
  no_grid_without_corners f e found = rw (e, found) refl

  pub grid_between_corners : (low high : Point) → (int_lt (pos 0) sx && int_lt (pos 0) sy) ≡ true → answer_at at (corners m p q) ≡ Ok (low, high)
      → grid_pieces m p q sx sy budget at units ≡ lines_drawn m budget at units (grid_lines low high sx sy)
  unfolding grid_pieces
  grid_between_corners low high e found = rw (e, found) refl
