-- Grids on a path.
use Rattle.std.specs.Prelude.{ℕ, Ok}
use Rattle.tk_item.specs.declared.Point.{Point}
use Rattle.tk_token.specs.Answers.{Answer, ◌>>=◌}
use Rattle.tk_geom.specs.Grids.{grid_pieces}
use Rattle.tk_outline.specs.declared.current_path.Goal.{Goal}
use Rattle.tk_outline.specs.declared.current_path.Mesh.{Mesh}
use Rattle.tk_outline.specs.CurrentPaths.{CurrentPath, current_point, moved_to, with_pieces}

-- a path with a grid, and the units that are paid then
pub record Meshed : Type 0 where
  pub path : CurrentPath
  pub units : ℕ

-- that path, and those units
abbrev pub meshed : CurrentPath → ℕ → Meshed
meshed path units = record { path = path; units = units }

-- a grid with those steps from the current point to a goal, where the path stands then; each line is paid for at that
-- place
unfoldable pub mesh_drawn : Point → Mesh → Goal → ℕ → ℕ → ℕ → CurrentPath → Answer Meshed
mesh_drawn origin mesh to budget at units path = do
  grid ← grid_pieces mesh.matrix (current_point origin path) to.point mesh.xstep mesh.ystep budget at units
  Ok (meshed (moved_to origin to (with_pieces grid.pieces path)) grid.units)
