-- Grids, whose lines are paid for one by one.
use Rattle.std.specs.Prelude.{ℕ, ◌&&◌, if◌then◌else◌, List, [], ◌∷◌, ◌++◌, Ok, ℤ, pos, int_lt}
use Rattle.tk_token.specs.declared.Code.TheVariants.{Domain}
use Rattle.tk_token.specs.Answers.{Answer, ◌>>=◌, fault}
use Rattle.tk_expand.specs.Expand.{pay}
use Rattle.tk_item.specs.declared.Point.{Point}
use Rattle.tk_item.specs.declared.Seg.{Seg}
use Rattle.tk_affine.specs.declared.Matrix.{Matrix}
use Rattle.tk_affine.specs.Faults.{answer_at}
use Rattle.tk_geom.specs.GridLines.{GridLine, grid_lines, corners, line_pieces}

-- pieces, and the units that were paid when they were drawn
pub record Grid : Type 0 where
  pub pieces : List Seg
  pub units : ℕ

-- these pieces, and so many units
abbrev pub grid_of : List Seg → ℕ → Grid
grid_of pieces units = record { pieces = pieces; units = units }

-- the same, whose pieces follow others
abbrev pub grid_behind : List Seg → Grid → Grid
grid_behind old grid = record grid { pieces = old ++ grid.pieces }

-- a grid whose pieces follow others; a fault is passed on
abbrev pub grid_appended : List Seg → Answer Grid → Answer Grid
grid_appended old answer = do
  grid ← answer
  Ok (grid_behind old grid)

-- a line pays a unit, and is then drawn
abbrev pub line_drawn : Matrix → ℕ → ℕ → ℕ → GridLine → Answer Grid
line_drawn m budget at units line = do
  paid ← pay budget units 1 at
  pieces ← answer_at at (line_pieces m line)
  Ok (grid_of pieces paid)

-- lines one after another
abbrev pub lines_drawn : Matrix → ℕ → ℕ → ℕ → List GridLine → Answer Grid
lines_drawn m budget at units [] = Ok (grid_of [] units)
lines_drawn m budget at units (line ∷ lines) = do
  first ← line_drawn m budget at units line
  others ← lines_drawn m budget at first.units lines
  Ok (grid_behind first.pieces others)

-- the grid between p and q, with a line at each multiple of the steps to the right and upward
unfoldable pub grid_pieces : Matrix → Point → Point → ℤ → ℤ → ℕ → ℕ → ℕ → Answer Grid
grid_pieces m p q sx sy budget at units =
    if int_lt (pos 0) sx && int_lt (pos 0) sy then (do
      between ← answer_at at (corners m p q)
      lines_drawn m budget at units (grid_lines between.0 between.1 sx sy))
    else fault Domain at
