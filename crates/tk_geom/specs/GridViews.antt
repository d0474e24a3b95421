-- Private: only private contracts use this. How the code sees the lines of a grid.
use Rattle.std.specs.Prelude.{List, ℤ}
use Rattle.tk_geom.specs.declared.grids.LineDirection.{LineDirection}
use Rattle.tk_geom.specs.declared.grids.LineDirection.TheVariants.{Upright, Level}
use Rattle.tk_geom.specs.declared.grids.Parallels.{Parallels}
use Rattle.tk_geom.specs.GridLines.{GridLine, upright_line, level_line, lines_at, rising}

-- a line that goes one of the two ways
abbrev pub line_at : LineDirection → ℤ → ℤ → ℤ → GridLine
line_at Upright low high x = upright_line low high x
line_at Level low high y = level_line low high y

-- the lines that go one way
abbrev pub lines_of : Parallels → List GridLine
lines_of lines = lines_at (line_at lines.direction lines.ends.low lines.ends.high) lines.step (rising lines.first lines.count)
