use Rattle.std.proofs.Common.{◌≡◌, ◌-◌, pos, ◌+ℤ◌}
use Rattle.tk_geom.specs.GridLines.{lines_at, rising}
use Rattle.tk_geom.specs.GridViews.{line_at, lines_of}
use Rattle.tk_geom.specs.Grids.{grid_appended, lines_drawn}
use Rattle.tk_geom.specs.Pieces.{Continues}
use Rattle.tk_geom.proofs.grids.push_lines.Given as goal

-- the lines that are left, behind what is there, come to what all lines come to
abbrev pub invariant-loop-i : goal.invariant-loop-i
invariant-loop-i l = record {
  told :
      grid_appended l.initial.segs (lines_drawn l.m l.initial.units.budget l.at l.initial.units.used (lines_of l.lines))
      ≡ grid_appended l.segs (lines_drawn l.m l.initial.units.budget l.at l.units.used
      (lines_at (line_at l.lines.direction l.lines.ends.low l.lines.ends.high) l.lines.step (rising (l.lines.first +ℤ pos l.i) (l.lines.count - l.i))));
  budget : l.units.budget ≡ l.initial.units.budget;
  kept : Continues l.initial.segs l.segs;
}
