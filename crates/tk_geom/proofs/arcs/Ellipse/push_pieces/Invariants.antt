use Rattle.std.proofs.Common.{◌≡◌, ◌-◌}
use Rattle.std.specs.List.{range_with_len}
use Rattle.tk_geom.specs.Arcs.{arc_round, piece_at}
use Rattle.tk_geom.specs.Pieces.{try_map, appended, Continues}
use Rattle.tk_geom.proofs.arcs.Ellipse.push_pieces.Given as goal

-- the pieces that are left are those of the arc, behind what is there
abbrev pub invariant-loop-i : goal.invariant-loop-i
invariant-loop-i l = record {
  told :
      appended l.initial.segs (arc_round l.self.m l.centre l.a l.b l.self.rx l.self.ry l.count)
      ≡ appended l.segs (try_map (piece_at l.self.m l.centre l.a l.b l.self.rx l.self.ry l.count) (range_with_len l.i (l.count - l.i)));
  kept : Continues l.initial.segs l.segs;
}
