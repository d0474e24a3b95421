use Rattle.std.proofs.Common.{◌≡◌, ◌++◌, take}
use Rattle.std.specs.List.{All}
use Rattle.tk_svgwrite.specs.Values.{data_text}
use Rattle.tk_svgwrite.specs.Ranges.{PieceInRange}
use Rattle.tk_svgwrite.proofs.values.put_data.Given as goal

-- the pieces so far are written, and are in range
abbrev pub invariant-loop-seg : goal.invariant-loop-seg
invariant-loop-seg l = record {
  text : l.out.items ≡ l.initial.out.items ++ data_text (take l.seg-index l.segs);
  range : All PieceInRange (take l.seg-index l.segs);
}
