use Rattle.std.proofs.Common.{arith, subst}
use Rattle.std.specs.List.{All}
use Rattle.std.proofs.lemmas.List.{take_all}
use Rattle.std.proofs.lemmas.List.Elements.{recursion_from_All}
use Rattle.tk_svgwrite.specs.Values.{piece_text}
use Rattle.tk_svgwrite.specs.Ranges.{PieceInRange}
use Rattle.tk_svgwrite.proofs.Writing.{flat_map_step, all_step}
use Rattle.tk_svgwrite.proofs.values.put_data.Goals as goal

pub loop-seg-preserved : goal.loop-seg-preserved
loop-seg-preserved c = record {
  text = flat_map_step piece_text c.args.segs.now c.loop-seg.seg-index c.seg-item.result _ _ _ c.loop-seg-test.true c.seg-item.is
      c.loop-seg.invariant.text c.in_ok-put_piece.ensures.text;
  range = all_step PieceInRange c.args.segs.now c.loop-seg.seg-index c.seg-item.result c.loop-seg-test.true c.seg-item.is c.loop-seg.invariant.range
      c.in_ok-put_piece.ensures.range;
}

pub returns-clause-range : goal.returns-clause-range
returns-clause-range c = recursion_from_All PieceInRange c.args.segs.now (subst (All PieceInRange) (take_all c.loop-seg.seg-index c.args.segs.now
    (omega arith)) c.loop-seg.invariant.range)
