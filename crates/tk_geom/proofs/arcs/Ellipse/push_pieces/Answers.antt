use Rattle.std.proofs.Common.{◌≡◌, ◌∙◌, sym, Ok, Err}
use Rattle.tk_geom.specs.Arcs.{piece_at}
use Rattle.tk_geom.proofs.Appending.{goes_on, faulty_piece_ends_all, no_more_pieces, fault_told, and_more}
use Rattle.tk_geom.proofs.Round.{same_piece}
use Rattle.tk_geom.proofs.arcs.Ellipse.push_pieces.Goals as goal

pub returns-in-Err-clause-gives : goal.returns-in-Err-clause-gives
returns-in-Err-clause-gives c =
    let self = c.args.self.now in
    let at = piece_at self.m c.args.centre.now c.args.a c.args.b self.rx self.ry c.args.count in
    let found : at c.loop-i.i ≡ Err c.in-Err.fault = sym (c.piece.ensures
    ∙ same_piece self.m c.args.centre.now self.rx self.ry _ _ _ _ _ _ c.control_ratio-k.ensures.value c.angle_at-from.ensures c.angle_at-to.ensures)
    ∙ c.in-Err.is in
    fault_told _ _ _ _ c.in-Err.fault c.loop-i.invariant.told (faulty_piece_ends_all at c.loop-i.i c.args.count c.in-Err.fault
    c.loop-i-test.true found)

pub loop-i-preserved : goal.loop-i-preserved
loop-i-preserved c =
    let self = c.args.self.now in
    let at = piece_at self.m c.args.centre.now c.args.a c.args.b self.rx self.ry c.args.count in
    let found : at c.loop-i.i ≡ Ok c.in-Ok.piece = sym (c.piece.ensures
    ∙ same_piece self.m c.args.centre.now self.rx self.ry _ _ _ _ _ _ c.control_ratio-k.ensures.value c.angle_at-from.ensures c.angle_at-to.ensures)
    ∙ c.in-Ok.is in
    let pushed = c.in_ok-push-in-Ok.ensures.ok in
    record {
      told = c.loop-i.invariant.told ∙ goes_on at c.loop-i.i c.args.count c.loop-i.segs _ c.in-Ok.piece c.loop-i-test.true found pushed;
      kept = and_more _ c.loop-i.segs _ c.in-Ok.piece c.loop-i.invariant.kept pushed;
    }

pub returns-clause-gives : goal.returns-clause-gives
returns-clause-gives c =
    let self = c.args.self.now in
    let at = piece_at self.m c.args.centre.now c.args.a c.args.b self.rx self.ry c.args.count in
    c.loop-i.invariant.told ∙ no_more_pieces at c.loop-i.i c.args.count c.loop-i.segs c.loop-i-test.false
