use Rattle.std.proofs.Common.{◌∙◌, ap, sym, List, Result, Ok}
use Rattle.std.proofs.lemmas.List.{append-nil}
use Rattle.tk_item.specs.declared.Seg.{Seg}
use Rattle.tk_affine.specs.declared.AffFault.{AffFault}
use Rattle.tk_geom.specs.Pieces.{appended}
use Rattle.tk_geom.proofs.Round.{no_pieces_no_arc, pieces_of_an_arc, faulty_spoke}
use Rattle.tk_geom.proofs.arcs.push_arc.Goals as goal

pub returns-then-count-eq0-clause-gives : goal.returns-then-count-eq0-clause-gives
returns-then-count-eq0-clause-gives c =
    ap (appended c.args.segs.now) (no_pieces_no_arc c.args.m c.args.c c.args.a c.args.b c.args.rx c.args.ry (sym c.piece_count-count.ensures.value
    ∙ c.if-count-eq0.true))
    ∙ ap (λ (all : List Seg). let r : Result (List Seg) AffFault = Ok all in r) (append-nil c.args.segs.now)

pub returns-in-Ok-clause-gives : goal.returns-in-Ok-clause-gives
returns-in-Ok-clause-gives c =
    rw (pieces_of_an_arc c.args.m c.args.c c.centre_of.result c.in-Ok.first c.args.a c.args.b c.args.rx c.args.ry c.piece_count-count.result
    c.piece_count-count.ensures.value c.if-count-eq0.false (sym c.spoke.ensures ∙ c.in-Ok.is) c.centre_of.ensures.value) c.push_pieces.ensures.gives

pub returns-in-Err-clause-gives : goal.returns-in-Err-clause-gives
returns-in-Err-clause-gives c = faulty_spoke c.args.m c.args.c c.args.a c.args.b c.args.rx c.args.ry c.piece_count-count.result c.in-Err.fault
    c.piece_count-count.ensures.value c.if-count-eq0.false (sym c.spoke.ensures ∙ c.in-Err.is)
