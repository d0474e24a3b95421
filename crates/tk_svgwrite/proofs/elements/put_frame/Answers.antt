use Rattle.std.proofs.lemmas.Result.{IfOk-equal}
use Rattle.tk_svgwrite.proofs.Writing.{frame_steps}
use Rattle.tk_svgwrite.proofs.elements.put_frame.Goals as goal

pub returns : goal.returns
returns c =
    IfOk-equal c.put_view_box.result _ _ _ c.put_view_box.ensures
    (frame_steps c.args.out.now.items _ _ c.args.frame c.in_ok-put_width.ensures c.in_ok-put_height.ensures)
