use Rattle.std.proofs.Common.{subst, sym, ap, ◌∙◌}
use Rattle.tk_outline.specs.CurrentPaths.{CurrentPath}
use Rattle.tk_outline.specs.Tracing.{IsTraced}
use Rattle.tk_outline.proofs.Tracing.{appended_pieces_trace, rectangle_added}
use Rattle.tk_outline.proofs.current_path.CurrentPath.rectangle.Goals as goal

pub invariant_of-self : goal.invariant_of-self
invariant_of-self c =
    let none = ap (λ (p : CurrentPath). p.start) (c.self.view_is ∙ c.take_segs-segs.ensures.path) in
    subst (IsTraced c.push_rectangle.new.segs) (sym none)
    (rectangle_added c.take_segs-segs.result c.push_rectangle.new.segs c.args.matrix c.current_point-corner.result c.args.to.now.point
    c.take_segs-segs.ensures.first
    (appended_pieces_trace c.take_segs-segs.result c.push_rectangle.new.segs c.in_ok-done.done _ (sym c.if-is_ok.ensures.value)
    c.in_ok-done.ensures.gives))
