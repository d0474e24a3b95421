use Rattle.std.proofs.Common.{List, ℕ, sym, subst}
use Rattle.std.proofs.lemmas.Bool.Decides.{Decides-eqb}
use Rattle.std.proofs.lemmas.Slice.Eq.{slice_eq-Decides}
use Rattle.tk_render.specs.Rendered.{IsSvgOf}
use Rattle.uses.specs.Documents.{asked}
use Rattle.uses.proofs.Comparing.{compares}
use Rattle.uses.proofs.draw_alike.Goals as goal

pub returns : goal.returns
returns c =
    compares c.args.one.now c.args.other.now c.as_slice.result.now c.as_slice-2.result.now c.eq.result
    (subst (IsSvgOf asked c.args.one.now) (sym c.as_slice.ensures.value) c.in_ok-first.ensures.document)
    (subst (IsSvgOf asked c.args.other.now) (sym c.as_slice-2.ensures.value) c.in_ok-second.ensures.document)
    (slice_eq-Decides Decides-eqb _ _ _ c.eq.ensures)
