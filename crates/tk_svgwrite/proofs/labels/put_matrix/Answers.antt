use Rattle.std.proofs.Common.{◌∷◌, []}
use Rattle.std.proofs.lemmas.Result.{IfOk-equal, IfOk-weaker}
use Rattle.tk_svgwrite.proofs.Texts.{point_back}
use Rattle.tk_svgwrite.proofs.Writing.{matrix_parts}
use Rattle.tk_svgwrite.proofs.labels.put_matrix.Goals as goal

pub returns-clause-text : goal.returns-clause-text
returns-clause-text c =
    let label = c.args.label.now in
    IfOk-equal c.close_attribute.result _ _ _ c.close_attribute.ensures (matrix_parts c.args.out.now.items _ _ _ _
    (label.a ∷ c.negated.result ∷ c.negated-2.result ∷ label.d ∷ label.at.x ∷ c.negated-3.result ∷ []) label c.in_ok-open_attribute.ensures
    c.in_ok-extend_from_slice.ensures.items c.in_ok-put_numbers.ensures.text c.in_ok-push.ensures.items
    (cc (c.negated.ensures, c.negated-2.ensures, c.negated-3.ensures)))

pub returns-clause-place : goal.returns-clause-place
returns-clause-place c =
    let range = c.in_ok-put_numbers.ensures.range in
    IfOk-weaker c.close_attribute.result _ _ (λ _ _. point_back c.args.label.now.at _ c.negated-3.ensures range.1.1.1.1.0 range.1.1.1.1.1.0)
    c.close_attribute.ensures
