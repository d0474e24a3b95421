use Rattle.std.proofs.Common.{◌∙◌, sym, ap, subst}
use Rattle.std.specs.Int.{w64}
use Rattle.std.proofs.lemmas.Int.{to_z-of_z}
use Rattle.tk_num.specs.Text.{text_of, IsTextOf}
use Rattle.tk_num.proofs.Chosen.{is_text}
use Rattle.tk_num.proofs.Printed.{text_behind_nothing, size_fits, text_utf8}
use Rattle.tk_num.proofs.text.print.Goals as goal

pub written-requires-clause-utf8 : goal.written-requires-clause-utf8
written-requires-clause-utf8 c =
    text_utf8 c.args.sp _ (size_fits c.args.sp c.ranges.sp) (text_behind_nothing _ _ _ c.push_text.ensures.text c.new-out.ensures
    ∙ ap text_of (to_z-of_z w64 c.args.sp c.ranges.sp))

pub returns-clause-text : goal.returns-clause-text
returns-clause-text c =
    c.written.ensures ∙ text_behind_nothing _ _ _ c.push_text.ensures.text c.new-out.ensures ∙ ap text_of (to_z-of_z w64 c.args.sp c.ranges.sp)

pub returns-clause-chosen : goal.returns-clause-chosen
returns-clause-chosen c =
    subst (λ ds. IsTextOf c.args.sp ds) (sym (returns-clause-text c)) (is_text c.args.sp (size_fits c.args.sp c.ranges.sp))
