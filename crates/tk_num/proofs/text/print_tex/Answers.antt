use Rattle.std.proofs.Common.{◌∙◌, sym, ap, subst}
use Rattle.std.specs.Int.{w64}
use Rattle.std.proofs.lemmas.Int.{to_z-of_z}
use Rattle.tk_num.specs.Text.{pointed_text, IsPointedTextOf}
use Rattle.tk_num.proofs.Chosen.{is_pointed_text}
use Rattle.tk_num.proofs.Printed.{text_behind_nothing, put_pointed, size_fits, pointed_utf8}
use Rattle.tk_num.proofs.text.print_tex.Goals as goal

pub written-requires-clause-utf8 : goal.written-requires-clause-utf8
written-requires-clause-utf8 c =
    pointed_utf8 c.args.sp _ (size_fits c.args.sp c.ranges.sp)
    (text_behind_nothing _ _ _ (put_pointed _ _ _ _ _ _ c.push_front.ensures.text c.part_of_size.ensures.part c.push.ensures.items
    c.push_part.ensures.text) c.new-out.ensures
    ∙ ap pointed_text (to_z-of_z w64 c.args.sp c.ranges.sp))

pub returns-clause-text : goal.returns-clause-text
returns-clause-text c =
    c.written.ensures
    ∙ text_behind_nothing _ _ _ (put_pointed _ _ _ _ _ _ c.push_front.ensures.text c.part_of_size.ensures.part c.push.ensures.items
    c.push_part.ensures.text) c.new-out.ensures
    ∙ ap pointed_text (to_z-of_z w64 c.args.sp c.ranges.sp)

pub returns-clause-chosen : goal.returns-clause-chosen
returns-clause-chosen c =
    subst (λ ds. IsPointedTextOf c.args.sp ds) (sym (returns-clause-text c)) (is_pointed_text c.args.sp (size_fits c.args.sp c.ranges.sp))
