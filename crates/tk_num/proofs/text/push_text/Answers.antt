use Rattle.std.proofs.Common.{◌++◌, ◌∙◌, ap}
use Rattle.std.specs.Int.{w64}
use Rattle.std.proofs.lemmas.Int.{to_z-of_z}
use Rattle.tk_num.specs.Text.{text_of}
use Rattle.tk_num.proofs.Printed.{put_pointed, put_whole, text-pointed}
use Rattle.tk_num.proofs.text.push_text.Goals as goal

pub returns-then-fraction-ne0-clause-text : goal.returns-then-fraction-ne0-clause-text
returns-then-fraction-ne0-clause-text c =
    put_pointed _ c.part_of_size-fraction.result c.args.out.now.items c.push_front.new.out.items c.push.new.self.items c.push_part.new.out.items
    c.push_front.ensures.text c.part_of_size-fraction.ensures.part c.push.ensures.items c.push_part.ensures.text
    ∙ ap (λ ds. c.args.out.now.items ++ ds) (text-pointed _ (λ e. c.if-fraction-ne0.true (c.part_of_size-fraction.ensures.part ∙ e)))
    ∙ ap (λ z. c.args.out.now.items ++ text_of z) (to_z-of_z w64 c.args.sp c.ranges.sp)

pub returns-else-fraction-ne0-clause-text : goal.returns-else-fraction-ne0-clause-text
returns-else-fraction-ne0-clause-text c =
    put_whole _ c.part_of_size-fraction.result c.args.out.now.items c.push_front.new.out.items c.push_front.ensures.text
    c.part_of_size-fraction.ensures.part c.if-fraction-ne0.false
    ∙ ap (λ z. c.args.out.now.items ++ text_of z) (to_z-of_z w64 c.args.sp c.ranges.sp)
