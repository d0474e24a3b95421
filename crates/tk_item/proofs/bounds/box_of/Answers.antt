use Rattle.std.proofs.Common.{arith, sym, subst}
use Rattle.std.proofs.lemmas.Int.{ints}
use Rattle.tk_num.specs.Number.{IsScaled}
use Rattle.tk_item.specs.Frame.{IsProperFrame}
use Rattle.tk_item.proofs.Frames.{same_sides, box_proper}
use Rattle.tk_item.proofs.bounds.box_of.Goals as goal

pub returns-clause-value : goal.returns-clause-value
returns-clause-value c = same_sides _ _ _ _ _ _ _ _ (omega (arith, ints)) (omega (arith, ints)) (omega (arith, ints)) (omega (arith, ints))

pub returns-clause-proper : goal.returns-clause-proper
returns-clause-proper c =
    let x_in : IsScaled c.args.p.x = subst IsScaled c.sp.ensures.value c.sp.ensures.range in
    let y_in : IsScaled c.args.p.y = subst IsScaled c.sp-2.ensures.value c.sp-2.ensures.range in
    subst IsProperFrame (sym (returns-clause-value c)) (box_proper c.args.half c.args.p c.requires.low c.requires.high x_in y_in)
