use Rattle.std.proofs.Common.{arith, sym, subst}
use Rattle.std.proofs.lemmas.Int.{ints, clamps}
use Rattle.tk_item.specs.Frame.{IsProperFrame}
use Rattle.tk_item.proofs.Frames.{same_sides, joined_proper}
use Rattle.tk_item.proofs.bounds.join.Goals as goal

pub returns-clause-value : goal.returns-clause-value
returns-clause-value c =
    same_sides _ _ _ _ _ _ _ _ (omega (arith, ints, clamps)) (omega (arith, ints, clamps)) (omega (arith, ints, clamps)) (omega (arith, ints, clamps))

pub returns-clause-proper : goal.returns-clause-proper
returns-clause-proper c = λ a b. subst IsProperFrame (sym (returns-clause-value c)) (joined_proper c.args.f c.args.g a b)
