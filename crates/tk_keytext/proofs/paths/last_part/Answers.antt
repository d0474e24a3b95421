use Rattle.std.proofs.Common.{sym, arith}
use Rattle.tk_keytext.proofs.Slashes.{one_part, within, part_behind}
use Rattle.tk_keytext.proofs.paths.last_part.Goals as goal

pub returns-in-Some-clause-part : goal.returns-in-Some-clause-part
returns-in-Some-clause-part c = let h = c.in-Some.ensures.cases in sym (part_behind c.args.path.now c.in-Some.at h.0 h.1)

pub returns-in-Some-clause-within : goal.returns-in-Some-clause-within
returns-in-Some-clause-within c =
    let h = c.in-Some.ensures.cases in
    omega (arith, within c.args.path.now c.in-Some.at h.0 h.1)

pub returns-in-None-clause-part : goal.returns-in-None-clause-part
returns-in-None-clause-part c = sym (one_part c.args.path.now c.in-None.ensures.cases)
