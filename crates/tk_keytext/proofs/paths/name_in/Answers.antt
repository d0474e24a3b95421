use Rattle.std.proofs.Common.{sym, ap, drop, ◌∙◌}
use Rattle.tk_keytext.proofs.Slashes.{one_part, name_behind}
use Rattle.tk_keytext.proofs.paths.name_in.Goals as goal

pub returns-in-Some : goal.returns-in-Some
returns-in-Some c = let h = c.in-Some.ensures.cases in h.4 ∙ name_behind c.args.path.now h.0 h.1 h.2

pub returns-in-None : goal.returns-in-None
returns-in-None c = sym (ap (λ n. drop n c.args.path.now) (one_part c.args.path.now c.in-None.ensures.cases))
