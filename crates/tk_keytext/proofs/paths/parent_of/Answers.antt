use Rattle.std.proofs.Common.{sym, ap, take, ◌-◌, ◌∙◌}
use Rattle.tk_keytext.proofs.Slashes.{one_part, dir_before}
use Rattle.tk_keytext.proofs.paths.parent_of.Goals as goal

pub returns-in-Some : goal.returns-in-Some
returns-in-Some c = let h = c.in-Some.ensures.cases in h.3 ∙ dir_before c.args.path.now h.0 h.1 h.2

pub returns-in-None : goal.returns-in-None
returns-in-None c = sym (ap (λ n. take (n - 1) c.args.path.now) (one_part c.args.path.now c.in-None.ensures.cases))
