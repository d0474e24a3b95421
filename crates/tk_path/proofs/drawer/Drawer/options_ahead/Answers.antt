use Rattle.std.proofs.Common.{ap, sym, subst}
use Rattle.tk_token.specs.Answers.{Answer}
use Rattle.tk_token.specs.Refusals.{Gives}
use Rattle.tk_keys.specs.Given.{Given}
use Rattle.tk_keys.specs.State.{given_of}
use Rattle.tk_path.specs.declared.drawer.Drawer.{Drawer}
use Rattle.tk_path.specs.Configurations.{Configuration}
use Rattle.tk_path.specs.Keys.{options_from}
use Rattle.tk_path.specs.Views.{configuration_of, lookahead_of}
use Rattle.tk_path.proofs.Levels.{ahead_goes}
use Rattle.tk_path.proofs.drawer.Drawer.options_ahead.Goals as goal

pub returns-clause-gives : goal.returns-clause-gives
returns-clause-gives g c ev is path =
    let first = lookahead_of c.in_ok-first.first c.ahead.new.self path c.ahead.new.input in
    let given = given_of ev c.args.self.now.state in
    subst (λ (m : Answer Configuration). Gives (λ _. configuration_of c.options_from.new.self path c.options_from.new.input) c.options_from.result m)
    (sym (ahead_goes given (configuration_of c.args.self.now path c.args.input.now) first (c.in_ok-first.ensures.gives ev path)))
    (subst (λ (g : Given). Gives (λ _. configuration_of c.options_from.new.self path c.options_from.new.input) c.options_from.result
    (options_from g first))
    (ap (λ (d : Drawer). given_of ev d.state) c.in_ok-first.ensures.pays) (c.options_from.ensures.gives ev is path))
