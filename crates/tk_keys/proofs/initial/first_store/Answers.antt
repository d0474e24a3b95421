use Rattle.std.proofs.Common.{ap, ◌∙◌}
use Rattle.tk_store.specs.Levels.{Levels}
use Rattle.tk_keys.specs.Environment.{initial_entries, with_entries}
use Rattle.tk_keys.proofs.initial.first_store.Goals as goal

pub returns : goal.returns
returns c =
    let set = c.in_ok-set_initial.ensures in
    let new = c.in_ok-store.ensures in
    record {
      outer = set.outer ∙ ap (λ (l : Levels). l.outer) new;
      settings = set.lowest (ap (λ (l : Levels). l.outer) new) ∙ ap (λ (l : Levels). l.top.settings) new;
      macros = set.macros ∙ ap (λ (l : Levels). l.top.macros) new;
      keys = set.keys ∙ ap (λ (l : Levels). with_entries l.top.keys (initial_entries c.args.also)) new;
    }
