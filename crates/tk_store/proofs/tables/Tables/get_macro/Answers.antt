use Rattle.std.proofs.Common.{ap, sym, ◌∙◌}
use Rattle.std.specs.FinMap as map
use Rattle.tk_store.specs.Undo.{Tables, macros_in}
use Rattle.tk_store.proofs.Maps.{number_found}
use Rattle.tk_store.proofs.tables.Tables.get_macro.Goals as goal

pub returns : goal.returns
returns c =
    c.get.ensures.value
    ∙ sym (number_found c.self.inside.macros.entries c.args.name)
    ∙ ap (λ (t : Tables). map.get (macros_in t) c.args.name) c.self.view_is
