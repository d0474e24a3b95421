use Rattle.std.proofs.Common.{ap, sym, ◌∙◌}
use Rattle.std.specs.FinMap as map
use Rattle.tk_store.specs.Paths.{by_bytes}
use Rattle.tk_store.specs.Undo.{Tables, keys_in}
use Rattle.tk_store.proofs.Maps.{text_found}
use Rattle.tk_store.proofs.Paths.{path_found}
use Rattle.tk_store.proofs.tables.Tables.get_key.Goals as goal

pub returns : goal.returns
returns c =
    c.get.ensures.value
    ∙ sym (path_found c.args.path.now c.self.inside.keys.entries)
    ∙ sym (text_found (by_bytes c.self.inside.keys.entries) c.args.path.now)
    ∙ ap (λ (t : Tables). map.get (keys_in t) c.args.path.now) c.self.view_is
