use Rattle.std.proofs.Common.{ap, sym, ◌∙◌}
use Rattle.std.specs.String.{string_eq}
use Rattle.std.specs.Map.{lookup}
use Rattle.tk_store.specs.Paths.{by_bytes}
use Rattle.indexmap.proofs.CallerLemmas.{insert_entry-new}
use Rattle.tk_store.proofs.Paths.{at_path, path_found, added_last}
use Rattle.tk_store.proofs.tables.add_key.Goals as goal

pub returns-clause-keys : goal.returns-clause-keys
returns-clause-keys c =
    let none = sym (path_found c.args.path.now c.args.keys.now.entries) ∙ c.requires in
    let other = ap (λ p. lookup (at_path p) c.args.keys.now.entries) c.in_ok-path.ensures.ok ∙ none in
    ap by_bytes (c.in_ok-insert.ensures.entries ∙ insert_entry-new string_eq c.args.keys.now c.in_ok-path.path c.args.entry other)
    ∙ added_last c.args.path.now c.args.keys.now.entries c.in_ok-path.path c.args.entry c.in_ok-path.ensures.ok
