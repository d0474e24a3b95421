use Rattle.std.proofs.Common.{eqb, ap, sym, ◌∙◌}
use Rattle.std.specs.FinMap as map
use Rattle.tk_store.specs.Undo.{Tables, macros_in, keys_in}
use Rattle.indexmap.specs.IndexMap.{insert_entry, set_value_at}
use Rattle.indexmap.proofs.CallerLemmas.{insert_entry-new}
use Rattle.tk_store.proofs.Maps.{number_inserted}
use Rattle.tk_store.proofs.Places.{inserted_back}
use Rattle.tk_store.proofs.Undoing.{undoes_macro, undoes_new_macro}
use Rattle.tk_store.proofs.tables.Tables.set_macro.Goals as goal
use Rattle.tk_store.proofs.tables.Tables.set_macro.Goals.{in-Some, in-None}

pub returns-clause-macros : goal.returns-clause-macros
returns-clause-macros c =
    ap (λ es. map.from_entries es) c.in_ok-place.ensures.entries
    ∙ number_inserted c.self.inside.macros.entries c.args.name c.args.value
    ∙ ap (λ (t : Tables). map.insert (macros_in t) c.args.name c.args.value) c.self.view_is

pub returns-clause-keys : goal.returns-clause-keys
returns-clause-keys c = ap keys_in c.self.view_is

pub returns-clause-undo : goal.returns-clause-undo
returns-clause-undo c = elim c.match-old.branch [
  | in-Some w ↦ undoes_macro _ c.match-old.result c.insert_full.new.self.entries c.in_ok-place.place w.in-Some.old w.result-is
      (ap (λ es. set_value_at es c.in_ok-place.place w.in-Some.old) c.in_ok-place.ensures.entries
      ∙ ap (λ n. set_value_at (insert_entry eqb c.self.inside.macros.entries c.args.name c.args.value) n w.in-Some.old) c.in_ok-place.ensures.index
      ∙ inserted_back c.self.inside.macros.entries c.args.name c.args.value w.in-Some.old (sym c.in_ok-place.ensures.old ∙ w.in-Some.is))
      ∙ c.self.view_is
  | in-None w ↦ undoes_new_macro _ c.match-old.result c.insert_full.new.self.entries (c.args.name, c.args.value) w.result-is
      (c.in_ok-place.ensures.entries
      ∙ insert_entry-new eqb c.self.inside.macros c.args.name c.args.value (sym c.in_ok-place.ensures.old ∙ w.in-None.is))
      ∙ c.self.view_is
]
