use Rattle.std.proofs.Common.{◌≡◌, ℕ, List, [], ◌∷◌, ◌++◌, Result, Ok, Err, ap, sym, ◌∙◌}
use Rattle.std.specs.Prelude.{IfOk, OnOk}
use Rattle.std.specs.FinMap as map
use Rattle.std.proofs.lemmas.Result.{on_ok_weaker}
use Rattle.indexmap.specs.IndexMap.{set_value_at}
use Rattle.tk_store.specs.declared.Entry.{Entry}
use Rattle.tk_store.specs.declared.tables.Saved.{Saved}
use Rattle.tk_store.specs.declared.tables.Saved.TheVariants.{NoKey}
use Rattle.tk_store.specs.Paths.{by_bytes}
use Rattle.tk_store.specs.Undo.{Tables, keys_in, before}
use Rattle.tk_store.proofs.Maps.{text_inserted}
use Rattle.tk_store.proofs.Paths.{not_there, set_at_place, unset_at_place, set_at_end}
use Rattle.tk_store.proofs.Undoing.{undoes_new_key}
use Rattle.tk_store.proofs.tables.Tables.set_key.Goals as goal

pub returns-in-Some-clause-keys : goal.returns-in-Some-clause-keys
returns-in-Some-clause-keys c =
    ap (λ es. map.from_entries es)
    (ap by_bytes c.replace_entry.ensures.entries
    ∙ set_at_place c.args.path.now c.self.inside.keys.entries c.in-Some.place c.replace_entry.result c.args.entry
    (sym c.in-Some.ensures.index) c.replace_entry.ensures.had)
    ∙ text_inserted (by_bytes c.self.inside.keys.entries) c.args.path.now c.args.entry
    ∙ ap (λ (t : Tables). map.insert (keys_in t) c.args.path.now c.args.entry) c.self.view_is

pub returns-in-Some-clause-undo : goal.returns-in-Some-clause-undo
returns-in-Some-clause-undo c =
    let back =
    ap (λ (es : List (List ℕ × Entry)). set_value_at es c.in-Some.place c.replace_entry.result) (ap by_bytes c.replace_entry.ensures.entries)
    ∙ unset_at_place c.args.path.now c.self.inside.keys.entries c.in-Some.place c.replace_entry.result c.args.entry c.replace_entry.ensures.had in
    (λ i. record { macros = c.self.inside.macros.entries; keys = back i }) ∙ c.self.view_is

pub add_key-requires : goal.add_key-requires
add_key-requires c = not_there c.args.path.now c.self.inside.keys.entries (sym c.in-None.ensures.found)

pub returns-in-None-clause-keys : goal.returns-in-None-clause-keys
returns-in-None-clause-keys c = on_ok_weaker c.add_key.result
    (λ are.
    ap (λ es. map.from_entries es)
    (are
    ∙ set_at_end c.args.path.now c.self.inside.keys.entries c.args.entry
    (not_there c.args.path.now c.self.inside.keys.entries (sym c.in-None.ensures.found)))
    ∙ text_inserted (by_bytes c.self.inside.keys.entries) c.args.path.now c.args.entry
    ∙ ap (λ (t : Tables). map.insert (keys_in t) c.args.path.now c.args.entry) c.self.view_is)
    c.add_key.ensures.keys

-- nothing was replaced, so that the new key's end undoes it
new_undone : {E : Type 0} (old now : Tables) (answer : Result Saved E) (keys : List (List ℕ × Entry)) (e : List ℕ × Entry)
    → old ≡ now
    → IfOk answer (λ saved. saved ≡ NoKey)
    → OnOk answer (keys ≡ old.keys ++ e ∷ [])
    → IfOk answer (λ saved. before saved (record old { keys = keys }) ≡ now)
new_undone old now (Ok saved) keys e same is are = undoes_new_key old saved keys e is are ∙ same
new_undone old now (Err error) keys e same is are = tt

pub returns-in-None-clause-undo : goal.returns-in-None-clause-undo
returns-in-None-clause-undo c =
    let old : Tables = record { macros = c.self.inside.macros.entries; keys = by_bytes c.self.inside.keys.entries } in
    new_undone old c.args.self.now c.add_key.result (by_bytes c.add_key.new.keys.entries) (c.args.path.now, c.args.entry)
    c.self.view_is c.add_key.ensures.saved c.add_key.ensures.keys
