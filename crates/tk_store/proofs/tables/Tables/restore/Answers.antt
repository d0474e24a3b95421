use Rattle.std.proofs.Common.{ℕ, List, ap, sym, ◌∙◌}
use Rattle.tk_store.specs.declared.Entry.{Entry}
use Rattle.tk_store.specs.declared.Macro.{Macro}
use Rattle.tk_store.specs.declared.tables.Saved.{Saved}
use Rattle.tk_store.specs.declared.tables.Saved.TheVariants.{Macro as Replaced, NoMacro, Key as ReplacedKey}
use Rattle.tk_store.specs.Paths.{by_bytes}
use Rattle.tk_store.specs.Undo.{Tables, before}
use Rattle.tk_store.proofs.Paths.{written_at}
use Rattle.tk_store.proofs.Places.{last_taken}
use Rattle.tk_store.proofs.tables.Tables.restore.Goals as goal

pub returns-in-Macro-clause-tables : goal.returns-in-Macro-clause-tables
returns-in-Macro-clause-tables g c =
    ap (λ (es : List (ℕ × Macro)). (let t : Tables = record { macros = es; keys = by_bytes c.self.inside.keys.entries } in t)) c.write.ensures
    ∙ ap (before (Replaced c.in-Macro.place c.in-Macro.old)) c.self.view_is
    ∙ ap (λ (s : Saved). before s c.args.self.now) (sym c.in-Macro.is)

pub returns-in-NoMacro-clause-tables : goal.returns-in-NoMacro-clause-tables
returns-in-NoMacro-clause-tables g c =
    let macros = last_taken c.self.inside.macros.entries c.pop.new.self.entries c.pop.result c.pop.ensures.entries c.pop.ensures.found.1 in
    ap (λ (es : List (ℕ × Macro)). (let t : Tables = record { macros = es; keys = by_bytes c.self.inside.keys.entries } in t)) macros
    ∙ ap (before NoMacro) c.self.view_is
    ∙ ap (λ (s : Saved). before s c.args.self.now) (sym c.in-NoMacro.is)

pub returns-in-Key-clause-tables : goal.returns-in-Key-clause-tables
returns-in-Key-clause-tables g c =
    let keys = ap by_bytes c.write-in-Key.ensures ∙ written_at c.self.inside.keys.entries c.in-Key.place c.in-Key.old in
    ap (λ (es : List (List ℕ × Entry)). (let t : Tables = record { macros = c.self.inside.macros.entries; keys = es } in t)) keys
    ∙ ap (before (ReplacedKey c.in-Key.place c.in-Key.old)) c.self.view_is
    ∙ ap (λ (s : Saved). before s c.args.self.now) (sym c.in-Key.is)
