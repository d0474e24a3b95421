use Rattle.std.proofs.Common.{◌≡◌, ◌++◌, [], ◌∷◌, List, ap, subst, ◌∙◌}
use Rattle.std.specs.Prelude.{nat_eq, if◌then◌else◌, reverse}
use Rattle.tk_store.specs.declared.tables.Saved.{Saved}
use Rattle.tk_store.specs.Levels.{Levels, SetsMacro}
use Rattle.tk_store.specs.Undo.{levels_of}
use Rattle.tk_store.proofs.Undoing.{setting_changes, marks_stay, sets_macro}
use Rattle.tk_store.proofs.store.Store.set_macro.Goals as goal
use Rattle.tk_store.proofs.store.Store.set_macro.Goals.{After-keep_replaced}

-- what the setting replaced is kept over what was there
kept_are : (c : After-keep_replaced) → c.keep_replaced.new.saved.items
    ≡ (if nat_eq c.len.result 0 then c.self.inside.saved.items else c.self.inside.saved.items ++ c.in_ok-replaced.replaced ∷ [])
kept_are c =
    c.keep_replaced.ensures
    ∙ ap (λ (l : List Saved). (if nat_eq c.len.result 0 then l else l ++ c.in_ok-replaced.replaced ∷ [])) c.reserve.ensures.items

pub invariant_of-self-2 : goal.invariant_of-self-2
invariant_of-self-2 c =
    marks_stay c.self.inside.saved.items c.keep_replaced.new.saved.items c.self.inside.marks.items c.len.result c.in_ok-replaced.replaced
    c.len.ensures.value (kept_are c) c.self.invariant

pub returns-clause-ok : goal.returns-clause-ok
returns-clause-ok c =
    let new : Levels = levels_of (reverse c.keep_replaced.new.saved.items) (reverse c.self.inside.marks.items) c.set_macro.new.self in
    subst (λ (old : Levels). SetsMacro old new c.args.name c.args.value) c.self.view_is
    (sets_macro (reverse c.self.inside.saved.items) (reverse c.self.inside.marks.items) c.self.inside.tables c.set_macro.new.self new
    (setting_changes c.self.inside.saved.items c.keep_replaced.new.saved.items c.self.inside.marks.items c.len.result c.in_ok-replaced.replaced
    c.len.ensures.value (kept_are c) c.self.inside.tables c.set_macro.new.self c.in_ok-replaced.ensures.undo c.self.invariant)
    c.args.name c.args.value c.in_ok-replaced.ensures.macros c.in_ok-replaced.ensures.keys)
