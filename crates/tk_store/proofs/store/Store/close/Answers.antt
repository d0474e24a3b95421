use Rattle.std.proofs.Common.{◌≡◌, ◌≤◌, ◌-◌, ◌<◌, [], ◌∷◌, length, ap, sym, ◌∙◌, arith}
use Rattle.std.specs.Prelude.{reverse}
use Rattle.std.proofs.lemmas.List.{length-reverse, reverse-append}
use Rattle.tk_store.specs.Levels.{Levels}
use Rattle.tk_store.proofs.Undoing.{outer_length, close_is, mark_within, marks_close, settings_are}
use Rattle.tk_store.proofs.store.Store.close.Given.{Over}
use Rattle.tk_store.proofs.store.Store.close.Goals as goal
use Rattle.tk_store.proofs.store.Store.close.Goals.{After-undo}

pub undo-requires : goal.undo-requires
undo-requires g c =
    let are : reverse c.self.inside.marks.items ≡ c.in-Some.mark ∷ reverse c.pop.new.self.items =
    ap reverse c.in-Some.ensures.items ∙ reverse-append c.pop.new.self.items (c.in-Some.mark ∷ []) in
    (mark_within (reverse c.self.inside.saved.items) [] c.in-Some.mark _ _ are _ c.self.invariant).0

marks_are : (g : Over) (c : After-undo g) → reverse c.self.inside.marks.items ≡ c.in-Some.mark ∷ reverse c.pop.new.self.items
marks_are g c = ap reverse c.in-Some.ensures.items ∙ reverse-append c.pop.new.self.items (c.in-Some.mark ∷ [])

within : (g : Over) (c : After-undo g) → c.in-Some.mark ≤ length (reverse c.self.inside.saved.items)
within g c = (mark_within (reverse c.self.inside.saved.items) [] c.in-Some.mark _ _ (marks_are g c) _ c.self.invariant).0

pub invariant_of-self : goal.invariant_of-self
invariant_of-self g c =
    marks_close (reverse c.self.inside.saved.items) (reverse c.undo.new.saved.items) c.in-Some.mark _ _ (marks_are g c)
    c.undo.ensures.saved c.self.invariant

pub returns-in-Some-clause-outer : goal.returns-in-Some-clause-outer
returns-in-Some-clause-outer g c =
    ap (λ (l : Levels). l.outer) (sym c.self.view_is)
    ∙ close_is (reverse c.self.inside.saved.items) (reverse c.undo.new.saved.items) c.in-Some.mark _ _ (marks_are g c)
    c.self.inside.tables c.undo.new.tables c.undo.ensures.tables c.undo.ensures.saved

pub returns-in-Some-clause-low : goal.returns-in-Some-clause-low
returns-in-Some-clause-low g c = omega (arith, within g c, c.undo.ensures.cost)

pub returns-in-Some-clause-high : goal.returns-in-Some-clause-high
returns-in-Some-clause-high g c =
    let made : c.args.self.now.top.settings ≡ length (reverse c.self.inside.saved.items) - c.in-Some.mark =
    ap (λ (l : Levels). l.top.settings) (sym c.self.view_is)
    ∙ settings_are (reverse c.self.inside.saved.items) [] c.in-Some.mark _ _ (marks_are g c) (length (reverse c.self.inside.saved.items)) in
    omega (arith, within g c, made, c.undo.ensures.cost)

pub returns-in_default-clause-outer : goal.returns-in_default-clause-outer
returns-in_default-clause-outer g c =
    let levels : length c.args.self.now.outer ≡ length c.self.inside.marks.items =
    ap (λ (l : Levels). length l.outer) (sym c.self.view_is)
    ∙ outer_length (reverse c.self.inside.saved.items) (reverse c.self.inside.marks.items) c.self.inside.tables
    ∙ length-reverse c.self.inside.marks.items in
    let some : 0 < length c.self.inside.marks.items = omega (arith, levels, c.requires) in
    let has = c.in_default.ensures.variant.1 some in cc
