-- What stays the same along a path.
use Rattle.std.specs.Prelude.{◌≡◌}
use Rattle.std.proofs.Common.{refl, ap, sym, subst, ◌∙◌}
use Rattle.tk_expr.specs.Evaluates.{Evaluation}
use Rattle.tk_keys.specs.Given.{Given}
use Rattle.tk_keys.specs.State.{State, given_of, Keeps}
use Rattle.tk_path.specs.declared.drawer.Drawer.{Drawer}
use Rattle.tk_path.specs.Views.{OnlyPays, KeepsDrawn}

-- one state after the other
pub keeps_then : (a b c : State) → Keeps a b → Keeps b c → Keeps a c
keeps_then a b c f g = record {
  names = g.names ∙ f.names;
  font = g.font ∙ f.font;
  budget = g.budget ∙ f.budget;
  outer = g.outer ∙ f.outer;
  saved = g.saved ∙ f.saved;
  lists = g.lists ∙ f.lists;
}

-- what was given for a run is the same
pub same_given : (ev : Evaluation) (s t : State) → Keeps s t → given_of ev t ≡ given_of ev s
same_given ev s t k =
    let given : (names : _) (font : _) (budget : _) → Given = λ names font budget. record {
      names = names;
      evaluate = ev;
      font = font;
      budget = budget;
    } in
    ap (λ names. given names t.font t.budget) k.names ∙ ap (λ font. given s.names font t.budget) k.font
    ∙ ap (λ budget. given s.names s.font budget) k.budget

-- one drawer after the other
pub drawn_then : (a b c : Drawer) → KeepsDrawn a b → KeepsDrawn b c → KeepsDrawn a c
drawn_then a b c f g = record { state = keeps_then a.state b.state c.state f.state g.state; items = g.items ∙ f.items; proper = (λ h. g.proper (f.proper h)) }

-- where only units were paid
pub paid_keeps : (a b : Drawer) → OnlyPays a b → KeepsDrawn a b
paid_keeps a b pays = subst (KeepsDrawn a) (sym pays) (record {
  state = record { names = refl; font = refl; budget = refl; outer = refl; saved = refl; lists = refl };
  items = refl;
  proper = (λ h. h);
})

-- no setting is made where only units were paid
pub settings_paid : (a b : Drawer) → OnlyPays a b → b.state.levels.top.settings ≡ a.state.levels.top.settings
settings_paid a b pays = ap (λ (d : Drawer). d.state.levels.top.settings) pays
