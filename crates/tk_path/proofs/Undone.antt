-- What is set at a level is undone at its end, and the level round it counts what it counted before.
use Rattle.std.specs.Prelude.{◌≡◌, ℕ, List, [], ◌∷◌, Result, Ok, Err, OnOk}
use Rattle.std.proofs.Common.{ap, sym, ◌∙◌}
use Rattle.tk_look.specs.Graphics.{graphics_below}
use Rattle.tk_store.specs.Levels.{Level, opened}
use Rattle.tk_keys.specs.State.{State, Keeps}

-- how many settings were made at the nearest of some levels
first_settings : List Level → ℕ
first_settings [] = 0
first_settings (l ∷ ls) = l.settings

module _ (old inside : State) (begun : inside ≡ record old {
  levels = opened old.levels;
  graphics = graphics_below old.graphics;
  saved = old.graphics ∷ old.saved;
}) where
  pub none_yet : inside.levels.top.settings ≡ 0
  none_yet = ap (λ (s : State). s.levels.top.settings) begun

  pub same_units : inside.units ≡ old.units
  same_units = ap (λ (s : State). s.units) begun

  pub same_budget : inside.budget ≡ old.budget
  same_budget = ap (λ (s : State). s.budget) begun

  module _ (behind new : State) (kept : Keeps inside behind) (levels : behind.levels.outer ≡ new.levels.top ∷ new.levels.outer)
      (closed : new ≡ record behind { levels = new.levels; graphics = new.graphics; saved = new.saved }) where
    pub same_settings : new.levels.top.settings ≡ old.levels.top.settings
    unfolding first_settings
    same_settings = ap first_settings (sym levels ∙ kept.outer ∙ ap (λ (s : State). s.levels.outer) begun)

    pub units_behind : new.units ≡ behind.units
    units_behind = ap (λ (s : State). s.units) closed

    pub budget_behind : new.budget ≡ old.budget
    budget_behind = ap (λ (s : State). s.budget) closed ∙ kept.budget ∙ same_budget

-- a fact of a value from three others
pub on_ok_three : {A E P Q R S : Type 0} (result : Result A E) → (P → Q → R → S) → OnOk result P → OnOk result Q → OnOk result R → OnOk result S
on_ok_three (Ok x) f p q r = f p q r
on_ok_three (Err e) f p q r = tt
