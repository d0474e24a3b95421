-- What words and keys mean at each open level.
use Rattle.std.specs.Prelude.{◌≡◌, ℕ, ◌+◌, ◌≤◌, List, [], ◌∷◌}
use Rattle.std.specs.Ordering.{nat_cmp}
use Rattle.std.specs.Cmp.Lexicographic.{slice_cmp}
use Rattle.std.specs.FinMap as map
use Rattle.tk_store.specs.declared.Entry.{Entry}
use Rattle.tk_store.specs.declared.Macro.{Macro}

-- macros by the numbers of their words
abbrev pub Macros : Type 0
Macros = map.FinMap nat_cmp Macro

-- keys by the bytes of their full paths
abbrev pub Keys : Type 0
Keys = map.FinMap (slice_cmp nat_cmp) Entry

-- a level: its macros, its keys, and a number that stands for the settings that were made at it
pub record Level : Type 0 where
  pub macros : Macros
  pub keys : Keys
  pub settings : ℕ

-- the open levels, with one below them that is always there: those further out, the nearest first, and the current one
pub record Levels : Type 0 where
  pub outer : List Level
  pub top : Level

-- a level at which nothing is set
abbrev pub empty_level : Level
empty_level = record { macros = map.empty; keys = map.empty; settings = 0 }

-- no level is open, and nothing is set
abbrev pub new_levels : Levels
new_levels = record { outer = []; top = empty_level }

-- one more level is open: a copy of the last, at which no settings were made
abbrev pub opened : Levels → Levels
opened levels = record { outer = levels.top ∷ levels.outer; top = record levels.top { settings = 0 } }

-- the current level counts as many settings as before, or one more; the lowest, which is never closed, counts none
pub record CountsOne (old new : Levels) : Type 0 where
  pub low : old.top.settings ≤ new.top.settings
  pub high : new.top.settings ≤ old.top.settings + 1
  pub lowest : old.outer ≡ [] → new.top.settings ≡ old.top.settings

-- a word has a macro at the current level; all else stays
pub record SetsMacro (old new : Levels) (word : ℕ) (value : Macro) : Type 0 where
  pub levels : new
      ≡ record old {
        top = record old.top {
          macros = map.insert old.top.macros word value;
          settings = new.top.settings;
        };
      }
  pub settings : CountsOne old new

-- a key has an entry at the current level; all else stays
pub record SetsKey (old new : Levels) (path : List ℕ) (entry : Entry) : Type 0 where
  pub levels : new
      ≡ record old { top = record old.top { keys = map.insert old.top.keys path entry; settings = new.top.settings } }
  pub settings : CountsOne old new
