-- Private: only private contracts use this. How a store keeps its levels: the tables of the last one, and what each
-- setting replaced, the newest first. So after `\def\a{x}`, a level that opens and `\def\a{y}`, the table of macros has
-- `y` for `\a`, and what was replaced is `x` at its place.
use Rattle.std.specs.Prelude.{ℕ, ◌-◌, ◌≤◌, List, [], ◌∷◌, length, take, drop}
use Rattle.std.specs.FinMap as map
use Rattle.indexmap.specs.IndexMap.{set_value_at}
use Rattle.tk_store.specs.declared.Entry.{Entry}
use Rattle.tk_store.specs.declared.Macro.{Macro}
use Rattle.tk_store.specs.declared.tables.Saved.{Saved}
use Rattle.tk_store.specs.declared.tables.Saved.TheVariants.{Macro as Replaced, NoMacro, Key as ReplacedKey, NoKey}
use Rattle.tk_store.specs.Levels.{Macros, Keys, Level, Levels}

-- ---- tables

-- the macros and the keys of the current level, each in the order in which they came
pub record Tables : Type 0 where
  pub macros : List (ℕ × Macro)
  pub keys : List (List ℕ × Entry)

-- nothing is set
abbrev pub no_tables : Tables
no_tables = record { macros = []; keys = [] }

-- the macros of the tables
abbrev pub macros_in : Tables → Macros
macros_in tables = map.from_entries tables.macros

-- the keys of the tables
abbrev pub keys_in : Tables → Keys
keys_in tables = map.from_entries tables.keys

-- ---- undoing

-- the tables of before a setting, by what it replaced
abbrev pub before : Saved → Tables → Tables
before (Replaced place old) tables = record tables { macros = set_value_at tables.macros place old }
before NoMacro tables = record tables { macros = take (length tables.macros - 1) tables.macros }
before (ReplacedKey place old) tables = record tables { keys = set_value_at tables.keys place old }
before NoKey tables = record tables { keys = take (length tables.keys - 1) tables.keys }

-- the tables of before some settings, the newest first
unfoldable pub before_all : List Saved → Tables → Tables
before_all [] tables = tables
before_all (saved ∷ older) tables = before_all older (before saved tables)

-- the settings that were made since there were so many
abbrev pub made_since : ℕ → List Saved → List Saved
made_since mark saved = take (length saved - mark) saved

-- the settings that were made until then
abbrev pub made_until : ℕ → List Saved → List Saved
made_until mark saved = drop (length saved - mark) saved

-- ---- levels

-- of so many settings how many were made at the current level; a mark says how many there were where a level was opened
abbrev pub settings_at : ℕ → List ℕ → ℕ
settings_at count [] = count
settings_at count (mark ∷ marks) = count - mark

-- a level with such tables and so many settings
abbrev pub level_of : Tables → ℕ → Level
level_of tables settings = record { macros = macros_in tables; keys = keys_in tables; settings = settings }

-- the levels further out, the nearest first
unfoldable pub outer_of : List Saved → List ℕ → Tables → List Level
outer_of saved [] tables = []
outer_of saved (mark ∷ marks) tables =
    let older = made_until mark saved in
    let outer = before_all (made_since mark saved) tables in
    level_of outer (settings_at (length older) marks) ∷ outer_of older marks outer

-- all levels
abbrev pub levels_of : List Saved → List ℕ → Tables → Levels
levels_of saved marks tables = record {
  outer = outer_of saved marks tables;
  top = level_of tables (settings_at (length saved) marks);
}

-- no mark is above so many settings, nor above the mark that came after it
unfoldable pub AreMarks : ℕ → List ℕ → Type 0
AreMarks count [] = Unit {0}
AreMarks count (mark ∷ marks) = (mark ≤ count) × AreMarks mark marks
