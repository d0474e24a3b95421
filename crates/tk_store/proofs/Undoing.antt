-- A store's levels after each of its calls. A level further out is what is left once all later settings are undone, so a
-- setting leaves it where what it replaced undoes it (`levels_set`), `open` only marks where it is (`open_is`), and `close`
-- undoes one setting after the other (`one_undone`) until the mark is reached (`close_is`).
use Rattle.std.proofs.Common.{◌≡◌, ℕ, suc, ◌+◌, ◌-◌, ◌≤◌, Bool, true, false, List, [], ◌∷◌, ◌++◌, length, take, drop, refl, sym, ap, subst, ◌∙◌, arith}
use Rattle.std.specs.Prelude.{nat_eq, if◌then◌else◌, reverse}
use Rattle.std.specs.FinMap as map
use Rattle.tk_store.specs.declared.Entry.{Entry}
use Rattle.tk_store.specs.declared.Macro.{Macro}
use Rattle.tk_store.specs.declared.tables.Saved.{Saved}
use Rattle.tk_store.specs.declared.tables.Saved.TheVariants.{Macro as Replaced, NoMacro, NoKey}
use Rattle.tk_store.specs.Levels.{Level, Levels, opened, CountsOne, SetsMacro, SetsKey}
use Rattle.tk_store.specs.Undo.{Tables, macros_in, keys_in, before, before_all, made_since, made_until, settings_at, level_of, outer_of, levels_of}
use Rattle.tk_store.specs.Undo.{AreMarks}
use Rattle.std.proofs.Math.Dec.{eqb-suc-zero}
use Rattle.std.proofs.lemmas.List.{length-drop, length-reverse, reverse-append}
use Rattle.indexmap.specs.IndexMap.{set_value_at}
use Rattle.tk_store.proofs.Places.{added_back}

-- ---- the levels further out

-- where so many settings were made at the current level
outer_at : ℕ → List Saved → List ℕ → Tables → List Level
outer_at made saved marks tables =
    level_of (before_all (take made saved) tables) (settings_at (length (drop made saved)) marks)
    ∷ outer_of (drop made saved) marks (before_all (take made saved) tables)

outer_is : (saved : List Saved) (mark : ℕ) (marks : List ℕ) (tables : Tables)
    → outer_of saved (mark ∷ marks) tables ≡ outer_at (length saved - mark) saved marks tables
unfolding outer_of outer_at
outer_is saved mark marks tables = refl

outer_one_more : (made : ℕ) (s : Saved) (saved : List Saved) (marks : List ℕ) (tables : Tables)
    → outer_at (suc made) (s ∷ saved) marks tables ≡ outer_at made saved marks (before s tables)
unfolding outer_at before_all
outer_one_more made s saved marks tables = refl

outer_none : (saved : List Saved) (marks : List ℕ) (tables : Tables)
    → outer_at 0 saved marks tables ≡ level_of tables (settings_at (length saved) marks) ∷ outer_of saved marks tables
unfolding outer_at before_all
outer_none saved marks tables = refl

-- there are as many as marks
pub outer_length : (saved : List Saved) (marks : List ℕ) (tables : Tables) → length (outer_of saved marks tables) ≡ length marks
unfolding outer_of
outer_length saved [] tables = refl
outer_length saved (mark ∷ marks) tables =
    ap suc (outer_length (made_until mark saved) marks (before_all (made_since mark saved) tables))

outer_empty : (saved : List Saved) (tables : Tables) → outer_of saved [] tables ≡ []
unfolding outer_of
outer_empty saved tables = refl

-- ---- a setting

outer_set : (saved : List Saved) (marks : List ℕ) (old new : Tables) (s : Saved)
    → before s new ≡ old → AreMarks (length saved) marks → outer_of (s ∷ saved) marks new ≡ outer_of saved marks old
unfolding outer_of AreMarks
outer_set saved [] old new s back marked = refl
outer_set saved (mark ∷ marks) old new s back marked =
    let more : suc (length saved) - mark ≡ suc (length saved - mark) = omega (arith, marked.0) in
    outer_is (s ∷ saved) mark marks new
    ∙ ap (λ (n : ℕ). outer_at n (s ∷ saved) marks new) more
    ∙ outer_one_more (length saved - mark) s saved marks new
    ∙ ap (outer_at (length saved - mark) saved marks) back
    ∙ sym (outer_is saved mark marks old)

settings_set : (n : ℕ) (marks : List ℕ) → AreMarks n marks → settings_at (suc n) marks ≡ settings_at n marks + 1
unfolding AreMarks
settings_set n [] marked = omega arith
settings_set n (mark ∷ marks) marked = omega (arith, marked.0)

marks_more : (n : ℕ) (marks : List ℕ) → AreMarks n marks → AreMarks (suc n) marks
unfolding AreMarks
marks_more n [] marked = tt
marks_more n (mark ∷ marks) marked = (omega (arith, marked.0), marked.1)

-- where what a setting replaced undoes it, only the current level is another
module _ (saved all : List Saved) (marks : List ℕ) (old new : Tables) (s : Saved) (are : all ≡ s ∷ saved)
    (marked : AreMarks (length saved) marks) where
  levels_set : before s new ≡ old
      → levels_of all marks new ≡ record (levels_of saved marks old) { top = level_of new (settings_at (length all) marks) }
  levels_set back i = record {
    outer = (ap (λ (l : List Saved). outer_of l marks new) are ∙ outer_set saved marks old new s back marked) i;
    top = level_of new (settings_at (length all) marks);
  }

  one_setting_more : settings_at (length all) marks ≡ settings_at (length saved) marks + 1
  one_setting_more = ap (λ (l : List Saved). settings_at (length l) marks) are ∙ settings_set (length saved) marks marked

-- the current level has those tables, and at most one more setting; all else stays
pub record Changes (old new : Levels) (tables : Tables) : Type 0 where
  pub levels : new ≡ record old { top = level_of tables new.top.settings }
  pub settings : CountsOne old new

-- where a level is open there is one further out
none_open : (saved : List Saved) (mark : ℕ) (marks : List ℕ) (tables : Tables) → outer_of saved (mark ∷ marks) tables ≡ [] → suc (length marks) ≡ 0
none_open saved mark marks tables none = sym (outer_length saved (mark ∷ marks) tables) ∙ ap (λ (l : List Level). length l) none

-- at a level that is open
changes_level : (saved all : List Saved) (mark : ℕ) (marks : List ℕ) (old new : Tables) (s : Saved)
    → all ≡ s ∷ saved
    → before s new ≡ old
    → AreMarks (length saved) (mark ∷ marks)
    → Changes (levels_of saved (mark ∷ marks) old) (levels_of all (mark ∷ marks) new) new
changes_level saved all mark marks old new s are back marked =
    let count : settings_at (length all) (mark ∷ marks) ≡ settings_at (length saved) (mark ∷ marks) + 1 =
    one_setting_more saved all (mark ∷ marks) old new s are marked in
    record {
      levels = levels_set saved all (mark ∷ marks) old new s are marked back;
      settings = record {
        low = omega (arith, count);
        high = omega (arith, count);
        lowest = λ none. (let some = none_open saved mark marks old none in omega (arith, some));
      };
    }

-- and while none is
changes_bottom : (saved all : List Saved) (marks : List ℕ) (old new : Tables)
    → all ≡ saved
    → marks ≡ []
    → Changes (levels_of saved marks old) (levels_of all marks new) new
changes_bottom saved all marks old new are none =
    let outer : outer_of all marks new ≡ outer_of saved marks old =
    ap (λ (l : List ℕ). outer_of all l new) none
    ∙ outer_empty all new
    ∙ sym (outer_empty saved old)
    ∙ ap (λ (l : List ℕ). outer_of saved l old) (sym none) in
    let count : settings_at (length all) marks ≡ settings_at (length saved) marks =
    ap (λ (l : List Saved). settings_at (length l) marks) are in
    record {
      levels = λ i. record { outer = outer i; top = level_of new (settings_at (length all) marks) };
      settings = record { low = omega (arith, count); high = omega (arith, count); lowest = λ _. count };
    }

-- in either case, where what a setting replaced is kept only if a level is open
module _ (saved all : List Saved) (s : Saved) where
  kept_there : (mark : ℕ) (marks : List ℕ) → (if nat_eq (length (mark ∷ marks)) 0 then saved else s ∷ saved) ≡ s ∷ saved
  kept_there mark marks = ap (λ (b : Bool). (if b then saved else s ∷ saved)) (eqb-suc-zero (length marks))

  changes_kept : (marks : List ℕ) (old new : Tables)
      → all ≡ (if nat_eq (length marks) 0 then saved else s ∷ saved)
      → before s new ≡ old
      → AreMarks (length saved) marks
      → Changes (levels_of saved marks old) (levels_of all marks new) new
  changes_kept [] old new are back marked = changes_bottom saved all [] old new are refl
  changes_kept (mark ∷ marks) old new are back marked =
      changes_level saved all mark marks old new s (are ∙ kept_there mark marks) back marked

  marks_kept : (marks : List ℕ) → all ≡ (if nat_eq (length marks) 0 then saved else s ∷ saved)
      → AreMarks (length saved) marks → AreMarks (length all) marks
  unfolding AreMarks
  marks_kept [] are marked = tt
  marks_kept (mark ∷ marks) are marked =
      subst (λ (l : List Saved). AreMarks (length l) (mark ∷ marks)) (sym (are ∙ kept_there mark marks))
      (marks_more (length saved) (mark ∷ marks) marked)

-- the same of a store's vectors, in which the newest comes last
module _ (items kept : List Saved) (marks : List ℕ) (levels : ℕ) (s : Saved) (counted : levels ≡ length marks)
    (are : kept ≡ (if nat_eq levels 0 then items else items ++ s ∷ [])) where
  reversed : (b : Bool) → reverse (if b then items else items ++ s ∷ []) ≡ (if b then reverse items else s ∷ reverse items)
  reversed true = refl
  reversed false = reverse-append items (s ∷ [])

  kept_are : reverse kept ≡ (if nat_eq (length (reverse marks)) 0 then reverse items else s ∷ reverse items)
  kept_are =
      ap reverse are ∙ reversed (nat_eq levels 0)
      ∙ ap (λ (n : ℕ). (if nat_eq n 0 then reverse items else s ∷ reverse items)) (counted ∙ sym (length-reverse marks))

  pub setting_changes : (old new : Tables) → before s new ≡ old → AreMarks (length (reverse items)) (reverse marks)
      → Changes (levels_of (reverse items) (reverse marks) old) (levels_of (reverse kept) (reverse marks) new) new
  setting_changes old new back marked = changes_kept (reverse items) (reverse kept) s (reverse marks) old new kept_are back marked

  pub marks_stay : AreMarks (length (reverse items)) (reverse marks) → AreMarks (length (reverse kept)) (reverse marks)
  marks_stay marked = marks_kept (reverse items) (reverse kept) s (reverse marks) kept_are marked

module _ (saved : List Saved) (marks : List ℕ) (old tables : Tables) (new : Levels)
    (changes : Changes (levels_of saved marks old) new tables) where
  -- a word is set
  pub sets_macro : (word : ℕ) (value : Macro)
      → macros_in tables ≡ map.insert (macros_in old) word value
      → keys_in tables ≡ keys_in old
      → SetsMacro (levels_of saved marks old) new word value
  sets_macro word value is same = record {
    levels = changes.levels
        ∙ (λ i. record { outer = outer_of saved marks old; top = record { macros = is i; keys = same i; settings = new.top.settings } });
    settings = changes.settings;
  }

  -- a key is set
  pub sets_key : (path : List ℕ) (entry : Entry)
      → keys_in tables ≡ map.insert (keys_in old) path entry
      → macros_in tables ≡ macros_in old
      → SetsKey (levels_of saved marks old) new path entry
  sets_key path entry is same = record {
    levels = changes.levels
        ∙ (λ i. record { outer = outer_of saved marks old; top = record { macros = same i; keys = is i; settings = new.top.settings } });
    settings = changes.settings;
  }

-- ---- what a setting replaced undoes it

module _ (old : Tables) (s : Saved) where
  -- a macro at its place
  pub undoes_macro : (macros : List (ℕ × Macro)) (place : ℕ) (value : Macro)
      → s ≡ Replaced place value
      → set_value_at macros place value ≡ old.macros
      → before s (record old { macros = macros }) ≡ old
  undoes_macro macros place value is back =
      ap (λ (x : Saved). before x (record old { macros = macros })) is ∙ (λ i. record old { macros = back i })

  -- or nothing, where the word is new
  pub undoes_new_macro : (macros : List (ℕ × Macro)) (e : ℕ × Macro)
      → s ≡ NoMacro
      → macros ≡ old.macros ++ e ∷ []
      → before s (record old { macros = macros }) ≡ old
  undoes_new_macro macros e is are =
      let back : take (length macros - 1) macros ≡ old.macros =
      ap (λ (l : List (ℕ × Macro)). take (length l - 1) l) are ∙ added_back old.macros e in
      ap (λ (x : Saved). before x (record old { macros = macros })) is ∙ (λ i. record old { macros = back i })

  -- where the key is new, its entry is taken away
  pub undoes_new_key : (keys : List (List ℕ × Entry)) (e : List ℕ × Entry)
      → s ≡ NoKey
      → keys ≡ old.keys ++ e ∷ []
      → before s (record old { keys = keys }) ≡ old
  undoes_new_key keys e is are =
      let back : take (length keys - 1) keys ≡ old.keys =
      ap (λ (l : List (List ℕ × Entry)). take (length l - 1) l) are ∙ added_back old.keys e in
      ap (λ (x : Saved). before x (record old { keys = keys })) is ∙ (λ i. record old { keys = back i })

-- ---- opening

-- one more level is open
pub open_is : (saved : List Saved) (marks all : List ℕ) (tables : Tables) (n : ℕ)
    → n ≡ length saved
    → all ≡ n ∷ marks
    → levels_of saved all tables ≡ opened (levels_of saved marks tables)
open_is saved marks all tables n is are i =
    let none : length saved - n ≡ 0 = omega (arith, is) in
    let outer : outer_of saved all tables ≡ level_of tables (settings_at (length saved) marks) ∷ outer_of saved marks tables =
    ap (λ (l : List ℕ). outer_of saved l tables) are
    ∙ outer_is saved n marks tables
    ∙ ap (λ (k : ℕ). outer_at k saved marks tables) none
    ∙ outer_none saved marks tables in
    record {
      outer = outer i;
      top = level_of tables ((ap (settings_at (length saved)) are ∙ none) i);
    }

pub marks_open : (count n : ℕ) (marks all : List ℕ) → n ≡ count → all ≡ n ∷ marks → AreMarks count marks → AreMarks count all
unfolding AreMarks
marks_open count n marks all is are marked =
    subst (AreMarks count) (sym are) (omega (arith, is), subst (λ (k : ℕ). AreMarks k marks) (sym is) marked)

pub marks_none : (count : ℕ) (marks : List ℕ) → marks ≡ [] → AreMarks count marks
unfolding AreMarks
marks_none count marks none = subst (AreMarks count) (sym none) tt

-- ---- closing

-- one more setting is undone
module _ (saved less : List Saved) (s : Saved) (mark : ℕ) (are : saved ≡ s ∷ less) (enough : mark ≤ length less) where
  more : suc (length less) - mark ≡ suc (length less - mark)
  more = omega (arith, enough)

  pub one_undone : (old new : Tables) → new ≡ before s old
      → before_all (made_since mark less) new ≡ before_all (made_since mark saved) old
  unfolding before_all
  one_undone old new is =
      ap (before_all (made_since mark less)) is
      ∙ sym (ap (λ (l : List Saved). before_all (made_since mark l) old) are
      ∙ ap (λ (n : ℕ). before_all (take n (s ∷ less)) old) more)

  pub one_dropped : made_until mark less ≡ made_until mark saved
  one_dropped = sym (ap (made_until mark) are ∙ ap (λ (n : ℕ). drop n (s ∷ less)) more)

-- none is left to undo
module _ (saved : List Saved) (mark : ℕ) (few : length saved ≤ mark) where
  none : length saved - mark ≡ 0
  none = omega (arith, few)

  pub none_undone : (tables : Tables) → before_all (made_since mark saved) tables ≡ tables
  unfolding before_all
  none_undone tables = ap (λ (n : ℕ). before_all (take n saved) tables) none

  pub none_dropped : made_until mark saved ≡ saved
  none_dropped = ap (λ (n : ℕ). drop n saved) none

-- once all that were made since a mark are undone, the current level is closed
module _ (saved less : List Saved) (mark : ℕ) (marks all : List ℕ) (are : all ≡ mark ∷ marks) where
  pub close_is : (old new : Tables)
      → new ≡ before_all (made_since mark saved) old
      → less ≡ made_until mark saved
      → (levels_of saved all old).outer ≡ (levels_of less marks new).top ∷ (levels_of less marks new).outer
  unfolding outer_at
  close_is old new back left =
      ap (λ (l : List ℕ). outer_of saved l old) are
      ∙ outer_is saved mark marks old
      ∙ (λ i. level_of (sym back i) (settings_at (length (sym left i)) marks) ∷ outer_of (sym left i) marks (sym back i))

  pub mark_within : (count : ℕ) → AreMarks count all → (mark ≤ count) × AreMarks mark marks
  unfolding AreMarks
  mark_within count marked = subst (AreMarks count) are marked

  pub settings_are : (count : ℕ) → settings_at count all ≡ count - mark
  settings_are count = ap (settings_at count) are

  pub marks_close : less ≡ made_until mark saved → AreMarks (length saved) all → AreMarks (length less) marks
  marks_close left marked =
      let within = mark_within (length saved) marked in
      let count : length less ≡ mark = omega (arith, ap length left, length-drop (length saved - mark) saved, within.0) in
      subst (λ (n : ℕ). AreMarks n marks) (sym count) within.1
