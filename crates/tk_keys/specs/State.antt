-- The state of a run, as the contracts see it.
use Rattle.std.specs.Prelude.{◌≡◌, ℕ, ◌+◌, ◌-◌, ◌*◌, ◌≤◌, Bool, true, false, List, [], length, Option, Some, None}
use Rattle.tk_look.specs.declared.GraphicsState.{GraphicsState}
use Rattle.tk_store.specs.Levels.{Levels}
use Rattle.tk_expand.specs.Unread.{Unread}
use Rattle.tk_expand.specs.Expand.{Stream, stream}
use Rattle.tk_expr.specs.declared.FontUnits.{FontUnits}
use Rattle.tk_expr.specs.Evaluates.{Evaluation}
use Rattle.tk_keys.specs.Environment.{Env, Situation, first_env}
use Rattle.tk_keys.specs.Given.{Given, known_words}
use Rattle.tk_keys.specs.Settings.{Standing, Ending, Set, standing, set_behind}

-- what was given for a run, what words and keys mean at each open level, where and how what follows is drawn, the same
-- at the levels further out, the nearest first, how many key lists run, and the units paid so far
pub record State : Type 0 where
  pub names : List (List ℕ)
  pub font : FontUnits
  pub budget : ℕ
  pub levels : Levels
  pub graphics : GraphicsState
  pub saved : List GraphicsState
  pub lists : ℕ
  pub units : ℕ

-- what words and keys mean at the current level, and how many levels and key lists there are
abbrev pub env_of : State → Env
env_of s =
    record {
      macros = s.levels.top.macros;
      keys = s.levels.top.keys;
      graphics = s.graphics;
      levels = length s.levels.outer;
      lists = s.lists;
    }

-- what is given, with a way to evaluate
abbrev pub given_of : Evaluation → State → Given
given_of ev s = record { names = s.names; evaluate = ev; font = s.font; budget = s.budget }

-- before a run over a source with those words
pub record IsFirst (words : List (List ℕ)) (size : FontUnits) (most : ℕ) (s : State) : Type 0 where
  pub names : s.names ≡ known_words words
  pub font : s.font ≡ size
  pub budget : s.budget ≡ most
  pub env : (ev : Evaluation) → env_of s ≡ first_env (given_of ev s)
  pub outer : s.levels.outer ≡ []
  pub settings : s.levels.top.settings ≡ 0
  pub saved : s.saved ≡ []
  pub units : s.units ≡ 0

-- the units paid so far, and a list that is read
abbrev pub stream_of : State → Unread → Stream
stream_of s list = stream s.units list

-- the situation of a run
abbrev pub situation_of : State → Situation
situation_of s = record { env = env_of s; units = s.units }

-- where a run stands that has that default path and reads that list
abbrev pub standing_of : State → List ℕ → Unread → Standing
standing_of s dir list = standing (situation_of s) dir list

-- where it ends with that default path
abbrev pub ending_of : State → List ℕ → Ending
ending_of s dir = record { now = situation_of s; dir = dir }

-- ---- what calls leave

-- nothing but the units is another
abbrev pub Pays : State → State → Type 0
Pays old new = new ≡ record old { units = new.units }

-- what was given stays, and so do the levels further out and the count of running key lists
pub record Keeps (old new : State) : Type 0 where
  pub names : new.names ≡ old.names
  pub font : new.font ≡ old.font
  pub budget : new.budget ≡ old.budget
  pub outer : new.levels.outer ≡ old.levels.outer
  pub saved : new.saved ≡ old.saved
  pub lists : new.lists ≡ old.lists

-- at most so many settings were made at the current level
abbrev pub Makes : ℕ → State → State → Type 0
Makes count old new = new.levels.top.settings ≤ old.levels.top.settings + count

-- The most settings that a run can have undone in the end: those that it undid so far, those of the current level, and
-- three for each unit that can still be paid and for each token that is left. A key that isn't known makes three.
abbrev pub most_undone : ℕ → State → ℕ → ℕ
most_undone steps s tokens = steps + s.levels.top.settings + 3 * ((s.budget - s.units) + tokens)

-- what is behind a setting
abbrev pub behind_set : State → Unread → Set
behind_set s list = set_behind (situation_of s) list

-- the same where there was one
abbrev pub set_of : Bool → State → Unread → Option Set
set_of true s list = Some (behind_set s list)
set_of false s list = None
