-- Expansion: macro calls are replaced from the front on, and each is paid for.
use Rattle.std.specs.Prelude.{◌≡◌, ℕ, ◌+◌, ◌-◌, ◌≤◌, Bool, true, nat_lt, if◌then◌else◌, List, [], ◌∷◌, ◌++◌, length}
use Rattle.std.specs.Prelude.{Option, Some, None, Ok}
use Rattle.std.specs.FinMap as map
use Rattle.std.specs.List.{AllByRecursion, list_all}
use Rattle.std.specs.Option.{is_none}
use Rattle.tk_token.specs.declared.Kind.{Kind}
use Rattle.tk_token.specs.declared.Kind.TheVariants.{Word}
use Rattle.tk_token.specs.declared.Tok.{Tok}
use Rattle.tk_token.specs.declared.Code.TheVariants.{Budget}
use Rattle.tk_token.specs.Answers.{Answer, ◌>>=◌, fault}
use Rattle.tk_token.specs.Recursion.{by_size}
use Rattle.tk_store.specs.declared.Macro.{Macro}
use Rattle.tk_store.specs.Levels.{Macros}
use Rattle.tk_expand.specs.Arguments.{call_text}
use Rattle.tk_expand.specs.Unread.{Unread, unread}

-- ---- streams

-- a list that is read through expansion, and the units paid so far
pub record Stream : Type 0 where
  pub units : ℕ
  pub list : Unread

-- so many units, and that list
abbrev pub stream : ℕ → Unread → Stream
stream units list = record { units = units; list = list }

-- the same stream, where those tokens are left
abbrev pub with_rest : Stream → List Tok → Stream
with_rest s ts = stream s.units (unread ts s.list.end)

-- the work that is left: the units that can still be paid, and the tokens
abbrev pub work : ℕ → Stream → ℕ
work budget s = (budget - s.units) + length s.list.rest

-- ---- calls

-- the macro that a token calls: only a control word can have one
abbrev pub called_by : Macros → Kind → Option Macro
called_by macros (Word w) = map.get macros w
called_by macros _ = None

-- a text costs one more than it has tokens
abbrev pub cost_of : List Tok → ℕ
cost_of text = 1 + length text

-- the units after a payment; it is Budget at the place exactly where they would pass the budget
abbrev pub pay : ℕ → ℕ → ℕ → ℕ → Answer ℕ
pay budget units cost at = if nat_lt budget (units + cost) then fault Budget at else Ok (units + cost)

-- a call, whose word was read, is paid for, and its text takes its place
unfoldable pub replaced : ℕ → Macro → ℕ → Stream → Answer Stream
replaced budget called at s = do
  text ← call_text called at s.list.rest
  paid ← pay budget s.units (cost_of text.front) at
  Ok (stream paid (unread (text.front ++ text.rest) s.list.end))

-- ---- lists without calls

-- the token in front, if there is one, calls nothing
abbrev pub StandsStill : Macros → List Tok → Type 0
StandsStill macros [] = Unit {0}
StandsStill macros (t ∷ ts) = called_by macros t.kind ≡ None

-- whether no token of the list calls anything
abbrev pub is_expanded : Macros → List Tok → Bool
is_expanded macros ts = list_all (λ (t : Tok). is_none (called_by macros t.kind)) ts

-- no token of the list calls anything
abbrev pub IsExpanded : Macros → List Tok → Type 0
IsExpanded macros ts = is_expanded macros ts ≡ true

-- each token of the list stands at a place of at most that number
abbrev pub StandWithin : ℕ → List Tok → Type 0
StandWithin len ts = AllByRecursion (λ (t : Tok). t.at ≤ len) ts

-- ---- expansion

module _ (budget : ℕ) (macros : Macros) where
  -- a token in front, with those behind it, stays where it calls nothing, else its call is replaced
  abbrev pub front_token : (Stream → Answer Stream) → Stream → Tok → List Tok → Option Macro
      → Answer Stream
  front_token front s t ts None = Ok s
  front_token front s t ts (Some called) = do
    next ← replaced budget called t.at (with_rest s ts)
    front next

  -- the same for the tokens of the stream, if there are any
  abbrev pub front_list : (Stream → Answer Stream) → Stream → List Tok → Answer Stream
  front_list front s [] = Ok s
  front_list front s (t ∷ ts) = front_token front s t ts (called_by macros t.kind)

  -- one step, over the meaning of what has less work left
  abbrev pub front_step : (Stream → Answer Stream) → Stream → Answer Stream
  front_step front s = front_list front s s.list.rest

  -- the list rewritten while a macro call is in front of it
  unfoldable pub front : Stream → Answer Stream
  front = by_size (work budget) (fault Budget 0) front_step

  -- the token in front is kept, and those behind it are expanded
  abbrev pub full_list : (Stream → Answer Stream) → Stream → List Tok → Answer Stream
  full_list full s [] = Ok s
  full_list full s (t ∷ ts) = do
    more ← full (with_rest s ts)
    Ok (with_rest more (t ∷ more.list.rest))

  -- one step, over the meaning of what has less work left
  abbrev pub full_step : (Stream → Answer Stream) → Stream → Answer Stream
  full_step full s = do
    ahead ← front s
    full_list full ahead ahead.list.rest

  -- the list with no macro call left
  unfoldable pub full : Stream → Answer Stream
  full = by_size (work budget) (fault Budget 0) full_step
