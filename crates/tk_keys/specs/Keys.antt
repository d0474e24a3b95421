-- What a part of a key list does (the PGF manual, section "Key Management").
use Rattle.std.specs.Prelude.{ℕ, ◌==◌, if◌then◌else◌, List, [], ◌∷◌, ◌++◌, unwrap_or, Option, Some, None, Ok, codes}
use Rattle.std.specs.Prelude.{option_map, option_and_then}
use Rattle.std.specs.FinMap as map
use Rattle.tk_characters.specs.Characters.{slash}
use Rattle.tk_token.specs.declared.Code.{Code}
use Rattle.tk_token.specs.declared.Code.TheVariants.{MacroArg, UnknownKey, UnknownChoice, ValueRequired, ValueForbidden}
use Rattle.tk_token.specs.declared.Tok.{Tok}
use Rattle.tk_token.specs.Answers.{Answer, ◌>>=◌, fault, or_fault}
use Rattle.tk_token.specs.Spaces.{after_spaces}
use Rattle.tk_token.specs.Texts.{text_in, tokens_of}
use Rattle.tk_store.specs.declared.Entry.{Entry}
use Rattle.tk_store.specs.declared.Need.{Need}
use Rattle.tk_store.specs.declared.Need.TheVariants.{Default, Required, Forbidden}
use Rattle.tk_store.specs.declared.Run.{Run}
use Rattle.tk_store.specs.declared.Run.TheVariants as runs
use Rattle.tk_expand.specs.Arguments.{arguments_of, with_arguments}
use Rattle.tk_expand.specs.Expand.{stream, full, cost_of, pay}
use Rattle.tk_expand.specs.Unread.{unread}
use Rattle.tk_native.specs.declared.Native.{Native}
use Rattle.tk_look.specs.Graphics.{graphics_by}
use Rattle.tk_keytext.specs.declared.Handler.{Handler}
use Rattle.tk_keytext.specs.declared.Handler.TheVariants.{Cd, AppendStyle, PrefixStyle, Try}
use Rattle.tk_keytext.specs.Entries.{edited}
use Rattle.tk_keytext.specs.Handlers.{handler_of}
use Rattle.tk_keytext.specs.Parts.{KeyPart}
use Rattle.tk_keytext.specs.Paths.{full_path, name_in, parent_of}
use Rattle.tk_keys.specs.Environment.{Env, Situation, with_paid, with_text, with_graphics, with_key}
use Rattle.tk_keys.specs.Given.{Given, also_word, current_key, current_name}

-- what a key leaves: the situation, and the text that is then to be run, if the key has code
pub record Deed : Type 0 where
  pub now : Situation
  pub text : Option (List Tok)

-- what a part leaves: that, and the default path of the parts behind it
pub record Effect : Type 0 where
  pub deed : Deed
  pub dir : List ℕ

-- a name, and the situation behind it
pub record Named : Type 0 where
  pub name : List ℕ
  pub now : Situation

-- a value in which nothing is left to expand, if there is one, and the units behind it
pub record ExpandedValue : Type 0 where
  pub value : Option (List Tok)
  pub units : ℕ

-- nothing is to be run
abbrev pub done : Situation → Deed
done s = record { now = s; text = None }

-- the run that stands at a path, if one does
abbrev pub run_at : Env → List ℕ → Option Run
run_at env path = option_and_then (λ (e : Entry). e.run) (map.get env.keys path)

-- The value that a key takes where it is given that one, by its need: with `.default=2` the part `/a` takes `2`, and
-- with `.value required` it is refused.
abbrev pub value_by : ℕ → Need → Option (List Tok) → Answer (Option (List Tok))
value_by at (Default v) None = Ok (Some v)
value_by at Required None = fault ValueRequired at
value_by at Forbidden (Some v) = fault ValueForbidden at
value_by at _ value = Ok value

-- arguments behind which nothing but Spaces is left
abbrev pub all_taken : ℕ → List (List Tok) → List Tok → Answer (List (List Tok))
all_taken at texts [] = Ok texts
all_taken at texts (t ∷ ts) = fault MacroArg at

-- the two arguments that a value is: 1 and 2 in `{1}{2}`, `12` and `1 2`, but not in `1` or `123`
abbrev pub two_arguments : ℕ → List Tok → Answer (List (List Tok))
two_arguments at value = do
  found ← arguments_of at 2 value
  all_taken at found.texts (after_spaces found.rest)

-- the arguments of code: two in its value, which has to be there, or else the value, which is empty where it isn't
-- there
abbrev pub code_arguments : ℕ → ℕ → Option (List Tok) → Answer (List (List Tok))
code_arguments at args value =
    if args == 2 then (or_fault value ValueRequired at >>= two_arguments at) else Ok (unwrap_or value [] ∷ [])

-- a text that is paid for, and the units behind it
pub record PaidText : Type 0 where
  pub text : List Tok
  pub units : ℕ

-- the text of code, in which its arguments take their places, once it is paid for
abbrev pub code_text : ℕ → ℕ → ℕ → List Tok → Option (List Tok) → ℕ → Answer PaidText
code_text budget at args body value units = do
  arguments ← code_arguments at args value
  paid ← pay budget units (cost_of (with_arguments arguments body)) at
  Ok (record { text = with_arguments arguments body; units = paid })

-- the path of `.unknown` below a path
abbrev pub unknown_below : List ℕ → List ℕ
unknown_below path = path ++ codes "/.unknown"

-- a key that runs, if a run stands there
abbrev pub runner : Env → List ℕ → Option (List ℕ × Run)
runner env path = option_map (λ run. (path, run)) (run_at env path)

-- the first of two, if it is there, or else the second
abbrev pub first_of : {A : Type 0} → Option A → Option A → Option A
first_of (Some a) other = Some a
first_of None other = other

-- the key that runs for one that isn't known: for `/p/q` it is `/p/.unknown`, or else `/handlers/.unknown`
abbrev pub stand_in : Env → List ℕ → Option (List ℕ × Run)
stand_in env path =
    first_of (runner env (unknown_below (parent_of path))) (runner env (unknown_below (codes "/handlers")))

-- what a key leaves with which the default path stays
abbrev pub staying : List ℕ → Answer Deed → Answer Effect
staying dir answer = do
  deed ← answer
  Ok (record { deed = deed; dir = dir })

-- what was done, or else nothing
abbrev pub done_or_not : Situation → Option Deed → Deed
done_or_not s used = unwrap_or used (done s)

module _ (given : Given) where
  -- a name: it is expanded, and then of characters and Spaces alone
  abbrev pub expanded_name : Code → ℕ → List Tok → Situation → Answer Named
  expanded_name code at list s = do
    text ← full given.budget s.env.macros (stream s.units (unread list at))
    name ← or_fault (text_in text.list.rest) code at
    Ok (record { name = name; now = with_paid s text.units })

  -- ---- runs

  -- a value with no macro call left
  abbrev pub expanded_value : ℕ → Option (List Tok) → Situation → Answer ExpandedValue
  expanded_value at None s = Ok (record { value = None; units = s.units })
  expanded_value at (Some list) s = do
    text ← full given.budget s.env.macros (stream s.units (unread list at))
    Ok (record { value = Some text.list.rest; units = text.units })

  -- a native key, with the name by which it was asked: its value is expanded, and then it sets where and how what
  -- follows is drawn
  abbrev pub set_native : ℕ → List ℕ → Native → Option (List Tok) → Situation → Answer Deed
  set_native at name key value s = do
    expanded ← expanded_value at value s
    graphics ← graphics_by at given.evaluate given.font key name expanded.value s.env.graphics
    Ok (done (with_graphics (with_paid s expanded.units) graphics))

  -- what a run makes of a value, if it isn't a choice; the name is the one by which the key was asked
  abbrev pub plain_run : ℕ → List ℕ → Run → Option (List Tok) → Situation → Answer Deed
  plain_run at name (runs.Native key) value s = set_native at name key value s
  plain_run at name runs.Choice value s = fault ValueRequired at
  plain_run at name (runs.StoreIn word) value s = Ok (done (with_text s word (unwrap_or value [])))
  plain_run at name (runs.Code args body) value s = do
    paid ← code_text given.budget at args body value s.units
    Ok (record { now = with_paid s paid.units; text = Some paid.text })

  -- a choice at a path: the value names a key below it, which runs without a value, as `/c=x` runs `/c/x`
  abbrev pub choose : ℕ → List ℕ → List Tok → Situation → Answer Deed
  choose at path value s = do
    chosen ← expanded_name UnknownChoice at value s
    let below = path ++ slash ∷ chosen.name
    key ← or_fault (run_at chosen.now.env below) UnknownChoice at
    plain_run at (name_in below) key None chosen.now

  -- what the run at a path makes of a value
  abbrev pub run_key : ℕ → List ℕ → List ℕ → Run → Option (List Tok) → Situation → Answer Deed
  run_key at path name runs.Choice (Some value) s = choose at path value s
  run_key at path name key value s = plain_run at name key value s

  -- ---- entries

  -- an entry takes a value: its run does, or else its stored value becomes that one; where it has neither, it does
  -- nothing
  abbrev pub use_by : ℕ → List ℕ → Entry → Option Run → Option (List Tok) → Option (List Tok) → Situation
      → Answer (Option Deed)
  use_by at path entry (Some key) stored value s = do
    taken ← value_by at entry.need value
    deed ← run_key at path (name_in path) key taken s
    Ok (Some deed)
  use_by at path entry None (Some old) value s = do
    taken ← value_by at entry.need value
    new ← or_fault taken ValueRequired at
    Ok (Some (done (with_key s path (record entry { value = Some new }))))
  use_by at path entry None None value s = Ok None

  -- the same for what stands at a path
  abbrev pub use_entry : ℕ → List ℕ → Option Entry → Option (List Tok) → Situation → Answer (Option Deed)
  use_entry at path None value s = Ok None
  use_entry at path (Some entry) value s = use_by at path entry entry.run entry.value value s

  -- the key at a path takes a value
  abbrev pub use_key : ℕ → List ℕ → Option (List Tok) → Situation → Answer (Option Deed)
  use_key at path value s = use_entry at path (map.get s.env.keys path) value s

  -- ---- handlers

  -- the units once the code of a run is paid for
  abbrev pub code_paid : ℕ → Option Run → ℕ → Answer ℕ
  code_paid at (Some (runs.Code args body)) units = pay given.budget units (cost_of body) at
  code_paid at _ units = Ok units

  -- the units once an entry was edited: a style that grows costs as much as its new code
  abbrev pub edit_paid : ℕ → Handler → Option Run → ℕ → Answer ℕ
  edit_paid at AppendStyle key units = code_paid at key units
  edit_paid at PrefixStyle key units = code_paid at key units
  edit_paid at _ key units = Ok units

  -- a handler edits the entry at a path
  abbrev pub edit : ℕ → Handler → List ℕ → Option (List Tok) → Situation → Answer Deed
  edit at handler path value s = do
    entry ← edited (also_word given) at handler (map.get s.env.keys path) value
    paid ← edit_paid at handler entry.run s.units
    Ok (done (with_key (with_paid s paid) path entry))

  -- what a handler does with the key at a path
  abbrev pub handle : ℕ → Handler → List ℕ → Option (List Tok) → List ℕ → Situation → Answer Effect
  handle at Cd path value dir s = Ok (record { deed = done s; dir = path })
  handle at Try path value dir s = staying dir (use_key at path value s >>= λ used. Ok (done_or_not s used))
  handle at handler path value dir s = staying dir (edit at handler path value s)

  -- ---- parts

  -- two words stand for a key and its last part
  abbrev pub announced : ℕ → List ℕ → Situation → Situation
  announced at path s =
      with_text (with_text s (current_key given) (tokens_of at path)) (current_name given) (tokens_of at (name_in path))

  -- a key that nothing is known of: another runs for it, which can ask for its name
  abbrev pub unknown : ℕ → List ℕ → Option (List Tok) → Situation → Answer Deed
  unknown at path value s = do
    other ← or_fault (stand_in s.env path) UnknownKey at
    run_key at other.0 (name_in path) other.1 value (announced at path s)

  -- a key without a run and a stored value: its last part may be a handler of the key before it
  abbrev pub handle_or_unknown : ℕ → Option Handler → List ℕ → Option (List Tok) → List ℕ → Situation → Answer Effect
  handle_or_unknown at (Some handler) path value dir s = handle at handler (parent_of path) value dir s
  handle_or_unknown at None path value dir s = staying dir (unknown at path value s)

  -- what was done with a key, or else what its last part says
  abbrev pub used_or : ℕ → Option Deed → List ℕ → Option (List Tok) → List ℕ → Situation → Answer Effect
  used_or at (Some deed) path value dir s = Ok (record { deed = deed; dir = dir })
  used_or at None path value dir s = handle_or_unknown at (handler_of (name_in path)) path value dir s

  -- The key at a path, with a value. The first of these that fits: a run, a stored value, a handler in its last part,
  -- `.unknown` beside it, `.unknown` in /handlers; else the key isn't known.
  abbrev pub key : ℕ → List ℕ → Option (List Tok) → List ℕ → Situation → Answer Effect
  key at path value dir s = do
    used ← use_key at path value s
    used_or at used path value dir s

  -- a part of a key list, with the default path before it: `b=1` where that is `/a` is the key `/a/b` with the value
  -- `1`
  unfoldable pub part : KeyPart → List ℕ → Situation → Answer Effect
  part p dir s = do
    name ← expanded_name UnknownKey p.at p.name s
    key p.at (full_path dir name.name) p.value dir name.now
