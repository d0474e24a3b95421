-- Private: only private contracts use this. What the code holds, as the definitions see it.
use Rattle.std.specs.Prelude.{ℕ, ℤ, List, [], Option, Ok, option_map, string_bytes}
use Rattle.tk_token.specs.Answers.{Answer, ◌>>=◌, or_fault}
use Rattle.tk_token.specs.declared.Code.TheVariants.{ValueRequired}
use Rattle.tk_token.specs.Texts.{text_in, tokens_of}
use Rattle.tk_store.specs.declared.Need.{Need}
use Rattle.tk_store.specs.declared.Run.{Run}
use Rattle.tk_store.specs.Levels.{Macros}
use Rattle.tk_expand.specs.Expand.{stream, full}
use Rattle.tk_expr.specs.declared.FontUnits.{FontUnits}
use Rattle.tk_expr.specs.Evaluated.{evaluated}
use Rattle.tk_token.specs.declared.Tok.{Tok}
use Rattle.tk_token.specs.Places.{end_of}
use Rattle.tk_expand.specs.Unread.{Unread, unread}
use Rattle.tk_keys.specs.declared.deeds.Deed as code
use Rattle.tk_keys.specs.declared.keys.Runner.{Runner}
use Rattle.tk_keys.specs.declared.setting.Origin.{Origin}
use Rattle.std.specs.FinMap as map
use Rattle.tk_look.specs.Graphics.{initial_graphics}
use Rattle.tk_keys.specs.Environment.{Situation, level, with_paid, with_text}
use Rattle.tk_keys.specs.Given.{Given}
use Rattle.tk_keys.specs.Keys.{Deed, Effect, Named, PaidText, value_by}
use Rattle.tk_keys.specs.Settings.{KeyRead, ExpressionValue, Standing, standing, Some_settings, A_key_list}
use Rattle.tk_keys.specs.Settings.{Set, set_behind, runs, begins_at, dir_behind}
use Rattle.tk_keys.specs.State.{State, situation_of}

-- what a key leaves
abbrev pub deed_of : code.Deed → State → Deed
deed_of deed s = record { now = situation_of s; text = deed.text }

-- the same where something was done
abbrev pub used_of : Option code.Deed → State → Option Deed
used_of used s = option_map (λ deed. deed_of deed s) used

-- what a part leaves
abbrev pub effect_of : code.Deed → State → List ℕ → Effect
effect_of deed s dir = record { deed = deed_of deed s; dir = dir }

-- the value that is stored where a key is given that one, by its need
abbrev pub stored_by : ℕ → Need → Option (List Tok) → Answer (List Tok)
stored_by at need value = value_by at need value >>= λ taken. or_fault taken ValueRequired at

-- a name that was read
abbrev pub name_read : List ℕ → State → Named
name_read name s = record { name = name; now = situation_of s }

-- the name of a key that was read
abbrev pub key_of : List ℕ → State → Unread → KeyRead
key_of path s list = record { path = path; now = situation_of s; list = list }

-- the text of a list, once it is expanded, and the units behind it
abbrev pub expanded_text : ℕ → Macros → ℕ → ℕ → List Tok → Answer (Option (List ℕ) × ℕ)
expanded_text budget macros units at list =
    full budget macros (stream units (unread list at)) >>= λ text. Ok (text_in text.list.rest, text.units)

-- what expressions and their macros need
abbrev pub given_by : FontUnits → ℕ → Given
given_by font budget = record { names = []; evaluate = evaluated; font = font; budget = budget }

abbrev pub situation_by : FontUnits → Macros → ℕ → Situation
situation_by font macros units =
    record {
      env = record {
        macros = macros;
        keys = map.empty;
        graphics = initial_graphics font;
        levels = 0;
        lists = 0;
      };
      units = units;
    }

-- a value, and the units behind it
abbrev pub value_behind : ℤ → ℕ → ExpressionValue
value_behind value units = record { value = value; units = units }

-- what is behind a setting that gives a word the text of a number
abbrev pub number_set : (ℤ → List ℕ) → ℕ → ℕ → ℤ → Situation → Unread → Set
number_set written at word value s list = set_behind (with_text s word (tokens_of at (written value))) list

-- a text that was paid for
abbrev pub paid_by : List Tok → ℕ → PaidText
paid_by text units = record { text = text; units = units }

-- a key that runs for another
abbrev pub runner_of : Runner → List ℕ × Run
runner_of runner = (string_bytes runner.path, runner.run)

-- where a run stands behind a key list, which the command of a setting gives
abbrev pub keys_from : Given → Origin → ℕ → List Tok → Standing → Answer Standing
keys_from given origin at list st = do
  after ← runs given (A_key_list st.now (begins_at origin st.dir) list at)
  Ok (standing after.now (dir_behind origin st.dir after.dir) st.list)

-- where a run stands behind a group with those contents
abbrev pub contents_run : Given → ℕ → List Tok → Standing → Answer Standing
contents_run given at contents st = do
  inside ← level at st.now.env
  let list = unread contents (end_of at contents)
  after ← runs given (Some_settings (standing (record st.now { env = inside }) st.dir list))
  Ok (standing (with_paid st.now after.now.units) st.dir st.list)
