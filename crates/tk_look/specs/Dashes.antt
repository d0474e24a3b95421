-- Dash patterns: `on 3pt off 2pt`.
use Rattle.std.specs.Prelude.{ℕ, zero, suc, ◌==◌, if◌then◌else◌, List, [], ◌∷◌, length, drop, unwrap_or, Option, Some}
use Rattle.std.specs.Prelude.{None, Ok, ℤ, pos, codes}
use Rattle.tk_characters.specs.Options.{◌and_then◌}
use Rattle.tk_token.specs.declared.Code.TheVariants.{Domain}
use Rattle.tk_token.specs.declared.Tok.{Tok}
use Rattle.tk_token.specs.Answers.{Answer, ◌>>=◌, or_fault}
use Rattle.tk_token.specs.Groups.{Cut, cut, first_outside}
use Rattle.tk_token.specs.Kinds.{begins_text, begins_dash}
use Rattle.tk_token.specs.Spaces.{after_spaces}
use Rattle.tk_expr.specs.declared.FontUnits.{FontUnits}
use Rattle.tk_expr.specs.Evaluates.{Evaluation}
use Rattle.tk_look.specs.Values.{value_there, at_least}

-- a dash and the gap behind it: their texts, and what stands behind them
pub record Dash : Type 0 where
  pub on : List Tok
  pub off : List Tok
  pub rest : List Tok

-- the tokens up to the next `on` or `off` outside braces, or all
abbrev pub up_to_word : List Tok → Cut
up_to_word ts = unwrap_or (first_outside begins_dash ts) (cut ts [])

-- the text behind a word that is in front, and what is left from the next word on
abbrev pub behind_word : List ℕ → List Tok → Option Cut
behind_word word ts = if begins_text word ts then Some (up_to_word (drop (length word) ts)) else None

-- the first dash: `on`, a text, `off`, and a text
unfoldable pub dash_of : List Tok → Option Dash
dash_of ts =
    behind_word (codes "on") ts and_then λ on.
    behind_word (codes "off") on.rest and_then λ off.
    Some (record { on = on.front; off = off.front; rest = off.rest })

-- dashes one after another up to the end: at least one, and at most so many
unfoldable pub all_dashes : ℕ → List Tok → Option (List Dash)
all_dashes zero ts = None
all_dashes (suc n) ts = dash_of ts and_then λ d.
    if length d.rest == 0 then Some (d ∷ []) else (all_dashes n d.rest and_then λ ds. Some (d ∷ ds))

module _ (at : ℕ) (ev : Evaluation) (font : FontUnits) where
  -- a length that isn't negative
  abbrev pub dash_length : List Tok → Answer ℤ
  dash_length text = do
    found ← ev font at text
    at_least at (pos 0) found.number

  -- the lengths of dashes and gaps, one after another
  unfoldable pub dash_lengths : List Dash → Answer (List ℤ)
  dash_lengths [] = Ok []
  dash_lengths (d ∷ ds) = do
    on ← dash_length d.on
    off ← dash_length d.off
    others ← dash_lengths ds
    Ok (on ∷ (off ∷ others))

  -- the lengths of a pattern of at most 8 dashes and 8 gaps, 16 lengths, which begins with a word; its words are asked
  -- before any length is read
  abbrev pub pattern_lengths : List Tok → Answer (List ℤ)
  pattern_lengths list = do
    ds ← or_fault (all_dashes 8 list) Domain at
    dash_lengths ds

  -- a value that is a pattern, with Spaces before it
  abbrev pub pattern_value : Option (List Tok) → Answer (List ℤ)
  pattern_value value = do
    list ← value_there at value
    pattern_lengths (after_spaces list)
