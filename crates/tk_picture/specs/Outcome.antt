-- What a source stands for.
use Rattle.std.specs.Prelude.{ℕ, ◌≤◌, List, length, map, pos, take}
use Rattle.std.specs.Str.{IsUtf8}
use Rattle.tk_token.specs.Answers.{Answer, ◌>>=◌}
use Rattle.tk_token.specs.Faults.{Lexes}
use Rattle.tk_token.specs.Token.{Token}
use Rattle.tk_token.specs.Words.{words_of, tok_of}
use Rattle.tk_expand.specs.Unread.{unread}
use Rattle.tk_expr.specs.declared.FontUnits.{FontUnits}
use Rattle.tk_expr.specs.Evaluates.{Evaluation, IsEvaluation}
use Rattle.tk_keys.specs.Given.{Given, known_words}
use Rattle.tk_picture.specs.declared.Asked.{Asked}
use Rattle.tk_picture.specs.declared.Compiled.{Compiled}
use Rattle.tk_picture.specs.Documents.{document}

-- the font's units: an em is 10pt, and an ex is 4.3pt
abbrev pub font_units : FontUnits
font_units = record { em = pos 655360; ex = pos 281805 }

-- what is given for a run over these tokens, with a way to evaluate
abbrev pub given_for : Evaluation → Asked → List Token → Given
given_for ev asked ts =
    record { names = known_words (words_of ts); evaluate = ev; font = font_units; budget = asked.budget }

-- what tokens draw that run out at that place: words go by the numbers of their first appearances
abbrev pub document_of : Evaluation → Asked → ℕ → List Token → Answer Compiled
document_of ev asked end ts = document (given_for ev asked ts) (unread (map (tok_of (words_of ts)) ts) end)

-- The drawing of a source and the units that it costs, or its first fault: that of cutting it into tokens, or else that
-- of its tokens. Expressions have the answers of `Evaluates`, of which each has one.
pub data IsOutcome (asked : Asked) (source : List ℕ) : Answer Compiled → Type 0 where
  of_tokens : {tokens : Answer (List Token)} {ev : Evaluation}
      → Lexes source tokens
      → IsEvaluation ev
      → IsOutcome asked source (tokens >>= document_of ev asked (length source))

-- a place in a source, with whole characters before it: it has a line and a column
pub record IsPlace (source : List ℕ) (at : ℕ) : Type 0 where
  pub within : at ≤ length source
  pub text : IsUtf8 (take at source)
