-- What stays the same in a run.
use Rattle.std.specs.Prelude.{ℕ, List, [], ◌∷◌, codes}
use Rattle.tk_token.specs.Words.{with_word, word_number}
use Rattle.tk_expr.specs.declared.FontUnits.{FontUnits}
use Rattle.tk_expr.specs.Evaluates.{Evaluation}

-- the words by their numbers, how an expression is evaluated, the units of the font, and how many units may be paid
pub record Given : Type 0 where
  pub names : List (List ℕ)
  pub evaluate : Evaluation
  pub font : FontUnits
  pub budget : ℕ

-- ---- words

-- words, with more of them: those that aren't there go last
abbrev pub with_all : List (List ℕ) → List (List ℕ) → List (List ℕ)
with_all words [] = words
with_all words (word ∷ more) = with_all (with_word words word) more

-- the words that a run makes itself
abbrev pub made_words : List (List ℕ)
made_words = codes "pgfkeysalso" ∷ codes "pgfkeyscurrentkey" ∷ codes "pgfkeyscurrentname" ∷ []

-- the words of a run over a source with those words
abbrev pub known_words : List (List ℕ) → List (List ℕ)
known_words words = with_all words made_words

-- ---- their numbers

-- `\pgfkeysalso`
abbrev pub also_word : Given → ℕ
also_word given = word_number given.names (codes "pgfkeysalso")

-- `\pgfkeyscurrentkey`, which stands for the full path of a key that nothing is known of
abbrev pub current_key : Given → ℕ
current_key given = word_number given.names (codes "pgfkeyscurrentkey")

-- `\pgfkeyscurrentname`, which stands for the last part of that path
abbrev pub current_name : Given → ℕ
current_name given = word_number given.names (codes "pgfkeyscurrentname")
