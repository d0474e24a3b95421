-- The words and signs of paths. They are read letter by letter, with nothing between the letters.
use Rattle.std.specs.Prelude.{ℕ, Bool, true, not, ◌&&◌, ◌||◌, ◌==◌, if◌then◌else◌, List, [], ◌∷◌, Option, Some, None, Ok, codes}
use Rattle.std.specs.Prelude.{slice_get, take}
use Rattle.std.specs.List.{list_any}
use Rattle.std.specs.Str.{bytes_eq}
use Rattle.tk_characters.specs.Characters.{left_parenthesis, plus}
use Rattle.tk_token.specs.declared.Kind.{Kind}
use Rattle.tk_token.specs.declared.Kind.TheVariants.{Char}
use Rattle.tk_token.specs.declared.Tok.{Tok}
use Rattle.tk_token.specs.declared.Code.TheVariants.{PathSyntax}
use Rattle.tk_token.specs.Answers.{Answer, ◌>>=◌, fault, or_fault}
use Rattle.tk_token.specs.Kinds.{is_char}
use Rattle.tk_expand.specs.Reading.{is_there}
use Rattle.tk_keys.specs.Given.{Given}
use Rattle.tk_path.specs.declared.words.PathWord.{PathWord}
use Rattle.tk_path.specs.declared.words.PathWord.TheVariants as words
use Rattle.tk_path.specs.declared.words.Words.{Words}
use Rattle.tk_path.specs.declared.words.Words.TheVariants as tables
use Rattle.tk_path.specs.Configurations.{Configuration, Reached, reached, Lookahead, place_ahead, must_be, token_ahead}
use Rattle.tk_path.specs.Configurations.{ahead_of}

-- ---- the tables

-- what operations begin with
abbrev pub operation_words : List (List ℕ × PathWord)
operation_words =
    (codes "--", words.Line)
    ∷ (codes "-|", words.AcrossThenUp)
    ∷ (codes "|-", words.UpThenAcross)
    ∷ (codes "..", words.Dots)
    ∷ (codes "to", words.To)
    ∷ (codes "rectangle", words.Rectangle)
    ∷ (codes "circle", words.Circle)
    ∷ (codes "ellipse", words.Circle)
    ∷ (codes "arc", words.Arc)
    ∷ (codes "grid", words.Grid)
    ∷ (codes "node", words.Node)
    ∷ (codes "coordinate", words.Coordinate)
    ∷ (codes "foreach", words.Foreach)
    ∷ []

-- nodes, which may stand before the coordinate to which an operation goes
abbrev pub node_words : List (List ℕ × PathWord)
node_words = (codes "node", words.Node) ∷ (codes "coordinate", words.Coordinate) ∷ []

-- what a line, corner or curve may go to beside a coordinate, and nodes before it
abbrev pub target_words : List (List ℕ × PathWord)
target_words = (codes "cycle", words.Cycle) ∷ node_words

-- what stands behind the first control point of a curve
abbrev pub control_words : List (List ℕ × PathWord)
control_words = (codes "and", words.And) ∷ (codes "..", words.Dots) ∷ []

-- the words of each kind
abbrev pub word_table : Words → List (List ℕ × PathWord)
word_table tables.Operations = operation_words
word_table tables.Nodes = node_words
word_table tables.Targets = target_words
word_table tables.Controls = control_words

-- whether no two of these words begin with the same two letters
abbrev pub are_told_by_two_letters : List (List ℕ × PathWord) → Bool
are_told_by_two_letters [] = true
are_told_by_two_letters (row ∷ rows) =
    not (list_any (λ (other : List ℕ × PathWord). bytes_eq (take 2 row.0) (take 2 other.0)) rows) && are_told_by_two_letters rows

-- ---- reading them

-- the letter that a token is
abbrev pub letter_there : Option Tok → Option ℕ
letter_there None = None
letter_there (Some t) = by t.kind
  where
    by : Kind → Option ℕ
    by (Char c) = Some c
    by _ = None

-- the rows whose word begins with that letter, with what is left of the word
abbrev pub going_on : ℕ → List (List ℕ × PathWord) → List (List ℕ × PathWord)
going_on c [] = []
going_on c (([], word) ∷ rows) = going_on c rows
going_on c ((letter ∷ letters, word) ∷ rows) =
    if letter == c then (letters, word) ∷ going_on c rows else going_on c rows

module _ (given : Given) (at : ℕ) where
  -- what is behind a letter of a word, which begins at that place
  unfoldable pub behind_letter : ℕ → Configuration → Answer Configuration
  behind_letter letter c = do
    next ← token_ahead given c
    if is_there (is_char letter) next.token then Ok next.behind else fault PathSyntax at

  -- the same of more letters
  unfoldable pub behind_letters : List ℕ → Configuration → Answer Configuration
  behind_letters [] c = Ok c
  behind_letters (letter ∷ letters) c = behind_letter letter c >>= behind_letters letters

  -- the word of which the first letter was taken, among those that are left: no two of them go on with the same letter
  unfoldable pub rest_of_word : List (List ℕ × PathWord) → Configuration → Answer (Reached PathWord)
  rest_of_word [] c = fault PathSyntax at
  rest_of_word (row ∷ rows) c = do
    second ← token_ahead given c
    letter ← or_fault (letter_there second.token) PathSyntax at
    found ← or_fault (slice_get (going_on letter (row ∷ rows)) 0) PathSyntax at
    behind ← behind_letters found.0 second.behind
    Ok (reached found.1 behind)

module _ (given : Given) where
  -- The word of a table that begins with a token which was taken. Where none does, or one fits only in part, that is a
  -- fault at this token.
  unfoldable pub word_from : Words → Lookahead → Answer (Reached PathWord)
  word_from kind first = do
    letter ← or_fault (letter_there first.token) PathSyntax (place_ahead first)
    rest_of_word given (place_ahead first) (going_on letter (word_table kind)) first.behind

  -- the word of a table that has to be next; Spaces before it are passed over
  unfoldable pub word_ahead : Words → Configuration → Answer (Reached PathWord)
  word_ahead kind c = ahead_of given c >>= word_from kind

  -- what is behind a word that has to be next; Spaces before it are passed over
  unfoldable pub past_word : List ℕ → Configuration → Answer Configuration
  past_word [] c = Ok c
  past_word (letter ∷ letters) c = do
    first ← ahead_of given c
    inside ← must_be (is_char letter) first
    behind_letters given (place_ahead first) letters inside

-- what a coordinate begins with
abbrev pub begins_coordinate : Kind → Bool
begins_coordinate kind = is_char left_parenthesis kind || is_char plus kind
