-- How a run goes on along words.
use Rattle.std.specs.Prelude.{ℕ, suc, ◌+◌, List, [], ◌∷◌, Option, Some, None, Ok, slice_get}
use Rattle.tk_token.specs.declared.Code.TheVariants.{PathSyntax}
use Rattle.tk_token.specs.declared.Tok.{Tok}
use Rattle.tk_token.specs.Kinds.{is_char}
use Rattle.tk_expand.specs.Reading.{is_there}
use Rattle.tk_expand.proofs.Going.{Going, then_going, if_going, some_going, gives, refused}
use Rattle.tk_keys.specs.Given.{Given}
use Rattle.tk_path.specs.declared.words.PathWord.{PathWord}
use Rattle.tk_path.specs.declared.words.Words.{Words}
use Rattle.tk_path.specs.Configurations.{Configuration, Reached, Lookahead, lookahead, place_ahead}
use Rattle.tk_path.specs.Words.{word_table, letter_there, going_on, behind_letter, behind_letters, rest_of_word, word_from, word_ahead, past_word}
use Rattle.tk_path.proofs.Places.{Here, HereWith, Taken, AnyValue, less, passed, place_taken, token_here, solid_here, wanted_here}

module _ (P : ℕ → Type 0) (given : Given) (from : Configuration) where
  letter_here : (gone at letter : ℕ) (c : Configuration) → P at → Here P given from gone c
      → Going P (Here P given from gone) (behind_letter given at letter c)
  unfolding behind_letter
  letter_here gone at letter c p h =
      then_going P (token_here P given from gone c h) (λ next k.
      if_going P (is_there (is_char letter) next.token) (gives P next.behind (passed P given from gone next k)) (refused P PathSyntax at p))

  letters_here : (gone at : ℕ) (letters : List ℕ) (c : Configuration) → P at → Here P given from gone c
      → Going P (Here P given from gone) (behind_letters given at letters c)
  unfolding behind_letters
  letters_here gone at [] c p h = gives P c h
  letters_here gone at (letter ∷ letters) c p h =
      then_going P (letter_here gone at letter c p h) (λ d k. letters_here gone at letters d p k)

  rest_here : (gone at : ℕ) (rows : List (List ℕ × PathWord)) (c : Configuration) → P at → Here P given from gone c
      → Going P (HereWith P given from AnyValue gone) (rest_of_word given at rows c)
  unfolding rest_of_word
  rest_here gone at [] c p h = refused P PathSyntax at p
  rest_here gone at (row ∷ rows) c p h =
      then_going P (token_here P given from gone c h) (λ second k.
      then_going P (some_going P (letter_there second.token) PathSyntax p) (λ letter _.
      then_going P (some_going P (slice_get (going_on letter (row ∷ rows)) 0) PathSyntax p) (λ found _.
      then_going P (letters_here gone at found.0 second.behind p (passed P given from gone second k)) (λ e a. gives P _ (tt, a)))))

  from_here : (gone : ℕ) (kind : Words) (token : Option Tok) (d : Configuration) → Taken P given from gone (lookahead token d)
      → Going P (HereWith P given from AnyValue (gone + 1)) (word_from given kind (lookahead token d))
  unfolding word_from
  from_here gone kind None d k = refused P PathSyntax d.list.end k.here.good.end
  from_here gone kind (Some t) d k =
      then_going P (some_going P (letter_there (Some t)) PathSyntax k.token) (λ letter _.
      rest_here (gone + 1) t.at (going_on letter (word_table kind)) d k.token k.here)

  -- the word that begins with a token which was taken
  pub word_from_here : (gone : ℕ) (kind : Words) (first : Lookahead) → Taken P given from gone first
      → Going P (HereWith P given from AnyValue (gone + 1)) (word_from given kind first)
  word_from_here gone kind first k = from_here gone kind first.token first.behind k

  pub word_here : (gone : ℕ) (kind : Words) (c : Configuration) → Here P given from gone c
      → Going P (HereWith P given from AnyValue (gone + 1)) (word_ahead given kind c)
  unfolding word_ahead
  word_here gone kind c h = then_going P (solid_here P given from gone c h) (λ first k. word_from_here gone kind first k)

  pub past_word_here : (gone : ℕ) (word : List ℕ) (c : Configuration) → Here P given from gone c
      → Going P (Here P given from gone) (past_word given word c)
  unfolding past_word
  past_word_here gone [] c h = gives P c h
  past_word_here gone (letter ∷ letters) c h =
      then_going P (solid_here P given from gone c h) (λ first k.
      then_going P (wanted_here P given from gone (is_char letter) first k) (λ inside a.
      letters_here gone (place_ahead first) letters inside (place_taken P given from gone first k)
      (less P given from gone inside a)))
