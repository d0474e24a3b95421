-- Each word stands once among the words of tokens.
use Rattle.std.proofs.Common.{◌≡◌, ℕ, zero, suc, ◌+◌, ◌<◌, Bool, true, false, ◌||◌, List, [], ◌∷◌, ◌++◌, length, Some, refl, sym, ap, ◌∙◌, arith}
use Rattle.std.proofs.Common.{length-append, ◌⊎◌, inl, inr}
use Rattle.std.specs.Prelude.{if◌then◌else◌}
use Rattle.std.specs.List.{slice_get}
use Rattle.std.specs.Str.{bytes_eq}
use Rattle.std.specs.Cmp.Lexicographic.{bytes_decides}
use Rattle.std.proofs.lemmas.Bool.{false≢true}
use Rattle.std.proofs.Math.Nat.{eq-or-lt_of_le}
use Rattle.tk_token.specs.Token.{TokenSign, A_char, A_word, A_symbol, Opens, Closes, A_param, An_arg, A_space, Token}
use Rattle.tk_token.specs.Words.{has_word, with_word, with_sign, with_words, words_of, EachOnce}

-- a word that isn't among words stands at none of their places
not_there : (words : List (List ℕ)) (word : List ℕ) (n : ℕ) → has_word words word ≡ false → slice_get words n ≡ Some word → ⊥
not_there [] word n none e = absurd cc
not_there (w ∷ ws) word zero none e =
    let same : word ≡ w = cc in
    false≢true (sym (left (bytes_eq word w) (has_word ws word) none) ∙ (bytes_decides word w).1 same)
  where
    left : (a b : Bool) → (a || b) ≡ false → a ≡ false
    left true b h = absurd cc
    left false b h = refl
not_there (w ∷ ws) word (suc n) none e = not_there ws word n (right (bytes_eq word w) (has_word ws word) none) e
  where
    right : (a b : Bool) → (a || b) ≡ false → b ≡ false
    right true b h = absurd cc
    right false b h = h

-- what stands at a place of a list with one more word
at_last : (words : List (List ℕ)) (word : List ℕ) → slice_get (words ++ word ∷ []) (length words) ≡ Some word
at_last [] word = refl
at_last (w ∷ ws) word = at_last ws word

at_older : (words : List (List ℕ)) (word : List ℕ) (n : ℕ) → n < length words → slice_get (words ++ word ∷ []) n ≡ slice_get words n
at_older [] word n lt = absurd (omega arith)
at_older (w ∷ ws) word zero lt = refl
at_older (w ∷ ws) word (suc n) lt = at_older ws word n (omega arith)

-- a place of the list, or the one behind it
abbrev Place : List (List ℕ) → ℕ → Type 0
Place words k = (k < length words) ⊎ (k ≡ length words)

place_among_words : (words : List (List ℕ)) (k : ℕ) → k < length words + 1 → Place words k
place_among_words words k lt = elim (eq-or-lt_of_le {n = k} {m = length words} (omega arith)) [ inl a ↦ inr a | inr b ↦ inl b ]

module _ (words : List (List ℕ)) (word : List ℕ) (once : EachOnce words) (none : has_word words word ≡ false) where
  new_differs : (m n : ℕ) → m < length words → n ≡ length words → slice_get (words ++ word ∷ []) m ≡ slice_get (words ++ word ∷ []) n → ⊥
  new_differs m n lt is e =
      not_there words word m none (sym (at_older words word m lt) ∙ e ∙ ap (slice_get (words ++ word ∷ [])) is ∙ at_last words word)

  one_more : EachOnce (words ++ word ∷ [])
  one_more m n lm ln e = by_places (place_among_words words m (omega (arith, length-append words (word ∷ []))))
      (place_among_words words n (omega (arith, length-append words (word ∷ []))))
    where
      by_places : Place words m → Place words n → m ≡ n
      by_places (inl a) (inl b) = once m n a b (sym (at_older words word m a) ∙ e ∙ at_older words word n b)
      by_places (inl a) (inr b) = absurd (new_differs m n a b e)
      by_places (inr a) (inl b) = absurd (new_differs n m b a (sym e))
      by_places (inr a) (inr b) = cc

once_more : (words : List (List ℕ)) (word : List ℕ) → EachOnce words → EachOnce (with_word words word)
once_more words word once = by_test (has_word words word) refl
  where
    by_test : (b : Bool) → has_word words word ≡ b → EachOnce (if b then words else words ++ word ∷ [])
    by_test true e = once
    by_test false e = one_more words word once e

with_sign_once : (words : List (List ℕ)) (sign : TokenSign) → EachOnce words → EachOnce (with_sign words sign)
with_sign_once words (A_word word) h = once_more words word h
with_sign_once words (A_char c) h = h
with_sign_once words (A_symbol c) h = h
with_sign_once words Opens h = h
with_sign_once words Closes h = h
with_sign_once words A_param h = h
with_sign_once words (An_arg n) h = h
with_sign_once words A_space h = h

all_once : (words : List (List ℕ)) (ts : List Token) → EachOnce words → EachOnce (with_words words ts)
all_once words [] h = h
all_once words (t ∷ ts) h = all_once (with_sign words t.sign) ts (with_sign_once words t.sign h)

pub words_once : (ts : List Token) → EachOnce (words_of ts)
unfolding words_of
words_once ts = all_once [] ts (λ m n lm ln e. absurd (omega arith))
