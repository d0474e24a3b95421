-- The words of a set of texts.
use Rattle.std.proofs.Common.{◌≡◌, ℕ, zero, suc, Bool, true, false, ◌||◌, List, [], ◌∷◌, ◌++◌, length, map, Some, refl, sym, ap, subst, ◌∙◌, arith}
use Rattle.std.proofs.Common.{get_or, ltb}
use Rattle.std.specs.Bool.{if◌then◌else◌}
use Rattle.std.specs.List.{list_any, slice_get, position, AllByRecursion, IsDistinct}
use Rattle.std.specs.Option.{option_map}
use Rattle.std.specs.Prelude.{String, Result, Ok, Err, OnErr}
use Rattle.std.specs.String.{string_bytes, string_eq}
use Rattle.std.specs.Str.{bytes_eq}
use Rattle.std.specs.Cmp.Lexicographic.{bytes_decides}
use Rattle.std.proofs.lemmas.Bool.{false≢true, ltb-true}
use Rattle.std.proofs.lemmas.List.{map-append, append-nil, length-map}
use Rattle.std.proofs.lemmas.List.Quantifiers.{position-Some}
use Rattle.std.proofs.lemmas.Map.Keys.{IsDistinct-head, IsDistinct-tail}
use Rattle.std.proofs.lemmas.Option.{slice_get-map, slice_get-get_or, slice_get_read}
use Rattle.indexmap.specs.IndexSet.{insert_key}
use Rattle.tk_token.specs.Token.{Extends}
use Rattle.tk_token.specs.Words.{has_word, with_word, EachOnce}

-- what holds holds of an error
pub on_err : {X E P : Type 0} (r : Result X E) → P → OnErr r P
on_err (Ok x) p = tt
on_err (Err e) p = p

-- the last word
pub last_word : (words : List (List ℕ)) (word : List ℕ) → slice_get (words ++ word ∷ []) (length words) ≡ Some word
last_word [] word = refl
last_word (w ∷ ws) word = last_word ws word

module _ {Z : Type 0} where
  -- the words that the texts are
  abbrev pub words_of : List (String Z) → List (List ℕ)
  words_of ks = map string_bytes ks

  -- whether one of the texts is the word
  pub has_word_is : (ks : List (String Z)) (word : List ℕ) → list_any (λ k. bytes_eq word (string_bytes k)) ks ≡ has_word (words_of ks) word
  has_word_is [] word = refl
  has_word_is (k ∷ ks) word = ap (λ (b : Bool). bytes_eq word (string_bytes k) || b) (has_word_is ks word)

  -- a word that is there changes nothing
  pub found_word : (ks : List (String Z)) (word : List ℕ) → list_any (λ k. bytes_eq word (string_bytes k)) ks ≡ true
      → words_of ks ≡ with_word (words_of ks) word
  found_word ks word h = sym (ap (λ (b : Bool). if b then words_of ks else words_of ks ++ word ∷ []) (sym (has_word_is ks word) ∙ h))

  -- and stands where it is found
  pub found_at : (ks : List (String Z)) (word : List ℕ) (i : ℕ) → position (λ k. bytes_eq word (string_bytes k)) ks ≡ Some i
      → slice_get (words_of ks) i ≡ Some word
  found_at [] word i h = absurd cc
  found_at (k ∷ ks) word i h =
      let at = position-Some (λ x. bytes_eq word (string_bytes x)) (k ∷ ks) i k h in
      slice_get-map string_bytes (k ∷ ks) i ∙ ap (option_map string_bytes) (slice_get-get_or (k ∷ ks) i k at.0)
      ∙ ap (λ (w : List ℕ). Some w) (sym ((bytes_decides _ _).0 at.1))

  -- a word that isn't there goes last
  pub new_word : (ks fs : List (String Z)) (v : String Z) (word : List ℕ) → string_bytes v ≡ word
      → list_any (λ k. bytes_eq word (string_bytes k)) ks ≡ false → fs ≡ insert_key string_eq ks v → words_of fs ≡ words_of ks ++ word ∷ []
  new_word ks fs v word same none is =
      let absent : list_any (string_eq v) ks ≡ false = subst (λ (w : List ℕ). list_any (λ k. bytes_eq w (string_bytes k)) ks ≡ false) (sym same) none
      in
      let last : fs ≡ ks ++ v ∷ [] = is ∙ ap (λ (b : Bool). if b then ks else ks ++ v ∷ []) absent in
      ap words_of last ∙ map-append string_bytes ks (v ∷ []) ∙ ap (λ (w : List ℕ). words_of ks ++ w ∷ []) same

  pub new_word_is : (ks fs : List (String Z)) (v : String Z) (word : List ℕ) → string_bytes v ≡ word
      → list_any (λ k. bytes_eq word (string_bytes k)) ks ≡ false → fs ≡ insert_key string_eq ks v → words_of fs ≡ with_word (words_of ks) word
  new_word_is ks fs v word same none is =
      new_word ks fs v word same none is ∙ sym (ap (λ (b : Bool). if b then words_of ks else words_of ks ++ word ∷ [])
      (sym (has_word_is ks word) ∙ none))

  pub new_word_at : (ks fs : List (String Z)) (v : String Z) (word : List ℕ) (n : ℕ) → string_bytes v ≡ word
      → list_any (λ k. bytes_eq word (string_bytes k)) ks ≡ false → fs ≡ insert_key string_eq ks v → n ≡ length ks
      → slice_get (words_of fs) n ≡ Some word
  new_word_at ks fs v word n same none is last =
      ap (λ (ws : List (List ℕ)). slice_get ws n) (new_word ks fs v word same none is) ∙ ap (slice_get (words_of ks ++ word ∷ [])) (last
      ∙ sym (length-map ks string_bytes)) ∙ last_word (words_of ks) word

  -- what is read there
  pub word_at : (ks shown : List (String Z)) (n : ℕ) (w : String Z) (word : List ℕ) → shown ≡ ks → true ≡ ltb n (length shown) → w ≡ get_or shown n w
      → word ≡ string_bytes w → Some word ≡ slice_get (words_of ks) n
  word_at ks shown n w word same within is text =
      sym (ap (λ (xs : List (String Z)). slice_get (words_of xs) n) (sym same)
      ∙ slice_get-map string_bytes shown n
      ∙ ap (option_map string_bytes) (slice_get_read shown (length shown) n w refl (ltb-true n (length shown) (sym within)) is)
      ∙ ap (λ (x : List ℕ). Some x) (sym text))

  -- a text that differs from all others is none of their words
  is_none : (k : String Z) (ks : List (String Z)) (j : ℕ) → AllByRecursion (λ y. string_eq k y ≡ false) ks
      → slice_get (words_of ks) j ≡ Some (string_bytes k) → ⊥
  is_none k [] j h e = absurd cc
  is_none k (y ∷ ys) zero h e =
      let same : string_bytes k ≡ string_bytes y = cc in
      false≢true (sym h.0 ∙ (bytes_decides (string_bytes k) (string_bytes y)).1 same)
  is_none k (y ∷ ys) (suc j) h e = is_none k ys j h.1 e

  -- texts of which no two are equal are words that stand once
  pub each_once : (ks : List (String Z)) → IsDistinct string_eq ks → EachOnce (words_of ks)
  each_once [] distinct m n lm ln e = absurd (omega arith)
  each_once (k ∷ ks) distinct zero zero lm ln e = refl
  each_once (k ∷ ks) distinct zero (suc n) lm ln e = absurd (is_none k ks n (IsDistinct-head string_eq k ks distinct) (sym e))
  each_once (k ∷ ks) distinct (suc m) zero lm ln e = absurd (is_none k ks m (IsDistinct-head string_eq k ks distinct) e)
  each_once (k ∷ ks) distinct (suc m) (suc n) lm ln e =
      ap suc (each_once ks (IsDistinct-tail string_eq k ks distinct) m n (omega arith) (omega arith) e)

-- words with one more are words with some more
pub with_word_extends : (words : List (List ℕ)) (word : List ℕ) → Extends words (with_word words word)
with_word_extends words word = by_test (has_word words word)
  where
    by_test : (b : Bool) → Extends words (if b then words else words ++ word ∷ [])
    by_test true = ([], sym (append-nil words))
    by_test false = (word ∷ [], refl)

pub ruleset listed = (found_word, new_word_is)
