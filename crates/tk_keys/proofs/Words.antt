-- Words that a run makes itself, and the numbers of words.
use Rattle.std.specs.Prelude.{ℕ, zero, suc, ◌+◌, ◌<◌, ◌≤◌, Bool, true, false, if◌then◌else◌, List, [], ◌∷◌, ◌++◌, length, Some, codes}
use Rattle.std.proofs.Common.{◌≡◌, refl, sym, ap, ◌∙◌, arith, length-append, get_or}
use Rattle.std.specs.List.{slice_get}
use Rattle.std.specs.Str.{bytes_eq}
use Rattle.std.specs.Cmp.Lexicographic.{bytes_decides}
use Rattle.std.proofs.lemmas.List.Sums.{position_or_len_is}
use Rattle.std.proofs.lemmas.Option.{slice_get-get_or}
use Rattle.tk_token.specs.Words.{EachOnce, has_word, with_word, word_number}
use Rattle.tk_token.proofs.Listed.{with_word_extends}
use Rattle.tk_keys.specs.Made.{AreMade}

-- one word more at most
pub one_more : (words : List (List ℕ)) (word : List ℕ) → length (with_word words word) ≤ length words + 1
one_more words word = by (has_word words word)
  where
    by : (b : Bool) → length (let r : List (List ℕ) = if b then words else words ++ word ∷ [] in r) ≤ length words + 1
    by true = omega arith
    by false = omega (arith, length-append words (word ∷ []))

-- ---- numbers

pub within_length : (ws : List (List ℕ)) (n : ℕ) (word : List ℕ) → slice_get ws n ≡ Some word → n < length ws
within_length [] n word e = absurd cc
within_length (w ∷ ws) zero word e = omega arith
within_length (w ∷ ws) (suc n) word e = (let h = within_length ws n word e in omega arith)

still_there : (ws us : List (List ℕ)) (n : ℕ) (word : List ℕ) → slice_get ws n ≡ Some word → slice_get (ws ++ us) n ≡ Some word
still_there [] us n word e = absurd cc
still_there (w ∷ ws) us zero word e = e
still_there (w ∷ ws) us (suc n) word e = still_there ws us n word e

-- a word stays where it is
word_stays_at_its_number : (old new : List (List ℕ)) (more word : List ℕ) (n : ℕ) → new ≡ with_word old more → slice_get old n ≡ Some word
    → slice_get new n ≡ Some word
word_stays_at_its_number old new more word n is e =
    let x = with_word_extends old more in
    ap (λ (ws : List (List ℕ)). slice_get ws n) (is ∙ x.1) ∙ still_there old x.0 n word e

module _ (names : List (List ℕ)) (once : EachOnce names) where
  same_place : (n k : ℕ) → n < length names → k < length names → get_or names n [] ≡ get_or names k [] → n ≡ k
  same_place n k a b e = once n k a b (slice_get-get_or names n [] a ∙ ap (λ (w : List ℕ). Some w) e ∙ sym (slice_get-get_or names k [] b))

  -- no earlier word is the same
  earlier : (n : ℕ) → n < length names → (k : ℕ) → k < n → bytes_eq (get_or names n []) (get_or names k []) ≡ false
  earlier n lt k less = at (bytes_eq (get_or names n []) (get_or names k [])) refl
    where
      at : (b : Bool) → bytes_eq (get_or names n []) (get_or names k []) ≡ b → b ≡ false
      at true e = (let same : n ≡ k = same_place n k lt (omega (arith, lt, less)) ((bytes_decides (get_or names n []) (get_or names k [])).0 e) in
          absurd (omega (arith, same, less)))
      at false e = refl

  -- the number of the word at a place is that place
  pub number_back : (n : ℕ) → n < length names → word_number names (get_or names n []) ≡ n
  number_back n lt = position_or_len_is (bytes_eq (get_or names n [])) names n [] (omega (arith, lt)) (earlier n lt)
      (λ _. (bytes_decides (get_or names n []) (get_or names n [])).1 refl)

  number_of : (n : ℕ) (word : List ℕ) → slice_get names n ≡ Some word → n ≡ word_number names word
  number_of n word e =
      let lt = within_length names n word e in
      let same : Some (get_or names n []) ≡ Some word = sym (slice_get-get_or names n [] lt) ∙ e in
      let w : get_or names n [] ≡ word = cc in
      sym (number_back n lt) ∙ ap (word_number names) w

-- the numbers of three words that were added one after the other
pub numbers_made : (w1 w2 w3 : List (List ℕ)) (also key name : ℕ)
    → slice_get w1 also ≡ Some (codes "pgfkeysalso")
    → w2 ≡ with_word w1 (codes "pgfkeyscurrentkey")
    → slice_get w2 key ≡ Some (codes "pgfkeyscurrentkey")
    → w3 ≡ with_word w2 (codes "pgfkeyscurrentname")
    → slice_get w3 name ≡ Some (codes "pgfkeyscurrentname")
    → EachOnce w3
    → AreMade w3 (record { also = also; key = key; name = name })
numbers_made w1 w2 w3 also key name a is2 k is3 n once = record {
  also = number_of w3 once also (codes "pgfkeysalso") (word_stays_at_its_number w2 w3 (codes "pgfkeyscurrentname") (codes "pgfkeysalso") also is3
      (word_stays_at_its_number w1 w2 (codes "pgfkeyscurrentkey") (codes "pgfkeysalso") also is2 a));
  key = number_of w3 once key (codes "pgfkeyscurrentkey") (word_stays_at_its_number w2 w3 (codes "pgfkeyscurrentname")
      (codes "pgfkeyscurrentkey") key is3 k);
  name = number_of w3 once name (codes "pgfkeyscurrentname") n;
}
