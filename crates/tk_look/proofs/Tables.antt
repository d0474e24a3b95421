-- Tables of names that are gone through from the front.
use Rattle.std.proofs.Common.{◌≡◌, ℕ, ◌+◌, ◌<◌, ◌≤◌, List, length, map, drop, get_or, Option, Some, None, true, false, refl, add-one, drop-cons}
use Rattle.std.specs.Str.{bytes_eq}
use Rattle.tk_characters.specs.Words.{word_meaning}
use Rattle.std.proofs.lemmas.List.{drop_all}

-- by what a row says: a name, and what has it
module _ {R A : Type 0} (entry : R → List ℕ × A) where
  -- what has a name in a table
  abbrev pub looked_up : List ℕ → List R → Option A
  looked_up name rows = word_meaning (map entry rows) name

  -- the row in front has the name
  pub found_in_front : (name : List ℕ) (rows : List R) (i : ℕ) (row : R) → i < length rows → bytes_eq name (entry (get_or rows i row)).0 ≡ true
      → looked_up name (drop i rows) ≡ Some (entry (get_or rows i row)).1
  found_in_front name rows i row lt e = rw (drop-cons rows i row) (rw e refl)

  -- the row in front doesn't
  pub found_behind : (name : List ℕ) (rows : List R) (i : ℕ) (row : R) → i < length rows → bytes_eq name (entry (get_or rows i row)).0 ≡ false
      → looked_up name (drop i rows) ≡ looked_up name (drop (i + 1) rows)
  found_behind name rows i row lt e = rw (add-one, drop-cons rows i row) (rw e refl)

  -- no row is left
  pub not_found : (name : List ℕ) (rows : List R) (i : ℕ) → length rows ≤ i → looked_up name (drop i rows) ≡ None
  not_found name rows i le = rw (drop_all i rows le) refl
