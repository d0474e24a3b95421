-- Tables of words that are gone through from the front.
use Rattle.std.proofs.Common.{◌≡◌, ℕ, ◌+◌, ◌<◌, ◌≤◌, List, length, map, drop, get_or, true, false, refl, add-one, drop-cons}
use Rattle.std.specs.Str.{bytes_eq}
use Rattle.std.proofs.lemmas.List.{drop_all}
use Rattle.tk_expr.specs.declared.pieces.Mark.{Mark}
use Rattle.tk_expr.specs.declared.pieces.Mark.TheVariants.{Word}
use Rattle.tk_expr.specs.Pieces.{mark_in}

-- by what a row of the code says
module _ {R : Type 0} (entry : R → List ℕ × Mark) where
  -- what a text is by a table
  abbrev pub marked : List ℕ → List R → Mark
  marked text rows = mark_in (map entry rows) text

  -- the row in front has the text
  pub marked_in_front : (text : List ℕ) (rows : List R) (i : ℕ) (row : R) → i < length rows → bytes_eq text (entry (get_or rows i row)).0 ≡ true
      → marked text (drop i rows) ≡ (entry (get_or rows i row)).1
  marked_in_front text rows i row lt e = rw (drop-cons rows i row) (rw e refl)

  -- the row in front doesn't
  pub marked_behind : (text : List ℕ) (rows : List R) (i : ℕ) (row : R) → i < length rows → bytes_eq text (entry (get_or rows i row)).0 ≡ false
      → marked text (drop i rows) ≡ marked text (drop (i + 1) rows)
  marked_behind text rows i row lt e = rw (add-one, drop-cons rows i row) (rw e refl)

  -- no row is left
  pub just_a_word : (text : List ℕ) (rows : List R) (i : ℕ) → length rows ≤ i → marked text (drop i rows) ≡ Word
  just_a_word text rows i le = rw (drop_all i rows le) refl
