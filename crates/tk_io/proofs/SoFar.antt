-- How far the reading of a file has come.
use Rattle.std.specs.Prelude.{◌≡◌, ◌≢◌, ℕ, ◌<◌, true, false, List, [], length, take, drop, Some, None, IfSome, IsSomeAnd, unwrap_or}
use Rattle.tk_io.specs.Shelf.{Shelved, Counts, LeavesOfInput, standard_input}

-- these bytes were read since the shelf was as it was at first, and the rest is left
pub record SoFar (name : List ℕ) (old : Shelved) (bytes : List ℕ) (now : Shelved) : Type 0 where
  pub counts : Counts name old now
  pub is_open : now.is_open name ≡ true
  pub taken : now.taken ≡ length bytes
  pub front :
      IfSome old.holds (λ holds. bytes ≡ take (length bytes) (unwrap_or (holds name) []))
  pub left :
      IfSome old.holds (λ holds.
      now.left ≡ Some (drop (length bytes) (unwrap_or (holds name) [])))
  pub there : IfSome old.holds (λ holds. holds name ≡ None → old.sure ≡ false → ⊥)
  pub holds : name ≢ standard_input → now.holds ≡ old.holds
  pub others :
      IfSome old.holds (λ holds.
      IsSomeAnd now.holds (λ h. (n : List ℕ) → n ≢ standard_input → h n ≡ holds n))
  -- before the first read the shelf holds all that it held, and then of standard input the rest
  pub unmoved : length bytes ≡ 0 → now.holds ≡ old.holds
  pub moved : name ≡ standard_input → 0 < length bytes → LeavesOfInput (drop (length bytes)) old now
