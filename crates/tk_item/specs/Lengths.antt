-- The lengths of dashes.
use Rattle.std.specs.Prelude.{◌≤◌, length, List, ℤ, pos, int_le, IsTrue}
use Rattle.std.specs.List.{list_all}

-- at most sixteen lengths, of which none is negative
pub record AreDashes (lengths : List ℤ) : Type 0 where
  pub few : length lengths ≤ 16
  pub signs : IsTrue (list_all (int_le (pos 0)) lengths)
