-- What a caller learns of sources.
use Rattle.std.specs.Prelude.{◌≡◌, ◌↔◌, Bool, IsTrue, ℕ, List, Ok}
use Rattle.tk_item.specs.declared.Drawing.{Drawing}
use Rattle.tk_picture.specs.declared.Asked.{Asked}
use Rattle.tk_render.specs.Rendered.{ComesTo}

-- what is asked of each source: its run may cost a million units
abbrev pub asked : Asked
asked = record { budget = 1000000 }

-- each of two sources draws something, and this says whether both drawings are the same
pub record Compares (same : Bool) (one other : List ℕ) : Type 0 where
  pub first : Drawing
  pub second : Drawing
  pub first_is : ComesTo asked one (Ok first)
  pub second_is : ComesTo asked other (Ok second)
  pub alike : IsTrue same ↔ (first ≡ second)
