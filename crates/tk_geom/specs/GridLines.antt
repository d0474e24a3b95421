-- The lines of a grid: at the multiples of two steps.
use Rattle.std.specs.Prelude.{ℕ, zero, suc, ◌+◌, if◌then◌else◌, List, [], ◌∷◌, ◌++◌, map, Result, Ok, ℤ, pos, neg_ℤ}
use Rattle.std.specs.Prelude.{◌+ℤ◌, ◌-ℤ◌, ◌*ℤ◌, int_div, int_le, unsigned_abs}
use Rattle.std.specs.Int.{int_min, int_max, int_div_euclid}
use Rattle.tk_token.specs.Answers.{◌>>=◌}
use Rattle.tk_item.specs.declared.Point.{Point}
use Rattle.tk_item.specs.declared.Seg.{Seg}
use Rattle.tk_item.specs.declared.Seg.TheVariants.{Move, Line}
use Rattle.tk_affine.specs.declared.AffFault.{AffFault}
use Rattle.tk_affine.specs.declared.Matrix.{Matrix}
use Rattle.tk_affine.specs.Images.{image}
use Rattle.tk_affine.specs.Inverses.{inverse_image}
use Rattle.tk_geom.specs.Pieces.{xy, checked}

-- ---- multiples of a step

-- n whole numbers from k on: 3, 4 and 5 for 3 and 3
abbrev pub rising : ℤ → ℕ → List ℤ
rising k zero = []
rising k (suc n) = k ∷ rising (k +ℤ pos 1) n

-- the least whole number whose product with s is at least z, for a positive s
abbrev pub ceiling_of : ℤ → ℤ → ℤ
ceiling_of z s = neg_ℤ (int_div_euclid (neg_ℤ z) s)

-- the greatest whole number whose product with s is at most z, for a positive s
abbrev pub floor_of : ℤ → ℤ → ℤ
floor_of z s = int_div_euclid z s

-- how many whole numbers there are from a to b
abbrev pub count_between : ℤ → ℤ → ℕ
count_between a b = if int_le a b then unsigned_abs (b -ℤ a) + 1 else 0

-- the whole numbers k for which k*s lies from low to high, for a positive s, rising: 1 and 2 from 3 to 25 by 10
unfoldable pub multiples_between : ℤ → ℤ → ℤ → List ℤ
multiples_between low high s = rising (ceiling_of low s) (count_between (ceiling_of low s) (floor_of high s))

-- those from low to high, and up to a hundredth of a step beyond
abbrev pub multiples_about : ℤ → ℤ → ℤ → List ℤ
multiples_about low high s = multiples_between (low -ℤ int_div s (pos 100)) (high +ℤ int_div s (pos 100)) s

-- ---- the lines

-- a line of a grid by its two ends, before the matrix moves them
pub record GridLine : Type 0 where
  pub from : Point
  pub to : Point

-- the upright line at x
abbrev pub upright_line : ℤ → ℤ → ℤ → GridLine
upright_line low high x = record { from = xy x low; to = xy x high }

-- the level line at y
abbrev pub level_line : ℤ → ℤ → ℤ → GridLine
level_line low high y = record { from = xy low y; to = xy high y }

-- lines at the multiples of a step
abbrev pub lines_at : (ℤ → GridLine) → ℤ → List ℤ → List GridLine
lines_at line s multiples = map (λ k. line (k *ℤ s)) multiples

-- the upright lines of a grid between two corners, then the level ones
abbrev pub grid_lines : Point → Point → ℤ → ℤ → List GridLine
grid_lines low high sx sy =
    lines_at (upright_line low.y high.y) sx (multiples_about low.x high.x sx)
    ++ lines_at (level_line low.x high.x) sy (multiples_about low.y high.y sy)

-- the lower left and the upper right corner of what lies between p and q, before the matrix moves it
unfoldable pub corners : Matrix → Point → Point → Result (Point × Point) AffFault
corners m p q = do
  a ← inverse_image m p
  b ← inverse_image m q
  Ok (xy (int_min a.x b.x) (int_min a.y b.y), xy (int_max a.x b.x) (int_max a.y b.y))

-- the image of a point, which is to be in range itself
abbrev pub checked_image : Matrix → Point → Result Point AffFault
checked_image m p = do
  place ← checked p
  image m place

-- the pieces of a line
unfoldable pub line_pieces : Matrix → GridLine → Result (List Seg) AffFault
line_pieces m line = do
  p ← checked_image m line.from
  q ← checked_image m line.to
  Ok (Move p ∷ Line q ∷ [])
