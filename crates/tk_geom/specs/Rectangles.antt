-- Rectangles.
use Rattle.std.specs.Prelude.{List, [], ◌∷◌, Result, Ok}
use Rattle.tk_token.specs.Answers.{◌>>=◌}
use Rattle.tk_item.specs.declared.Point.{Point}
use Rattle.tk_item.specs.declared.Seg.{Seg}
use Rattle.tk_item.specs.declared.Seg.TheVariants.{Move, Line, Close}
use Rattle.tk_affine.specs.declared.AffFault.{AffFault}
use Rattle.tk_affine.specs.declared.Matrix.{Matrix}
use Rattle.tk_affine.specs.Inverses.{corner_of}

-- the pieces of a rectangle along the axes of the matrix, with p and q at opposite corners
unfoldable pub rectangle_pieces : Matrix → Point → Point → Result (List Seg) AffFault
rectangle_pieces m p q = do
  first ← corner_of m p q
  second ← corner_of m q p
  Ok (Move p ∷ Line first ∷ Line q ∷ Line second ∷ Close ∷ [])
