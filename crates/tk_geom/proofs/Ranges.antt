-- Pieces are in range, whatever they are made of: each of their points is asked. Those of circles, rectangles and grids begin
-- with a move.
use Rattle.std.proofs.Common.{◌≡◌, ℕ, zero, suc, Bool, true, false, refl, List, [], ◌∷◌, ◌++◌, Result, Ok, Err, ℤ, pos, neg_ℤ}
use Rattle.std.specs.Prelude.{IfOk, ◌+ℤ◌, ◌-ℤ◌, ◌==◌, ◌&&◌, if◌then◌else◌, int_lt, unsigned_abs}
use Rattle.std.specs.List.{AllByRecursion, range_with_len}
use Rattle.tk_num.specs.Number.{product}
use Rattle.tk_num.specs.Angle.{sine, cosine}
use Rattle.tk_token.specs.declared.Code.TheVariants.{Domain}
use Rattle.tk_token.specs.Answers.{Answer, ◌>>=◌, fault}
use Rattle.tk_expand.specs.Expand.{pay}
use Rattle.tk_item.specs.declared.Point.{Point}
use Rattle.tk_item.specs.declared.Seg.{Seg}
use Rattle.tk_item.specs.declared.Seg.TheVariants.{Move, Line, Curve, Close}
use Rattle.tk_affine.specs.declared.AffFault.{AffFault}
use Rattle.tk_affine.specs.declared.Matrix.{Matrix}
use Rattle.tk_affine.specs.Faults.{answer_at}
use Rattle.tk_affine.specs.Images.{IsPoint, point_at, vector_image, image}
use Rattle.tk_affine.specs.Inverses.{corner_of}
use Rattle.tk_affine.proofs.Corners.{corner_in}
use Rattle.tk_affine.proofs.Ranges.{then_in, point_in, vector_in, image_in}
use Rattle.tk_geom.specs.Arcs.{piece_count, spoke, control_vector, arc_piece, piece_at, arc_pieces, control_ratio, angle_at}
use Rattle.tk_geom.specs.Circles.{control_length, vector_end, curve_round, circle_pieces}
use Rattle.tk_geom.specs.GridLines.{GridLine, corners, checked_image, line_pieces, grid_lines}
use Rattle.tk_geom.specs.Grids.{Grid, line_drawn, lines_drawn, grid_pieces}
use Rattle.tk_geom.specs.Pieces.{xy, sum_of, difference_of, checked, try_map}
use Rattle.tk_geom.specs.Rectangles.{rectangle_pieces}

-- the points of a piece are in range
abbrev pub PieceIn : Seg → Type 0
PieceIn (Move p) = IsPoint p
PieceIn (Line p) = IsPoint p
PieceIn (Curve p q r) = IsPoint p × (IsPoint q × IsPoint r)
PieceIn Close = Unit {0}

-- those of all pieces
abbrev pub PiecesIn : List Seg → Type 0
PiecesIn segs = AllByRecursion PieceIn segs

pub joined_in : (segs more : List Seg) → PiecesIn segs → PiecesIn more → PiecesIn (segs ++ more)
joined_in [] more h k = k
joined_in (s ∷ segs) more h k = (h.0, joined_in segs more h.1 k)

-- there is none, or the first is a move
abbrev pub NoneOrMove : List Seg → Type 0
NoneOrMove [] = Unit {0}
NoneOrMove (Move p ∷ segs) = Unit {0}
NoneOrMove _ = ⊥

-- ---- corners and rectangles

-- pieces that are in range, the first of which is a move
pub record OutlineIn (segs : List Seg) : Type 0 where
  pub within : PiecesIn segs
  pub move : NoneOrMove segs

pub rectangle_in : (m : Matrix) (p q : Point) → IsPoint p → IsPoint q → IfOk (rectangle_pieces m p q) OutlineIn
unfolding rectangle_pieces
rectangle_in m p q h k =
    then_in IsPoint OutlineIn (corner_of m p q) _ (corner_in m p q) (λ first a.
    then_in IsPoint OutlineIn (corner_of m q p) _ (corner_in m q p) (λ second b.
    record { within = (h, (a, (k, (b, (tt, tt))))); move = tt }))

-- a point that is asked
asked_in : (p : Point) → IfOk (checked p) IsPoint
asked_in p = point_in p.x p.y

-- ---- circles

end_in : (m : Matrix) (c v : Point) → IfOk (vector_end m c v) IsPoint
unfolding vector_end
end_in m c v = then_in IsPoint IsPoint (vector_image m v) _ (vector_in m v) (λ image h. asked_in (sum_of c image))

curve_in : (m : Matrix) (c first second end : Point) → IfOk (curve_round m c first second end) PieceIn
unfolding curve_round
curve_in m c first second end =
    then_in IsPoint PieceIn (vector_end m c first) _ (end_in m c first) (λ p h.
    then_in IsPoint PieceIn (vector_end m c second) _ (end_in m c second) (λ q k.
    then_in IsPoint PieceIn (vector_end m c end) _ (end_in m c end) (λ r l. (h, (k, l)))))

pub circle_in : (m : Matrix) (c : Point) (rx ry : ℤ) → IfOk (circle_pieces m c rx ry) OutlineIn
unfolding circle_pieces
circle_in m c rx ry =
    then_in IsPoint OutlineIn (vector_end m c (xy rx (pos 0))) _ (end_in m c _) (λ right a.
    then_in PieceIn OutlineIn (curve_round m c _ _ _) _ (curve_in m c _ _ _) (λ first h.
    then_in PieceIn OutlineIn (curve_round m c _ _ _) _ (curve_in m c _ _ _) (λ second k.
    then_in PieceIn OutlineIn (curve_round m c _ _ _) _ (curve_in m c _ _ _) (λ third l.
    then_in PieceIn OutlineIn (curve_round m c _ _ _) _ (curve_in m c _ _ _) (λ fourth n.
    record { within = (a, (h, (k, (l, (n, (tt, tt)))))); move = tt })))))

-- ---- arcs

abbrev Any : Point → Type 0
Any p = Unit {0}

any : (m : Result Point AffFault) → IfOk m Any
any (Ok p) = tt
any (Err e) = tt

arc_piece_in : (m : Matrix) (centre : Point) (rx ry k a b : ℤ) → IfOk (arc_piece m centre rx ry k a b) PieceIn
unfolding arc_piece
arc_piece_in m centre rx ry k a b =
    then_in Any PieceIn (spoke m rx ry a) _ (any _) (λ from _.
    then_in Any PieceIn (control_vector m rx ry k a) _ (any _) (λ out _.
    then_in Any PieceIn (spoke m rx ry b) _ (any _) (λ to _.
    then_in Any PieceIn (control_vector m rx ry k b) _ (any _) (λ back _.
    then_in IsPoint PieceIn (checked (sum_of (sum_of centre from) out)) _ (asked_in (sum_of (sum_of centre from) out)) (λ p h.
    then_in IsPoint PieceIn (checked (difference_of (sum_of centre to) back)) _ (asked_in (difference_of (sum_of centre to) back)) (λ q l.
    then_in IsPoint PieceIn (checked (sum_of centre to)) _ (asked_in (sum_of centre to)) (λ r n. (h, (l, n)))))))))

each_in : {A : Type 0} (f : A → Result Seg AffFault) → ((x : A) → IfOk (f x) PieceIn) → (xs : List A) → IfOk (try_map f xs) PiecesIn
each_in f h [] = tt
each_in f h (x ∷ xs) =
    then_in PieceIn PiecesIn (f x) _ (h x) (λ y k.
    then_in PiecesIn PiecesIn (try_map f xs) _ (each_in f h xs) (λ ys l. (k, l)))

if_pieces : (b : Bool) (m n : Result (List Seg) AffFault) → IfOk m PiecesIn → IfOk n PiecesIn → IfOk (if b then m else n) PiecesIn
if_pieces true m n h k = h
if_pieces false m n h k = k

pub arc_in : (m : Matrix) (c : Point) (a b rx ry : ℤ) → IfOk (arc_pieces m c a b rx ry) PiecesIn
unfolding arc_pieces
arc_in m c a b rx ry =
    if_pieces (piece_count a b == 0) (Ok []) _ tt
    (then_in Any PiecesIn (spoke m rx ry a) _ (any _) (λ first _.
    each_in (piece_at m (difference_of c first) a b rx ry (piece_count a b)) (λ i. arc_piece_in m _ rx ry _ _ _)
    (range_with_len 0 (piece_count a b))))

-- ---- grids

checked_in : (m : Matrix) (p : Point) → IfOk (checked_image m p) IsPoint
checked_in m p = then_in IsPoint IsPoint (checked p) _ (point_in p.x p.y) (λ place h. image_in m place)

line_in : (m : Matrix) (line : GridLine) → IfOk (line_pieces m line) OutlineIn
unfolding line_pieces
line_in m line =
    then_in IsPoint OutlineIn (checked_image m line.from) _ (checked_in m line.from) (λ p h.
    then_in IsPoint OutlineIn (checked_image m line.to) _ (checked_in m line.to) (λ q k. record { within = (h, (k, tt)); move = tt }))

abbrev pub GridIn : Grid → Type 0
GridIn grid = OutlineIn grid.pieces

then_grid : {A B : Type 0} (Q : A → Type 0) (R : B → Type 0) (m : Answer A) (f : A → Answer B) → IfOk m Q
    → ((x : A) → Q x → IfOk (f x) R) → IfOk (m >>= f) R
then_grid Q R (Ok x) f h k = k x h
then_grid Q R (Err e) f h k = tt

answered : {A : Type 0} (Q : A → Type 0) (at : ℕ) (m : Result A AffFault) → IfOk m Q → IfOk (answer_at at m) Q
answered Q at (Ok x) h = h
answered Q at (Err e) h = tt

anything : {A : Type 0} (m : Answer A) → IfOk m (λ _. Unit {0})
anything (Ok x) = tt
anything (Err e) = tt

pub behind_move : (segs more : List Seg) → NoneOrMove segs → NoneOrMove more → NoneOrMove (segs ++ more)
behind_move [] more h k = k
behind_move (Move p ∷ segs) more h k = tt
behind_move (Line p ∷ segs) more h k = elim h [ ]
behind_move (Curve p q r ∷ segs) more h k = elim h [ ]
behind_move (Close ∷ segs) more h k = elim h [ ]

-- pieces behind others
pub outline_behind : (segs more : List Seg) → OutlineIn segs → OutlineIn more → OutlineIn (segs ++ more)
outline_behind segs more h k = record { within = joined_in segs more h.within k.within; move = behind_move segs more h.move k.move }

module _ (m : Matrix) (budget at : ℕ) where
  line_drawn_in : (units : ℕ) (line : GridLine) → IfOk (line_drawn m budget at units line) GridIn
  line_drawn_in units line =
      then_grid (λ _. Unit {0}) GridIn (pay budget units 1 at) _ (anything _) (λ paid _.
      then_grid OutlineIn GridIn (answer_at at (line_pieces m line)) _ (answered OutlineIn at (line_pieces m line) (line_in m line))
      (λ pieces h. h))

  lines_in : (units : ℕ) (lines : List GridLine) → IfOk (lines_drawn m budget at units lines) GridIn
  lines_in units [] = record { within = tt; move = tt }
  lines_in units (line ∷ lines) =
      then_grid GridIn GridIn (line_drawn m budget at units line) _ (line_drawn_in units line) (λ first h.
      then_grid GridIn GridIn (lines_drawn m budget at first.units lines) _ (lines_in first.units lines) (λ others k.
      outline_behind first.pieces others.pieces h k))

  if_grid : (b : Bool) (r : Answer Grid) → IfOk r GridIn → IfOk (if b then r else fault Domain at) GridIn
  if_grid true r h = h
  if_grid false r h = tt

  pub grid_in : (p q : Point) (sx sy : ℤ) (units : ℕ) → IfOk (grid_pieces m p q sx sy budget at units) GridIn
  unfolding grid_pieces
  grid_in p q sx sy units =
      if_grid (int_lt (pos 0) sx && int_lt (pos 0) sy) _
      (then_grid (λ _. Unit {0}) GridIn (answer_at at (corners m p q)) _ (anything _) (λ between _.
      lines_in units (grid_lines between.0 between.1 sx sy)))
