-- Path data that are written stand for the pieces.
use Rattle.std.proofs.Common.{◌≡◌, true, List, [], ◌∷◌, ◌++◌, Some, refl, ap, arith}
use Rattle.std.specs.Prelude.{ℤ, pos, negsuc, neg_ℤ, unsigned_abs}
use Rattle.std.proofs.Common.{zero, suc}
use Rattle.std.specs.List.{list_all, AllByRecursion}
use Rattle.std.proofs.lemmas.Bool.{le-leb}
use Rattle.tk_num.specs.Number.{IsScaled, is_scaled}
use Rattle.tk_item.specs.declared.Point.{Point}
use Rattle.tk_item.specs.declared.Seg.{Seg}
use Rattle.tk_item.specs.declared.Seg.TheVariants.{Move, Line, Curve, Close}
use Rattle.tk_svg.specs.PathData.{Letter, PathCommand, PathCommands, ends, named, LineTo, MoveTo, CurveTo, ClosePath, command_piece, command_pieces}
use Rattle.tk_svg.specs.PathData.{scaled_point, IsPathData}
use Rattle.tk_svg.specs.Fitting.{FitsBox, BeginsWithMove}
use Rattle.tk_svg.proofs.Numbers.{EndsNumber}
use Rattle.tk_svgwrite.specs.Values.{numbers_text, numbers_of_point, piece_text, data_text}
use Rattle.tk_svgwrite.specs.Ranges.{PointInRange, PieceInRange}
use Rattle.tk_svgwrite.proofs.Numbers.{is_plain, all_both, numbers_plain, numbers_back}

pub neg-neg : (z : ℤ) → neg_ℤ (neg_ℤ z) ≡ z
neg-neg (pos zero) = refl
neg-neg (pos (suc n)) = refl
neg-neg (negsuc n) = refl

pub unsigned_abs-neg : (z : ℤ) → unsigned_abs (neg_ℤ z) ≡ unsigned_abs z
unsigned_abs-neg (pos zero) = refl
unsigned_abs-neg (pos (suc n)) = refl
unsigned_abs-neg (negsuc n) = refl

-- the numbers of points fit
pub scaled_fits : (z : ℤ) → IsScaled z → FitsBox z
scaled_fits z h = omega (arith, h)

pub neg_fits : (z : ℤ) → IsScaled z → FitsBox (neg_ℤ z)
neg_fits z h = omega (arith, h, unsigned_abs-neg z)

one_fits : (p : Point) → PointInRange p → AllByRecursion FitsBox (numbers_of_point p)
one_fits p h = (scaled_fits p.x h.x, (neg_fits p.y h.y, tt))

three_fit : (p q r : Point) → PointInRange p → PointInRange q → PointInRange r
    → AllByRecursion FitsBox (numbers_of_point p ++ numbers_of_point q ++ numbers_of_point r)
three_fit p q r h i j =
    (scaled_fits p.x h.x, (neg_fits p.y h.y, (scaled_fits q.x i.x, (neg_fits q.y i.y, (scaled_fits r.x j.x, (neg_fits r.y j.y, tt))))))

-- ---- commands

-- the command of a piece
abbrev command_of : Seg → PathCommand
command_of (Move p) = (MoveTo, numbers_of_point p)
command_of (Line p) = (LineTo, numbers_of_point p)
command_of (Curve p q r) = (CurveTo, numbers_of_point p ++ numbers_of_point q ++ numbers_of_point r)
command_of Close = (ClosePath, [])

abbrev commands_of : List Seg → List PathCommand
commands_of [] = []
commands_of (s ∷ segs) = command_of s ∷ commands_of segs

data_ends : (segs : List Seg) → EndsNumber (data_text segs)
data_ends [] = tt
data_ends (Move p ∷ segs) = (refl, refl)
data_ends (Line p ∷ segs) = (refl, refl)
data_ends (Curve p q r ∷ segs) = (refl, refl)
data_ends (Close ∷ segs) = (refl, refl)

data_commands : (k : Letter) (segs : List Seg) → AllByRecursion PieceInRange segs → PathCommands k (data_text segs) (commands_of segs)
data_commands k [] h = ends refl
data_commands k (Move p ∷ segs) h =
    named refl refl (numbers_back p.x (neg_ℤ p.y ∷ []) (data_text segs) (one_fits p h.0) (data_ends segs)) (data_commands LineTo segs h.1)
data_commands k (Line p ∷ segs) h =
    named refl refl (numbers_back p.x (neg_ℤ p.y ∷ []) (data_text segs) (one_fits p h.0) (data_ends segs)) (data_commands LineTo segs h.1)
data_commands k (Curve p q r ∷ segs) h =
    named refl refl (numbers_back p.x (neg_ℤ p.y ∷ numbers_of_point q ++ numbers_of_point r) (data_text segs) (three_fit p q r h.0.0 h.0.1 h.0.2)
    (data_ends segs)) (data_commands CurveTo segs h.1)
data_commands k (Close ∷ segs) h = named refl refl refl (data_commands ClosePath segs h.1)

-- ---- what the commands stand for

point_back : (p : Point) → PointInRange p → scaled_point p.x (neg_ℤ p.y) ≡ Some p
point_back p h =
    let t : is_scaled p.x ≡ true = le-leb _ _ h.x in
    let u : is_scaled (neg_ℤ p.y) ≡ true = le-leb _ _ (omega (arith, h.y, unsigned_abs-neg p.y)) in
    rw (t, u) (ap (λ y. Some (record { x = p.x; y = y })) (neg-neg p.y))

piece_back : (s : Seg) → PieceInRange s → command_piece (command_of s) ≡ Some s
piece_back (Move p) h = rw (point_back p h) refl
piece_back (Line p) h = rw (point_back p h) refl
piece_back (Curve p q r) h = rw (point_back p h.0, point_back q h.1, point_back r h.2) refl
piece_back Close h = refl

pieces_back : (segs : List Seg) → AllByRecursion PieceInRange segs → command_pieces (commands_of segs) ≡ Some segs
pieces_back [] h = refl
pieces_back (s ∷ segs) h = rw (piece_back s h.0, pieces_back segs h.1) refl

pub data_means : (segs : List Seg) → BeginsWithMove segs → AllByRecursion PieceInRange segs → IsPathData (data_text segs) segs
data_means [] b h = absurd b
data_means (Move p ∷ segs) b h = record {
  front = numbers_text (numbers_of_point p) ++ data_text segs;
  args = numbers_of_point p;
  rest = data_text segs;
  others = commands_of segs;
  begins = refl;
  first = numbers_back p.x (neg_ℤ p.y ∷ []) (data_text segs) (one_fits p h.0) (data_ends segs);
  commands = data_commands LineTo segs h.1;
  meaning = pieces_back (Move p ∷ segs) h;
}
data_means (Line p ∷ segs) b h = absurd b
data_means (Curve p q r ∷ segs) b h = absurd b
data_means (Close ∷ segs) b h = absurd b

-- ---- what the data are made of

piece_plain : (s : Seg) → PieceInRange s → list_all is_plain (piece_text s) ≡ true
piece_plain (Move p) h = numbers_plain (numbers_of_point p) (one_fits p h)
piece_plain (Line p) h = numbers_plain (numbers_of_point p) (one_fits p h)
piece_plain (Curve p q r) h = numbers_plain (numbers_of_point p ++ numbers_of_point q ++ numbers_of_point r) (three_fit p q r h.0 h.1 h.2)
piece_plain Close h = refl

pub data_plain : (segs : List Seg) → AllByRecursion PieceInRange segs → list_all is_plain (data_text segs) ≡ true
data_plain [] h = refl
data_plain (s ∷ segs) h = all_both is_plain (piece_text s) (data_text segs) (piece_plain s h.0) (data_plain segs h.1)
