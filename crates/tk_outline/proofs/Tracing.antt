-- The pieces of outlines and grids begin with a Move, and so does a path to which they are added.
use Rattle.std.specs.Prelude.{◌≡◌, List, [], ◌∷◌, ◌++◌, Option, None, Some, Result, Ok, Err, ℤ, ℕ, IfOk, Bool, true, is_ok, pos, neg_ℤ}
use Rattle.std.specs.Result.{result_unwrap_or}
use Rattle.std.proofs.Common.{refl, subst, sym, ap, ◌∙◌, true≢false}
use Rattle.tk_token.specs.Answers.{◌>>=◌}
use Rattle.tk_item.specs.declared.Point.{Point}
use Rattle.tk_item.specs.declared.Seg.{Seg}
use Rattle.tk_item.specs.declared.Seg.TheVariants.{Move, Line, Curve, Close}
use Rattle.tk_svg.specs.Fitting.{BeginsWithMove}
use Rattle.tk_affine.specs.declared.AffFault.{AffFault}
use Rattle.tk_affine.specs.declared.Matrix.{Matrix}
use Rattle.tk_geom.specs.Circles.{control_length, vector_end, curve_round, circle_pieces}
use Rattle.tk_affine.specs.Inverses.{corner_of}
use Rattle.tk_geom.specs.Rectangles.{rectangle_pieces}
use Rattle.tk_geom.specs.GridLines.{GridLine, checked_image, line_pieces}
use Rattle.tk_geom.specs.Pieces.{xy, appended as with_pieces_behind, Appends}
use Rattle.tk_outline.specs.Tracing.{BeginsOrNone, IsTraced}

-- pieces behind a path
pub joined_pieces_begin : (old segs : List Seg) → BeginsOrNone old → BeginsOrNone segs → BeginsOrNone (old ++ segs)
joined_pieces_begin [] segs h k = k
joined_pieces_begin (Move p ∷ old) segs h k = tt
joined_pieces_begin (Line p ∷ old) segs h k = absurd h
joined_pieces_begin (Curve a b p ∷ old) segs h k = absurd h
joined_pieces_begin (Close ∷ old) segs h k = absurd h

-- a fact of each value passes on
then_result : {A B : Type 0} (Q : B → Type 0) (m : Result A AffFault) (f : A → Result B AffFault) → ((a : A) → IfOk (f a) Q) → IfOk (m >>= f) Q
then_result Q (Ok a) f h = h a
then_result Q (Err e) f h = tt

-- those of a circle and of a rectangle begin so
circle_begins : (m : Matrix) (c : Point) (rx ry : ℤ) → IfOk (circle_pieces m c rx ry) BeginsOrNone
unfolding circle_pieces
circle_begins m c rx ry =
    let kx = control_length rx in
    let ky = control_length ry in
    then_result BeginsOrNone (vector_end m c (xy rx (pos 0))) _ (λ right.
    then_result BeginsOrNone (curve_round m c (xy rx ky) (xy kx ry) (xy (pos 0) ry)) _ (λ first.
    then_result BeginsOrNone (curve_round m c (xy (neg_ℤ kx) ry) (xy (neg_ℤ rx) ky) (xy (neg_ℤ rx) (pos 0))) _ (λ second.
    then_result BeginsOrNone (curve_round m c (xy (neg_ℤ rx) (neg_ℤ ky)) (xy (neg_ℤ kx) (neg_ℤ ry)) (xy (pos 0) (neg_ℤ ry))) _ (λ third.
    then_result BeginsOrNone (curve_round m c (xy kx (neg_ℤ ry)) (xy rx (neg_ℤ ky)) (xy rx (pos 0))) _ (λ fourth. tt)))))

rectangle_begins : (m : Matrix) (p q : Point) → IfOk (rectangle_pieces m p q) BeginsOrNone
unfolding rectangle_pieces
rectangle_begins m p q =
    then_result BeginsOrNone (corner_of m p q) _ (λ first.
    then_result BeginsOrNone (corner_of m q p) _ (λ second. tt))

-- those of a line of a grid
pub line_begins : (m : Matrix) (line : GridLine) → IfOk (line_pieces m line) BeginsOrNone
unfolding line_pieces
line_begins m line =
    then_result BeginsOrNone (checked_image m line.from) _ (λ p.
    then_result BeginsOrNone (checked_image m line.to) _ (λ q. tt))

-- what was put behind a path
pub appended_pieces_trace : (old new : List Seg) (done : Result (Unit {0}) AffFault) (pieces : Result (List Seg) AffFault) → is_ok done ≡ true
    → Appends old new done pieces → with_pieces_behind old pieces ≡ Ok new
appended_pieces_trace old new (Ok u) pieces e h = h
appended_pieces_trace old new (Err f) pieces e h = absurd (true≢false (sym e))

-- a path to which such pieces were added
added_pieces_trace : (old new : List Seg) (pieces : Result (List Seg) AffFault) → BeginsOrNone old → IfOk pieces BeginsOrNone
    → with_pieces_behind old pieces ≡ Ok new → IsTraced new None
added_pieces_trace old new (Ok segs) h k e = record {
  first = subst BeginsOrNone (ap (λ r. result_unwrap_or r []) e) (joined_pieces_begin old segs h
      k);
  begun = tt;
}
added_pieces_trace old new (Err f) h k e = absurd (true≢false (sym (ap is_ok e)))

pub circle_added : (old new : List Seg) (m : Matrix) (c : Point) (rx ry : ℤ) → BeginsOrNone old
    → with_pieces_behind old (circle_pieces m c rx ry) ≡ Ok new → IsTraced new None
circle_added old new m c rx ry h e = added_pieces_trace old new (circle_pieces m c rx ry) h (circle_begins m c rx ry) e

pub rectangle_added : (old new : List Seg) (m : Matrix) (p q : Point) → BeginsOrNone old → with_pieces_behind old (rectangle_pieces m p q) ≡ Ok new
    → IsTraced new None
rectangle_added old new m p q h e = added_pieces_trace old new (rectangle_pieces m p q) h (rectangle_begins m p q) e
