-- The points of coordinates are in range, whatever they are made of.
use Rattle.std.proofs.Common.{ℕ, Bool, true, false, List, length, drop, Option, Some, None, is_some, Result, Ok, Err}
use Rattle.std.specs.Prelude.{IfOk, ◌+ℤ◌, if◌then◌else◌}
use Rattle.tk_item.specs.declared.Point.{Point}
use Rattle.tk_token.specs.declared.Code.TheVariants.{Coordinate}
use Rattle.tk_token.specs.declared.Tok.{Tok}
use Rattle.tk_token.specs.Answers.{Answer, ◌>>=◌, fault, or_fault}
use Rattle.tk_token.specs.Groups.{Cut, first_outside}
use Rattle.tk_token.specs.Kinds.{begins_corner}
use Rattle.tk_token.specs.Spaces.{trimmed}
use Rattle.tk_token.proofs.Fixpoint.{kept}
use Rattle.tk_affine.specs.declared.AffFault.{AffFault}
use Rattle.tk_affine.specs.declared.Matrix.{Matrix}
use Rattle.tk_affine.specs.Faults.{answer_at}
use Rattle.tk_affine.specs.Images.{IsPoint, image, vector_image}
use Rattle.tk_affine.proofs.Corners.{corner_in}
use Rattle.tk_affine.proofs.Ranges.{point_in, image_in}
use Rattle.tk_expr.specs.declared.FontUnits.{FontUnits}
use Rattle.tk_expr.specs.declared.ValuePair.{ValuePair}
use Rattle.tk_expr.specs.Evaluates.{Evaluation}
use Rattle.tk_expr.specs.Pairs.{paired, vector_of}
use Rattle.tk_look.specs.declared.Look.{Look}
use Rattle.tk_coord.specs.declared.TextTarget.{TextTarget}
use Rattle.tk_coord.specs.declared.corners.CornerSign.{CornerSign}
use Rattle.tk_coord.specs.declared.corners.CornerSign.TheVariants.{HorizontalFirst, VerticalFirst}
use Rattle.tk_coord.specs.Coordinates.{translated, point_in_numbers, sign_in_front, corner_between, point_by, lone_point, by_sign, point_step}
use Rattle.tk_coord.specs.Coordinates.{absolute_point, relative_point, without_node, target_of}

then_any : {A B : Type 0} (R : B → Type 0) (m : Answer A) (f : A → Answer B) → ((x : A) → IfOk (f x) R) → IfOk (m >>= f) R
then_any R (Ok x) f k = k x
then_any R (Err e) f k = tt

answered : (at : ℕ) (m : Result Point AffFault) → IfOk m IsPoint → IfOk (answer_at at m) IsPoint
answered at (Ok x) h = h
answered at (Err e) h = tt

pub between_in : (sign : CornerSign) (m : Matrix) (p q : Point) → IfOk (corner_between sign m p q) IsPoint
between_in HorizontalFirst m p q = corner_in m p q
between_in VerticalFirst m p q = corner_in m q p

module _ (ev : Evaluation) (font : FontUnits) (look : Look) (matrix : Matrix) (at : ℕ) where
  by_in : (text : List Tok) (numbers : Option ValuePair) → IfOk (point_by ev font look matrix at text numbers) IsPoint
  by_in text (Some numbers) =
      then_any IsPoint (vector_of look.x look.y at numbers) _ (λ v. answered at (image matrix v) (image_in matrix v))
  by_in text None = tt

  lone_in : (text : List Tok) → IfOk (lone_point ev font look matrix at text) IsPoint
  lone_in text = then_any IsPoint (paired ev font at text) _ (λ numbers. by_in text numbers)

  sign_in : (point : List Tok → Answer Point) (text : List Tok) (found : Option Cut)
      → IfOk (by_sign ev font look matrix at point text found) IsPoint
  sign_in point text None = lone_in (trimmed text)
  sign_in point text (Some c) =
      then_any IsPoint (lone_point ev font look matrix at (trimmed c.front)) _ (λ p.
      then_any IsPoint (point (drop 2 c.rest)) _ (λ q.
      answered at (corner_between (sign_in_front c.rest) matrix p q) (between_in (sign_in_front c.rest) matrix p q)))

  absolute_in : (text : List Tok) → IfOk (absolute_point ev font look matrix at text) IsPoint
  unfolding absolute_point
  absolute_in text = kept length (fault Coordinate at) (point_step ev font look matrix at) (λ text r. IfOk r IsPoint) (λ text. tt)
      (λ point found text. sign_in point text (first_outside begins_corner text)) text

  relative_in : (from : Point) (text : List Tok) → IfOk (relative_point ev font look matrix at from text) IsPoint
  unfolding relative_point
  relative_in from text = by (is_some (first_outside begins_corner text))
    where
      found : Answer Point
      found = paired ev font at text >>= λ found. or_fault found Coordinate at >>= λ numbers. vector_of look.x look.y at numbers
          >>= λ v. answer_at at (vector_image matrix v) >>= λ step. answer_at at (translated from step)

      found_in : IfOk found IsPoint
      found_in =
          then_any IsPoint (paired ev font at text) _ (λ found.
          then_any IsPoint (or_fault found Coordinate at) _ (λ numbers.
          then_any IsPoint (vector_of look.x look.y at numbers) _ (λ v.
          then_any IsPoint (answer_at at (vector_image matrix v)) _ (λ step.
          answered at (translated from step) (point_in (from.x +ℤ step.x) (from.y +ℤ step.y))))))

      by : (b : Bool) → IfOk (let r : Answer Point = if b then fault Coordinate at else found in r) IsPoint
      by true = tt
      by false = found_in

  -- what a coordinate's text stands for is a point in range
  pub target_in : (from : Option Point) (text : List Tok)
      → IfOk (target_of ev font look matrix at from text) (λ (target : TextTarget). IsPoint target.point)
  target_in None text = then_in (absolute_point ev font look matrix at text) (absolute_in text)
    where
      then_in : (m : Answer Point) → IfOk m IsPoint → IfOk (m >>= λ p. (let r : Answer TextTarget = Ok (without_node p) in r)) (λ (target : TextTarget). IsPoint target.point)
      then_in (Ok p) h = h
      then_in (Err e) h = tt
  target_in (Some from) text = then_in (relative_point ev font look matrix at from (trimmed text)) (relative_in from (trimmed text))
    where
      then_in : (m : Answer Point) → IfOk m IsPoint → IfOk (m >>= λ p. (let r : Answer TextTarget = Ok (without_node p) in r)) (λ (target : TextTarget). IsPoint target.point)
      then_in (Ok p) h = h
      then_in (Err e) h = tt
