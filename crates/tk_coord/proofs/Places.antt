-- Where the faults of coordinates stand: what holds of the place of the `(`, and of the places of all tokens, holds of theirs.
use Rattle.std.proofs.Common.{ℕ, ◌-◌, Bool, true, false, List, length, take, drop, Option, Some, None, is_some, Result, Ok, Err, IfErr, IfSome, sym}
use Rattle.std.proofs.Common.{subst}
use Rattle.std.specs.Prelude.{if◌then◌else◌}
use Rattle.std.proofs.lemmas.List.{take-append-drop}
use Rattle.std.specs.List.{AllByRecursion, prefix_len, suffix_len}
use Rattle.tk_item.specs.declared.Point.{Point}
use Rattle.tk_token.specs.declared.Code.TheVariants.{Coordinate}
use Rattle.tk_token.specs.declared.Fault.{Fault}
use Rattle.tk_token.specs.declared.Tok.{Tok}
use Rattle.tk_token.specs.Answers.{Answer, ◌>>=◌, fault, or_fault}
use Rattle.tk_token.specs.Groups.{Cut, first_outside}
use Rattle.tk_token.specs.Kinds.{begins_corner}
use Rattle.tk_token.specs.Spaces.{is_space_token, after_spaces, before_spaces, trimmed}
use Rattle.tk_token.proofs.Fixpoint.{kept}
use Rattle.tk_token.proofs.Outside.{all_split, first_outside_keeps}
use Rattle.tk_affine.specs.declared.AffFault.{AffFault}
use Rattle.tk_affine.specs.declared.Matrix.{Matrix}
use Rattle.tk_affine.specs.Images.{image, vector_image}
use Rattle.tk_expr.specs.declared.FontUnits.{FontUnits}
use Rattle.tk_expr.specs.declared.ValuePair.{ValuePair}
use Rattle.tk_expr.specs.Evaluated.{evaluated}
use Rattle.tk_expr.specs.Evaluates.{Evaluation, IsEvaluation}
use Rattle.tk_expr.specs.Pairs.{paired, vector_of}
use Rattle.tk_expr.specs.Places.{IsPlaceOf}
use Rattle.tk_expr.proofs.Evaluations.{is_evaluated}
use Rattle.tk_expr.proofs.Places.{evaluated_at, paired_by_at, vector_at, own_place, all_places}
use Rattle.tk_look.specs.declared.Look.{Look}
use Rattle.tk_look.proofs.Places.{Fine, Within}
use Rattle.tk_affine.specs.Faults.{answer_at}
use Rattle.tk_coord.specs.Coordinates.{translated, point_in_numbers, sign_in_front, corner_between}
use Rattle.tk_coord.specs.Coordinates.{point_by, lone_point, by_sign, point_step, absolute_point, relative_point, target_of}

module _ (P : ℕ → Type 0) where
  fine_then : {A B : Type 0} (m : Answer A) (f : A → Answer B) → Fine P m → ((x : A) → Fine P (f x)) → Fine P (m >>= f)
  fine_then (Ok x) f h k = k x
  fine_then (Err e) f h k = h

  fine_if : {A : Type 0} (b : Bool) (m n : Answer A) → Fine P m → Fine P n → Fine P (if b then m else n)
  fine_if true m n h k = h
  fine_if false m n h k = k

  -- ---- texts

  both_within : (n : ℕ) (ts : List Tok) → Within P ts → Within P (take n ts) × Within P (drop n ts)
  both_within n ts h =
      let Q : Tok → Type 0 = λ t. P t.at in all_split Q (take n ts) (drop n ts) (subst (AllByRecursion Q) (sym (take-append-drop n ts)) h)

  before_within : (ts : List Tok) → Within P ts → Within P (before_spaces ts)
  unfolding before_spaces
  before_within ts h = (both_within (length ts - suffix_len is_space_token ts) ts h).0

  trimmed_within : (ts : List Tok) → Within P ts → Within P (trimmed ts)
  trimmed_within ts h = before_within (after_spaces ts) (both_within (prefix_len is_space_token ts) ts h).1

  -- ---- by the place of the `(`

  module _ (at : ℕ) (here : P at) where
    placed_fine : (found : Result Point AffFault) → Fine P (answer_at at found)
    placed_fine (Ok p) = tt
    placed_fine (Err e) = here

    found_fine : (found : Option ValuePair) → Fine P (or_fault found Coordinate at)
    found_fine (Some numbers) = tt
    found_fine None = here

    numbers_fine : (look : Look) (matrix : Matrix) (numbers : ValuePair) → Fine P (point_in_numbers look matrix at numbers)
    numbers_fine look matrix numbers =
        fine_then (vector_of look.x look.y at numbers) _ (vector_at look.x look.y at numbers P here) (λ v. placed_fine (image matrix v))

    -- by an evaluation whose faults stand so
    module _ (ev : Evaluation) (font : FontUnits) (look : Look) (matrix : Matrix) (ev_fine : (ts : List Tok) → Within P ts
        → Fine P (ev font at ts)) where
      paired_fine : (text : List Tok) → Within P text → Fine P (paired ev font at text)
      paired_fine text h = paired_by_at ev font at text P here ev_fine h

      by_fine : (text : List Tok) (numbers : Option ValuePair) → Fine P (point_by ev font look matrix at text numbers)
      by_fine text (Some numbers) = numbers_fine look matrix numbers
      by_fine text None = here

      lone_fine : (text : List Tok) → Within P text → Fine P (lone_point ev font look matrix at (trimmed text))
      lone_fine text h =
          fine_then (paired ev font at (trimmed text)) _ (paired_fine (trimmed text) (trimmed_within text h))
          (λ numbers. by_fine (trimmed text) numbers)

      sign_fine : (point : List Tok → Answer Point)
          → ((ts : List Tok) → Within P ts → Fine P (point ts))
          → (text : List Tok) (found : Option Cut)
          → Within P text
          → IfSome found (λ c. Within P c.front × Within P c.rest)
          → Fine P (by_sign ev font look matrix at point text found)
      sign_fine point more text None h k = lone_fine text h
      sign_fine point more text (Some c) h k =
          fine_then (lone_point ev font look matrix at (trimmed c.front)) _ (lone_fine c.front k.0) (λ p.
          fine_then (point (drop 2 c.rest)) _ (more (drop 2 c.rest) (both_within 2 c.rest k.1).1) (λ q.
          placed_fine (corner_between (sign_in_front c.rest) matrix p q)))

      absolute_fine : (text : List Tok) → Within P text → Fine P (absolute_point ev font look matrix at text)
      unfolding absolute_point
      absolute_fine =
          kept length (fault Coordinate at) (point_step ev font look matrix at) (λ text point. Within P text → Fine P point)
          (λ text h. here)
          (λ point more text h.
          sign_fine point more text (first_outside begins_corner text) h (first_outside_keeps (λ (t : Tok). P t.at) begins_corner text h))

      relative_fine : (from : Point) (text : List Tok) → Within P text → Fine P (relative_point ev font look matrix at from text)
      unfolding relative_point
      relative_fine from text h =
          fine_if (is_some (first_outside begins_corner text)) _ _ here (
          fine_then (paired ev font at text) _ (paired_fine text h) (λ found.
          fine_then (or_fault found Coordinate at) _ (found_fine found) (λ numbers.
          fine_then (vector_of look.x look.y at numbers) _ (vector_at look.x look.y at numbers P here) (λ v.
          fine_then (answer_at at (vector_image matrix v)) _ (placed_fine (vector_image matrix v)) (λ by.
          placed_fine (translated from by))))))

      -- by any form
      pub target_fine : (from : Option Point) (text : List Tok) → Within P text → Fine P (target_of ev font look matrix at from text)
      target_fine None text h = fine_then (absolute_point ev font look matrix at text) _ (absolute_fine text h) (λ p. tt)
      target_fine (Some from) text h =
          fine_then (relative_point ev font look matrix at from (trimmed text)) _
          (relative_fine from (trimmed text) (trimmed_within text h)) (λ p. tt)

-- the fault of a coordinate stands at a place of its text
pub target_stands : (ev : Evaluation)
    → IsEvaluation ev
    → (font : FontUnits) (look : Look) (matrix : Matrix) (at : ℕ) (from : Option Point) (text : List Tok)
    → IfErr (target_of ev font look matrix at from text) (λ (f : Fault). IsPlaceOf at text f.at)
target_stands ev is font look matrix at from text =
    let P : ℕ → Type 0 = IsPlaceOf at text in
    let here = own_place at text in
    let machine : Fine P (target_of evaluated font look matrix at from text) =
    target_fine P at here evaluated font look matrix (λ ts k. evaluated_at font at ts P here k) from text (all_places at text) in
    subst (λ (ev : Evaluation). Fine P (target_of ev font look matrix at from text)) (is_evaluated ev is) machine
