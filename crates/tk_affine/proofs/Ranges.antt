-- What matrices make is in range, whatever they are made of: each image is asked.
use Rattle.std.proofs.Common.{◌≡◌, Bool, true, false, refl, sym, arith, List, [], ◌∷◌, Result, Ok, Err, ℤ, pos, unsigned_abs}
use Rattle.std.specs.Prelude.{IfOk, ◌+ℤ◌, ◌&&◌, if◌then◌else◌}
use Rattle.std.proofs.lemmas.Bool.{leb-true}
use Rattle.tk_num.specs.Number.{is_scaled}
use Rattle.tk_token.specs.Answers.{◌>>=◌}
use Rattle.tk_item.specs.declared.Point.{Point}
use Rattle.tk_affine.specs.declared.AffFault.{AffFault}
use Rattle.tk_affine.specs.declared.AffFault.TheVariants.{TooLarge}
use Rattle.tk_affine.specs.declared.Matrix.{Matrix}
use Rattle.tk_affine.specs.declared.Step.{Step}
use Rattle.tk_affine.specs.Images.{IsPoint, point_at, across, upward, vector_image, image}
use Rattle.tk_affine.specs.Steps.{IsMatrix, unmoved, step_matrix, composed, with_step, with_steps}

-- a value that holds a fact, or a fault, goes on to one that holds another
pub then_in : {A B : Type 0} (Q : A → Type 0) (R : B → Type 0) (m : Result A AffFault) (f : A → Result B AffFault) → IfOk m Q
    → ((x : A) → Q x → IfOk (f x) R) → IfOk (m >>= f) R
then_in Q R (Ok x) f h k = k x h
then_in Q R (Err e) f h k = tt

-- a point that was asked
pub point_in : (x y : ℤ) → IfOk (point_at x y) IsPoint
point_in x y = by (is_scaled x) (is_scaled y) refl refl
  where
    by : (a b : Bool) → is_scaled x ≡ a → is_scaled y ≡ b
        → IfOk (let r : Result Point AffFault = if a && b then Ok (record { x = x; y = y }) else Err TooLarge in r) IsPoint
    by true true e f = record { x = leb-true (unsigned_abs x) 1073741823 e; y = leb-true (unsigned_abs y) 1073741823 f }
    by true false e f = tt
    by false true e f = tt
    by false false e f = tt

pub vector_in : (m : Matrix) (p : Point) → IfOk (vector_image m p) IsPoint
unfolding vector_image
vector_in m p = point_in (across m p) (upward m p)

pub image_in : (m : Matrix) (p : Point) → IfOk (image m p) IsPoint
unfolding image
image_in m p = point_in (across m p +ℤ m.tx) (upward m p +ℤ m.ty)

composed_in : (m n : Matrix) → IfOk (composed m n) IsMatrix
unfolding composed
composed_in m n =
    then_in IsPoint IsMatrix (vector_image m (record { x = n.a; y = n.b })) _ (vector_in m _) (λ right h.
    then_in IsPoint IsMatrix (vector_image m (record { x = n.c; y = n.d })) _ (vector_in m _) (λ up k.
    then_in IsPoint IsMatrix (image m (record { x = n.tx; y = n.ty })) _ (image_in m _) (λ origin l.
    record { a = h.x; b = h.y; c = k.x; d = k.y; tx = l.x; ty = l.y })))

-- more steps behind a matrix that is in range
pub steps_in : (m : Matrix) (steps : List Step) → IsMatrix m → IfOk (with_steps m steps) IsMatrix
steps_in m [] h = h
steps_in m (step ∷ steps) h =
    then_in IsMatrix IsMatrix (with_step m step) _ (composed_in m (step_matrix step)) (λ n k. steps_in n steps k)

pub unmoved_in : IsMatrix unmoved
unmoved_in = record { a = omega arith; b = omega arith; c = omega arith; d = omega arith; tx = omega arith; ty = omega arith }
