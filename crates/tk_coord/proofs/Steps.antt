-- A text with signs is found point by point, and then corner by corner.
use Rattle.std.proofs.Common.{◌≡◌, ℕ, ◌<◌, List, [], ◌∷◌, ◌++◌, length, drop, Option, Some, None, IfSome, Ok, Err}
use Rattle.std.proofs.Common.{true, refl, sym, ap, subst, ◌∙◌, arith, length-append}
use Rattle.tk_item.specs.declared.Point.{Point}
use Rattle.tk_token.specs.declared.Code.TheVariants.{Coordinate}
use Rattle.tk_token.specs.declared.Fault.{Fault}
use Rattle.tk_token.specs.declared.Tok.{Tok}
use Rattle.tk_token.specs.Answers.{Answer, ◌>>=◌, fault}
use Rattle.tk_token.specs.Groups.{Cut, cut, first_outside}
use Rattle.tk_token.specs.Kinds.{begins_corner}
use Rattle.tk_token.specs.Recursion.{by_size, AsksSmaller}
use Rattle.tk_token.specs.Spaces.{trimmed}
use Rattle.tk_token.proofs.Fixpoint.{independent, unbounded}
use Rattle.tk_token.proofs.Outside.{parts, Parts}
use Rattle.tk_affine.specs.declared.Matrix.{Matrix}
use Rattle.tk_expr.specs.declared.FontUnits.{FontUnits}
use Rattle.tk_expr.specs.Evaluates.{Evaluation}
use Rattle.tk_look.specs.declared.Look.{Look}
use Rattle.tk_coord.specs.declared.corners.CornerSign.{CornerSign}
use Rattle.tk_coord.specs.declared.corners.CornerStart.{CornerStart}
use Rattle.tk_coord.specs.Coordinates.{sign_in_front, lone_point, by_sign, point_step, absolute_point}
use Rattle.tk_coord.specs.Starts.{corners_from}
use Rattle.tk_coord.proofs.LastFirst.{corner_from, last_first, fault_stands}

-- ---- the rest behind a sign

behind_sign_is_shorter : (rest : List Tok) → begins_corner rest ≡ true → length (drop 2 rest) < length rest
behind_sign_is_shorter [] h = absurd cc
behind_sign_is_shorter (t ∷ []) h = omega arith
behind_sign_is_shorter (t ∷ u ∷ rest) h = omega arith

-- it is shorter than the text
rest_shorter : (ts : List Tok) (c : Cut) → Parts begins_corner ts c → length (drop 2 c.rest) < length ts
rest_shorter ts c h =
    let whole = ap length h.0 in
    let both = length-append c.front c.rest in
    let less = behind_sign_is_shorter c.rest h.1 in
    omega arith

pub rest_is_shorter : (ts front rest : List Tok)
    → Some (cut front rest) ≡ first_outside begins_corner ts
    → length (drop 2 rest) < length ts
rest_is_shorter ts front rest found =
    rest_shorter ts (cut front rest) (subst (λ (o : Option Cut). IfSome o (Parts begins_corner ts)) (sym found) (parts begins_corner ts))

module _ (ev : Evaluation) (font : FontUnits) (look : Look) (matrix : Matrix) (at : ℕ) where
  -- the point of a text, and that of one without a sign
  abbrev point : List Tok → Answer Point
  point = absolute_point ev font look matrix at

  abbrev lone : List Tok → Answer Point
  lone ts = lone_point ev font look matrix at (trimmed ts)

  -- what is done with the point before a sign
  abbrev behind : Answer Point → List Tok → Point → Answer Point
  behind q rest p = corner_from matrix at (record { point = p; sign = sign_in_front rest }) q

  -- ---- one step

  point_asks : AsksSmaller length (point_step ev font look matrix at)
  point_asks f g ts alike = by (first_outside begins_corner ts) (parts begins_corner ts)
    where
      by : (o : Option Cut)
          → IfSome o (Parts begins_corner ts)
          → by_sign ev font look matrix at f ts o ≡ by_sign ev font look matrix at g ts o
      by None h = refl
      by (Some c) h = ap (λ (q : Answer Point). lone c.front >>= behind q c.rest) (alike (drop 2 c.rest) (rest_shorter ts c h))

  pub point_is : (ts : List Tok) → point ts ≡ point_step ev font look matrix at point ts
  unfolding absolute_point
  point_is ts = unbounded length (fault Coordinate at) (point_step ev font look matrix at) point_asks ts

  pub point_stuck : (stuck : Answer Point) (ts : List Tok) → point ts ≡ by_size length stuck (point_step ev font look matrix at) ts
  unfolding absolute_point
  point_stuck stuck ts = independent length (point_step ev font look matrix at) point_asks (fault Coordinate at) stuck ts

  -- ---- one point after the other

  -- Points were found, and the text behind their signs is left. `whole` is what all of it stands for.
  module _ (whole : Answer Point) (starts : List CornerStart) (ts : List Tok) (told : whole ≡ corners_from matrix at starts (point ts)) where
    -- no sign is left: the last point is found, or isn't
    pub ends : (end : Answer Point)
        → None ≡ first_outside begins_corner ts
        → end ≡ lone ts
        → whole ≡ corners_from matrix at starts end
    ends end none is =
        told ∙ ap (corners_from matrix at starts) (point_is ts ∙ ap (by_sign ev font look matrix at point ts) (sym none) ∙ sym is)

    module _ (front rest : List Tok) (found : Some (cut front rest) ≡ first_outside begins_corner ts) where
      by_first : (p : Answer Point) → p ≡ lone front → whole ≡ corners_from matrix at starts (p >>= behind (point (drop 2 rest)) rest)
      by_first p is =
          told
          ∙ ap (corners_from matrix at starts) (point_is ts
          ∙ ap (by_sign ev font look matrix at point ts) (sym found)
          ∙ ap (λ (p : Answer Point). p >>= behind (point (drop 2 rest)) rest) (sym is))

      -- the point before the sign isn't found
      pub fails : (f : Fault) → Err f ≡ lone front → whole ≡ Err f
      fails f is = by_first (Err f) is ∙ fault_stands matrix at starts f

      -- it is found
      pub goes_on : (s : CornerStart) (more : List CornerStart) (left : List Tok)
          → Ok s.point ≡ lone front
          → s.sign ≡ sign_in_front rest
          → more ≡ starts ++ s ∷ []
          → left ≡ drop 2 rest
          → whole ≡ corners_from matrix at more (point left)
      goes_on s more left is sign pushed dropped =
          let q = point (drop 2 rest) in
          by_first (Ok s.point) is
          ∙ ap (λ (sign : CornerSign). corners_from matrix at starts (corner_from matrix at (record { point = s.point; sign = sign }) q)) (sym sign)
          ∙ sym (last_first matrix at starts s q)
          ∙ ap (λ (ts : List Tok). corners_from matrix at (starts ++ s ∷ []) (point ts)) (sym dropped)
          ∙ ap (λ (more : List CornerStart). corners_from matrix at more (point left)) (sym pushed)
