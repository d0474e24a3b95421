-- What pieces of paths are made of: sums of points and vectors, and pieces that follow others. A vector is two numbers,
-- as a point is.
use Rattle.std.specs.Prelude.{◌≡◌, List, [], ◌∷◌, ◌++◌, Result, Ok, Err, ℤ, ◌+ℤ◌, ◌-ℤ◌}
use Rattle.tk_token.specs.Answers.{◌>>=◌}
use Rattle.tk_item.specs.declared.Point.{Point}
use Rattle.tk_item.specs.declared.Seg.{Seg}
use Rattle.tk_affine.specs.declared.AffFault.{AffFault}
use Rattle.tk_affine.specs.Images.{point_at}

-- ---- points and vectors

-- the point, or the vector, of two numbers
abbrev pub xy : ℤ → ℤ → Point
xy x y = record { x = x; y = y }

-- p, moved by the vector v; it may lie past the range of a point
abbrev pub sum_of : Point → Point → Point
sum_of p v = xy (p.x +ℤ v.x) (p.y +ℤ v.y)

-- the vector from q to p; or p, moved back by the vector q
abbrev pub difference_of : Point → Point → Point
difference_of p q = xy (p.x -ℤ q.x) (p.y -ℤ q.y)

-- the point, where its coordinates are in range
abbrev pub checked : Point → Result Point AffFault
checked p = point_at p.x p.y

-- ---- lists of pieces

-- f of each, or the first fault
abbrev pub try_map : {A B : Type 0} → (A → Result B AffFault) → List A → Result (List B) AffFault
try_map f [] = Ok []
try_map f (x ∷ xs) = do
  y ← f x
  ys ← try_map f xs
  Ok (y ∷ ys)

-- pieces that follow others; a fault is passed on
abbrev pub appended : List Seg → Result (List Seg) AffFault → Result (List Seg) AffFault
appended old pieces = do
  more ← pieces
  Ok (old ++ more)

-- what became of a list at whose end pieces were to be put: they follow what was there, or there is their fault
abbrev pub Appends : {X : Type 0} → List Seg → List Seg → Result X AffFault → Result (List Seg) AffFault → Type 0
Appends old new (Ok done) pieces = appended old pieces ≡ Ok new
Appends old new (Err fault) pieces = pieces ≡ Err fault

-- the new list begins with the old one
abbrev pub Continues : List Seg → List Seg → Type 0
Continues old new = (more : List Seg) × (new ≡ old ++ more)
