-- The words that native keys take as values.
use Rattle.std.specs.Prelude.{ℕ, List, [], ◌∷◌, codes}
use Rattle.tk_item.specs.declared.Cap.{Cap}
use Rattle.tk_item.specs.declared.Cap.TheVariants as caps_of
use Rattle.tk_item.specs.declared.Join.{Join}
use Rattle.tk_item.specs.declared.Join.TheVariants as joins_of
use Rattle.tk_affine.specs.declared.Anchor.{Anchor}
use Rattle.tk_affine.specs.declared.Anchor.TheVariants.{Center, North, South, East, West, NorthEast, NorthWest}
use Rattle.tk_affine.specs.declared.Anchor.TheVariants.{SouthEast, SouthWest, Base}
use Rattle.tk_affine.specs.declared.Shape.{Shape}
use Rattle.tk_affine.specs.declared.Shape.TheVariants.{Rectangle, Circle, Coordinate}

-- the ends of open lines
abbrev pub caps : List (List ℕ × Cap)
caps = (codes "butt", caps_of.Butt) ∷ (codes "round", caps_of.Round) ∷ (codes "rect", caps_of.Square) ∷ []

-- the corners of lines
abbrev pub joins : List (List ℕ × Join)
joins = (codes "miter", joins_of.Miter) ∷ (codes "round", joins_of.Round) ∷ (codes "bevel", joins_of.Bevel) ∷ []

-- the shapes of nodes
abbrev pub shapes : List (List ℕ × Shape)
shapes = (codes "rectangle", Rectangle) ∷ (codes "circle", Circle) ∷ (codes "coordinate", Coordinate) ∷ []

-- the anchors of nodes
abbrev pub anchors : List (List ℕ × Anchor)
anchors =
    (codes "center", Center)
    ∷ (codes "north", North)
    ∷ (codes "south", South)
    ∷ (codes "east", East)
    ∷ (codes "west", West)
    ∷ (codes "north east", NorthEast)
    ∷ (codes "north west", NorthWest)
    ∷ (codes "south east", SouthEast)
    ∷ (codes "south west", SouthWest)
    ∷ (codes "base", Base)
    ∷ []
