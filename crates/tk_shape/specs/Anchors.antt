-- Anchors and border points of nodes.
use Rattle.std.specs.Prelude.{Result, Ok, ℤ, pos, neg_ℤ}
use Rattle.tk_num.specs.Number.{product}
use Rattle.tk_num.specs.Angle.{sine, cosine}
use Rattle.tk_token.specs.Answers.{◌>>=◌}
use Rattle.tk_item.specs.declared.Point.{Point}
use Rattle.tk_affine.specs.declared.AffFault.{AffFault}
use Rattle.tk_affine.specs.declared.Shape.{Shape}
use Rattle.tk_affine.specs.declared.Shape.TheVariants.{Rectangle, Circle, Coordinate}
use Rattle.tk_affine.specs.declared.Anchor.{Anchor}
use Rattle.tk_affine.specs.declared.Anchor.TheVariants.{Center, North, South, East, West, NorthEast, NorthWest, SouthEast, SouthWest}
use Rattle.tk_affine.specs.declared.Anchor.TheVariants.{Base, Angle}
use Rattle.tk_affine.specs.Images.{image}
use Rattle.tk_affine.specs.Inverses.{ray_to}
use Rattle.tk_shape.specs.declared.NodeRecord.{NodeRecord}
use Rattle.tk_shape.specs.Borders.{origin, checked, border}

-- a point
abbrev pub xy : ℤ → ℤ → Point
xy x y = record { x = x; y = y }

-- how far a diagonal anchor lies to the right and up, in a node with the halves x and y: on a circle of the radius 1 it is
-- 46341/65536, for sqrt(1/2)
abbrev pub diagonal : Shape → ℤ → ℤ → Point
diagonal Rectangle x y = xy x y
diagonal Circle x y = xy (product x (pos 46341)) (product x (pos 46341))
diagonal Coordinate x y = origin

-- the diagonal anchor of a node
abbrev pub corner : NodeRecord → Point
corner node = diagonal node.shape node.half_width node.half_height

-- where a ray toward (u,v) meets the border
abbrev pub ray_end : ℤ → ℤ → NodeRecord → Result Point AffFault
ray_end u v node = checked (border node.shape node.half_width node.half_height u v)

-- where an anchor lies in a node that has a size
abbrev pub anchor_within : Anchor → NodeRecord → Result Point AffFault
anchor_within Center node = Ok origin
anchor_within North node = Ok (xy (pos 0) node.half_height)
anchor_within South node = Ok (xy (pos 0) (neg_ℤ node.half_height))
anchor_within East node = Ok (xy node.half_width (pos 0))
anchor_within West node = Ok (xy (neg_ℤ node.half_width) (pos 0))
anchor_within NorthEast node = Ok (corner node)
anchor_within NorthWest node = Ok (xy (neg_ℤ (corner node).x) (corner node).y)
anchor_within SouthEast node = Ok (xy (corner node).x (neg_ℤ (corner node).y))
anchor_within SouthWest node = Ok (xy (neg_ℤ (corner node).x) (neg_ℤ (corner node).y))
anchor_within Base node = Ok (xy (pos 0) node.base)
anchor_within (Angle angle) node = ray_end (cosine angle) (sine angle) node

-- one of two answers: the first for a coordinate, which has no size
abbrev pub if_coordinate : Shape → Result Point AffFault → Result Point AffFault → Result Point AffFault
if_coordinate Rectangle point other = other
if_coordinate Circle point other = other
if_coordinate Coordinate point other = point

-- where an anchor lies along the node's own axes, seen from its centre; those of a coordinate are its centre
unfoldable pub local_anchor : Anchor → NodeRecord → Result Point AffFault
local_anchor anchor node = if_coordinate node.shape (Ok origin) (anchor_within anchor node)

-- the centre in the picture
abbrev pub centre : NodeRecord → Point
centre node = xy node.matrix.tx node.matrix.ty

-- where an anchor lies in the picture
unfoldable pub anchor_of : Anchor → NodeRecord → Result Point AffFault
anchor_of anchor node = local_anchor anchor node >>= image node.matrix

-- where a ray toward (u,v), along the node's own axes, meets the border
unfoldable pub border_of_ray : ℤ → ℤ → NodeRecord → Result Point AffFault
border_of_ray u v node = ray_end u v node >>= image node.matrix

-- where the line from the centre to p meets the border; the centre of a coordinate
unfoldable pub border_toward : Point → NodeRecord → Result Point AffFault
border_toward p node =
    if_coordinate node.shape (Ok (centre node)) (ray_to node.matrix p >>= λ ray. border_of_ray ray.0 ray.1 node)
