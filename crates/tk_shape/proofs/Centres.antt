-- Centres of nodes are where their matrices take the origin.
use Rattle.std.proofs.Common.{◌≡◌, ◌∙◌, ap, Ok, Result, refl}
use Rattle.tk_item.specs.declared.Point.{Point}
use Rattle.tk_token.specs.Answers.{◌>>=◌}
use Rattle.tk_affine.specs.declared.AffFault.{AffFault}
use Rattle.tk_affine.specs.declared.Anchor.{Anchor}
use Rattle.tk_affine.specs.declared.Anchor.TheVariants.{Center}
use Rattle.tk_affine.specs.declared.Shape.{Shape}
use Rattle.tk_affine.specs.declared.Shape.TheVariants.{Rectangle, Circle, Coordinate}
use Rattle.tk_affine.specs.Images.{image}
use Rattle.tk_affine.specs.Inverses.{ray_to}
use Rattle.tk_affine.specs.Steps.{IsMatrix}
use Rattle.tk_affine.proofs.Neutral.{origin_shifted}
use Rattle.tk_shape.specs.declared.NodeRecord.{NodeRecord}
use Rattle.tk_shape.specs.Borders.{origin}
use Rattle.tk_shape.specs.Anchors.{anchor_within, if_coordinate, local_anchor, centre, anchor_of, border_of_ray, border_toward}

-- the centre of any shape is one point
one_centre : (shape : Shape) (found : Result Point AffFault) → if_coordinate shape found found ≡ found
one_centre Rectangle found = refl
one_centre Circle found = refl
one_centre Coordinate found = refl

-- where an anchor lies at the centre, its image is the centre
at_centre : (anchor : Anchor) (node : NodeRecord) → IsMatrix node.matrix → local_anchor anchor node ≡ Ok origin
    → anchor_of anchor node ≡ Ok (centre node)
unfolding anchor_of
at_centre anchor node h e = ap (λ place. place >>= image node.matrix) e ∙ origin_shifted node.matrix h

pub centre_is : (node : NodeRecord) → IsMatrix node.matrix → anchor_of Center node ≡ Ok (centre node)
unfolding local_anchor
centre_is node h = at_centre Center node h (one_centre node.shape (Ok origin))

pub anchors_are_centres : (node : NodeRecord) (anchor : Anchor) → IsMatrix node.matrix → node.shape ≡ Coordinate
    → anchor_of anchor node ≡ Ok (centre node)
unfolding local_anchor
anchors_are_centres node anchor h e =
    at_centre anchor node h (ap (λ shape. if_coordinate shape (Ok origin) (anchor_within anchor node)) e)

pub toward_is_centre : (node : NodeRecord) (p : Point) → node.shape ≡ Coordinate → border_toward p node ≡ Ok (centre node)
unfolding border_toward
toward_is_centre node p e =
    ap (λ shape. if_coordinate shape (Ok (centre node)) (ray_to node.matrix p >>= λ ray. border_of_ray ray.0 ray.1 node)) e
