-- The frame of a drawing: the least box round its points, each widened by a half width.
use Rattle.std.specs.Prelude.{List, [], ◌∷◌, ◌++◌, map, Option, Some, None, ℤ, ◌+ℤ◌, ◌-ℤ◌, ◌≤ℤ◌, ◌≤◌, pos, int_div}
use Rattle.std.specs.Prelude.{unsigned_abs}
use Rattle.std.specs.Int.{int_min, int_max}
use Rattle.std.specs.List.{All, flat_map, fold}
use Rattle.std.specs.Option.{option_to_list}
use Rattle.tk_item.specs.declared.Point.{Point}
use Rattle.tk_item.specs.declared.Seg.{Seg}
use Rattle.tk_item.specs.declared.Seg.TheVariants.{Move, Line, Curve, Close}
use Rattle.tk_item.specs.declared.Frame.{Frame}

-- the points and control points of a piece
abbrev pub points_of_piece : Seg → List Point
points_of_piece (Move p) = p ∷ []
points_of_piece (Line p) = p ∷ []
points_of_piece (Curve p q r) = p ∷ q ∷ r ∷ []
points_of_piece Close = []

-- those of a path, in order
abbrev pub points_of_path : List Seg → List Point
points_of_path segs = flat_map points_of_piece segs

-- half of a width, rounded up: 13107 of 26214, and 13108 of 26215
abbrev pub half_width : ℤ → ℤ
half_width width = int_div (width +ℤ pos 1) (pos 2)

-- the box round a point that is widened on four sides
abbrev pub box_round : ℤ → Point → Frame
box_round half p =
    record {
      left = p.x -ℤ half;
      bottom = p.y -ℤ half;
      right = p.x +ℤ half;
      top = p.y +ℤ half;
    }

-- the least box round two
abbrev pub joined : Frame → Frame → Frame
joined f g =
    record {
      left = int_min f.left g.left;
      bottom = int_min f.bottom g.bottom;
      right = int_max f.right g.right;
      top = int_max f.top g.top;
    }

-- the least box round one that may be missing and another
abbrev pub with_box : Option Frame → Frame → Option Frame
with_box None g = Some g
with_box (Some f) g = Some (joined f g)

-- the least box round a frame that may be missing and boxes
abbrev pub round_boxes : Option Frame → List Frame → Option Frame
round_boxes frame boxes = fold with_box frame boxes

-- the least box round a frame that may be missing and points, each widened by half
abbrev pub round_points : ℤ → Option Frame → List Point → Option Frame
round_points half frame points = round_boxes frame (map (box_round half) points)

-- ---- what least means

-- the first box lies within the second
pub record IsWithin (f g : Frame) : Type 0 where
  pub left : g.left ≤ℤ f.left
  pub bottom : g.bottom ≤ℤ f.bottom
  pub right : f.right ≤ℤ g.right
  pub top : f.top ≤ℤ g.top

-- so do all of several boxes
abbrev pub AreWithin : List Frame → Frame → Type 0
AreWithin boxes frame = All (λ box. IsWithin box frame) boxes

-- all boxes lie within the frame, and it lies within every other frame round them
pub record IsLeastRound (boxes : List Frame) (frame : Frame) : Type 0 where
  pub round : AreWithin boxes frame
  pub least : (other : Frame) → AreWithin boxes other → IsWithin frame other

-- the boxes that a frame is widened by: itself, if it is there, and those round the points
abbrev pub boxes_of : ℤ → Option Frame → List Point → List Frame
boxes_of half frame points = option_to_list frame ++ map (box_round half) points

-- ---- how large a frame is

-- the sides are in order, and none is further out than the greatest number and the greatest half width: 1073741823 +
-- 536870912
pub record IsProperFrame (f : Frame) : Type 0 where
  pub across : f.left ≤ℤ f.right
  pub upward : f.bottom ≤ℤ f.top
  pub left : unsigned_abs f.left ≤ 1610612735
  pub bottom : unsigned_abs f.bottom ≤ 1610612735
  pub right : unsigned_abs f.right ≤ 1610612735
  pub top : unsigned_abs f.top ≤ 1610612735
