-- The path that is being read.
use Rattle.std.specs.Prelude.{ℤ, Bool, true, if◌then◌else◌, List, [], ◌∷◌, ◌++◌, Option, None, Some, unwrap_or, Result}
use Rattle.std.specs.Prelude.{Ok, slice_get, length, ◌-◌}
use Rattle.std.specs.Ordering.{int_eq}
use Rattle.tk_token.specs.Answers.{◌>>=◌}
use Rattle.tk_item.specs.declared.Point.{Point}
use Rattle.tk_item.specs.declared.Seg.{Seg}
use Rattle.tk_item.specs.declared.Seg.TheVariants.{Move, Curve, Close}
use Rattle.tk_affine.specs.declared.AffFault.{AffFault}
use Rattle.tk_affine.specs.declared.Matrix.{Matrix}
use Rattle.tk_geom.specs.Arcs.{arc_pieces}
use Rattle.tk_geom.specs.Circles.{circle_pieces}
use Rattle.tk_geom.specs.Rectangles.{rectangle_pieces}
use Rattle.tk_outline.specs.declared.measures.Sweep.{Sweep}
use Rattle.tk_outline.specs.declared.current_path.Goal.{Goal}

-- its pieces so far, the current point and the point that relative coordinates start from, once there are such, and
-- where the subpath began that goes on, if one does
pub record CurrentPath : Type 0 where
  pub segs : List Seg
  pub current : Option Point
  pub reference : Option Point
  pub start : Option Point

-- no piece, and no point yet
abbrev pub no_path : CurrentPath
no_path = record { segs = []; current = None; reference = None; start = None }

-- a point for a path to go to, and whether the reference point goes there too
abbrev pub goal : Point → Bool → Goal
goal point leads = record { point = point; leads = leads }

-- pieces are added
abbrev pub with_pieces : List Seg → CurrentPath → CurrentPath
with_pieces segs path = record path { segs = path.segs ++ segs }

-- the subpath that goes on is closed: the path stands where it began
abbrev pub with_close : CurrentPath → CurrentPath
with_close path = record { segs = path.segs ++ Close ∷ []; current = path.start; reference = path.start; start = None }

-- where a curve ends; the point stands for the end of another piece, or of none
abbrev pub end_of_curve : Point → Option Seg → Point
end_of_curve p (Some (Curve a b end)) = end
end_of_curve p piece = p

-- before any coordinate the current point and the reference point are the image of the origin
module _ (origin : Point) where
  -- the current point
  abbrev pub current_point : CurrentPath → Point
  current_point path = unwrap_or path.current origin

  -- the point that relative coordinates start from
  abbrev pub reference_point : CurrentPath → Point
  reference_point path = unwrap_or path.reference origin

  -- where the subpath begins to which a piece is added: where it goes on, or else at the current point
  abbrev pub subpath_start : CurrentPath → Point
  subpath_start path = unwrap_or path.start (current_point path)

  -- both points stay where they are from now on
  abbrev pub grounded : CurrentPath → CurrentPath
  grounded path = record path { current = Some (current_point path); reference = Some (reference_point path) }

  -- the path stands at a goal
  abbrev pub standing_at : Goal → CurrentPath → CurrentPath
  standing_at to path = record path {
    current = Some to.point;
    reference = Some (if to.leads then to.point else reference_point path);
  }

  -- the path moves to a goal; a subpath begins there once a piece follows
  abbrev pub moved_to : Goal → CurrentPath → CurrentPath
  moved_to to path = record (standing_at to path) { start = None }

  -- a piece is to follow: where no subpath goes on, one begins at the current point
  abbrev pub subpath_by : Option Point → CurrentPath → CurrentPath
  subpath_by (Some start) path = path
  subpath_by None path =
      record (grounded path) { segs = path.segs ++ Move (current_point path) ∷ []; start = Some (current_point path) }

  abbrev pub in_subpath : CurrentPath → CurrentPath
  in_subpath path = subpath_by path.start path

  -- ---- outlines, arcs and grids

  -- the path goes on along curves, to the end of the last one
  abbrev pub along_curves : List Seg → CurrentPath → CurrentPath
  along_curves segs path =
      let end = end_of_curve (current_point path) (slice_get segs (length segs - 1)) in
      standing_at (goal end true) (with_pieces segs path)

  -- an ellipse round the current point, where the path stands as before
  abbrev pub circled : Matrix → ℤ → ℤ → CurrentPath → Result CurrentPath AffFault
  circled m rx ry path = do
    segs ← circle_pieces m (current_point path) rx ry
    Ok (record (with_pieces segs (grounded path)) { start = None })

  -- a rectangle from the current point to a goal, where the path stands then
  abbrev pub boxed : Matrix → Goal → CurrentPath → Result CurrentPath AffFault
  boxed m to path = do
    segs ← rectangle_pieces m (current_point path) to.point
    Ok (moved_to to (with_pieces segs path))

  -- an arc from the current point, between those angles; the path stands at its end, and where it was if they are equal
  abbrev pub arced : Matrix → Sweep → ℤ → ℤ → CurrentPath → Result CurrentPath AffFault
  arced m sweep rx ry path =
      if int_eq sweep.from sweep.to then Ok (grounded path) else do
        segs ← arc_pieces m (current_point path) sweep.from sweep.to rx ry
        Ok (along_curves segs (in_subpath path))
