-- What a path and a picture are made of is in range, and what is drawn fits an SVG document.
use Rattle.std.proofs.Common.{◌≡◌, ℕ, zero, suc, ◌-◌, Bool, true, false, refl, sym, subst, arith, List, [], ◌∷◌, ◌++◌, map, length, Option, Some, None}
use Rattle.std.proofs.Common.{Result, Ok, Err, ℤ, pos, unwrap_or, ◌||◌}
use Rattle.std.specs.Prelude.{IfOk, IfSome, ◌≤ℤ◌, if◌then◌else◌, slice_get}
use Rattle.std.specs.List.{AllByRecursion}
use Rattle.std.specs.Ordering.{int_eq}
use Rattle.std.proofs.lemmas.Int.{ints}
use Rattle.tk_item.specs.declared.Frame.{Frame}
use Rattle.tk_item.specs.declared.Item.{Item}
use Rattle.tk_item.specs.declared.Item.TheVariants.{Path}
use Rattle.tk_item.specs.declared.Point.{Point}
use Rattle.tk_item.specs.declared.Seg.{Seg}
use Rattle.tk_item.specs.declared.Seg.TheVariants.{Move, Line, Curve, Close}
use Rattle.tk_item.specs.declared.Stroke.{Stroke}
use Rattle.tk_item.specs.Frame.{points_of_piece, points_of_path, half_width, box_round, with_box, round_boxes, round_points, IsProperFrame}
use Rattle.tk_item.proofs.Frames.{joined_proper, box_proper}
use Rattle.tk_token.specs.Answers.{◌>>=◌}
use Rattle.tk_affine.specs.declared.AffFault.{AffFault}
use Rattle.tk_affine.specs.declared.Matrix.{Matrix}
use Rattle.tk_affine.specs.Images.{IsPoint}
use Rattle.tk_affine.proofs.Ranges.{then_in}
use Rattle.tk_geom.specs.Arcs.{arc_pieces}
use Rattle.tk_geom.specs.Circles.{circle_pieces}
use Rattle.tk_geom.specs.Rectangles.{rectangle_pieces}
use Rattle.tk_geom.proofs.Ranges.{PieceIn, PiecesIn, joined_in, NoneOrMove, OutlineIn, behind_move, rectangle_in, circle_in, arc_in}
use Rattle.tk_look.specs.declared.Look.{Look}
use Rattle.tk_look.specs.Ranges.{IsPen}
use Rattle.tk_look.specs.Strokes.{look_fill, look_stroke, look_reach}
use Rattle.tk_svg.specs.Fitting.{BeginsWithMove, FitsStroke, FitsItem}
use Rattle.tk_outline.specs.declared.current_path.Goal.{Goal}
use Rattle.tk_outline.specs.declared.measures.Sweep.{Sweep}
use Rattle.tk_outline.specs.CurrentPaths.{CurrentPath, no_path, goal, with_pieces, with_close, end_of_curve, current_point, reference_point, subpath_start}
use Rattle.tk_outline.specs.CurrentPaths.{grounded, standing_at, moved_to, subpath_by, in_subpath, along_curves, circled, boxed, arced}
use Rattle.tk_path.specs.Pictures.{Picture, first_picture, path_items, drawn_by, drawn}

-- ---- pieces

begins_more : (segs more : List Seg) → BeginsWithMove segs → BeginsWithMove (segs ++ more)
begins_more [] more h = elim h [ ]
begins_more (Move p ∷ segs) more h = tt
begins_more (Line p ∷ segs) more h = elim h [ ]
begins_more (Curve p q r ∷ segs) more h = elim h [ ]
begins_more (Close ∷ segs) more h = elim h [ ]

none_or_move : (segs : List Seg) → BeginsWithMove segs → NoneOrMove segs
none_or_move [] h = tt
none_or_move (Move p ∷ segs) h = tt
none_or_move (Line p ∷ segs) h = h
none_or_move (Curve p q r ∷ segs) h = h
none_or_move (Close ∷ segs) h = h

some_begins : (seg : Seg) (segs : List Seg) → NoneOrMove (seg ∷ segs) → BeginsWithMove (seg ∷ segs)
some_begins (Move p) segs h = tt
some_begins (Line p) segs h = h
some_begins (Curve p q r) segs h = h
some_begins Close segs h = h

moved_begins : (segs : List Seg) (p : Point) → NoneOrMove segs → BeginsWithMove (segs ++ Move p ∷ [])
moved_begins [] p h = tt
moved_begins (seg ∷ segs) p h = begins_more (seg ∷ segs) (Move p ∷ []) (some_begins seg segs h)

-- ---- the path that is read

-- its points are in range, a piece that is there begins with a move, and one is there where a subpath goes on
pub record PathIn (path : CurrentPath) : Type 0 where
  pub segs : PiecesIn path.segs
  pub move : NoneOrMove path.segs
  pub current : IfSome path.current IsPoint
  pub reference : IfSome path.reference IsPoint
  pub start : IfSome path.start (λ (p : Point). IsPoint p × BeginsWithMove path.segs)

-- the same, and pieces are there
pub record BegunIn (read : CurrentPath) : Type 0 where
  pub path : PathIn read
  pub begun : BeginsWithMove read.segs

pub no_path_in : PathIn no_path
no_path_in = record { segs = tt; move = tt; current = tt; reference = tt; start = tt }

or_point : (o : Option Point) (p : Point) → IfSome o IsPoint → IsPoint p → IsPoint (unwrap_or o p)
or_point None p h k = k
or_point (Some q) p h k = h

point_of_both : (X : Type 0) (o : Option Point) → IfSome o (λ (p : Point). IsPoint p × X) → IfSome o IsPoint
point_of_both X None h = tt
point_of_both X (Some p) h = h.0

other_move : (X Y : Type 0) (o : Option Point) → (X → Y) → IfSome o (λ (p : Point). IsPoint p × X) → IfSome o (λ (p : Point). IsPoint p × Y)
other_move X Y None f h = tt
other_move X Y (Some p) f h = (h.0, f h.1)

module _ (origin : Point) (o : IsPoint origin) where
  pub current_in : (path : CurrentPath) → PathIn path → IsPoint (current_point origin path)
  current_in path h = or_point path.current origin h.current o

  reference_in : (path : CurrentPath) → PathIn path → IsPoint (reference_point origin path)
  reference_in path h = or_point path.reference origin h.reference o

  pub start_in : (path : CurrentPath) → PathIn path → IsPoint (subpath_start origin path)
  start_in path h =
      or_point path.start (current_point origin path) (point_of_both (BeginsWithMove path.segs) path.start h.start) (current_in path h)

  grounded_in : (path : CurrentPath) → PathIn path → PathIn (grounded origin path)
  grounded_in path h = record { segs = h.segs; move = h.move; current = current_in path h; reference = reference_in path h; start = h.start }

  led : (b : Bool) (p q : Point) → IsPoint p → IsPoint q → IsPoint (if b then p else q)
  led true p q h k = h
  led false p q h k = k

  pub standing_in : (to : Goal) (path : CurrentPath) → IsPoint to.point → PathIn path → PathIn (standing_at origin to path)
  standing_in to path p h = record {
    segs = h.segs;
    move = h.move;
    current = p;
    reference = led to.leads to.point (reference_point origin path) p (reference_in path h);
    start = h.start;
  }

  pub moved_in : (to : Goal) (path : CurrentPath) → IsPoint to.point → PathIn path → PathIn (moved_to origin to path)
  moved_in to path p h = record {
    segs = h.segs;
    move = h.move;
    current = p;
    reference = led to.leads to.point (reference_point origin path) p (reference_in path h);
    start = tt;
  }

  subpath_by_in : (path : CurrentPath) (start : Option Point) → path.start ≡ start → PathIn path → BegunIn (subpath_by origin start path)
  subpath_by_in path None e h =
      let p = current_in path h in
      let begun = moved_begins path.segs (current_point origin path) h.move in
      let move = none_or_move (path.segs ++ Move (current_point origin path) ∷ []) begun in
      record {
        path = record {
          segs = joined_in path.segs (Move (current_point origin path) ∷ []) h.segs (p, tt);
          move = move;
          current = p;
          reference = reference_in path h;
          start = (p, begun);
        };
        begun = begun;
      }
  subpath_by_in path (Some start) e h =
      let both : IfSome (Some start) (λ (p : Point). IsPoint p × BeginsWithMove path.segs) =
      subst (λ (s : Option Point). IfSome s (λ (p : Point). IsPoint p × BeginsWithMove path.segs)) e h.start in
      record { path = h; begun = both.1 }

  -- a subpath goes on
  pub in_subpath_in : (path : CurrentPath) → PathIn path → BegunIn (in_subpath origin path)
  in_subpath_in path h = subpath_by_in path path.start refl h

  -- further pieces of it
  pub following_in : (segs : List Seg) (path : CurrentPath) → PiecesIn segs → BegunIn path → BegunIn (with_pieces segs path)
  following_in segs path k h =
      let begun = begins_more path.segs segs h.begun in
      record {
        path = record {
          segs = joined_in path.segs segs h.path.segs k;
          move = none_or_move (path.segs ++ segs) begun;
          current = h.path.current;
          reference = h.path.reference;
          start = other_move (BeginsWithMove path.segs) (BeginsWithMove (path.segs ++ segs)) path.start (λ _. begun) h.path.start;
        };
        begun = begun;
      }

  -- pieces that begin with a move
  outline_in : (segs : List Seg) (path : CurrentPath) → OutlineIn segs → PathIn path → PathIn (with_pieces segs path)
  outline_in segs path k h = record {
    segs = joined_in path.segs segs h.segs k.within;
    move = behind_move path.segs segs h.move k.move;
    current = h.current;
    reference = h.reference;
    start = other_move (BeginsWithMove path.segs) (BeginsWithMove (path.segs ++ segs)) path.start (begins_more path.segs segs) h.start;
  }

  pub closed_in : (path : CurrentPath) → BegunIn path → PathIn (with_close path)
  closed_in path h =
      let begun = begins_more path.segs (Close ∷ []) h.begun in
      let start = point_of_both (BeginsWithMove path.segs) path.start h.path.start in
      record {
        segs = joined_in path.segs (Close ∷ []) h.path.segs (tt, tt);
        move = none_or_move (path.segs ++ Close ∷ []) begun;
        current = start;
        reference = start;
        start = tt;
      }

  -- ---- outlines, arcs and grids

  ended_in : (segs : List Seg) (path : CurrentPath) → PathIn path → OutlineIn segs → PathIn (record (with_pieces segs path) { start = None })
  ended_in segs path h k =
      let both = outline_in segs path k h in
      record { segs = both.segs; move = both.move; current = both.current; reference = both.reference; start = tt }

  pub circled_in : (m : Matrix) (rx ry : ℤ) (path : CurrentPath) → PathIn path → IfOk (circled origin m rx ry path) PathIn
  circled_in m rx ry path h =
      then_in OutlineIn PathIn (circle_pieces m (current_point origin path) rx ry) _ (circle_in m (current_point origin path) rx ry)
      (λ segs k. ended_in segs (grounded origin path) (grounded_in path h) k)

  pub boxed_in : (m : Matrix) (to : Goal) (path : CurrentPath) → IsPoint to.point → PathIn path → IfOk (boxed origin m to path) PathIn
  boxed_in m to path p h =
      then_in OutlineIn PathIn (rectangle_pieces m (current_point origin path) to.point) _
      (rectangle_in m (current_point origin path) to.point (current_in path h) p)
      (λ segs k. moved_in to (with_pieces segs path) p (outline_in segs path k h))

  piece_at : (segs : List Seg) (n : ℕ) → PiecesIn segs → IfSome (slice_get segs n) PieceIn
  piece_at [] n h = tt
  piece_at (s ∷ segs) zero h = h.0
  piece_at (s ∷ segs) (suc n) h = piece_at segs n h.1

  end_in : (p : Point) (piece : Option Seg) → IsPoint p → IfSome piece PieceIn → IsPoint (end_of_curve p piece)
  end_in p None h k = h
  end_in p (Some (Move q)) h k = h
  end_in p (Some (Line q)) h k = h
  end_in p (Some (Curve a b end)) h k = k.1.1
  end_in p (Some Close) h k = h

  along_in : (segs : List Seg) (path : CurrentPath) → PiecesIn segs → BegunIn path → PathIn (along_curves origin segs path)
  along_in segs path k h =
      let last = slice_get segs (length segs - 1) in
      standing_in (goal (end_of_curve (current_point origin path) last) true) (with_pieces segs path)
      (end_in (current_point origin path) last (current_in path h.path) (piece_at segs (length segs - 1) k)) (following_in segs path k h).path

  if_path : (b : Bool) (m n : Result CurrentPath AffFault) → IfOk m PathIn → IfOk n PathIn → IfOk (if b then m else n) PathIn
  if_path true m n h k = h
  if_path false m n h k = k

  pub arced_in : (m : Matrix) (sweep : Sweep) (rx ry : ℤ) (path : CurrentPath) → PathIn path → IfOk (arced origin m sweep rx ry path) PathIn
  arced_in m sweep rx ry path h =
      if_path (int_eq sweep.from sweep.to) (Ok (grounded origin path)) _ (grounded_in path h)
      (then_in PiecesIn PathIn (arc_pieces m (current_point origin path) sweep.from sweep.to rx ry) _
      (arc_in m (current_point origin path) sweep.from sweep.to rx ry)
      (λ segs k. along_in segs (in_subpath origin path) k (in_subpath_in path h)))

  -- a grid, which begins with a move
  pub meshed_in : (segs : List Seg) (to : Goal) (path : CurrentPath) → OutlineIn segs → IsPoint to.point → PathIn path
      → PathIn (moved_to origin to (with_pieces segs path))
  meshed_in segs to path k p h = moved_in to (with_pieces segs path) p (outline_in segs path k h)

-- ---- pictures

-- what was drawn fits
pub record DrawnIn (drawn_items : List Item) (round : Option Frame) : Type 0 where
  pub items : AllByRecursion FitsItem drawn_items
  pub frame : IfSome round IsProperFrame

-- so does a picture, whose path is in range
abbrev pub PictureIn : Picture → Type 0
PictureIn pic = DrawnIn pic.items pic.frame × PathIn pic.path

pub first_in : PictureIn first_picture
first_in = (record { items = tt; frame = tt }, no_path_in)

all_points : (segs : List Seg) → PiecesIn segs → AllByRecursion IsPoint (points_of_path segs)
all_points [] h = tt
all_points (Move p ∷ segs) h = (h.0, all_points segs h.1)
all_points (Line p ∷ segs) h = (h.0, all_points segs h.1)
all_points (Curve p q r ∷ segs) h = (h.0.0, (h.0.1.0, (h.0.1.1, all_points segs h.1)))
all_points (Close ∷ segs) h = all_points segs h.1

with_box_in : (frame : Option Frame) (box : Frame) → IfSome frame IsProperFrame → IsProperFrame box → IfSome (with_box frame box) IsProperFrame
with_box_in None box h k = k
with_box_in (Some f) box h k = joined_proper f box h k

module _ (half : ℤ) (low : pos 0 ≤ℤ half) (high : half ≤ℤ pos 536870912) where
  round_in : (frame : Option Frame) (points : List Point) → IfSome frame IsProperFrame → AllByRecursion IsPoint points
      → IfSome (round_points half frame points) IsProperFrame
  round_in frame [] h k = h
  round_in frame (p ∷ points) h k =
      round_in (with_box frame (box_round half p)) points (with_box_in frame (box_round half p) h (box_proper half p low high k.0.x k.0.y)) k.1

module _ (look : Look) (pen : IsPen look.line_width look.miter_limit) where
  stroke_in : FitsStroke (look_stroke look)
  stroke_in = by look.draw_on
    where
      by : (b : Bool) → FitsStroke (if b then Some (record {
        rgb = look.draw;
        width = look.line_width;
        cap = look.line_cap;
        join = look.line_join;
        miter = look.miter_limit;
        dash = look.dash_pattern;
        phase = look.dash_phase;
      }) else None)
      by true = (pen.width, pen.miter)
      by false = tt

  record ReachIn (half : ℤ) : Type 0 where
    low : pos 0 ≤ℤ half
    high : half ≤ℤ pos 536870912

  half_in : (width : ℤ) → IsPen width look.miter_limit → ReachIn (half_width width)
  half_in width p =
      let range = p.range in
      let positive = p.width in
      record { low = omega (arith, ints); high = omega (arith, ints) }

  reach_in : ReachIn (look_reach look)
  reach_in = by look.draw_on
    where
      by : (b : Bool) → ReachIn (if b then half_width look.line_width else pos 0)
      by true = half_in look.line_width pen
      by false = record { low = omega (arith, ints); high = omega (arith, ints) }

  joined_items : (items more : List Item) → AllByRecursion FitsItem items → AllByRecursion FitsItem more → AllByRecursion FitsItem (items ++ more)
  joined_items [] more h k = k
  joined_items (i ∷ items) more h k = (h.0, joined_items items more h.1 k)

  items_in : (segs : List Seg) → BeginsWithMove segs → AllByRecursion FitsItem (path_items look segs)
  items_in segs h = by (look.fill_on || look.draw_on)
    where
      by : (b : Bool) → AllByRecursion FitsItem (if b then Path segs (look_fill look) (look_stroke look) ∷ [] else [])
      by true = ((h, stroke_in), tt)
      by false = tt

  drawn_by_in : (segs : List Seg) (pic : Picture) → PiecesIn segs → NoneOrMove segs → DrawnIn pic.items pic.frame
      → DrawnIn (drawn_by look segs pic).items (drawn_by look segs pic).frame
  drawn_by_in [] pic k m h = h
  drawn_by_in (seg ∷ segs) pic k m h = record {
    items = joined_items pic.items (path_items look (seg ∷ segs)) h.items (items_in (seg ∷ segs) (some_begins seg segs m));
    frame = round_in (look_reach look) reach_in.low reach_in.high pic.frame (points_of_path (seg ∷ segs)) h.frame (all_points (seg ∷ segs) k);
  }

  pub drawn_in : (pic : Picture) → PictureIn pic → PictureIn (drawn look pic)
  drawn_in pic h = (drawn_by_in pic.path.segs pic h.1.segs h.1.move h.0, no_path_in)
