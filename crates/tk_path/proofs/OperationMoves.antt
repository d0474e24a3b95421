-- How a run goes on along operations.
use Rattle.std.specs.Prelude.{ℕ, ◌+◌, ◌≤◌, List, [], ◌∷◌, Result, Ok, Err, IfOk, codes}
use Rattle.std.proofs.Common.{arith}
use Rattle.tk_characters.specs.Characters.{left_parenthesis, left_bracket}
use Rattle.tk_item.specs.declared.Point.{Point}
use Rattle.tk_item.specs.declared.Seg.{Seg}
use Rattle.tk_item.specs.declared.Seg.TheVariants.{Line, Curve}
use Rattle.tk_affine.specs.Images.{IsPoint}
use Rattle.tk_coord.proofs.Ranges.{between_in}
use Rattle.tk_geom.proofs.Ranges.{PiecesIn, GridIn, grid_in}
use Rattle.tk_keys.proofs.Narrow.{IfNarrow}
use Rattle.tk_token.specs.declared.Tok.{Tok}
use Rattle.tk_token.specs.declared.Code.TheVariants.{PathSyntax, Unbuilt}
use Rattle.tk_token.specs.Answers.{◌>>=◌}
use Rattle.tk_token.specs.Kinds.{is_char}
use Rattle.tk_expand.specs.Expand.{Stream, stream, full}
use Rattle.tk_expand.specs.Reading.{is_there}
use Rattle.tk_expand.specs.Unread.{unread}
use Rattle.tk_expand.proofs.Going.{Going, then_going, if_going, weaker_going, gives, refused}
use Rattle.tk_expand.proofs.Places.{StandAt, StreamAt, full_at}
use Rattle.tk_affine.specs.declared.AffFault.{AffFault}
use Rattle.tk_affine.specs.Faults.{answer_at}
use Rattle.tk_coord.specs.declared.corners.CornerSign.{CornerSign}
use Rattle.tk_coord.specs.declared.corners.CornerSign.TheVariants.{HorizontalFirst, VerticalFirst}
use Rattle.tk_coord.specs.Coordinates.{corner_between}
use Rattle.tk_geom.specs.Grids.{Grid, grid_pieces}
use Rattle.tk_path.proofs.GridPlaces.{grid_stands}
use Rattle.tk_keys.specs.Given.{Given}
use Rattle.tk_keys.proofs.DeedPlaces.{EvaluatesAt}
use Rattle.tk_keys.proofs.Spending.{full_spends}
use Rattle.tk_keys.proofs.Standing.{both_at}
use Rattle.tk_path.specs.declared.coordinate.Sign.{Sign}
use Rattle.tk_path.specs.declared.coordinate.Sign.TheVariants as signs
use Rattle.tk_outline.specs.declared.measures.ArcMeasures.{ArcMeasures}
use Rattle.tk_outline.specs.declared.measures.Measures.{Measures}
use Rattle.tk_outline.specs.declared.current_path.Goal.{Goal}
use Rattle.tk_outline.specs.declared.current_path.Mesh.{Mesh}
use Rattle.tk_path.specs.declared.words.PathWord.{PathWord}
use Rattle.tk_path.specs.declared.words.PathWord.TheVariants as words
use Rattle.tk_path.specs.declared.words.Words.TheVariants.{Controls}
use Rattle.tk_path.specs.Configurations.{Configuration, Reached, Lookahead, place_ahead}
use Rattle.tk_path.specs.Coordinates.{Written}
use Rattle.tk_outline.specs.CurrentPaths.{CurrentPath, subpath_start, with_close, current_point, circled, boxed, arced, with_pieces, in_subpath, standing_at}
use Rattle.tk_outline.specs.Meshes.{Meshed, mesh_drawn}
use Rattle.tk_path.specs.Operations.{Control, Known, From_end, Way, Straight, Cornered, Curved, with_following, control_point, way_drawn, way_to}
use Rattle.tk_path.specs.Operations.{goes, control_ahead, second_control, curve_behind, first_control, curve_way, curve, rectangle, text_behind}
use Rattle.tk_path.specs.Operations.{circle_with, circle_measures, circle, arc_with, arc_measures, arc, grid_to, grid_by, grid, to, operation}
use Rattle.tk_path.specs.Targets.{with_current, origin_of, here, reference, Target, A_coordinate, The_start}
use Rattle.tk_path.proofs.Places.{Here, HereWith, Taken, AnyValue, less, passed, place_taken, solid_here, origin_at, path_at}
use Rattle.tk_path.proofs.Ranges.{PathIn, BegunIn, start_in, standing_in, in_subpath_in, following_in, closed_in, circled_in, boxed_in, arced_in, meshed_in}
use Rattle.tk_path.proofs.CoordinateMoves.{WrittenAt, closed_here, coordinate_from_here, point_here}
use Rattle.tk_path.proofs.MeasureMoves.{length_at, sweep_at, radii_at, arc_at, inner_here, measures_here}
use Rattle.tk_path.proofs.TargetMoves.{same_here, TargetAt, goal_here, goal_ahead_here, target_ahead_here}
use Rattle.tk_path.proofs.WordMoves.{word_here, past_word_here}

module _ (P : ℕ → Type 0) (given : Given) (begin : P 0) (evaluates : EvaluatesAt P given) (from : Configuration) where
  -- a configuration that the run comes to
  abbrev To : ℕ → Configuration → Type 0
  To gone c = Here P given from gone c

  -- a value that was read there
  abbrev Reads : {A : Type 0} → (A → Type 0) → ℕ → Reached A → Type 0
  Reads Q gone r = HereWith P given from Q gone r

  -- ---- ways

  -- the texts of a second control point stand there
  abbrev ControlAt : Control → Type 0
  ControlAt (Known p) = IsPoint p
  ControlAt (From_end w) = WrittenAt P w

  abbrev WayAt : Way → Type 0
  WayAt Straight = Unit {0}
  WayAt (Cornered sign at) = P at
  WayAt (Curved p control) = IsPoint p × ControlAt control

  control_here : (gone : ℕ) (end : Point) (control : Control) (c : Configuration) → ControlAt control → To gone c
      → Going P (Reads IsPoint gone) (control_point given end control c)
  unfolding control_point
  control_here gone end (Known p) c k h = gives P _ (k, h)
  control_here gone end (From_end w) c k h = point_here P given from evaluates gone end w c k h

  -- a value of a formula, or its fault
  found_with : {A : Type 0} (Q : A → Type 0) (at : ℕ) (found : Result A AffFault) → P at → IfOk found Q → Going P Q (answer_at at found)
  found_with Q at (Ok a) p h = record { stands = h }
  found_with Q at (Err e) p h = record { stands = p }

  -- a path that is known to be in range where places are narrow
  path_with : (at : ℕ) (found : Result CurrentPath AffFault) → P at → IfNarrow P (IfOk found PathIn)
      → Going P (λ path. IfNarrow P (PathIn path)) (answer_at at found)
  path_with at (Ok path) p h = record { stands = h }
  path_with at (Err e) p h = record { stands = p }

  -- pieces are there, behind which the subpath goes on
  abbrev Begun : ℕ → Configuration → Type 0
  Begun gone d = To gone d × IfNarrow P (BegunIn d.picture.path)

  followed : (gone : ℕ) (segs : List Seg) (c : Configuration) → To gone c → IfNarrow P (PiecesIn segs) → Begun gone (with_following segs c)
  followed gone segs c h k =
      let begun : IfNarrow P (BegunIn (with_pieces segs (in_subpath (origin_of c.env) c.picture.path))) = (λ out beyond.
      let o = origin_at P c h.good out beyond in
      following_in (origin_of c.env) o segs (in_subpath (origin_of c.env) c.picture.path) (k out beyond)
      (in_subpath_in (origin_of c.env) o c.picture.path (path_at P c h.good out beyond))) in (
        same_here P given from gone (with_pieces segs (in_subpath (origin_of c.env) c.picture.path)) c h (λ out beyond. (begun out beyond).path),
        begun,
      )

  drawn_here : (gone : ℕ) (way : Way) (end : Point) (c : Configuration) → WayAt way → IfNarrow P (IsPoint end) → To gone c
      → Going P (Begun gone) (way_drawn given way end c)
  unfolding way_drawn
  drawn_here gone Straight end c k e h = gives P _ (followed gone (Line end ∷ []) c h (λ out beyond. (e out beyond, tt)))
  drawn_here gone (Cornered sign at) end c k e h =
      then_going P (found_with IsPoint at (corner_between sign c.env.graphics.matrix (here c) end) k
      (between_in sign c.env.graphics.matrix (here c) end)) (λ corner f.
      gives P _ (followed gone (Line corner ∷ Line end ∷ []) c h (λ out beyond. (f, (e out beyond, tt)))))
  drawn_here gone (Curved first second) end c k e h =
      then_going P (control_here gone end second c k.1 h) (λ control a.
      gives P _ (followed gone (Curve first control.value end ∷ []) control.behind a.1 (λ out beyond. ((k.0, (a.0, e out beyond)), tt))))

  -- back to where the subpath began, which is closed there
  back_here : (gone : ℕ) (way : Way) (c : Configuration) → WayAt way → To gone c
      → Going P (To gone) (way_drawn given way (subpath_start (origin_of c.env) c.picture.path) c
      >>= λ drawn. Ok (with_current (with_close drawn.picture.path) drawn))
  back_here gone way c k h =
      then_going P (drawn_here gone way (subpath_start (origin_of c.env) c.picture.path) c k (λ out beyond.
      start_in (origin_of c.env) (origin_at P c h.good out beyond) c.picture.path (path_at P c h.good out beyond)) h) (λ d a.
      gives P _ (same_here P given from gone (with_close d.picture.path) d a.0 (λ out beyond.
      closed_in (origin_of c.env) (origin_at P c h.good out beyond) d.picture.path (a.1 out beyond))))

  way_here : (gone : ℕ) (way : Way) (target : Target) (c : Configuration) → WayAt way → TargetAt P given from target → To gone c
      → Going P (To gone) (way_to given way target c)
  unfolding way_to
  way_here gone way (A_coordinate w) c k l h =
      then_going P (goal_here P given from evaluates gone w c l h) (λ end a.
      then_going P (drawn_here gone way end.value.point end.behind k (λ out beyond. a.0) a.1) (λ d b.
      gives P _ (same_here P given from gone (standing_at (origin_of c.env) end.value d.picture.path) d b.0 (λ out beyond.
      standing_in (origin_of c.env) (origin_at P c h.good out beyond) end.value d.picture.path a.0 (b.1 out beyond).path))))
  way_here gone Straight The_start c k l h =
      gives P _ (same_here P given from gone (with_close (in_subpath (origin_of c.env) c.picture.path)) c h (λ out beyond.
      let o = origin_at P c h.good out beyond in
      closed_in (origin_of c.env) o (in_subpath (origin_of c.env) c.picture.path)
      (in_subpath_in (origin_of c.env) o c.picture.path (path_at P c h.good out beyond))))
  way_here gone (Cornered sign at) The_start c k l h = back_here gone (Cornered sign at) c k h
  way_here gone (Curved first second) The_start c k l h = back_here gone (Curved first second) c k h

  pub goes_here : (gone : ℕ) (way : Way) (c : Configuration) → WayAt way → To gone c → Going P (To gone) (goes given way c)
  unfolding goes
  goes_here gone way c k h =
      then_going P (target_ahead_here P given from evaluates gone c h) (λ target a. way_here gone way target.value target.behind k a.0 a.1)

  -- ---- curves

  ahead_control_here : (gone : ℕ) (c : Configuration) → To gone c → Going P (Reads (WrittenAt P) gone) (control_ahead given c)
  unfolding control_ahead
  ahead_control_here gone c h =
      then_going P (solid_here P given from gone c h) (λ first k.
      weaker_going P (coordinate_from_here P given from gone first k) (λ w a. (a.0, less P given from gone w.behind a.1)))

  second_here : (gone : ℕ) (w : Written) (sign : Sign) (c : Configuration) → WrittenAt P w → To gone c
      → Going P (Reads ControlAt gone) (second_control given w sign c)
  second_here gone w signs.Absolute c k h =
      then_going P (point_here P given from evaluates gone (reference c) w c k h) (λ p a. gives P _ (a.0, a.1))
  second_here gone w signs.Relative c k h = gives P _ (k, h)
  second_here gone w signs.Leading c k h = gives P _ (k, h)

  behind_here : (gone : ℕ) (p : Point) (word : PathWord) (c : Configuration) → IsPoint p → To gone c
      → Going P (Reads WayAt gone) (curve_behind given p word c)
  behind_here gone p words.And c k h =
      then_going P (ahead_control_here gone c h) (λ written a.
      then_going P (second_here gone written.value written.value.sign written.behind a.0 a.1) (λ second b.
      then_going P (past_word_here P given from gone (codes "..") second.behind b.1) (λ d e. gives P _ ((k, b.0), e))))
  behind_here gone p words.Line c k h = gives P _ ((k, k), h)
  behind_here gone p words.AcrossThenUp c k h = gives P _ ((k, k), h)
  behind_here gone p words.UpThenAcross c k h = gives P _ ((k, k), h)
  behind_here gone p words.Dots c k h = gives P _ ((k, k), h)
  behind_here gone p words.To c k h = gives P _ ((k, k), h)
  behind_here gone p words.Rectangle c k h = gives P _ ((k, k), h)
  behind_here gone p words.Circle c k h = gives P _ ((k, k), h)
  behind_here gone p words.Arc c k h = gives P _ ((k, k), h)
  behind_here gone p words.Grid c k h = gives P _ ((k, k), h)
  behind_here gone p words.Node c k h = gives P _ ((k, k), h)
  behind_here gone p words.Coordinate c k h = gives P _ ((k, k), h)
  behind_here gone p words.Foreach c k h = gives P _ ((k, k), h)
  behind_here gone p words.Cycle c k h = gives P _ ((k, k), h)

  first_here : (gone : ℕ) (c : Configuration) → To gone c → Going P (Reads IsPoint gone) (first_control given c)
  unfolding first_control
  first_here gone c h =
      then_going P (past_word_here P given from gone (codes "controls") c h) (λ d a.
      then_going P (ahead_control_here gone d a) (λ written b.
      point_here P given from evaluates gone (reference written.behind) written.value written.behind b.0 b.1))

  curve_way_here : (gone : ℕ) (c : Configuration) → To gone c → Going P (Reads WayAt gone) (curve_way given c)
  unfolding curve_way
  curve_way_here gone c h =
      then_going P (first_here gone c h) (λ first e.
      then_going P (word_here P given from gone Controls first.behind e.1) (λ word f.
      behind_here gone first.value word.value word.behind e.0 (less P given from gone word.behind f.1)))

  pub curve_here : (gone : ℕ) (c : Configuration) → To gone c → Going P (To gone) (curve given c)
  unfolding curve
  curve_here gone c h = then_going P (curve_way_here gone c h) (λ way a. goes_here gone way.value way.behind a.0 a.1)

  -- ---- outlines

  pub rectangle_here : (gone at : ℕ) (c : Configuration) → P at → To gone c → Going P (To gone) (rectangle given at c)
  unfolding rectangle
  rectangle_here gone at c p h =
      then_going P (goal_ahead_here P given from evaluates gone c h) (λ end a.
      then_going P (path_with at (boxed (origin_of c.env) c.env.graphics.matrix end.value c.picture.path) p (λ out beyond.
      boxed_in (origin_of c.env) (origin_at P c h.good out beyond) c.env.graphics.matrix end.value c.picture.path a.0
      (path_at P c h.good out beyond))) (λ path k.
      gives P _ (same_here P given from gone path end.behind a.1 k)))

  pub text_here : (gone at : ℕ) (c : Configuration) → P at → To gone c → Going P (Reads (StandAt P) gone) (text_behind given at c)
  unfolding text_behind
  text_here gone at c p h =
      then_going P (closed_here P given from gone at c p h) (λ written w.
      let inside = stream c.units (unread written.front at) in
      then_going P {m = full given.budget c.env.macros inside}
      (record {
        stands = both_at P (StreamAt P) (λ (r : Stream). c.units ≤ r.units) (full given.budget c.env.macros inside)
            (full_at P given.budget c.env.macros h.good.env.bodies inside w.places.0) (full_spends given.budget c.env.macros inside);
      }) (λ text k.
      gives P _ (
        k.0,
        record {
          end = h.end;
          units = (let a = h.units in let b = k.1 in omega arith);
          work = (let u = h.work in let a = w.short in let b = k.1 in omega arith);
          good = record { env = h.good.env; drawn = h.good.drawn; rest = w.places.1; end = h.good.end };
        },
      )))

  circle_with_here : (gone at : ℕ) (m : Measures) (c : Configuration) → P at → To gone c → Going P (To gone) (circle_with at m c)
  unfolding circle_with
  circle_with_here gone at m c p h =
      then_going P (length_at P given m.x at m.radii.x p) (λ rx _.
      then_going P (length_at P given m.y at m.radii.y p) (λ ry _.
      then_going P (path_with at (circled (origin_of c.env) m.matrix rx ry c.picture.path) p (λ out beyond.
      circled_in (origin_of c.env) (origin_at P c h.good out beyond) m.matrix rx ry c.picture.path (path_at P c h.good out beyond))) (λ path k.
      gives P _ (same_here P given from gone path c h k))))

  circle_measures_here : (gone : ℕ) (first : Lookahead) → Taken P given from gone first
      → Going P (Reads AnyValue gone) (circle_measures given first)
  unfolding circle_measures
  circle_measures_here gone first k =
      let place = place_taken P given from gone first k in
      if_going P (is_there (is_char left_parenthesis) first.token)
      (then_going P (text_here gone (place_ahead first) first.behind place (passed P given from gone first k)) (λ text a.
      then_going P (radii_at P given evaluates (place_ahead first) place text.value a.0) (λ radii _. gives P _ (tt, a.1))))
      (measures_here P given begin evaluates from gone first k)

  circle_here : (gone at : ℕ) (c : Configuration) → P at → To gone c → Going P (To gone) (circle given at c)
  unfolding circle
  circle_here gone at c p h =
      then_going P (solid_here P given from gone c h) (λ first k.
      then_going P (circle_measures_here gone first k) (λ m a. circle_with_here gone at m.value m.behind p a.1))

  -- ---- arcs

  arc_with_here : (gone at : ℕ) (arc : ArcMeasures) (c : Configuration) → P at → To gone c → Going P (To gone) (arc_with at arc c)
  unfolding arc_with
  arc_with_here gone at arc c p h =
      let m = arc.measures in
      then_going P (length_at P given m.x at m.radii.x p) (λ rx _.
      then_going P (length_at P given m.y at m.radii.y p) (λ ry _.
      then_going P (path_with at (arced (origin_of c.env) m.matrix arc.sweep rx ry c.picture.path) p (λ out beyond.
      arced_in (origin_of c.env) (origin_at P c h.good out beyond) m.matrix arc.sweep rx ry c.picture.path (path_at P c h.good out beyond)))
      (λ path k.
      gives P _ (same_here P given from gone path c h k))))

  arc_measures_here : (gone at : ℕ) (first : Lookahead) → P at → Taken P given from gone first
      → Going P (Reads AnyValue gone) (arc_measures given at first)
  unfolding arc_measures
  arc_measures_here gone at first p k =
      let place = place_taken P given from gone first k in
      let behind = passed P given from gone first k in
      if_going P (is_there (is_char left_parenthesis) first.token)
      (then_going P (text_here gone (place_ahead first) first.behind place behind) (λ text a.
      then_going P (arc_at P given evaluates (place_ahead first) place text.value a.0) (λ found _. gives P _ (tt, a.1))))
      (if_going P (is_there (is_char left_bracket) first.token)
      (then_going P (inner_here P given begin evaluates from gone (place_ahead first) first.behind place behind) (λ measures a.
      let m = measures.value in
      then_going P (sweep_at P given at m.start_angle m.end_angle m.delta_angle p) (λ sweep _. gives P _ (tt, a.1))))
      (refused P PathSyntax (place_ahead first) place))

  arc_here : (gone at : ℕ) (c : Configuration) → P at → To gone c → Going P (To gone) (arc given at c)
  unfolding arc
  arc_here gone at c p h =
      then_going P (solid_here P given from gone c h) (λ first k.
      then_going P (arc_measures_here gone at first p k) (λ m a. arc_with_here gone at m.value m.behind p a.1))

  -- ---- grids

  abbrev MeshedAt : ℕ → Meshed → Type 0
  MeshedAt units drawn = (units ≤ drawn.units) × IfNarrow P (PathIn drawn.path)

  mesh_at : (origin : Point) (mesh : Mesh) (end : Goal) (at units : ℕ) (path : CurrentPath) → P at → IfNarrow P (IsPoint origin)
      → IsPoint end.point → IfNarrow P (PathIn path) → Going P (MeshedAt units) (mesh_drawn origin mesh end given.budget at units path)
  unfolding mesh_drawn
  mesh_at origin mesh end at units path p o e h =
      let found = grid_pieces mesh.matrix (current_point origin path) end.point mesh.xstep mesh.ystep given.budget at units in
      then_going P {Q = λ (g : Grid). (units ≤ g.units) × GridIn g} {m = found} (record {
        stands = both_at P (λ (g : Grid). units ≤ g.units) GridIn found (grid_stands P at p mesh.matrix (current_point origin path) end.point
            mesh.xstep mesh.ystep given.budget units) (grid_in mesh.matrix given.budget at (current_point origin path) end.point mesh.xstep
            mesh.ystep units);
      }) (λ grid k. gives P _ (k.0, (λ out beyond. meshed_in origin (o out beyond) grid.pieces end path k.1 e (h out beyond))))

  grid_to_here : (gone at : ℕ) (m : Measures) (end : Goal) (c : Configuration) → P at → IsPoint end.point → To gone c
      → Going P (To gone) (grid_to given.budget at m end c)
  unfolding grid_to
  grid_to_here gone at m end c p e h =
      then_going P (length_at P given m.x at m.xstep p) (λ xstep _.
      then_going P (length_at P given m.y at m.ystep p) (λ ystep _.
      let mesh : Mesh = record { matrix = m.matrix; xstep = xstep; ystep = ystep } in
      then_going P (mesh_at (origin_of c.env) mesh end at c.units c.picture.path p (origin_at P c h.good) e (path_at P c h.good)) (λ drawn both.
      let k = both.0 in
      gives P _ (record {
        end = h.end;
        units = (let a = h.units in omega arith);
        work = (let a = h.work in omega arith);
        good = record {
          env = h.good.env;
          drawn = (λ out beyond. ((h.good.drawn out beyond).0, both.1 out beyond));
          rest = h.good.rest;
          end = h.good.end;
        };
      }))))

  pub grid_by_here : (gone at : ℕ) (m : Measures) (c : Configuration) → P at → To gone c → Going P (To gone) (grid_by given at m c)
  unfolding grid_by
  grid_by_here gone at m c p h =
      then_going P (goal_ahead_here P given from evaluates gone c h) (λ end b. grid_to_here gone at m end.value end.behind p b.0 b.1)

  grid_here : (gone at : ℕ) (c : Configuration) → P at → To gone c → Going P (To gone) (grid given at c)
  unfolding grid
  grid_here gone at c p h =
      then_going P (solid_here P given from gone c h) (λ first k.
      then_going P (measures_here P given begin evaluates from gone first k) (λ measures a.
      grid_by_here gone at measures.value measures.behind p a.1))

  -- ---- all of them

  to_here : (gone : ℕ) (c : Configuration) → To gone c → Going P (To gone) (to given c)
  unfolding to
  to_here gone c h =
      then_going P (solid_here P given from gone c h) (λ first k.
      then_going P (measures_here P given begin evaluates from gone first k) (λ measures a. goes_here gone Straight measures.behind tt a.1))

  pub operation_here : (gone : ℕ) (word : PathWord) (at : ℕ) (c : Configuration) → P at → To gone c → Going P (To gone) (operation given word at c)
  unfolding operation
  operation_here gone words.Line at c p h = goes_here gone Straight c tt h
  operation_here gone words.AcrossThenUp at c p h = goes_here gone (Cornered HorizontalFirst at) c p h
  operation_here gone words.UpThenAcross at c p h = goes_here gone (Cornered VerticalFirst at) c p h
  operation_here gone words.Dots at c p h = curve_here gone c h
  operation_here gone words.To at c p h = to_here gone c h
  operation_here gone words.Rectangle at c p h = rectangle_here gone at c p h
  operation_here gone words.Circle at c p h = circle_here gone at c p h
  operation_here gone words.Arc at c p h = arc_here gone at c p h
  operation_here gone words.Grid at c p h = grid_here gone at c p h
  operation_here gone words.Node at c p h = refused P Unbuilt at p
  operation_here gone words.Coordinate at c p h = refused P Unbuilt at p
  operation_here gone words.Foreach at c p h = refused P Unbuilt at p
  operation_here gone words.Cycle at c p h = refused P Unbuilt at p
  operation_here gone words.And at c p h = refused P Unbuilt at p
