-- The operations of a path.
use Rattle.std.specs.Prelude.{ℕ, if◌then◌else◌, List, [], ◌∷◌, Ok, codes}
use Rattle.tk_characters.specs.Characters.{left_parenthesis, right_parenthesis, left_bracket}
use Rattle.tk_item.specs.declared.Point.{Point}
use Rattle.tk_item.specs.declared.Seg.{Seg}
use Rattle.tk_item.specs.declared.Seg.TheVariants.{Line, Curve}
use Rattle.tk_token.specs.declared.Tok.{Tok}
use Rattle.tk_token.specs.declared.Code.TheVariants.{Coordinate, PathSyntax, Unbuilt}
use Rattle.tk_token.specs.Answers.{Answer, ◌>>=◌, fault, or_fault}
use Rattle.tk_token.specs.Groups.{before_char}
use Rattle.tk_token.specs.Kinds.{is_char}
use Rattle.tk_expand.specs.Expand.{stream, full}
use Rattle.tk_expand.specs.Reading.{is_there}
use Rattle.tk_expand.specs.Unread.{unread}
use Rattle.tk_affine.specs.Faults.{answer_at}
use Rattle.tk_coord.specs.declared.corners.CornerSign.{CornerSign}
use Rattle.tk_coord.specs.declared.corners.CornerSign.TheVariants.{HorizontalFirst, VerticalFirst}
use Rattle.tk_coord.specs.Coordinates.{corner_between}
use Rattle.tk_keys.specs.Given.{Given}
use Rattle.tk_outline.specs.declared.measures.Measures.{Measures}
use Rattle.tk_outline.specs.declared.measures.ArcMeasures.{ArcMeasures}
use Rattle.tk_outline.specs.declared.current_path.Goal.{Goal}
use Rattle.tk_outline.specs.declared.current_path.Mesh.{Mesh}
use Rattle.tk_path.specs.declared.words.PathWord.{PathWord}
use Rattle.tk_path.specs.declared.words.PathWord.TheVariants as words
use Rattle.tk_path.specs.declared.words.Words.TheVariants.{Controls}
use Rattle.tk_path.specs.declared.coordinate.Sign.{Sign}
use Rattle.tk_path.specs.declared.coordinate.Sign.TheVariants as signs
use Rattle.tk_path.specs.Configurations.{Configuration, with_stream, Reached, reached, Lookahead, place_ahead, must_be}
use Rattle.tk_path.specs.Configurations.{ahead_of}
use Rattle.tk_path.specs.Coordinates.{Written, coordinate_from, coordinate_point}
use Rattle.tk_outline.specs.CurrentPaths.{CurrentPath, subpath_start, in_subpath, standing_at, with_close, moved_to}
use Rattle.tk_outline.specs.CurrentPaths.{with_pieces, circled, boxed, arced}
use Rattle.tk_path.specs.Keys.{put_back, with_list}
use Rattle.tk_outline.specs.Measures.{measures_of, length_across, length_upward, radii_in, arc_in, sweep_of}
use Rattle.tk_path.specs.Measures.{inner_measures, measures_from}
use Rattle.tk_outline.specs.Meshes.{mesh_drawn}
use Rattle.tk_path.specs.Targets.{with_current, origin_of, here, reference, Target, A_coordinate, The_start, goal_of}
use Rattle.tk_path.specs.Targets.{goal_ahead, target_ahead}
use Rattle.tk_path.specs.Words.{word_ahead, past_word}

-- ---- ways

-- the second control point of a curve: it is known, or it starts from the end of the curve and is found once that is
-- known
pub data Control : Type 0 where
  Known : Point → Control
  From_end : Written → Control

-- how an operation gets from one point to another: straight, round a corner whose sign stands at a place, or along a
-- curve by its control points
pub data Way : Type 0 where
  Straight : Way
  Cornered : CornerSign → ℕ → Way
  Curved : Point → Control → Way

-- pieces follow on the path
abbrev pub with_following : List Seg → Configuration → Configuration
with_following segs c = with_current (with_pieces segs (in_subpath (origin_of c.env) c.picture.path)) c

-- a circle or an ellipse round the current point, whose word stands at that place
unfoldable pub circle_with : ℕ → Measures → Configuration → Answer Configuration
circle_with at m c = do
  rx ← length_across m at m.radii.x
  ry ← length_upward m at m.radii.y
  path ← answer_at at (circled (origin_of c.env) m.matrix rx ry c.picture.path)
  Ok (with_current path c)

-- an arc that begins at the current point, whose word stands at that place
unfoldable pub arc_with : ℕ → ArcMeasures → Configuration → Answer Configuration
arc_with at arc c = do
  rx ← length_across arc.measures at arc.measures.radii.x
  ry ← length_upward arc.measures at arc.measures.radii.y
  path ← answer_at at (arced (origin_of c.env) arc.measures.matrix arc.sweep rx ry c.picture.path)
  Ok (with_current path c)

-- a grid from the current point to a goal, whose word stands at that place
unfoldable pub grid_to : ℕ → ℕ → Measures → Goal → Configuration → Answer Configuration
grid_to budget at m to c = do
  xstep ← length_across m at m.xstep
  ystep ← length_upward m at m.ystep
  let mesh : Mesh = record { matrix = m.matrix; xstep = xstep; ystep = ystep }
  drawn ← mesh_drawn (origin_of c.env) mesh to budget at c.units c.picture.path
  Ok (with_current drawn.path (record c { units = drawn.units }))

module _ (given : Given) where
  -- where the second control point is, of a curve that ends at that point
  unfoldable pub control_point : Point → Control → Configuration → Answer (Reached Point)
  control_point end (Known p) c = Ok (reached p c)
  control_point end (From_end w) c = coordinate_point given end w c

  -- a way is drawn from the current point to another
  unfoldable pub way_drawn : Way → Point → Configuration → Answer Configuration
  way_drawn Straight end c = Ok (with_following (Line end ∷ []) c)
  way_drawn (Cornered sign at) end c = do
    corner ← answer_at at (corner_between sign c.env.graphics.matrix (here c) end)
    Ok (with_following (Line corner ∷ Line end ∷ []) c)
  way_drawn (Curved first second) end c = do
    control ← control_point end second c
    Ok (with_following (Curve first control.value end ∷ []) control.behind)

  -- A way to a target. Where its subpath began that is closed there; a straight way back is what closes it.
  unfoldable pub way_to : Way → Target → Configuration → Answer Configuration
  way_to way (A_coordinate w) c = do
    end ← goal_of given w c
    drawn ← way_drawn way end.value.point end.behind
    Ok (with_current (standing_at (origin_of c.env) end.value drawn.picture.path) drawn)
  way_to Straight The_start c = Ok (with_current (with_close (in_subpath (origin_of c.env) c.picture.path)) c)
  way_to way The_start c = do
    drawn ← way_drawn way (subpath_start (origin_of c.env) c.picture.path) c
    Ok (with_current (with_close drawn.picture.path) drawn)

  -- a way to the target that is next
  unfoldable pub goes : Way → Configuration → Answer Configuration
  goes way c = do
    target ← target_ahead given c
    way_to way target.value target.behind

  -- ---- curves

  -- a control point that is found where it stands
  unfoldable pub control_ahead : Configuration → Answer (Reached Written)
  control_ahead c = ahead_of given c >>= coordinate_from given

  -- the second control point: one with a sign starts from the end of the curve
  abbrev pub second_control : Written → Sign → Configuration → Answer (Reached Control)
  second_control w signs.Absolute c = do
    point ← coordinate_point given (reference c) w c
    Ok (reached (Known point.value) point.behind)
  second_control w sign c = Ok (reached (From_end w) c)

  -- the way of a curve whose first control point is known, and the word behind it: `p and q ..`, or `p ..`, where p
  -- stands for both
  abbrev pub curve_behind : Point → PathWord → Configuration → Answer (Reached Way)
  curve_behind p words.And c = do
    written ← control_ahead c
    second ← second_control written.value written.value.sign written.behind
    behind ← past_word given (codes "..") second.behind
    Ok (reached (Curved p second.value) behind)
  curve_behind p word c = Ok (reached (Curved p (Known p)) c)

  -- the first control point of a curve, whose first `..` was read
  unfoldable pub first_control : Configuration → Answer (Reached Point)
  first_control c = do
    behind ← past_word given (codes "controls") c
    written ← control_ahead behind
    coordinate_point given (reference written.behind) written.value written.behind

  -- the control points of a curve, whose first `..` was read, and the `..` behind them
  unfoldable pub curve_way : Configuration → Answer (Reached Way)
  curve_way c = do
    first ← first_control c
    word ← word_ahead given Controls first.behind
    curve_behind first.value word.value word.behind

  -- a curve, whose first `..` was read
  unfoldable pub curve : Configuration → Answer Configuration
  curve c = do
    way ← curve_way c
    goes way.value way.behind

  -- ---- outlines

  -- a rectangle from the current point to the coordinate that is next; its word stands at that place
  unfoldable pub rectangle : ℕ → Configuration → Answer Configuration
  rectangle at c = do
    end ← goal_ahead given c
    path ← answer_at at (boxed (origin_of c.env) c.env.graphics.matrix end.value c.picture.path)
    Ok (with_current path end.behind)

  -- a text in parentheses, whose `(` was taken at that place, once it is expanded
  unfoldable pub text_behind : ℕ → Configuration → Answer (Reached (List Tok))
  text_behind at c = do
    written ← or_fault (before_char right_parenthesis c.list.rest) Coordinate at
    text ← full given.budget c.env.macros (stream c.units (unread written.front at))
    Ok (reached text.list.rest (with_stream c (stream text.units (unread written.rest c.list.end))))

  -- what a circle is measured by, where the first token behind its word was taken: radii in parentheses, options, or
  -- the keys of the path
  unfoldable pub circle_measures : Lookahead → Answer (Reached Measures)
  circle_measures first =
      if is_there (is_char left_parenthesis) first.token
      then (do
        text ← text_behind (place_ahead first) first.behind
        radii ← radii_in given.evaluate given.font (place_ahead first) text.value
        Ok (reached (record (measures_of text.behind.env.graphics) { radii = radii }) text.behind))
      else measures_from given first

  -- a circle or an ellipse, whose word stands at that place
  unfoldable pub circle : ℕ → Configuration → Answer Configuration
  circle at c = do
    first ← ahead_of given c
    measures ← circle_measures first
    circle_with at measures.value measures.behind

  -- what an arc is measured by, where the first token behind its word was taken, which stands at that place: angles and
  -- radii in parentheses, or options
  unfoldable pub arc_measures : ℕ → Lookahead → Answer (Reached ArcMeasures)
  arc_measures at first =
      if is_there (is_char left_parenthesis) first.token
      then (do
        text ← text_behind (place_ahead first) first.behind
        arc ← arc_in given.evaluate given.font (place_ahead first) text.value
        let measures = record (measures_of text.behind.env.graphics) { radii = arc.radii }
        Ok (reached (record { measures = measures; sweep = arc.sweep }) text.behind))
      else (if is_there (is_char left_bracket) first.token
      then (do
        inside ← inner_measures given (place_ahead first) first.behind
        let m = inside.value
        sweep ← sweep_of at m.start_angle m.end_angle m.delta_angle
        Ok (reached (record { measures = m; sweep = sweep }) inside.behind))
      else fault PathSyntax (place_ahead first))

  -- an arc, whose word stands at that place
  unfoldable pub arc : ℕ → Configuration → Answer Configuration
  arc at c = do
    first ← ahead_of given c
    found ← arc_measures at first
    arc_with at found.value found.behind

  -- a grid with those measures to the coordinate that is next
  unfoldable pub grid_by : ℕ → Measures → Configuration → Answer Configuration
  grid_by at measures c = do
    end ← goal_ahead given c
    grid_to given.budget at measures end.value end.behind

  -- a grid, whose word stands at that place, with options of its own
  unfoldable pub grid : ℕ → Configuration → Answer Configuration
  grid at c = do
    first ← ahead_of given c
    measures ← measures_from given first
    grid_by at measures.value measures.behind

  -- ---- all of them

  -- a straight line with options of its own, which leave nothing
  unfoldable pub to : Configuration → Answer Configuration
  to c = do
    first ← ahead_of given c
    measures ← measures_from given first
    goes Straight measures.behind

  -- an operation, whose word stands at that place and was read; nodes and loops aren't built
  unfoldable pub operation : PathWord → ℕ → Configuration → Answer Configuration
  operation words.Line at c = goes Straight c
  operation words.AcrossThenUp at c = goes (Cornered HorizontalFirst at) c
  operation words.UpThenAcross at c = goes (Cornered VerticalFirst at) c
  operation words.Dots at c = curve c
  operation words.To at c = to c
  operation words.Rectangle at c = rectangle at c
  operation words.Circle at c = circle at c
  operation words.Arc at c = arc at c
  operation words.Grid at c = grid at c
  operation word at c = fault Unbuilt at
