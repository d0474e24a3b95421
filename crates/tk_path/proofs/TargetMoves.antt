-- How a run goes on along what operations go to.
use Rattle.std.specs.Prelude.{ℕ, ◌+◌, List, Ok}
use Rattle.tk_token.specs.declared.Code.TheVariants.{Unbuilt}
use Rattle.tk_expand.specs.Reading.{is_there}
use Rattle.tk_expand.proofs.Going.{Going, then_going, if_going, gives, refused}
use Rattle.tk_keys.specs.Given.{Given}
use Rattle.tk_keys.proofs.DeedPlaces.{EvaluatesAt}
use Rattle.tk_path.specs.declared.words.PathWord.{PathWord}
use Rattle.tk_path.specs.declared.words.PathWord.TheVariants as words
use Rattle.tk_path.specs.declared.words.Words.TheVariants.{Nodes, Targets}
use Rattle.tk_path.specs.Configurations.{Configuration, Lookahead, place_ahead}
use Rattle.tk_path.specs.Coordinates.{Written}
use Rattle.tk_outline.specs.CurrentPaths.{CurrentPath}
use Rattle.tk_path.specs.Targets.{with_current, reference, Target, A_coordinate, The_start, goal_of, coordinate_or_node, goal_ahead, target_by}
use Rattle.tk_path.specs.Targets.{target_ahead}
use Rattle.tk_path.specs.Words.{begins_coordinate}
use Rattle.tk_outline.specs.declared.current_path.Goal.{Goal}
use Rattle.tk_affine.specs.Images.{IsPoint}
use Rattle.tk_keys.proofs.Narrow.{IfNarrow}
use Rattle.tk_path.proofs.Ranges.{PathIn}
use Rattle.tk_path.proofs.Places.{Here, HereWith, Taken, less, place_taken, solid_here}
use Rattle.tk_path.proofs.CoordinateMoves.{WrittenAt, coordinate_from_here, point_here}
use Rattle.tk_path.proofs.WordMoves.{word_from_here}

-- the point of a goal is in range
abbrev pub GoalIn : Goal → Type 0
GoalIn g = IsPoint g.point

module _ (P : ℕ → Type 0) (given : Given) (from : Configuration) where
  -- another path is being read there
  pub same_here : (gone : ℕ) (path : CurrentPath) (c : Configuration) → Here P given from gone c → IfNarrow P (PathIn path)
      → Here P given from gone (with_current path c)
  same_here gone path c h k = record {
    end = h.end;
    units = h.units;
    work = h.work;
    good = record { env = h.good.env; drawn = (λ out beyond. ((h.good.drawn out beyond).0, k out beyond)); rest = h.good.rest; end = h.good.end };
  }

  -- the text of a target stands there
  abbrev pub TargetAt : Target → Type 0
  TargetAt (A_coordinate w) = WrittenAt P w
  TargetAt The_start = Unit {0}

  module _ (evaluates : EvaluatesAt P given) where
    pub goal_here : (gone : ℕ) (w : Written) (c : Configuration) → WrittenAt P w → Here P given from gone c
        → Going P (HereWith P given from GoalIn gone) (goal_of given w c)
    unfolding goal_of
    goal_here gone w c k h =
        then_going P (point_here P given from evaluates gone (reference c) w c k h) (λ p a. gives P _ (a.0, a.1))

    coordinate_or_node_here : (gone : ℕ) (first : Lookahead) → Taken P given from gone first
        → Going P (HereWith P given from (WrittenAt P) (gone + 1)) (coordinate_or_node given first)
    unfolding coordinate_or_node
    coordinate_or_node_here gone first k =
        if_going P (is_there begins_coordinate first.token) (coordinate_from_here P given from gone first k)
        (then_going P (word_from_here P given from gone Nodes first k) (λ word _.
        refused P Unbuilt (place_ahead first) (place_taken P given from gone first k)))

    pub goal_ahead_here : (gone : ℕ) (c : Configuration) → Here P given from gone c
        → Going P (HereWith P given from GoalIn gone) (goal_ahead given c)
    unfolding goal_ahead
    goal_ahead_here gone c h =
        then_going P (solid_here P given from gone c h) (λ first k.
        then_going P (coordinate_or_node_here gone first k) (λ w a.
        goal_here gone w.value w.behind a.0 (less P given from gone w.behind a.1)))

    target_by_here : (gone at : ℕ) (word : PathWord) (c : Configuration) → P at → Here P given from gone c
        → Going P (HereWith P given from TargetAt gone) (target_by given at word c)
    target_by_here gone at words.Cycle c p h = gives P _ (tt, h)
    target_by_here gone at words.Line c p h = refused P Unbuilt at p
    target_by_here gone at words.AcrossThenUp c p h = refused P Unbuilt at p
    target_by_here gone at words.UpThenAcross c p h = refused P Unbuilt at p
    target_by_here gone at words.Dots c p h = refused P Unbuilt at p
    target_by_here gone at words.To c p h = refused P Unbuilt at p
    target_by_here gone at words.Rectangle c p h = refused P Unbuilt at p
    target_by_here gone at words.Circle c p h = refused P Unbuilt at p
    target_by_here gone at words.Arc c p h = refused P Unbuilt at p
    target_by_here gone at words.Grid c p h = refused P Unbuilt at p
    target_by_here gone at words.Node c p h = refused P Unbuilt at p
    target_by_here gone at words.Coordinate c p h = refused P Unbuilt at p
    target_by_here gone at words.Foreach c p h = refused P Unbuilt at p
    target_by_here gone at words.And c p h = refused P Unbuilt at p

    pub target_ahead_here : (gone : ℕ) (c : Configuration) → Here P given from gone c
        → Going P (HereWith P given from TargetAt gone) (target_ahead given c)
    unfolding target_ahead
    target_ahead_here gone c h =
        then_going P (solid_here P given from gone c h) (λ first k.
        if_going P (is_there begins_coordinate first.token)
        (then_going P (coordinate_from_here P given from gone first k) (λ w a.
        gives P _ (a.0, less P given from gone w.behind a.1)))
        (then_going P (word_from_here P given from gone Targets first k) (λ word a.
        target_by_here gone (place_ahead first) word.value word.behind (place_taken P given from gone first k)
        (less P given from gone word.behind a.1))))
