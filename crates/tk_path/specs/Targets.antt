-- What operations go to.
use Rattle.std.specs.Prelude.{ℕ, if◌then◌else◌, List, Ok}
use Rattle.tk_item.specs.declared.Point.{Point}
use Rattle.tk_token.specs.declared.Code.TheVariants.{Unbuilt}
use Rattle.tk_token.specs.Answers.{Answer, ◌>>=◌, fault}
use Rattle.tk_expand.specs.Reading.{is_there}
use Rattle.tk_keys.specs.Environment.{Env}
use Rattle.tk_keys.specs.Given.{Given}
use Rattle.tk_outline.specs.declared.current_path.Goal.{Goal}
use Rattle.tk_path.specs.declared.words.PathWord.{PathWord}
use Rattle.tk_path.specs.declared.words.PathWord.TheVariants.{Cycle}
use Rattle.tk_path.specs.declared.words.Words.TheVariants.{Nodes, Targets}
use Rattle.tk_path.specs.Configurations.{Configuration, Reached, reached, Lookahead, place_ahead, ahead_of}
use Rattle.tk_path.specs.Coordinates.{Written, leads, coordinate_from, coordinate_point}
use Rattle.tk_outline.specs.CurrentPaths.{CurrentPath, goal, current_point, reference_point}
use Rattle.tk_path.specs.Pictures.{with_path}
use Rattle.tk_path.specs.Words.{begins_coordinate, word_from}

-- ---- where the run stands

-- another path is being read
abbrev pub with_current : CurrentPath → Configuration → Configuration
with_current path c = record c { picture = with_path path c.picture }

-- the point to which the matrix takes the origin
abbrev pub origin_of : Env → Point
origin_of env = record { x = env.graphics.matrix.tx; y = env.graphics.matrix.ty }

-- the current point
abbrev pub here : Configuration → Point
here c = current_point (origin_of c.env) c.picture.path

-- the point that relative coordinates start from
abbrev pub reference : Configuration → Point
reference c = reference_point (origin_of c.env) c.picture.path

-- ---- targets

-- what a line, corner or curve goes to: a coordinate, or where its subpath began
pub data Target : Type 0 where
  A_coordinate : Written → Target
  The_start : Target

module _ (given : Given) where
  -- the point of a coordinate to which the path goes
  unfoldable pub goal_of : Written → Configuration → Answer (Reached Goal)
  goal_of w c = do
    point ← coordinate_point given (reference c) w c
    Ok (reached (goal point.value (leads w.sign)) point.behind)

  -- a coordinate that begins with a token which was taken; a node may stand before it, which isn't built
  unfoldable pub coordinate_or_node : Lookahead → Answer (Reached Written)
  coordinate_or_node first =
      if is_there begins_coordinate first.token then coordinate_from given first
      else (do
        word ← word_from given Nodes first
        fault Unbuilt (place_ahead first))

  -- the point of the coordinate that is next
  unfoldable pub goal_ahead : Configuration → Answer (Reached Goal)
  goal_ahead c = do
    first ← ahead_of given c
    written ← coordinate_or_node first
    goal_of written.value written.behind

  -- the target that a word is, which begins at that place
  abbrev pub target_by : ℕ → PathWord → Configuration → Answer (Reached Target)
  target_by at Cycle c = Ok (reached The_start c)
  target_by at word c = fault Unbuilt at

  -- the target that is next
  unfoldable pub target_ahead : Configuration → Answer (Reached Target)
  target_ahead c = do
    first ← ahead_of given c
    if is_there begins_coordinate first.token
        then (do
          written ← coordinate_from given first
          Ok (reached (A_coordinate written.value) written.behind))
        else (do
          word ← word_from given Targets first
          target_by (place_ahead first) word.value word.behind)
