-- Coordinates on a path.
use Rattle.std.specs.Prelude.{ℕ, Bool, true, false, if◌then◌else◌, List, Option, None, Some, Ok}
use Rattle.tk_characters.specs.Characters.{left_parenthesis, right_parenthesis, plus}
use Rattle.tk_item.specs.declared.Point.{Point}
use Rattle.tk_token.specs.declared.Tok.{Tok}
use Rattle.tk_token.specs.declared.Code.TheVariants.{Coordinate, Unbuilt}
use Rattle.tk_token.specs.Answers.{Answer, ◌>>=◌, fault, or_fault}
use Rattle.tk_token.specs.Groups.{before_char}
use Rattle.tk_token.specs.Kinds.{is_char, is_space}
use Rattle.tk_expand.specs.Expand.{stream, full}
use Rattle.tk_expand.specs.Reading.{is_there}
use Rattle.tk_expand.specs.Unread.{unread}
use Rattle.tk_keys.specs.Given.{Given}
use Rattle.tk_coord.specs.declared.TextTarget.{TextTarget}
use Rattle.tk_coord.specs.Coordinates.{target_of}
use Rattle.tk_path.specs.declared.coordinate.Sign.{Sign}
use Rattle.tk_path.specs.declared.coordinate.Sign.TheVariants as signs
use Rattle.tk_path.specs.Configurations.{Configuration, with_stream, Reached, reached, Lookahead, place_ahead, must_be}
use Rattle.tk_path.specs.Configurations.{token_ahead, ahead_of}
use Rattle.tk_path.specs.Keys.{with_list}

-- ---- as it is written

-- a coordinate as it is written: its sign, the place of its `(`, and its text up to the first `)` outside braces
pub record Written : Type 0 where
  pub sign : Sign
  pub at : ℕ
  pub text : List Tok

-- the point that it starts from, where it is relative to that point
abbrev pub start_of : Sign → Point → Option Point
start_of signs.Absolute from = None
start_of signs.Relative from = Some from
start_of signs.Leading from = Some from

-- the point of what a coordinate's text stands for
unfoldable pub point_of_target : Answer TextTarget → Answer Point
point_of_target found = found >>= λ target. Ok target.point

-- whether the reference point goes there, which a single `+` keeps
abbrev pub leads : Sign → Bool
leads signs.Absolute = true
leads signs.Relative = false
leads signs.Leading = true

-- the coordinate behind a `(` that stands at a place
unfoldable pub behind_parenthesis : Sign → ℕ → Configuration → Answer (Reached Written)
behind_parenthesis sign at c = do
  text ← or_fault (before_char right_parenthesis c.list.rest) Coordinate at
  Ok (reached (record { sign = sign; at = at; text = text.front }) (with_list c (unread text.rest c.list.end)))

-- a coordinate whose `(` was taken
unfoldable pub parenthesized : Sign → Lookahead → Answer (Reached Written)
parenthesized sign first = do
  inside ← must_be (is_char left_parenthesis) first
  behind_parenthesis sign (place_ahead first) inside

module _ (given : Given) where
  -- a token that was taken, or the one behind the Spaces that it begins
  abbrev pub past_spaces_from : Lookahead → Answer Lookahead
  past_spaces_from first = if is_there is_space first.token then ahead_of given first.behind else Ok first

  -- a coordinate whose first `+` was taken: directly behind it a second one may stand, and then Spaces
  unfoldable pub behind_plus : Configuration → Answer (Reached Written)
  behind_plus c = do
    second ← token_ahead given c
    if is_there (is_char plus) second.token
        then (ahead_of given second.behind >>= parenthesized signs.Leading)
        else (past_spaces_from second >>= parenthesized signs.Relative)

  -- a coordinate that begins with a token which was taken: `(1,2)`, `+(1,2)` or `++(1,2)`
  unfoldable pub coordinate_from : Lookahead → Answer (Reached Written)
  coordinate_from first =
      if is_there (is_char plus) first.token then behind_plus first.behind else parenthesized signs.Absolute first

  -- ---- its point

  -- the point of a coordinate, relative to a point where it has a sign: its text is expanded first
  unfoldable pub coordinate_point : Point → Written → Configuration → Answer (Reached Point)
  coordinate_point from w c = do
    text ← full given.budget c.env.macros (stream c.units (unread w.text w.at))
    let g = c.env.graphics
    point ← point_of_target (target_of given.evaluate given.font g.look g.matrix w.at (start_of w.sign from) text.list.rest)
    Ok (reached point (with_stream c (stream text.units c.list)))
