-- How a run goes on along coordinates.
use Rattle.std.specs.Prelude.{ℕ, ◌+◌, ◌<◌, ◌≤◌, length, Option, Some, None, Ok, IfSome}
use Rattle.std.proofs.Common.{arith}
use Rattle.tk_characters.specs.Characters.{left_parenthesis, right_parenthesis, plus}
use Rattle.tk_item.specs.declared.Point.{Point}
use Rattle.tk_token.specs.declared.Code.TheVariants.{Coordinate}
use Rattle.tk_token.specs.declared.Tok.{Tok}
use Rattle.tk_token.specs.Answers.{Answer, or_fault}
use Rattle.tk_token.specs.Groups.{Cut, before_char}
use Rattle.tk_token.specs.Kinds.{is_char, is_space}
use Rattle.tk_token.proofs.Outside.{before_char_keeps, before_char_shorter}
use Rattle.tk_expand.specs.Unread.{unread}
use Rattle.tk_expand.specs.Expand.{Stream, stream, full}
use Rattle.tk_expand.specs.Reading.{is_there}
use Rattle.tk_expand.proofs.Going.{Going, then_going, if_going, gives}
use Rattle.tk_expand.proofs.Places.{StandAt, StreamAt, CutAt, full_at}
use Rattle.tk_coord.specs.declared.TextTarget.{TextTarget}
use Rattle.tk_coord.specs.Coordinates.{target_of}
use Rattle.tk_coord.proofs.Places.{target_fine}
use Rattle.tk_coord.proofs.Ranges.{target_in}
use Rattle.tk_affine.specs.Images.{IsPoint}
use Rattle.tk_keys.proofs.Narrow.{stands_with}
use Rattle.tk_keys.specs.Given.{Given}
use Rattle.tk_keys.proofs.DeedPlaces.{EvaluatesAt}
use Rattle.tk_keys.proofs.Spending.{full_spends}
use Rattle.tk_keys.proofs.Standing.{both_at}
use Rattle.tk_path.specs.declared.coordinate.Sign.{Sign}
use Rattle.tk_path.specs.declared.coordinate.Sign.TheVariants as signs
use Rattle.tk_path.specs.Configurations.{Configuration, Reached, Lookahead, lookahead, place_ahead}
use Rattle.tk_path.specs.Coordinates.{Written, start_of, behind_parenthesis, parenthesized, past_spaces_from, behind_plus, coordinate_from}
use Rattle.tk_path.specs.Coordinates.{point_of_target, coordinate_point}
use Rattle.tk_path.specs.Keys.{with_list}
use Rattle.tk_path.proofs.Places.{Here, HereWith, Taken, passed, place_taken, token_here, solid_here, wanted_here}

module _ (P : ℕ → Type 0) where
  -- the text of a coordinate stands there
  pub record WrittenAt (w : Written) : Type 0 where
    pub place : P w.at
    pub text : StandAt P w.text

  -- a text up to a `)`, as it is written, and the tokens behind it
  pub record ClosedAt (c : Configuration) (written : Cut) : Type 0 where
    pub short : length written.rest ≤ length c.list.rest
    pub places : CutAt P written

module _ (P : ℕ → Type 0) (given : Given) (from : Configuration) where
  closed_or : (c : Configuration) (found : Option Cut) (at : ℕ) → P at → IfSome found (CutAt P)
      → IfSome found (λ w. length w.front + length w.rest < length c.list.rest) → Going P (ClosedAt P c) (or_fault found Coordinate at)
  closed_or c None at p h k = record { stands = p }
  closed_or c (Some w) at p h k = record { stands = record { short = omega arith; places = h } }

  pub closed_here : (gone at : ℕ) (c : Configuration) → P at → Here P given from gone c
      → Going P (ClosedAt P c) (or_fault (before_char right_parenthesis c.list.rest) Coordinate at)
  closed_here gone at c p h = closed_or c (before_char right_parenthesis c.list.rest) at p (before_char_keeps (λ (t : Tok). P t.at)
      right_parenthesis c.list.rest h.good.rest) (before_char_shorter right_parenthesis c.list.rest)

  -- behind such a text
  pub behind_closed : (gone : ℕ) (c : Configuration) (written : Cut) → Here P given from gone c → ClosedAt P c written
      → Here P given from gone (with_list c (unread written.rest c.list.end))
  behind_closed gone c written h w = record {
    end = h.end;
    units = h.units;
    work = (let a = h.work in let b = w.short in omega arith);
    good = record { env = h.good.env; drawn = h.good.drawn; rest = w.places.1; end = h.good.end };
  }

  behind_here : (gone : ℕ) (sign : Sign) (at : ℕ) (c : Configuration) → P at → Here P given from gone c
      → Going P (HereWith P given from (WrittenAt P) gone) (behind_parenthesis sign at c)
  unfolding behind_parenthesis
  behind_here gone sign at c p h =
      then_going P (closed_here gone at c p h) (λ written w.
      gives P _ (record { place = p; text = w.places.0 }, behind_closed gone c written h w))

  parenthesized_here : (gone : ℕ) (sign : Sign) (first : Lookahead) → Taken P given from gone first
      → Going P (HereWith P given from (WrittenAt P) (gone + 1)) (parenthesized sign first)
  unfolding parenthesized
  parenthesized_here gone sign first k =
      then_going P (wanted_here P given from gone (is_char left_parenthesis) first k) (λ inside h.
      behind_here (gone + 1) sign (place_ahead first) inside (place_taken P given from gone first k) h)

  past_here : (gone : ℕ) (first : Lookahead) → Taken P given from gone first → Going P (Taken P given from gone) (past_spaces_from given first)
  past_here gone first k =
      if_going P (is_there is_space first.token) (solid_here P given from gone first.behind (passed P given from gone first k)) (gives P first k)

  plus_here : (gone : ℕ) (c : Configuration) → Here P given from gone c
      → Going P (HereWith P given from (WrittenAt P) (gone + 1)) (behind_plus given c)
  unfolding behind_plus
  plus_here gone c h =
      then_going P (token_here P given from gone c h) (λ second k.
      if_going P (is_there (is_char plus) second.token)
      (then_going P (solid_here P given from gone second.behind (passed P given from gone second k)) (λ first a.
      parenthesized_here gone signs.Leading first a))
      (then_going P (past_here gone second k) (λ first a. parenthesized_here gone signs.Relative first a)))

  pub coordinate_from_here : (gone : ℕ) (first : Lookahead) → Taken P given from gone first
      → Going P (HereWith P given from (WrittenAt P) (gone + 1)) (coordinate_from given first)
  unfolding coordinate_from
  coordinate_from_here gone first k =
      if_going P (is_there (is_char plus) first.token) (plus_here gone first.behind (passed P given from gone first k))
      (parenthesized_here gone signs.Absolute first k)

  -- ---- points

  target_point_at : {found : Answer TextTarget} → Going P (λ (target : TextTarget). IsPoint target.point) found
      → Going P IsPoint (point_of_target found)
  unfolding point_of_target
  target_point_at h = then_going P h (λ target k. gives P _ k)

  module _ (evaluates : EvaluatesAt P given) where
    pub point_here : (gone : ℕ) (start : Point) (w : Written) (c : Configuration) → WrittenAt P w → Here P given from gone c
        → Going P (HereWith P given from IsPoint gone) (coordinate_point given start w c)
    unfolding coordinate_point
    point_here gone start w c k h =
        let inside = stream c.units (unread w.text w.at) in
        then_going P {m = full given.budget c.env.macros inside}
        (record {
          stands = both_at P (StreamAt P) (λ (r : Stream). c.units ≤ r.units) (full given.budget c.env.macros inside)
              (full_at P given.budget c.env.macros h.good.env.bodies inside k.text) (full_spends given.budget c.env.macros inside);
        }) (λ text a.
        let g = c.env.graphics in
        let found = target_of given.evaluate given.font g.look g.matrix w.at (start_of w.sign start) text.list.rest in
        then_going P (target_point_at {found = found} (record {
          stands = stands_with P (λ (target : TextTarget). IsPoint target.point) found (target_fine P w.at k.place given.evaluate given.font g.look
              g.matrix (λ ts l. evaluates.faults w.at ts k.place l) (start_of w.sign start) text.list.rest a.0)
              (target_in given.evaluate given.font g.look g.matrix w.at (start_of w.sign start) text.list.rest);
        })) (λ p l. gives P _ (
          l,
          record {
            end = h.end;
            units = (let b = a.1 in let u = h.units in omega arith);
            work = (let b = a.1 in let u = h.work in omega arith);
            good = record { env = h.good.env; drawn = h.good.drawn; rest = h.good.rest; end = h.good.end };
          },
        )))
