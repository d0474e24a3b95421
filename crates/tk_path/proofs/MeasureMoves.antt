-- How a run goes on along measures, and where their faults stand.
use Rattle.std.specs.Prelude.{ℕ, ◌+◌, nat_lt, List, drop, Option, Some, None, Result, Ok, Err, IfSome, ℤ, ◌+ℤ◌, ◌-ℤ◌}
use Rattle.tk_characters.specs.Characters.{colon, left_bracket}
use Rattle.tk_num.specs.Number.{scaled}
use Rattle.tk_num.specs.declared.NumFault.{NumFault}
use Rattle.tk_token.specs.declared.Code.TheVariants.{Levels, PathSyntax}
use Rattle.tk_token.specs.declared.Tok.{Tok}
use Rattle.tk_token.specs.Groups.{Cut, first_outside, before_char}
use Rattle.tk_token.specs.Kinds.{is_char, begins_and}
use Rattle.tk_token.proofs.Outside.{first_outside_keeps, before_char_keeps}
use Rattle.tk_expand.specs.Reading.{is_there}
use Rattle.tk_expand.proofs.Going.{Going, then_going, if_going, or_going, fault_going, gives, refused}
use Rattle.tk_expand.proofs.Places.{StandAt, CutAt, dropped_at}
use Rattle.tk_expr.specs.declared.Value.{Value}
use Rattle.tk_expr.specs.Pairs.{length_along}
use Rattle.tk_expr.specs.Values.{placed}
use Rattle.tk_keys.specs.Environment.{Env, level}
use Rattle.tk_keys.specs.Given.{Given}
use Rattle.tk_keys.proofs.DeedPlaces.{EvaluatesAt}
use Rattle.tk_keys.proofs.Entries.{EnvAt}
use Rattle.tk_path.specs.Configurations.{Configuration, Lookahead, place_ahead}
use Rattle.tk_path.specs.Keys.{with_env}
use Rattle.tk_outline.specs.Measures.{radii_by, radii_in, angle_in, arc_in, sweep_of}
use Rattle.tk_path.specs.Measures.{inner_measures, measures_from}
use Rattle.tk_path.proofs.Places.{Here, HereWith, Taken, AnyValue, passed, place_taken}
use Rattle.tk_path.proofs.KeyMoves.{keys_here, list_here, put_back_here}

module _ (P : ℕ → Type 0) (given : Given) where
  placed_at : (at : ℕ) (r : Result ℤ NumFault) → P at → Going P AnyValue (placed at r)
  placed_at at (Ok n) p = gives P n tt
  placed_at at (Err e) p = record { stands = p }

  -- a length, whose fault stands at a place
  pub length_at : (vector : ℤ) (at : ℕ) (v : Value) → P at → Going P AnyValue (length_along vector at v)
  length_at vector at v p = if_going P v.unit (gives P v.number tt) (placed_at at _ p)

  pub sweep_at : (at : ℕ) (a b delta : Option ℤ) → P at → Going P AnyValue (sweep_of at a b delta)
  unfolding sweep_of
  sweep_at at (Some a) (Some b) delta p = record { stands = tt }
  sweep_at at (Some a) None (Some delta) p = then_going P (placed_at at (scaled (a +ℤ delta)) p) (λ b _. gives P _ tt)
  sweep_at at (Some a) None None p = record { stands = p }
  sweep_at at None (Some b) (Some delta) p = then_going P (placed_at at (scaled (b -ℤ delta)) p) (λ a _. gives P _ tt)
  sweep_at at None (Some b) None p = record { stands = p }
  sweep_at at None None delta p = record { stands = p }

  -- ---- in parentheses

  module _ (evaluates : EvaluatesAt P given) (at : ℕ) (here : P at) where
    value_at : (text : List Tok) → StandAt P text → Going P AnyValue (given.evaluate given.font at text)
    value_at text h = fault_going P (given.evaluate given.font at text) (evaluates.faults at text here h)

    by_at : (text : List Tok) (found : Option Cut) → StandAt P text → IfSome found (CutAt P)
        → Going P AnyValue (radii_by given.evaluate given.font at text found)
    by_at text None h k = then_going P (value_at text h) (λ r _. gives P _ tt)
    by_at text (Some c) h k =
        then_going P (value_at c.front k.0) (λ r _.
        then_going P (value_at (drop 3 c.rest) (dropped_at P 3 c.rest k.1)) (λ s _. gives P _ tt))

    pub radii_at : (text : List Tok) → StandAt P text → Going P AnyValue (radii_in given.evaluate given.font at text)
    unfolding radii_in
    radii_at text h = by_at text (first_outside begins_and text) h (first_outside_keeps (λ (t : Tok). P t.at) begins_and text h)

    angle_at : (text : List Tok) → StandAt P text → Going P AnyValue (angle_in given.evaluate given.font at text)
    angle_at text h = then_going P (value_at text h) (λ v _. gives P _ tt)

    pub arc_at : (text : List Tok) → StandAt P text → Going P AnyValue (arc_in given.evaluate given.font at text)
    unfolding arc_in
    arc_at text h =
        then_going P {Q = CutAt P} (or_going P (before_char colon text) PathSyntax here
        (before_char_keeps (λ (t : Tok). P t.at) colon text h)) (λ first k.
        then_going P {Q = CutAt P} (or_going P (before_char colon first.rest) PathSyntax here
        (before_char_keeps (λ (t : Tok). P t.at) colon first.rest k.1)) (λ second l.
        then_going P (angle_at first.front k.0) (λ a _.
        then_going P (angle_at second.front l.0) (λ b _.
        then_going P (radii_at second.rest l.1) (λ radii _. gives P _ tt)))))

  -- ---- options of its own

  pub level_at : (at : ℕ) (env : Env) → P at → Going P (λ (inside : Env). EnvAt P env → EnvAt P inside) (level at env)
  level_at at env p =
      if_going P (nat_lt env.levels 128) (gives P _ (λ h. record { bodies = h.bodies; entries = h.entries; graphics = h.graphics })) (refused P Levels at p)

  module _ (begin : P 0) (evaluates : EvaluatesAt P given) (from : Configuration) where
    pub inner_here : (gone at : ℕ) (c : Configuration) → P at → Here P given from gone c
        → Going P (HereWith P given from AnyValue gone) (inner_measures given at c)
    unfolding inner_measures
    inner_here gone at c p h =
        then_going P (list_here P given begin evaluates from gone at c p h) (λ list k.
        then_going P (level_at at c.env p) (λ inside l.
        let there : Here P given from gone (with_env inside list.behind) = record {
          end = k.1.end;
          units = k.1.units;
          work = k.1.work;
          good = record { env = l h.good.env; drawn = k.1.good.drawn; rest = k.1.good.rest; end = k.1.good.end };
        } in
        then_going P (keys_here P given begin evaluates from gone at list.value (with_env inside list.behind) p k.0 there) (λ e m.
        gives P _ (
          tt,
          record {
            end = m.end;
            units = m.units;
            work = m.work;
            good = record { env = h.good.env; drawn = m.good.drawn; rest = m.good.rest; end = m.good.end };
          },
        ))))

    pub measures_here : (gone : ℕ) (first : Lookahead) → Taken P given from gone first
        → Going P (HereWith P given from AnyValue gone) (measures_from given first)
    unfolding measures_from
    measures_here gone first k =
        if_going P (is_there (is_char left_bracket) first.token)
        (inner_here gone (place_ahead first) first.behind (place_taken P given from gone first k) (passed P given from gone first k))
        (gives P _ (tt, put_back_here P given begin evaluates from gone first.token first.behind k))
