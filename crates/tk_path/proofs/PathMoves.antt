-- How a run goes on along paths.
use Rattle.std.specs.Prelude.{◌≡◌, ℕ, ◌+◌, List, [], ◌∷◌, Option, Some, None, Ok}
use Rattle.std.proofs.Common.{refl, sym, subst, arith}
use Rattle.tk_characters.specs.Characters.{left_bracket}
use Rattle.tk_token.specs.declared.Code.TheVariants.{Budget}
use Rattle.tk_item.specs.declared.Seg.{Seg}
use Rattle.tk_look.specs.declared.Look.{Look}
use Rattle.tk_token.specs.declared.Tok.{Tok}
use Rattle.tk_token.specs.Answers.{Answer, ◌>>=◌, fault}
use Rattle.tk_token.specs.Kinds.{is_char, is_open}
use Rattle.tk_token.proofs.Fixpoint.{kept}
use Rattle.tk_expand.proofs.Going.{Going, then_going, if_going, weaker_going, gives}
use Rattle.tk_keys.specs.Given.{Given}
use Rattle.tk_keys.proofs.DeedPlaces.{EvaluatesAt}
use Rattle.tk_path.specs.declared.path.PathOpener.{PathOpener}
use Rattle.tk_path.specs.declared.path.PathOpener.TheVariants as openers
use Rattle.tk_path.specs.declared.words.Words.TheVariants.{Operations}
use Rattle.tk_path.specs.Configurations.{Configuration, Lookahead, lookahead, place_ahead}
use Rattle.tk_outline.specs.CurrentPaths.{moved_to}
use Rattle.tk_path.specs.Flow.{Goes_on, Finishes, go_on}
use Rattle.tk_path.specs.Keys.{with_env}
use Rattle.tk_path.specs.Pictures.{Picture, drawn_by, drawn}
use Rattle.tk_path.specs.Paths.{Stretch, stretch, ends, PathFlow, goes_on, movement, operation_from, plain_part, path_group, part_from}
use Rattle.tk_path.specs.Paths.{operations_step, stretch_work, operations, path}
use Rattle.tk_path.specs.Targets.{origin_of}
use Rattle.tk_path.specs.Words.{begins_coordinate}
use Rattle.tk_path.proofs.Places.{Here, Taken, less, passed, place_taken, solid_here, origin_at, path_at}
use Rattle.tk_path.proofs.Ranges.{moved_in, drawn_in}
use Rattle.tk_path.proofs.CoordinateMoves.{coordinate_from_here}
use Rattle.tk_path.proofs.KeyMoves.{options_here}
use Rattle.tk_path.proofs.MeasureMoves.{level_at}
use Rattle.tk_path.proofs.OperationMoves.{operation_here}
use Rattle.tk_path.proofs.TargetMoves.{same_here, goal_here}
use Rattle.tk_path.proofs.WordMoves.{word_from_here}

module _ (P : ℕ → Type 0) (given : Given) (begin : P 0) (evaluates : EvaluatesAt P given) (from : Configuration) where
  pub movement_here : (gone : ℕ) (first : Lookahead) → Taken P given from gone first → Going P (Here P given from (gone + 1)) (movement given first)
  unfolding movement
  movement_here gone first k =
      then_going P (coordinate_from_here P given from gone first k) (λ written a.
      then_going P (goal_here P given from evaluates (gone + 1) written.value written.behind a.0 a.1) (λ to b.
      gives P _ (same_here P given from (gone + 1) (moved_to (origin_of to.behind.env) to.value to.behind.picture.path) to.behind b.1
      (λ out beyond.
      moved_in (origin_of to.behind.env) (origin_at P to.behind b.1.good out beyond) to.value to.behind.picture.path b.0
      (path_at P to.behind b.1.good out beyond)))))

  operation_from_here : (gone : ℕ) (first : Lookahead) → Taken P given from gone first
      → Going P (Here P given from (gone + 1)) (operation_from given first)
  unfolding operation_from
  operation_from_here gone first k =
      then_going P (word_from_here P given from gone Operations first k) (λ word a.
      operation_here P given begin evaluates from (gone + 1) word.value (place_ahead first) word.behind (place_taken P given from gone first k) a.1)

  plain_here : (gone : ℕ) (token : Option Tok) (d : Configuration) → Taken P given from gone (lookahead token d)
      → Going P (Here P given from (gone + 1)) (plain_part given (lookahead token d))
  unfolding plain_part
  plain_here gone None d k = operation_from_here gone (lookahead None d) k
  plain_here gone (Some t) d k =
      if_going P (is_char left_bracket t.kind) (options_here P given begin evaluates from (gone + 1) t.at d k.token k.here)
      (if_going P (begins_coordinate t.kind) (movement_here gone (lookahead (Some t) d) k) (operation_from_here gone (lookahead (Some t) d) k))

  -- a part of a path leaves less
  abbrev pub PartAt : ℕ → PathFlow → Type 0
  PartAt gone (Goes_on d) = Here P given from (gone + 1) d
  PartAt gone (Finishes d) = Here P given from gone d

  on_here : (gone : ℕ) (m : Answer Configuration) → Going P (Here P given from (gone + 1)) m → Going P (PartAt gone) (goes_on m)
  on_here gone m h = then_going P h (λ d a. gives P _ a)

  module _ (rec : Stretch → Answer Configuration)
      (moves : (gone : ℕ) (s : Stretch) → Here P given from gone s.start → Going P (Here P given from gone) (rec s)) where
    group_here : (gone at : ℕ) (c : Configuration) → P at → Here P given from gone c → Going P (Here P given from gone) (path_group given rec at c)
    unfolding path_group
    group_here gone at c p h =
        then_going P (level_at P given at c.env p) (λ inside l.
        then_going P (moves gone (stretch openers.Group (with_env inside c)) (record {
          end = h.end;
          units = h.units;
          work = h.work;
          good = record { env = l h.good.env; drawn = h.good.drawn; rest = h.good.rest; end = h.good.end };
        })) (λ e m.
        gives P _ (record {
          end = m.end;
          units = m.units;
          work = m.work;
          good = record { env = h.good.env; drawn = m.good.drawn; rest = m.good.rest; end = m.good.end };
        })))

    part_by : (gone : ℕ) (opener : PathOpener) (token : Option Tok) (d : Configuration) → Taken P given from gone (lookahead token d)
        → Going P (PartAt gone) (part_from given rec opener (lookahead token d))
    unfolding part_from
    part_by gone opener None d k = on_here gone (plain_part given (lookahead None d)) (plain_here gone None d k)
    part_by gone opener (Some t) d k =
        if_going P (ends opener t.kind) (gives P _ (passed P given from gone (lookahead (Some t) d) k))
        (if_going P (is_open t.kind) (on_here gone (path_group given rec t.at d) (group_here (gone + 1) t.at d k.token k.here))
        (on_here gone (plain_part given (lookahead (Some t) d)) (plain_here gone (Some t) d k)))

    pub part_here : (gone : ℕ) (opener : PathOpener) (first : Lookahead) → Taken P given from gone first
        → Going P (PartAt gone) (part_from given rec opener first)
    part_here gone opener first k = part_by gone opener first.token first.behind k

    follows : (gone : ℕ) (opener : PathOpener) (part : PathFlow) → PartAt gone part
        → Going P (Here P given from gone) (go_on (λ next. rec (stretch opener next)) part)
    follows gone opener (Goes_on d) a = moves gone (stretch opener d) (less P given from gone d a)
    follows gone opener (Finishes d) a = gives P d a

    step_here : (gone : ℕ) (s : Stretch) → Here P given from gone s.start → Going P (Here P given from gone) (operations_step given rec s)
    step_here gone s h =
        then_going P (solid_here P given from gone s.start h) (λ first k.
        then_going P (part_here gone s.opener first k) (λ part a. follows gone s.opener part a))

  pub operations_here : (gone : ℕ) (s : Stretch) → Here P given from gone s.start → Going P (Here P given from gone) (operations given s)
  unfolding operations
  operations_here gone s h = kept (stretch_work given) (fault Budget 0) (operations_step given)
      (λ s r. (gone : ℕ) → Here P given from gone s.start → Going P (Here P given from gone) r) (λ s gone k. record { stands = begin })
      (λ rec moves s gone k. step_here rec (λ gone s k. moves s gone k) gone s k) s gone h

  -- what was drawn is there
  drawn_here : (gone : ℕ) (c : Configuration) → Here P given from gone c
      → Here P given from gone (record c { picture = drawn c.env.graphics.look c.picture })
  drawn_here gone c h =
      record {
        end = h.end;
        units = h.units;
        work = h.work;
        good = record {
          env = h.good.env;
          drawn = (λ out beyond. drawn_in c.env.graphics.look (h.good.env.graphics out beyond).1 c.picture (h.good.drawn out beyond));
          rest = h.good.rest;
          end = h.good.end;
        };
      }

  pub path_here : (gone : ℕ) (c : Configuration) → Here P given from gone c → Going P (Here P given from gone) (path given c)
  unfolding path
  path_here gone c h = then_going P (operations_here gone (stretch openers.Path c) h) (λ e a. gives P _ (drawn_here gone e a))
