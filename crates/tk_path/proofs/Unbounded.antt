-- Operations are what one step of their definition says, and no bound on how deep the steps go is met.
use Rattle.std.specs.Prelude.{◌≡◌, ℕ, ◌+◌, ◌<◌, ◌≤◌, length, if◌then◌else◌, Option, Some, None, Ok, IfOk}
use Rattle.std.specs.Option.{option_to_list}
use Rattle.std.proofs.Common.{refl, ap, ◌∙◌, arith}
use Rattle.tk_token.specs.declared.Code.TheVariants.{Budget}
use Rattle.tk_token.specs.declared.Tok.{Tok}
use Rattle.tk_token.specs.Answers.{Answer, ◌>>=◌, fault}
use Rattle.tk_token.specs.Kinds.{is_open}
use Rattle.tk_token.specs.Recursion.{by_size}
use Rattle.tk_token.proofs.Answering.{then_alike}
use Rattle.tk_expand.proofs.Going.{Standing, begins}
use Rattle.tk_keys.specs.Environment.{Env, level}
use Rattle.tk_keys.specs.Given.{Given}
use Rattle.tk_keys.proofs.Pinned.{IsPinned, is_its_step, is_never_stuck}
use Rattle.tk_keys.proofs.Ran.{Any, any_list, any_env, any_evaluates}
use Rattle.tk_keys.proofs.Standing.{ok_at, any_value}
use Rattle.tk_path.specs.declared.path.PathOpener.{PathOpener}
use Rattle.tk_path.specs.declared.path.PathOpener.TheVariants as openers
use Rattle.tk_path.specs.Configurations.{Configuration, stream_at, Lookahead, lookahead, work_at, ahead_of}
use Rattle.tk_path.specs.Flow.{Goes_on, Finishes, go_on}
use Rattle.tk_path.specs.Keys.{with_env}
use Rattle.tk_path.specs.Paths.{Stretch, stretch, ends, PathFlow, goes_on, plain_part, path_group, part_from, operations_step, stretch_work}
use Rattle.tk_path.specs.Paths.{operations}
use Rattle.tk_path.proofs.Places.{At, Here, Taken, solid_here}
use Rattle.tk_path.proofs.PathMoves as moves

module _ (given : Given) where
  pub any_at : (c : Configuration) → At Any c
  any_at c = record { env = any_env c.env; drawn = (λ out beyond. elim (beyond tt) [ ]); rest = any_list c.list.rest; end = tt }

  -- where a run begins nothing is gone
  pub any_here : (c : Configuration) → Here Any given c 0 c
  any_here c = begins given.budget stream_at (At Any) c (any_at c)

  -- the run takes a token
  pub taken_any : (c : Configuration) → IfOk (ahead_of given c) (Taken Any given c 0)
  taken_any c = ok_at Any (Taken Any given c 0) (ahead_of given c) (solid_here Any given c 0 c (any_here c)).stands

  -- a part leaves less
  abbrev pub Leaves : Configuration → PathFlow → Type 0
  Leaves c part = moves.PartAt Any given tt (any_evaluates given) c 0 part

  pub part_leaves : (opener : PathOpener) (c : Configuration) (first : Lookahead) → Taken Any given c 0 first
      → IfOk (part_from given (operations given) opener first) (Leaves c)
  part_leaves opener c first k =
      ok_at Any (Leaves c) (part_from given (operations given) opener first)
      (moves.part_here Any given tt (any_evaluates given) c (operations given)
      (moves.operations_here Any given tt (any_evaluates given) c) 0 opener first k).stands

  module _ (f : Stretch → Answer Configuration) (s : Stretch) (alike : (r : Stretch) → stretch_work given r < stretch_work given s
      → f r ≡ operations given r) where
    group_alike : (at : ℕ) (c : Configuration) → work_at given c < stretch_work given s
        → path_group given f at c ≡ path_group given (operations given) at c
    unfolding path_group
    group_alike at c less =
        then_alike (λ (e : Env). Unit {0}) (level at c.env) _ _ (any_value (level at c.env)) (λ inside _.
        ap (λ (r : Answer Configuration). r >>= λ end. Ok (with_env c.env end)) (alike (stretch openers.Group (with_env inside c)) less))

    part_alike : (token : Option Tok) (d : Configuration) → work_at given d + length (option_to_list token) ≤ stretch_work given s
        → part_from given f s.opener (lookahead token d) ≡ part_from given (operations given) s.opener (lookahead token d)
    unfolding part_from
    part_alike None d le = refl
    part_alike (Some t) d le =
        ap (λ (r : Answer PathFlow). if ends s.opener t.kind then Ok (Finishes d) else (if is_open t.kind then r
        else goes_on (plain_part given (lookahead (Some t) d))))
        (ap goes_on (group_alike t.at d (omega arith)))

    follow_alike : (c : Configuration) → work_at given c ≤ stretch_work given s → (part : PathFlow) → Leaves c part
        → go_on (λ next. f (stretch s.opener next)) part ≡ go_on (λ next. operations given (stretch s.opener next)) part
    follow_alike c le (Goes_on d) h = alike (stretch s.opener d) (let a = h.work in omega arith)
    follow_alike c le (Finishes p) h = refl

    step_alike : operations_step given f s ≡ operations_step given (operations given) s
    step_alike =
        then_alike (Taken Any given s.start 0) (ahead_of given s.start) _ _ (taken_any s.start) (λ first h.
        ap (λ (r : Answer PathFlow). r >>= go_on (λ next. f (stretch s.opener next)))
        (part_alike first.token first.behind (let a = h.here.work in omega arith))
        ∙ then_alike (Leaves s.start) (part_from given (operations given) s.opener first) _ _ (part_leaves s.opener s.start first h)
        (λ part k. follow_alike s.start (omega arith) part k))

  operations_pinned : IsPinned (stretch_work given) (fault Budget 0) (operations_step given)
  unfolding operations
  operations_pinned f s alike = step_alike f s alike

  pub operations_are : (s : Stretch) → operations given s ≡ operations_step given (operations given) s
  unfolding operations
  operations_are s = is_its_step (stretch_work given) (fault Budget 0) (operations_step given) operations_pinned s

  pub operations_stuck : (stuck : Answer Configuration) (s : Stretch)
      → operations given s ≡ by_size (stretch_work given) stuck (operations_step given) s
  unfolding operations
  operations_stuck stuck s = is_never_stuck (stretch_work given) (fault Budget 0) (operations_step given) operations_pinned stuck s
