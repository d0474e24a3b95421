-- Operations one after the other, as the code runs them. What is given stays the same along the loop.
use Rattle.std.specs.Prelude.{◌≡◌, ◌+◌, ◌<◌, ◌≤◌, length, Option, Some, None, Ok, Err}
use Rattle.std.specs.Option.{option_to_list}
use Rattle.std.proofs.Common.{subst, ◌∙◌, arith}
use Rattle.tk_token.specs.declared.Refusal.{Refusal}
use Rattle.tk_token.specs.declared.Tok.{Tok}
use Rattle.tk_token.specs.Answers.{Answer, ◌>>=◌}
use Rattle.tk_token.specs.Refusals.{Fails}
use Rattle.tk_token.proofs.Answering.{then_is, known_of, fails_then, fails_as}
use Rattle.tk_keys.specs.Given.{Given}
use Rattle.tk_keys.proofs.Ran.{Any, any_evaluates}
use Rattle.tk_path.specs.declared.path.PathOpener.{PathOpener}
use Rattle.tk_path.specs.Configurations.{Configuration, Lookahead, work_at, ahead_of}
use Rattle.tk_path.specs.Flow.{Goes_on, Finishes, go_on}
use Rattle.tk_path.specs.Paths.{stretch, PathFlow, part_from, operations}
use Rattle.tk_path.proofs.Places.{Taken}
use Rattle.tk_path.proofs.Unbounded.{taken_any, Leaves, part_leaves, operations_are}

module _ (given now : Given) (same : now ≡ given) (opener : PathOpener) (start c : Configuration) (told : operations given (stretch opener start)
    ≡ operations given (stretch opener c)) where
  -- operations whose front fails
  pub front_fails : (e : Refusal) → Fails e (ahead_of now c) → Fails e (operations given (stretch opener start))
  front_fails e h = fails_as e _ _ (told ∙ operations_are given (stretch opener c)) (fails_then e (ahead_of given c) _
      (subst (λ (g : Given). Fails e (ahead_of g c)) same h))

  module _ (first : Lookahead) (known : ahead_of now c ≡ Ok first) where
    known_first : ahead_of given c ≡ Ok first
    known_first = subst (λ (g : Given). ahead_of g c ≡ Ok first) same known

    takes : Taken Any given c 0 first
    takes = known_of (Taken Any given c 0) (ahead_of given c) first known_first (taken_any given c)

    operations_go : operations given (stretch opener start) ≡ (part_from given (operations given) opener first
        >>= go_on (λ next. operations given (stretch opener next)))
    operations_go = told ∙ operations_are given (stretch opener c) ∙ then_is (ahead_of given c) _ first known_first

    -- a token that was taken is work that is gone
    pub taken_work : work_at given first.behind + length (option_to_list first.token) ≤ work_at given c
    taken_work = (let w = takes.here.work in omega arith)

    module _ (later : Given) (so : later ≡ given) where
      at_given : (r : Answer PathFlow) → part_from later (operations later) opener first ≡ r → part_from given (operations given) opener first ≡ r
      at_given r e = subst (λ (g : Given). part_from g (operations g) opener first ≡ r) so e

      -- one part, and what follows it
      pub operations_more : (d : Configuration) → part_from later (operations later) opener first ≡ Ok (Goes_on d)
          → operations given (stretch opener start) ≡ operations given (stretch opener d)
      operations_more d e = operations_go ∙ then_is (part_from given (operations given) opener first)
          (go_on (λ next. operations given (stretch opener next))) (Goes_on d) (at_given (Ok (Goes_on d)) e)

      -- the end
      pub operations_finish : (d : Configuration) → part_from later (operations later) opener first ≡ Ok (Finishes d)
          → operations given (stretch opener start) ≡ Ok d
      operations_finish d e = operations_go ∙ then_is (part_from given (operations given) opener first)
          (go_on (λ next. operations given (stretch opener next))) (Finishes d) (at_given (Ok (Finishes d)) e)

      -- a part that fails
      pub part_fails : (e : Refusal) → Fails e (part_from later (operations later) opener first) → Fails e (operations given (stretch opener start))
      part_fails e h = fails_as e _ _ operations_go (fails_then e (part_from given (operations given) opener first) _
          (subst (λ (g : Given). Fails e (part_from g (operations g) opener first)) so h))

      -- a part leaves less than stood before it
      pub part_less : (d : Configuration) → part_from later (operations later) opener first ≡ Ok (Goes_on d) → work_at given d < work_at given c
      part_less d e =
          let left = known_of (Leaves given c) (part_from given (operations given) opener first) (Goes_on d) (at_given (Ok (Goes_on d)) e)
          (part_leaves given opener c first takes) in
          let w = left.work in omega arith
