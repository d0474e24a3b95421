-- Commands one after the other, as the code runs them. What is given stays the same along a loop.
use Rattle.std.specs.Prelude.{◌≡◌, ◌+◌, ◌<◌, ◌≤◌, length, List, ℕ, Option, Some, None, Ok}
use Rattle.std.specs.Option.{option_to_list}
use Rattle.std.proofs.Common.{subst, ◌∙◌, arith}
use Rattle.tk_token.specs.declared.Refusal.{Refusal}
use Rattle.tk_token.specs.declared.Tok.{Tok}
use Rattle.tk_token.specs.Answers.{Answer, ◌>>=◌}
use Rattle.tk_token.specs.Refusals.{Fails}
use Rattle.tk_token.proofs.Answering.{then_is, known_of, fails_then, fails_as}
use Rattle.tk_keys.specs.Given.{Given}
use Rattle.tk_picture.specs.Commands.{BlockOpener, block, CommandFlow, command_at, commands}
use Rattle.tk_path.specs.Configurations.{Configuration, Lookahead, work_at, ahead_of}
use Rattle.tk_picture.specs.Progress.{Progress}
use Rattle.tk_path.specs.Flow.{Goes_on, Finishes, go_on}
use Rattle.tk_keys.proofs.Standing.{ok_at}
use Rattle.tk_path.specs.Keys.{with_style_and_options}
use Rattle.tk_path.proofs.KeyMoves.{styled_here}
use Rattle.tk_path.proofs.Places.{Here, Taken}
use Rattle.tk_path.proofs.Unbounded.{any_here, taken_any}
use Rattle.tk_picture.proofs.Unbounded.{Falls, command_falls, commands_are}
use Rattle.tk_keys.proofs.Ran.{Any, any_evaluates}

-- ---- commands

module _ (given now : Given) (same : now ≡ given) (opener : BlockOpener) (start c : Configuration) (told : commands given (block opener start)
    ≡ commands given (block opener c)) where
  -- commands whose front fails
  pub front_fails : (e : Refusal) → Fails e (ahead_of now c) → Fails e (commands given (block opener start))
  front_fails e h = fails_as e _ _ (told ∙ commands_are given (block opener c)) (fails_then e (ahead_of given c) _
      (subst (λ (g : Given). Fails e (ahead_of g c)) same h))

  module _ (first : Lookahead) (known : ahead_of now c ≡ Ok first) where
    known_first : ahead_of given c ≡ Ok first
    known_first = subst (λ (g : Given). ahead_of g c ≡ Ok first) same known

    commands_go : commands given (block opener start) ≡ (command_at given (commands given) opener first.token first.behind
        >>= go_on (λ next. commands given (block opener next)))
    commands_go = told ∙ commands_are given (block opener c) ∙ then_is (ahead_of given c) _ first known_first

    -- a token that was taken is work that is gone
    pub taken_work : work_at given first.behind + length (option_to_list first.token) ≤ work_at given c
    taken_work =
        (let h = known_of (Taken Any given c 0) (ahead_of given c) first known_first (taken_any given c) in let w = h.here.work in omega arith)

    module _ (later : Given) (so : later ≡ given) where
      at_given : (r : Answer CommandFlow) → command_at later (commands later) opener first.token first.behind ≡ r
          → command_at given (commands given) opener first.token first.behind ≡ r
      at_given r e = subst (λ (g : Given). command_at g (commands g) opener first.token first.behind ≡ r) so e

      -- one command, and what follows it
      pub commands_more : (d : Configuration) → command_at later (commands later) opener first.token first.behind ≡ Ok (Goes_on d)
          → commands given (block opener start) ≡ commands given (block opener d)
      commands_more d e = commands_go ∙ then_is (command_at given (commands given) opener first.token first.behind)
          (go_on (λ next. commands given (block opener next))) (Goes_on d) (at_given (Ok (Goes_on d)) e)

      -- the end
      pub commands_finish : (p : Progress) → command_at later (commands later) opener first.token first.behind ≡ Ok (Finishes p)
          → commands given (block opener start) ≡ Ok p
      commands_finish p e = commands_go ∙ then_is (command_at given (commands given) opener first.token first.behind)
          (go_on (λ next. commands given (block opener next))) (Finishes p) (at_given (Ok (Finishes p)) e)

      -- a command that fails
      pub command_fails : (e : Refusal) → Fails e (command_at later (commands later) opener first.token first.behind)
          → Fails e (commands given (block opener start))
      command_fails e h = fails_as e _ _ commands_go (fails_then e (command_at given (commands given) opener first.token first.behind) _
          (subst (λ (g : Given). Fails e (command_at g (commands g) opener first.token first.behind)) so h))

      -- a command leaves less than stood before it
      pub command_less : (d : Configuration) → command_at later (commands later) opener first.token first.behind ≡ Ok (Goes_on d)
          → work_at given d < work_at given c
      command_less d e = by first.token taken_work (at_given (Ok (Goes_on d)) e)
        where
          by : (token : Option Tok) → work_at given first.behind + length (option_to_list token) ≤ work_at given c
              → command_at given (commands given) opener token first.behind ≡ Ok (Goes_on d) → work_at given d < work_at given c
          by None w e = absurd cc
          by (Some t) w e
              = (let k = known_of (Falls given first.behind) (command_at given (commands given) opener (Some t) first.behind) (Goes_on d) e (command_falls given opener (Some t) first.behind) in let a = k.work in omega arith)

-- ---- styles

-- a style and options leave no more than stood before them
pub styled_work : (given : Given) (at : ℕ) (name : List ℕ) (c d : Configuration) → with_style_and_options given at name c ≡ Ok d
    → work_at given d ≤ work_at given c
styled_work given at name c d e =
    let h = known_of (Here Any given c 0) (with_style_and_options given at name c) d e (ok_at Any (Here Any given c 0)
    (with_style_and_options given at name c) (styled_here Any given tt (any_evaluates given) c 0 at name c tt (any_here given c)).stands) in
    let w = h.work in omega arith
