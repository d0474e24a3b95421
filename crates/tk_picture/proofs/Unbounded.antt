-- Operations and commands are what one step of their definition says, and no bound on how deep the steps go is met.
use Rattle.std.specs.Prelude.{◌≡◌, ◌+◌, ◌<◌, ◌≤◌, length, Option, Some, None, Ok, Err, IfOk, codes}
use Rattle.std.specs.Option.{option_to_list}
use Rattle.std.proofs.Common.{refl, ap, ◌∙◌, arith}
use Rattle.tk_token.specs.declared.Code.TheVariants.{Budget, UnknownCommand}
use Rattle.tk_token.specs.declared.Tok.{Tok}
use Rattle.tk_token.specs.Answers.{Answer, ◌>>=◌, fault}
use Rattle.tk_token.specs.Recursion.{by_size}
use Rattle.tk_token.proofs.Answering.{then_alike}
use Rattle.tk_expand.proofs.NextPlaces.{TokenAt}
use Rattle.tk_keys.specs.Environment.{Env, level}
use Rattle.tk_keys.specs.Given.{Given}
use Rattle.tk_keys.proofs.Ran.{Any, any_list, any_env, any_evaluates}
use Rattle.tk_keys.proofs.Standing.{ok_at, any_value}
use Rattle.tk_picture.specs.Commands.{BlockOpener, A_picture, A_scope, A_group, Beginning, Begins_path, Opens_group, Closes_group, Begins_environment}
use Rattle.tk_picture.specs.Commands.{Ends_environment, Begins_later, Begins_other, beginning_of, named_or, Block, block, CommandFlow, command}
use Rattle.tk_picture.specs.Commands.{command_at, commands_step, block_work, commands}
use Rattle.tk_path.specs.Keys.{with_style_and_options}
use Rattle.tk_path.specs.Configurations.{Configuration, work_at, ahead_of}
use Rattle.tk_path.specs.Keys.{with_env, with_list}
use Rattle.tk_picture.specs.Progress.{Progress, with_progress}
use Rattle.tk_path.specs.Flow.{Goes_on, Finishes, go_on}
use Rattle.tk_picture.proofs.CommandMoves as moves
use Rattle.tk_path.proofs.Places.{Here, Taken}
use Rattle.tk_path.proofs.KeyMoves.{styled_here}
use Rattle.tk_expand.specs.Reading.{after_name}
use Rattle.tk_keys.proofs.Reading.{Within}
use Rattle.tk_path.proofs.Unbounded.{any_here, taken_any}
use Rattle.tk_keys.proofs.Pinned.{IsPinned, is_its_step, is_never_stuck}

module _ (given : Given) where
  -- what a command leaves has no more work
  abbrev pub Falls : Configuration → CommandFlow → Type 0
  Falls c part = moves.PartAt Any given tt (any_evaluates given) c 0 part

  pub command_falls : (opener : BlockOpener) (token : Option Tok) (c : Configuration)
      → IfOk (command_at given (commands given) opener token c) (Falls c)
  command_falls opener token c = ok_at Any (Falls c) (command_at given (commands given) opener token c) (moves.command_at_here Any given tt
      (any_evaluates given) c (commands given) (moves.commands_here Any given tt (any_evaluates given) c) 0 opener token c tt (any_token token)
      (any_here given c)).stands
    where
      any_token : (token : Option Tok) → TokenAt Any token
      any_token None = tt
      any_token (Some t) = tt

  module _ (f : Block → Answer Progress) (b : Block) (alike : (r : Block) → block_work given r < block_work given b → f r ≡ commands given r) where
    command_alike : (beginning : Beginning) (t : Tok) (opener : BlockOpener) (c : Configuration) → work_at given c < block_work given b
        → command given f beginning t opener c ≡ command given (commands given) beginning t opener c
    command_alike (Begins_path keys) t opener c less = refl
    command_alike Opens_group t opener c less =
        then_alike (λ (e : Env). Unit {0}) (level t.at c.env) _ _ (any_value (level t.at c.env)) (λ inside _.
        ap (λ (r : Answer Progress). r >>= λ p. Ok (Goes_on (with_progress c p))) (alike (block (A_group t.at) (with_env inside c)) less))
    command_alike Closes_group t (A_picture at) c less = refl
    command_alike Closes_group t (A_scope at) c less = refl
    command_alike Closes_group t (A_group at) c less = refl
    command_alike Begins_environment t opener c less =
        then_alike (Within Any (length c.list.rest) c.list.end) (named_or UnknownCommand t.at (after_name UnknownCommand (codes "scope") c.list)) _ _
        (ok_at Any (Within Any (length c.list.rest) c.list.end) _ (moves.named_at Any given tt (any_evaluates given) UnknownCommand t.at
        (codes "scope") c.list tt (any_list c.list.rest) tt).stands) (λ list w.
        then_alike (λ (e : Env). Unit {0}) (level t.at c.env) _ _ (any_value (level t.at c.env)) (λ inside _.
        let d = with_env inside (with_list c list) in
        ap (λ (r : Answer Progress). r >>= λ p. Ok (Goes_on (with_progress c p)))
        (then_alike (Here Any given d 0) (with_style_and_options given t.at (codes "every scope") d) _ _ (ok_at Any (Here Any given d 0) _
        (styled_here Any given tt (any_evaluates given) d 0 t.at (codes "every scope") d tt (any_here given d)).stands) (λ begun m.
        alike (block (A_scope t.at) begun) (let a = m.work in let s = w.short in omega arith)))))
    command_alike Ends_environment t opener c less = refl
    command_alike Begins_later t opener c less = refl
    command_alike Begins_other t opener c less = refl

    next_alike : (c : Configuration) → work_at given c < block_work given b → (part : CommandFlow) → Falls c part
        → go_on (λ next. f (block b.opener next)) part ≡ go_on (λ next. commands given (block b.opener next)) part
    next_alike c less (Goes_on d) h = alike (block b.opener d) (let a = h.work in omega arith)
    next_alike c less (Finishes p) h = refl

    at_alike : (token : Option Tok) (c : Configuration) → work_at given c + length (option_to_list token) ≤ block_work given b
        → (command_at given f b.opener token c >>= go_on (λ next. f (block b.opener next))) ≡ (command_at given (commands given) b.opener token c
        >>= go_on (λ next. commands given (block b.opener next)))
    at_alike None c le = refl
    at_alike (Some t) c le =
        let less : work_at given c < block_work given b = omega arith in
        ap (λ (r : Answer CommandFlow). r >>= go_on (λ next. f (block b.opener next))) (command_alike (beginning_of given.names t.kind) t
        b.opener c less)
        ∙ then_alike (Falls c) (command_at given (commands given) b.opener (Some t) c) _ _ (command_falls b.opener (Some t) c)
        (λ part h. next_alike c less part h)

  commands_pinned : IsPinned (block_work given) (fault Budget 0) (commands_step given)
  unfolding commands
  commands_pinned f b alike =
      then_alike (Taken Any given b.start 0) (ahead_of given b.start) _ _ (taken_any given b.start) (λ first h. at_alike f b alike first.token
      first.behind (let a = h.here.work in omega arith))

  pub commands_are : (b : Block) → commands given b ≡ commands_step given (commands given) b
  unfolding commands
  commands_are b = is_its_step (block_work given) (fault Budget 0) (commands_step given) commands_pinned b

  pub commands_stuck : (stuck : Answer Progress) (b : Block) → commands given b ≡ by_size (block_work given) stuck (commands_step given) b
  unfolding commands
  commands_stuck stuck b = is_never_stuck (block_work given) (fault Budget 0) (commands_step given) commands_pinned stuck b
