-- Scopes from their parts, as the code reads them.
use Rattle.std.proofs.Common.{◌≡◌, Ok, ap, sym, subst, ◌∙◌, codes}
use Rattle.tk_token.specs.declared.Code.TheVariants.{UnknownCommand}
use Rattle.tk_token.specs.declared.Refusal.{Refusal}
use Rattle.tk_token.specs.declared.Tok.{Tok}
use Rattle.tk_token.specs.Answers.{Answer, ◌>>=◌}
use Rattle.tk_token.specs.Refusals.{Fails}
use Rattle.tk_token.proofs.Answering.{then_is, fails_then, fails_as}
use Rattle.tk_expand.specs.Reading.{after_name}
use Rattle.tk_expand.specs.Unread.{Unread}
use Rattle.tk_keys.specs.Environment.{Env, level}
use Rattle.tk_keys.specs.Given.{Given}
use Rattle.tk_picture.specs.Commands.{BlockOpener, A_scope, Begins_environment, CommandFlow, named_or, styled_commands, command, commands}
use Rattle.tk_path.specs.Configurations.{Configuration}
use Rattle.tk_path.specs.Keys.{with_env, with_list}
use Rattle.tk_picture.specs.Progress.{Progress, with_progress}
use Rattle.tk_path.specs.Flow.{Goes_on}

module _ (given : Given) (t : Tok) (opener : BlockOpener) (c : Configuration) (list : Unread) (inside : Env) (named : named_or UnknownCommand t.at
    (after_name UnknownCommand (codes "scope") c.list) ≡ Ok list) (within : level t.at c.env ≡ Ok inside) where
  -- the run goes on behind the scope
  abbrev behind : Progress → Answer CommandFlow
  behind q = Ok (Goes_on (with_progress c q))

  -- the commands of the scope
  abbrev inner : Given → Configuration → Answer Progress
  inner g d = styled_commands g (commands g) (codes "every scope") (A_scope t.at) d

  scope_goes : command given (commands given) Begins_environment t opener c ≡ (inner given (with_env inside (with_list c list)) >>= behind)
  scope_goes =
      then_is (named_or UnknownCommand t.at (after_name UnknownCommand (codes "scope") c.list)) (λ list. level t.at c.env
      >>= λ inside. inner given (with_env inside (with_list c list)) >>= behind) list named
      ∙ then_is (level t.at c.env) (λ inside. inner given (with_env inside (with_list c list)) >>= behind) inside within

  module _ (later : Given) (same : later ≡ given) (d : Configuration) (is : d ≡ with_env inside (with_list c list)) where
    pub scope_fails : (e : Refusal) → Fails e (inner later d) → Fails e (command given (commands given) Begins_environment t opener c)
    scope_fails e h =
        fails_as e _ _ scope_goes (fails_then e (inner given (with_env inside (with_list c list))) behind
        (subst (λ (d : Configuration). Fails e (inner given d)) is (subst (λ (g : Given). Fails e (inner g d)) same h)))

    pub scope_ends : (q : Progress) → inner later d ≡ Ok q
        → command given (commands given) Begins_environment t opener c ≡ Ok (Goes_on (with_progress c q))
    scope_ends q h =
        scope_goes ∙ then_is (inner given (with_env inside (with_list c list))) behind q
        (ap (inner given) (sym is) ∙ ap (λ (g : Given). inner g d) (sym same) ∙ h)
