use Rattle.tk_token.specs.Refusals.{Gives}
use Rattle.tk_token.specs.Answers.{Answer}
use Rattle.tk_store.specs.declared.Run.{Run}
use Rattle.std.proofs.Common.{subst}
use Rattle.tk_keytext.proofs.Styles as styles
use Rattle.tk_keytext.proofs.entries.style_alone.Goals as goal

pub returns : goal.returns
returns c = subst (λ (a : Answer Run). Gives (λ run. run) c.styled.result a) (styles.style_alone c.args.args c.args.at c.args.also c.args.list.now)
    c.styled.ensures
