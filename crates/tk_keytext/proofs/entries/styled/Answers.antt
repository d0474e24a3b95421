use Rattle.std.proofs.Common.{◌≡◌, List, ◌++◌, Ok, sym, ap, ◌∙◌, append_assoc}
use Rattle.std.proofs.lemmas.Result.{err_from_is_err_and}
use Rattle.tk_token.specs.declared.Tok.{Tok}
use Rattle.tk_token.specs.Answers.{Answer}
use Rattle.tk_store.specs.declared.Run.{Run}
use Rattle.tk_store.specs.declared.Run.TheVariants as runs
use Rattle.tk_keytext.specs.Entries.{also_keys}
use Rattle.tk_keytext.proofs.Styles.{styled_is, styled_fails}
use Rattle.tk_keytext.proofs.entries.styled.Goals as goal

pub returns-in_err-list : goal.returns-in_err-list
returns-in_err-list c =
    let p = err_from_is_err_and c.from_residual.result c.from_residual.ensures.1 in
    rw (p.1, p.2) (styled_fails c.args.args c.args.at c.args.also c.args.before.now c.args.list.now c.args.behind.now c.in_err-list.field-0.0
    c.in_err-list.ensures.gives)

pub returns : goal.returns
returns c =
    let built : c.in_ok-from_vec.field-0 ≡ c.args.before.now ++ also_keys c.args.also c.args.at c.in_ok-list.list ++ c.args.behind.now =
    c.in_ok-from_vec.ensures
    ∙ rw (
      c.in_ok-extend_from_slice-3.ensures.items,
      c.in_ok-push-3.ensures.items,
      c.in_ok-extend_from_slice-2.ensures.items,
      c.in_ok-push-2.ensures.items,
      c.in_ok-push.ensures.items,
      c.in_ok-extend_from_slice.ensures.items,
      c.in_ok-toks.ensures.items,
      c.as_slice-list.ensures,
    ) (simp append_assoc) in
    styled_is c.args.args c.args.at c.args.also c.args.before.now c.args.list.now c.args.behind.now c.in_ok-list.list c.in_ok-list.ensures.gives
    ∙ ap (λ (ts : List Tok). (let a : Answer Run = Ok (runs.Code c.args.args ts) in a)) (sym built)
