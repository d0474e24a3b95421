use Rattle.std.proofs.Common.{ℕ, List, ◌++◌, Ok, sym, ap, ◌∙◌}
use Rattle.std.proofs.lemmas.Result.{err_from_is_err_and}
use Rattle.tk_token.specs.declared.Tok.{Tok}
use Rattle.tk_token.specs.Answers.{Answer, ◌>>=◌}
use Rattle.tk_token.proofs.Answering.{fails_then, fails_as}
use Rattle.tk_expand.specs.Expand.{Stream, stream}
use Rattle.tk_expand.specs.Arguments.{with_arguments}
use Rattle.tk_expand.specs.Texts.{texts_of}
use Rattle.tk_expand.specs.Unread.{Unread, unread}
use Rattle.tk_expand.proofs.Written.{same_list}
use Rattle.tk_expand.proofs.Calls.{replaced_by}
use Rattle.tk_expand.proofs.input.Input.replace.Goals as goal

pub returns-in_err-text-clause-gives : goal.returns-in_err-text-clause-gives
returns-in_err-text-clause-gives c =
    let e = c.in_err-text.field-0.0 in
    let p = err_from_is_err_and c.from_residual-in_err-text.result c.from_residual-in_err-text.ensures.1 in
    let s = stream c.args.units.now.used c.args.self.now in
    let call =
    replaced_by c.args.units.now.budget c.args.called.now c.args.at s (texts_of c.in_ok-arguments.arguments.items) c.arguments.new.self.rest
    c.in_ok-arguments.ensures.gives (texts_of c.deref.result.now) (ap texts_of c.deref.ensures.value) in
    rw (p.1, p.2) (fails_as e _ _ call (fails_then e _ _ c.in_err-text.ensures.pays))

pub returns-clause-gives : goal.returns-clause-gives
returns-clause-gives c =
    let s = stream c.args.units.now.used c.args.self.now in
    let text = with_arguments (texts_of c.deref.result.now) c.args.called.now.body in
    replaced_by c.args.units.now.budget c.args.called.now c.args.at s (texts_of c.in_ok-arguments.arguments.items) c.arguments.new.self.rest
    c.in_ok-arguments.ensures.gives (texts_of c.deref.result.now) (ap texts_of c.deref.ensures.value)
    ∙ ap (λ (paid : Answer ℕ). paid >>= λ paid. Ok (stream paid (unread (text ++ c.arguments.new.self.rest) c.args.self.now.end)))
    c.in_ok-text.ensures.pays
    ∙ ap (λ (list : Unread). (let x : Answer Stream = Ok (stream c.paid_text.new.units.used list) in x))
    (same_list (unread (text ++ c.arguments.new.self.rest) c.args.self.now.end) c.push.new.self
    (ap (λ (front : List Tok). front ++ c.arguments.new.self.rest) (sym c.in_ok-text.ensures.text)
    ∙ ap (λ (u : Unread). u.rest) (sym c.in_ok-push.ensures))
    (sym c.in_ok-arguments.ensures.end ∙ ap (λ (u : Unread). u.end) (sym c.in_ok-push.ensures)))
