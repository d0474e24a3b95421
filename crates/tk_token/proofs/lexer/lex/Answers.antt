use Rattle.std.proofs.Common.{rules, ◌≡◌, ◌<◌, get_or, ℕ, List, length, map, Ok, Err, sym, subst}
use Rattle.tk_token.specs.declared.Fault.{Fault}
use Rattle.tk_token.specs.declared.Tok.{Tok}
use Rattle.tk_token.specs.Faults.{balanced, refused}
use Rattle.tk_token.specs.Token.{token_of}
use Rattle.tk_token.proofs.Braces.{lexes_as, lexes_fault}
use Rattle.std.specs.Str.{IsUtf8}
use Rattle.tk_token.proofs.Refused.{text_without_fault}
use Rattle.tk_token.proofs.Starts.{toks_start, toks_plain}
use Rattle.tk_token.proofs.lexer.lex.Goals as goal

pub returns-in_err-text-clause-fault : goal.returns-in_err-text-clause-fault
returns-in_err-text-clause-fault c = let e = refused c.in_err-text.ensures in search rules

pub returns-in_err-balanced-clause-fault : goal.returns-in_err-balanced-clause-fault
returns-in_err-balanced-clause-fault c =
    let toks = c.in_ok-lexed.lexed.toks.items in
    let names = c.in_ok-lexed.lexed.names in
    let f : Fault = c.in_err-balanced.field-0.0 in
    let fails : Err f ≡ balanced (map (token_of names) toks) = subst (λ (ts : List Tok). Err f ≡ balanced (map (token_of names) ts))
    c.deref.ensures.value (c.in_err-balanced.ensures names) in
    let e = lexes_fault c.args.source.now c.in_ok-text.text.now (map (token_of names) toks) c.in_ok-text.ensures.0 c.in_ok-text.ensures.1
    c.in_ok-lexed.ensures.tokens f (sym fails) in
    search rules

pub returns-clause-tokens : goal.returns-clause-tokens
returns-clause-tokens c =
    let toks = c.in_ok-lexed.lexed.toks.items in
    let names = c.in_ok-lexed.lexed.names in
    let so : balanced (map (token_of names) toks) ≡ Ok (map (token_of names) toks) = subst (λ (ts : List Tok). balanced (map (token_of names) ts)
    ≡ Ok (map (token_of names) ts)) c.deref.ensures.value (sym (c.in_ok-balanced.ensures names)) in
    lexes_as c.args.source.now c.in_ok-text.text.now (map (token_of names) toks) c.in_ok-text.ensures.0 c.in_ok-text.ensures.1
    c.in_ok-lexed.ensures.tokens (Ok (map (token_of names) toks)) so

pub returns-clause-no_arg : goal.returns-clause-no_arg
returns-clause-no_arg c = toks_plain c.in_ok-lexed.lexed.names c.in_ok-text.text.now c.in_ok-lexed.lexed.toks.items c.in_ok-lexed.ensures.tokens

pub returns-clause-places : goal.returns-clause-places
returns-clause-places c = λ k d lt.
    let start = toks_start c.in_ok-lexed.lexed.names c.in_ok-text.text.now c.in_ok-lexed.lexed.toks.items c.in_ok-lexed.ensures.tokens
    (subst IsUtf8 (sym c.in_ok-text.ensures.0) (text_without_fault c.args.source.now c.in_ok-text.ensures.1)) k d lt in
    subst (λ (s : List ℕ). (get_or c.in_ok-lexed.lexed.toks.items k d).at < length s) c.in_ok-text.ensures.0 start.0
