-- The arguments of a call, one after the other.
use Rattle.std.proofs.Common.{◌≡◌, ℕ, suc, List, [], ◌∷◌, ◌++◌, length, Ok, Err, Vec, Global, refl, sym, ap, ◌∙◌, append_assoc, arith}
use Rattle.std.proofs.lemmas.List.{append-nil}
use Rattle.tk_token.specs.declared.Kind.{Kind}
use Rattle.tk_token.specs.declared.Kind.TheVariants.{Char, Word, Symbol, Open, Close, Param, Arg, Space}
use Rattle.tk_token.specs.declared.Tok.{Tok}
use Rattle.tk_token.specs.declared.Refusal.{Refusal}
use Rattle.tk_token.specs.declared.Code.TheVariants.{MacroArg}
use Rattle.tk_token.specs.Answers.{Answer, ◌>>=◌, or_fault}
use Rattle.tk_token.specs.Groups.{Cut, cut}
use Rattle.tk_token.specs.Refusals.{Fails}
use Rattle.tk_token.proofs.Answering.{fails_then, fails_as}
use Rattle.tk_store.specs.declared.Macro.{Macro}
use Rattle.tk_expand.specs.Arguments.{argument_of, Arguments, given, arguments_of, put_in, with_arguments, call_text}
use Rattle.tk_expand.specs.Unread.{unread}
use Rattle.tk_expand.specs.Expand.{pay, cost_of, Stream, stream, replaced}
use Rattle.tk_expand.specs.Texts.{texts_of}

-- arguments that were taken stand before those of the answer
abbrev pub with_taken : List (List Tok) → Answer Arguments → Answer Arguments
with_taken texts answer = answer >>= λ a. Ok (given (texts ++ a.texts) a.rest)

-- none was taken yet
pub none_taken : (answer : Answer Arguments) → answer ≡ with_taken [] answer
none_taken (Ok a) = refl
none_taken (Err e) = refl

-- The arguments so far: the answer is that of so many that are left, with those that were taken before it.
module _ (at n : ℕ) (texts : List (List Tok)) (rest : List Tok) (answer : Answer Arguments) (told : answer
    ≡ with_taken texts (arguments_of at n rest)) where
  -- none is left
  pub all_taken : n ≡ 0 → answer ≡ Ok (given texts rest)
  unfolding arguments_of
  all_taken none = told ∙ ap (λ (n : ℕ). with_taken texts (arguments_of at n rest)) none
      ∙ ap (λ (ts : List (List Tok)). (let a : Answer Arguments = Ok (given ts rest) in a)) (append-nil texts)

  module _ (more : ℕ) (is : n ≡ suc more) where
    -- the next one is missing
    pub one_missing : (e : Refusal) → Fails e (or_fault (argument_of rest) MacroArg at) → Fails e answer
    unfolding arguments_of
    one_missing e h =
        fails_as e answer _ (told ∙ ap (λ (n : ℕ). with_taken texts (arguments_of at n rest)) is) (fails_then e (arguments_of at (suc more) rest) _
        (fails_then e (or_fault (argument_of rest) MacroArg at) _ h))

    -- the next one is taken
    pub one_taken : (c : Cut) (texts' : List (List Tok)) → or_fault (argument_of rest) MacroArg at ≡ Ok c → texts' ≡ texts ++ c.front ∷ []
        → answer ≡ with_taken texts' (arguments_of at more c.rest)
    unfolding arguments_of
    one_taken c texts' known pushed =
        told ∙ ap (λ (n : ℕ). with_taken texts (arguments_of at n rest)) is
        ∙ ap (λ (first : Answer Cut). with_taken texts (first >>= λ first. arguments_of at more first.rest
        >>= λ more. Ok (given (first.front ∷ more.texts) more.rest))) known
        ∙ joined (arguments_of at more c.rest) ∙ ap (λ (ts : List (List Tok)). with_taken ts (arguments_of at more c.rest)) (sym pushed)
      where
        joined : (r : Answer Arguments)
            → with_taken texts (r >>= λ more. Ok (given (c.front ∷ more.texts) more.rest)) ≡ with_taken (texts ++ c.front ∷ []) r
        joined (Ok a) =
            ap (λ (ts : List (List Tok)). (let r : Answer Arguments = Ok (given ts a.rest) in r)) (sym (append_assoc texts (c.front ∷ []) a.texts))
        joined (Err e) = refl

-- without arguments each token of a body stands for itself
token_stands_for_itself : (k : Kind) (t : Tok) → put_in [] k t ≡ t ∷ []
token_stands_for_itself (Arg n) t = refl
token_stands_for_itself (Char c) t = refl
token_stands_for_itself (Word w) t = refl
token_stands_for_itself (Symbol c) t = refl
token_stands_for_itself Open t = refl
token_stands_for_itself Close t = refl
token_stands_for_itself Param t = refl
token_stands_for_itself Space t = refl

without_arguments : (body : List Tok) → with_arguments [] body ≡ body
without_arguments [] = refl
without_arguments (t ∷ ts) =
    ap (λ (us : List Tok). us ++ with_arguments [] ts) (token_stands_for_itself t.kind t) ∙ ap (λ (us : List Tok). t ∷ us) (without_arguments ts)

-- with no arguments a body stays as it is
pub no_arguments_share_the_body : (arguments : List (Vec Tok Global)) (body : List Tok) → length arguments ≡ 0
    → with_arguments (texts_of arguments) body ≡ body
no_arguments_share_the_body [] body none = without_arguments body
no_arguments_share_the_body (a ∷ arguments) body none = absurd (omega (arith, none))

-- a call whose arguments are known is replaced where it is paid for
pub replaced_by : (budget : ℕ) (called : Macro) (at : ℕ) (s : Stream) (texts : List (List Tok)) (rest : List Tok)
    → arguments_of at called.args s.list.rest ≡ Ok (given texts rest)
    → (same : List (List Tok)) → same ≡ texts
    → replaced budget called at s
    ≡ (pay budget s.units (cost_of (with_arguments same called.body)) at
    >>= λ paid. Ok (stream paid (unread (with_arguments same called.body ++ rest) s.list.end)))
unfolding replaced call_text
replaced_by budget called at s texts rest known same are =
    ap (λ (a : Answer Arguments). (a >>= λ a. Ok (cut (with_arguments a.texts called.body) a.rest))
    >>= λ text. pay budget s.units (cost_of text.front) at >>= λ paid. Ok (stream paid (unread (text.front ++ text.rest) s.list.end))) known
    ∙ ap (λ (ts : List (List Tok)). pay budget s.units (cost_of (with_arguments ts called.body)) at
    >>= λ paid. Ok (stream paid (unread (with_arguments ts called.body ++ rest) s.list.end))) (sym are)
