-- Tokens as they are written, as the code takes them.
use Rattle.std.proofs.Common.{◌≡◌, ℕ, ◌+◌, ◌<◌, ◌≤◌, true, false, List, [], ◌∷◌, ◌++◌, length, arith, length-drop, get_or, drop, Option, Some, None}
use Rattle.std.proofs.Common.{Ok, Err, refl, ap, sym, ◌∙◌, add-one, drop-cons}
use Rattle.std.specs.Prelude.{slice_get, IfNone}
use Rattle.std.specs.List.{prefix_len}
use Rattle.std.specs.Option.{option_to_list}
use Rattle.std.proofs.lemmas.List.{drop_all}
use Rattle.tk_token.specs.declared.Code.{Code}
use Rattle.tk_token.specs.declared.Code.TheVariants.{MacroArg}
use Rattle.tk_token.specs.declared.Fault.{Fault}
use Rattle.tk_token.specs.declared.Kind.{Kind}
use Rattle.tk_token.specs.declared.Kind.TheVariants.{Char, Word, Symbol, Open, Close, Param, Arg, Space}
use Rattle.tk_token.specs.declared.Tok.{Tok}
use Rattle.tk_token.specs.Answers.{Answer, ◌>>=◌, or_fault}
use Rattle.tk_token.specs.Groups.{Cut, cut}
use Rattle.tk_token.specs.Kinds.{is_char, is_space}
use Rattle.tk_token.specs.Spaces.{is_space_token, after_spaces}
use Rattle.tk_token.proofs.Answering.{then_is}
use Rattle.tk_token.proofs.Spaces.{space_passed, no_space_passed}
use Rattle.tk_expand.specs.Arguments.{argument_from, argument_in, argument_of}
use Rattle.tk_expand.specs.Unread.{Unread, unread}
use Rattle.tk_expand.specs.Reading.{after_token, after_text}

-- ---- Spaces in front

-- a Space is passed over
pub passed_over : (rest : List Tok) (t : Tok) (ts : List Tok) → rest ≡ t ∷ ts → is_space t.kind ≡ true → after_spaces rest ≡ after_spaces ts
passed_over rest t ts e h = ap after_spaces e ∙ space_passed t ts h

-- another token in front stays there
pub without_space_stays : (rest : List Tok) (t : Tok) → slice_get rest 0 ≡ Some t → is_space t.kind ≡ false → after_spaces rest ≡ rest
without_space_stays [] t first h = absurd cc
without_space_stays (u ∷ ts) t first h = no_space_passed u ts (ap (λ (v : Tok). is_space v.kind) (let e : u ≡ t = cc in e) ∙ h)

-- and so do no tokens
pub none_stays : (rest : List Tok) → slice_get rest 0 ≡ None → after_spaces rest ≡ rest
none_stays [] first = refl
none_stays (u ∷ ts) first = absurd cc

-- the token in front is the one that is taken
pub same_first : (rest : List Tok) (t u : Tok) (ts : List Tok) → slice_get rest 0 ≡ Some t → rest ≡ u ∷ ts → u ≡ t
same_first rest t u ts first e = let h : slice_get (u ∷ ts) 0 ≡ Some t = ap (λ (us : List Tok). slice_get us 0) (sym e) ∙ first in cc

-- the token in front is taken, if it is there
pub first_dropped : (rest : List Tok) (t : Tok) (taken : Option Tok) (ts : List Tok) → slice_get rest 0 ≡ Some t → rest ≡ option_to_list taken ++ ts
    → IfNone taken (rest ≡ []) → rest ≡ t ∷ ts
first_dropped rest t None ts first e none =
    let nothing : List Tok = [] in
    absurd (let h : slice_get nothing 0 ≡ Some t = ap (λ (us : List Tok). slice_get us 0) (sym none) ∙ first in cc)
first_dropped rest t (Some u) ts first e none = e ∙ ap (λ (v : Tok). v ∷ ts) (same_first rest t u ts first e)

-- Spaces in front are tokens too
pub spaces_no_longer : (ts : List Tok) → length (after_spaces ts) ≤ length ts
spaces_no_longer ts = omega (arith, length-drop (prefix_len is_space_token ts) ts)

-- ---- arguments

single_token_is_argument : (k : Kind) (t : Tok) (ts : List Tok) → (k ≡ Open → ⊥) → (k ≡ Close → ⊥) → argument_from k t ts ≡ Some (cut (t ∷ []) ts)
single_token_is_argument Open t ts not_open not_close = absurd (not_open refl)
single_token_is_argument Close t ts not_open not_close = absurd (not_close refl)
single_token_is_argument (Char c) t ts not_open not_close = refl
single_token_is_argument (Word w) t ts not_open not_close = refl
single_token_is_argument (Symbol c) t ts not_open not_close = refl
single_token_is_argument Param t ts not_open not_close = refl
single_token_is_argument (Arg n) t ts not_open not_close = refl
single_token_is_argument Space t ts not_open not_close = refl

-- a token that is no brace is an argument
pub single_argument : (at : ℕ) (rest : List Tok) (t : Tok) (ts : List Tok) → after_spaces rest ≡ t ∷ ts → (t.kind ≡ Open → ⊥) → (t.kind ≡ Close → ⊥)
    → or_fault (argument_of rest) MacroArg at ≡ Ok (cut (t ∷ []) ts)
single_argument at rest t ts e not_open not_close =
    ap (λ (us : List Tok). or_fault (argument_in us) MacroArg at) e ∙ ap (λ (o : Option Cut). or_fault o MacroArg at) (single_token_is_argument t.kind
    t ts not_open not_close)

-- ---- texts

then_fault : {A B : Type 0} (answer : Answer A) (f : A → Answer B) (e : Fault) → answer ≡ Err e → (answer >>= f) ≡ Err e
then_fault answer f e h = ap (λ (x : Answer _). x >>= f) h

module _ (code : Code) (text : List ℕ) (i : ℕ) (list : Unread) where
  next_char : i < length text
      → after_text code (drop i text) list ≡ (after_token code (is_char (get_or text i 0)) list >>= after_text code (drop (i + 1) text))
  unfolding after_text
  next_char h = rw (add-one, drop-cons text i 0 h) refl

  pub char_met : (more : Unread) → i < length text → after_token code (is_char (get_or text i 0)) list ≡ Ok more
      → after_text code (drop i text) list ≡ after_text code (drop (i + 1) text) more
  char_met more h e = next_char h ∙ then_is (after_token code (is_char (get_or text i 0)) list) (after_text code (drop (i + 1) text)) more e

  pub char_missed : (e : Fault) → i < length text → after_token code (is_char (get_or text i 0)) list ≡ Err e
      → after_text code (drop i text) list ≡ Err e
  char_missed e h is = next_char h ∙ then_fault (after_token code (is_char (get_or text i 0)) list) (after_text code (drop (i + 1) text)) e is

  pub text_met : length text ≤ i → after_text code (drop i text) list ≡ Ok list
  unfolding after_text
  text_met h = rw (drop_all i text h) refl

-- ---- lists

-- lists with the same tokens that run out at the same place are one
pub same_list : (a b : Unread) → a.rest ≡ b.rest → a.end ≡ b.end → a ≡ b
same_list a b e f = ap (λ (ts : List Tok). unread ts a.end) e ∙ ap (λ (n : ℕ). unread b.rest n) f
