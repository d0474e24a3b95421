-- Names and expressions as the code reads them.
use Rattle.std.specs.Prelude.{ℕ, ℤ, true, List, Option, Ok, Err}
use Rattle.std.proofs.Common.{◌≡◌, sym, ap, ◌∙◌}
use Rattle.tk_token.specs.declared.Fault.{Fault}
use Rattle.tk_token.specs.declared.Tok.{Tok}
use Rattle.tk_token.specs.Answers.{Answer, ◌>>=◌}
use Rattle.tk_token.specs.Texts.{text_in, tokens_of}
use Rattle.tk_token.proofs.Answering.{then_is}
use Rattle.tk_store.specs.Levels.{Macros}
use Rattle.tk_expand.specs.Expand.{Stream, stream, is_expanded, full}
use Rattle.tk_expand.specs.Unread.{Unread, unread}
use Rattle.tk_expand.proofs.Finished.{full_own}
use Rattle.tk_expr.specs.declared.FontUnits.{FontUnits}
use Rattle.tk_expr.specs.declared.Value.{Value}
use Rattle.tk_expr.specs.Evaluated.{evaluated}
use Rattle.tk_keys.specs.Environment.{Situation, with_text}
use Rattle.tk_keys.specs.Settings.{ExpressionValue, expression_value, set_behind}
use Rattle.tk_keys.specs.Views.{expanded_text, number_set, value_behind, given_by, situation_by}

-- where nothing in a list calls, it is its own expansion
pub text_own : (budget : ℕ) (macros : Macros) (units at : ℕ) (list : List Tok) (text : Option (List ℕ)) → true ≡ is_expanded macros list
    → text ≡ text_in list → expanded_text budget macros units at list ≡ Ok (text, units)
text_own budget macros units at list text e same =
    let from : Stream = stream units (unread list at) in
    then_is (full budget macros from) (λ (r : Stream). (let answer : Answer (Option (List ℕ) × ℕ) = Ok (text_in r.list.rest, r.units) in answer)) from
    (full_own budget macros from (sym e))
    ∙ ap (λ (o : Option (List ℕ)). (let answer : Answer (Option (List ℕ) × ℕ) = Ok (o, units) in answer)) (sym same)

module _ (font : FontUnits) (budget : ℕ) (macros : Macros) (before at : ℕ) (list text toks : List Tok) (units : ℕ) (full_is : full budget macros
    (stream before (unread list at)) ≡ Ok (stream units (unread text at))) (same : toks ≡ text) where
  abbrev found_in : Stream → Answer ExpressionValue
  found_in r = evaluated font at r.list.rest >>= λ found. Ok (value_behind found.number r.units)

  number_from : expression_value (given_by font budget) at list (situation_by font macros before) ≡ found_in (stream units (unread toks at))
  number_from =
      then_is (full budget macros (stream before (unread list at))) found_in (stream units (unread text at)) full_is
      ∙ ap (λ (ts : List Tok). found_in (stream units (unread ts at))) (sym same)

  pub number_found : (found : Value) → Ok found ≡ evaluated font at toks
      → expression_value (given_by font budget) at list (situation_by font macros before) ≡ Ok (value_behind found.number units)
  number_found found is = number_from ∙ ap (λ (a : Answer Value). a
      >>= λ found. (let answer : Answer ExpressionValue = Ok (value_behind found.number units) in answer)) (sym is)

  pub number_fails : (fault : Fault) → Err fault ≡ evaluated font at toks
      → expression_value (given_by font budget) at list (situation_by font macros before) ≡ Err fault
  number_fails fault is = number_from ∙ ap (λ (a : Answer Value). a
      >>= λ found. (let answer : Answer ExpressionValue = Ok (value_behind found.number units) in answer)) (sym is)

-- a word stands for the text of a number
pub number_written : (written : ℤ → List ℕ) (at word : ℕ) (value : ℤ) (old new : Situation) (list : Unread) (text : List ℕ)
    → text ≡ written value → new ≡ with_text old word (tokens_of at text) → number_set written at word value old list ≡ set_behind new list
number_written written at word value old new list text is set =
    ap (λ (s : Situation). set_behind s list) (sym (set ∙ ap (λ (text : List ℕ). with_text old word (tokens_of at text)) is))
