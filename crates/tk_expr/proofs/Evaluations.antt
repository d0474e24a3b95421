-- All evaluations agree, so that pairs by them do.
use Rattle.std.proofs.Common.{◌≡◌, ℕ, List, Option, ap, subst, ◌∙◌}
use Rattle.std.specs.Prelude.{IfErr}
use Rattle.std.proofs.Math.Path.{fun_ext}
use Rattle.tk_token.specs.declared.Fault.{Fault}
use Rattle.tk_token.specs.declared.Tok.{Tok}
use Rattle.tk_token.specs.Answers.{Answer}
use Rattle.tk_expr.specs.declared.FontUnits.{FontUnits}
use Rattle.tk_expr.specs.declared.Value.{Value}
use Rattle.tk_expr.specs.declared.ValuePair.{ValuePair}
use Rattle.tk_expr.specs.Evaluated.{evaluated}
use Rattle.tk_expr.specs.Evaluates.{Evaluates, Evaluation, IsEvaluation}
use Rattle.tk_expr.specs.Pairs.{paired}
use Rattle.tk_expr.specs.Places.{IsPlaceOf}
use Rattle.tk_expr.proofs.OneAnswer.{a_text_has_one_answer}
use Rattle.tk_expr.proofs.Places.{evaluated_stands, paired_stands}
use Rattle.tk_expr.proofs.Runs.{evaluated_is_the_answer}

-- there is one evaluation
pub is_evaluated : (ev : Evaluation) → IsEvaluation ev → evaluated ≡ ev
is_evaluated ev is = fun_ext (λ font. fun_ext (λ at. fun_ext (λ toks. a_text_has_one_answer font at toks (evaluated font at toks) (ev font at toks)
    (evaluated_is_the_answer font at toks) (is font at toks))))

-- a pair by the machine is one by any evaluation
pub paired_by : (font : FontUnits) (at : ℕ) (toks : List Tok) (r : Answer (Option ValuePair)) → r ≡ paired evaluated font at toks → (ev : Evaluation)
    → IsEvaluation ev → r ≡ paired ev font at toks
paired_by font at toks r e ev is = e ∙ ap (λ (ev : Evaluation). paired ev font at toks) (is_evaluated ev is)

-- faults stand in their texts
pub answer_stands : (font : FontUnits) (at : ℕ) (toks : List Tok) (answer : Answer Value) → Evaluates font at toks answer
    → IfErr answer (λ (f : Fault). IsPlaceOf at toks f.at)
answer_stands font at toks answer is =
    subst (λ (a : Answer Value). IfErr a (λ (f : Fault). IsPlaceOf at toks f.at)) (a_text_has_one_answer font at toks (evaluated font at toks) answer
    (evaluated_is_the_answer font at toks) is) (evaluated_stands font at toks)

pub pair_stands : (ev : Evaluation) → IsEvaluation ev → (font : FontUnits) (at : ℕ) (toks : List Tok)
    → IfErr (paired ev font at toks) (λ (f : Fault). IsPlaceOf at toks f.at)
pair_stands ev is font at toks = subst (λ (ev : Evaluation). IfErr (paired ev font at toks) (λ (f : Fault). IsPlaceOf at toks f.at))
    (is_evaluated ev is) (paired_stands font at toks)
