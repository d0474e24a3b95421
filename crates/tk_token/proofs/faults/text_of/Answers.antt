use Rattle.std.proofs.Common.{ℕ, List, Some, sym, ap, ◌∙◌}
use Rattle.std.specs.Option.{option_map}
use Rattle.std.specs.Str.{chars}
use Rattle.tk_token.specs.declared.Code.TheVariants.{BadChar}
use Rattle.tk_token.specs.declared.Fault.{Fault}
use Rattle.tk_token.specs.Faults.{is_refused, first_place, fault_at}
use Rattle.tk_token.proofs.Refused.{no_text_fault, text_fault_is}
use Rattle.tk_token.proofs.faults.text_of.Goals as goal

pub returns-in-Err : goal.returns-in-Err
returns-in-Err c =
    no_text_fault c.args.source.now c.valid_up_to.result c.in-Err.ensures.cases.0 (c.valid_up_to.ensures ∙ c.in-Err.ensures.valid_len)
    ∙ ap (λ (f : Fault). Some f) (sym c.new.ensures)

pub returns-in-Some : goal.returns-in-Some
returns-in-Some c =
    text_fault_is c.args.source.now c.in-Ok.ensures.cases.1
    ∙ ap (λ (b : List ℕ). option_map (fault_at BadChar) (first_place is_refused (chars b))) (sym c.in-Ok.ensures.cases.0)
    ∙ ap (option_map (fault_at BadChar)) (sym c.in-Some.ensures.value)
    ∙ ap (λ (f : Fault). Some f) (sym c.new-in-Some.ensures)

pub returns-in-None : goal.returns-in-None
returns-in-None c = (
  c.in-Ok.ensures.cases.0,
  text_fault_is c.args.source.now c.in-Ok.ensures.cases.1
      ∙ ap (λ (b : List ℕ). option_map (fault_at BadChar) (first_place is_refused (chars b))) (sym c.in-Ok.ensures.cases.0)
      ∙ ap (option_map (fault_at BadChar)) (sym c.in-None.ensures.value),
)
