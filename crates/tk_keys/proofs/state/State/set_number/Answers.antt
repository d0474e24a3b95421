use Rattle.std.proofs.Common.{Ok, ap, ◌∙◌, arith, w64}
use Rattle.std.proofs.lemmas.Int.{to_z-of_z, fits_signed_from_abs}
use Rattle.tk_num.specs.Text.{pointed_text}
use Rattle.tk_keys.specs.Settings.{Set}
use Rattle.tk_keys.specs.State.{situation_of}
use Rattle.tk_keys.proofs.Read.{number_written}
use Rattle.tk_keys.proofs.state.State.set_number.Goals as goal

pub returns-clause-gives : goal.returns-clause-gives
returns-clause-gives c =
    let fits = fits_signed_from_abs w64 c.sp.result (omega (arith, c.sp.ensures.range)) in
    c.in_ok-word.ensures.gives pointed_text ∙ ap (λ (set : Set). Ok set) (number_written pointed_text c.args.at c.in_ok-word.word c.in_ok-word.number
    (situation_of c.word_and_number.new.self) (situation_of c.set_written.new.self) c.word_and_number.new.input c.deref.result.now
    (c.deref.ensures.0 ∙ c.print_tex.ensures.text ∙ ap pointed_text (to_z-of_z w64 c.sp.result fits ∙ c.sp.ensures.value)) c.in_ok-set_written.ensures.set)
