use Rattle.tk_expand.specs.Unread.{Unread}
use Rattle.std.proofs.Common.{rules, Ok, ap, arith, sym, ◌∙◌, length}
use Rattle.std.proofs.lemmas.Result.{err_from_is_err_and}
use Rattle.tk_expr.specs.Evaluated.{evaluated}
use Rattle.tk_keys.specs.State.{given_of}
use Rattle.tk_token.specs.Answers.{Answer}
use Rattle.tk_picture.specs.declared.Compiled.{Compiled}
use Rattle.tk_picture.specs.Documents.{document}
use Rattle.tk_picture.proofs.Outcomes.{ran_over, byte_outcome, byte_place, byte_text, drawing_outcome, fault_outcome, fault_place, fault_text}
use Rattle.tk_picture.proofs.TokenCounts.{few_tokens}
use Rattle.tk_picture.proofs.picture.compile.Goals as goal

pub returns-in_err-toks-clause-fault : goal.returns-in_err-toks-clause-fault
returns-in_err-toks-clause-fault g c =
    let h = byte_outcome c.args.asked c.args.source.now c.in_err-toks.field-0.0 c.in_err-toks.ensures.fault in search rules

pub returns-in_err-toks-clause-place : goal.returns-in_err-toks-clause-place
returns-in_err-toks-clause-place g c =
    let h = byte_place c.args.asked c.args.source.now c.in_err-toks.field-0.0 c.in_err-toks.ensures.fault in search rules

pub returns-in_err-toks-clause-text : goal.returns-in_err-toks-clause-text
returns-in_err-toks-clause-text g c =
    let h = byte_text c.args.asked c.args.source.now c.in_err-toks.field-0.0 c.in_err-toks.ensures.fault in search rules

pub returns-in_err-document-clause-fault : goal.returns-in_err-document-clause-fault
returns-in_err-document-clause-fault g c =
    let lexed = c.in_ok-toks.field-0 in
    let is = ran_over lexed.names c.args.asked.budget c.font_units.result c.in_ok-new.field-0 c.in_ok-input.input lexed.toks.items
    (length c.args.source.now) c.in_ok-new.ensures c.font_units.ensures (rw c.in_ok-from_vec.ensures at c.in_ok-input.ensures) in
    let h = fault_outcome c.args.asked c.args.source.now lexed.names lexed.toks.items c.in_ok-toks.ensures.tokens c.in_ok-toks.ensures.listed
    c.in_ok-toks.ensures.words c.in_ok-toks.ensures.once c.in_err-document.field-0.0 (document (given_of evaluated c.in_ok-new.field-0)
    c.in_ok-input.input) is c.in_err-document.ensures.gives in
    let p = err_from_is_err_and c.from_residual-in_err-document.result c.from_residual-in_err-document.ensures.1 in
    rw (p.1, p.2) h

pub returns-in_err-document-clause-place : goal.returns-in_err-document-clause-place
returns-in_err-document-clause-place g c =
    let lexed = c.in_ok-toks.field-0 in
    let is = ran_over lexed.names c.args.asked.budget c.font_units.result c.in_ok-new.field-0 c.in_ok-input.input lexed.toks.items
    (length c.args.source.now) c.in_ok-new.ensures c.font_units.ensures (rw c.in_ok-from_vec.ensures at c.in_ok-input.ensures) in
    let h = fault_place c.args.asked c.args.source.now lexed.names lexed.toks.items c.in_ok-toks.ensures.tokens c.in_ok-toks.ensures.listed
    c.in_ok-toks.ensures.words c.in_ok-toks.ensures.once c.in_err-document.field-0.0 (document (given_of evaluated c.in_ok-new.field-0)
    c.in_ok-input.input) is c.in_err-document.ensures.gives in
    let p = err_from_is_err_and c.from_residual-in_err-document.result c.from_residual-in_err-document.ensures.1 in
    rw (p.1, p.2) h

pub returns-in_err-document-clause-text : goal.returns-in_err-document-clause-text
returns-in_err-document-clause-text g c =
    let lexed = c.in_ok-toks.field-0 in
    let is = ran_over lexed.names c.args.asked.budget c.font_units.result c.in_ok-new.field-0 c.in_ok-input.input lexed.toks.items
    (length c.args.source.now) c.in_ok-new.ensures c.font_units.ensures (rw c.in_ok-from_vec.ensures at c.in_ok-input.ensures) in
    let h = fault_text c.args.asked c.args.source.now lexed.names lexed.toks.items c.in_ok-toks.ensures.tokens c.in_ok-toks.ensures.listed
    c.in_ok-toks.ensures.words c.in_ok-toks.ensures.once c.in_err-document.field-0.0 (document (given_of evaluated c.in_ok-new.field-0)
    c.in_ok-input.input) is c.in_err-document.ensures.gives in
    let p = err_from_is_err_and c.from_residual-in_err-document.result c.from_residual-in_err-document.ensures.1 in
    rw (p.1, p.2) h

pub returns-clause-compiled : goal.returns-clause-compiled
returns-clause-compiled g c =
    let lexed = c.in_ok-toks.field-0 in
    let is = ran_over lexed.names c.args.asked.budget c.font_units.result c.in_ok-new.field-0 c.in_ok-input.input lexed.toks.items
    (length c.args.source.now) c.in_ok-new.ensures c.font_units.ensures (rw c.in_ok-from_vec.ensures at c.in_ok-input.ensures) in
    let h = drawing_outcome c.args.asked c.args.source.now lexed.names lexed.toks.items c.in_ok-toks.ensures.tokens c.in_ok-toks.ensures.listed
    c.in_ok-toks.ensures.words c.in_ok-toks.ensures.once c.compiled.result (sym is ∙ c.in_ok-document.ensures.gives
    ∙ ap (λ (d : Compiled). (let a : Answer Compiled = Ok d in a)) (sym c.compiled.ensures.compiled)) in
    search rules

pub document-requires : goal.document-requires
document-requires g c =
    let units = c.in_ok-new.ensures.units in
    record { env = c.in_ok-new.ensures.env evaluated; picture = search rules; units = units }

pub returns-in_err-document-clause-work : goal.returns-in_err-document-clause-work
returns-in_err-document-clause-work g c =
    let lexed = c.in_ok-toks.field-0 in
    let first = c.in_ok-new.ensures in
    omega (
      arith,
      c.in_err-document.ensures.work,
      first.settings,
      first.units,
      first.budget,
      ap (λ (list : Unread). length list.rest) (rw c.in_ok-from_vec.ensures at c.in_ok-input.ensures),
      few_tokens c.args.source.now lexed.names lexed.toks.items c.in_ok-toks.ensures.tokens,
    )

pub returns-clause-work : goal.returns-clause-work
returns-clause-work g c =
    let lexed = c.in_ok-toks.field-0 in
    let first = c.in_ok-new.ensures in
    omega (
      arith,
      c.in_ok-document.ensures.work,
      first.settings,
      first.units,
      first.budget,
      ap (λ (list : Unread). length list.rest) (rw c.in_ok-from_vec.ensures at c.in_ok-input.ensures),
      few_tokens c.args.source.now lexed.names lexed.toks.items c.in_ok-toks.ensures.tokens,
    )
