use Rattle.std.proofs.lemmas.Result.{err_from_is_err_and}
use Rattle.tk_keys.proofs.Read.{number_found, number_fails}
use Rattle.tk_keys.proofs.settings.value_of_text.Goals as goal

pub returns-in_err-found-clause-gives : goal.returns-in_err-found-clause-gives
returns-in_err-found-clause-gives c =
    let p = err_from_is_err_and c.from_residual-in_err-found.result c.from_residual-in_err-found.ensures.1 in
    rw (p.1, p.2) (number_fails c.args.font c.args.units.now.budget c.args.store.now.top.macros c.args.units.now.used c.args.at c.args.text.items
    c.in_ok-list.list.items c.deref.result.now c.expand_all.new.units.used (c.in_ok-list.ensures.gives c.args.at) c.deref.ensures.value
    c.in_err-found.field-0.0 c.in_err-found.ensures.value)

pub returns-clause-gives : goal.returns-clause-gives
returns-clause-gives c =
    number_found c.args.font c.args.units.now.budget c.args.store.now.top.macros c.args.units.now.used c.args.at c.args.text.items
    c.in_ok-list.list.items c.deref.result.now c.expand_all.new.units.used (c.in_ok-list.ensures.gives c.args.at) c.deref.ensures.value
    c.in_ok-found.found c.in_ok-found.ensures.value
