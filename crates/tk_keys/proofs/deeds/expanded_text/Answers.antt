use Rattle.std.specs.Prelude.{option_map, string_bytes}
use Rattle.tk_keys.proofs.Read.{text_own}
use Rattle.tk_keys.proofs.deeds.expanded_text.Goals as goal

pub returns-then-is_expanded-clause-gives : goal.returns-then-is_expanded-clause-gives
returns-then-is_expanded-clause-gives c =
    text_own c.args.units.now.budget c.args.store.now.top.macros c.args.units.now.used c.args.at c.args.list.now
    (option_map string_bytes c.in_ok-text_into.field-0) c.if-is_expanded.ensures c.in_ok-text_into.ensures
