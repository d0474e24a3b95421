-- Private: only private contracts use this. Commands as code has them.
use Rattle.std.specs.Prelude.{◌≤◌}
use Rattle.tk_program.specs.declared.words.Order.{Order as CodeOrder}
use Rattle.tk_program.specs.declared.words.Command.{Command as CodeCommand}
use Rattle.tk_program.specs.declared.words.Command.TheVariants as code
use Rattle.tk_program.specs.Words.{Order, Command, Render}

-- an order of the code
abbrev pub order_of : CodeOrder → Order
order_of order = record { file = order.file.now; asked = order.asked }

-- what is asked for by a command of the code
abbrev pub asked_by : CodeCommand → Command
asked_by (code.Render order) = Render (order_of order)

-- its budget is one that a source may have
abbrev pub IsWithinBudget : CodeOrder → Type 0
IsWithinBudget order = order.asked.budget ≤ 20000000

-- so is that of its order
abbrev pub IsWithinBudgets : CodeCommand → Type 0
IsWithinBudgets (code.Render order) = IsWithinBudget order
