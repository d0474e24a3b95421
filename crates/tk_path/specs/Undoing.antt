-- How many settings a run undoes.
use Rattle.std.specs.Prelude.{ℕ, ◌+◌, ◌-◌, ◌*◌, length, Option}
use Rattle.std.specs.Option.{option_to_list}
use Rattle.tk_token.specs.declared.Tok.{Tok}
use Rattle.tk_expand.specs.Unread.{Unread}
use Rattle.tk_path.specs.declared.drawer.Drawer.{Drawer}

-- the units that can still be paid, and that many tokens
abbrev pub work_left : Drawer → ℕ → ℕ
work_left d tokens = (d.state.budget - d.state.units) + tokens

-- the tokens that are left, with one that was taken
abbrev pub with_taken : Option Tok → Unread → ℕ
with_taken first list = length (option_to_list first) + length list.rest

-- The most settings that a run can have undone in the end: those that it undid so far, those of the current level, and
-- nine for each unit that can still be paid and for each token that is left. A command runs three keys of its own at
-- most, and a key that isn't known makes three settings.
abbrev pub most_steps : ℕ → Drawer → ℕ → ℕ
most_steps steps d tokens = steps + d.state.levels.top.settings + 9 * work_left d tokens
