use Rattle.std.proofs.Common.{◌≡◌, ℕ, ◌+◌, ◌-◌, ◌*◌, ◌≤◌, length}
use Rattle.tk_expr.specs.Evaluated.{evaluated}
use Rattle.tk_keytext.specs.Parts.{parts_of}
use Rattle.tk_keys.specs.Settings.{Some_settings, parts, runs}
use Rattle.tk_keys.specs.State.{State, given_of, situation_of, standing_of, Keeps, most_undone}
use Rattle.tk_keys.proofs.state.State.+run.Given as goal

abbrev left : State → ℕ
left s = s.budget - s.units

abbrev pub decreases-run_keys : goal.decreases-run_keys
decreases-run_keys g l = 7 * (left l.self.now + length l.list.now) + 3

abbrev pub decreases-run_keys_from : goal.decreases-run_keys_from
decreases-run_keys_from g l = 7 * (left l.self.now + length l.list.now) + 4

abbrev pub decreases-run_parts : goal.decreases-run_parts
decreases-run_parts g l = 7 * (left l.self.now + length l.list.now) + 2

abbrev pub decreases-run_part : goal.decreases-run_part
decreases-run_part g l = 7 * left l.self.now + 1

abbrev pub decreases-run_text : goal.decreases-run_text
decreases-run_text g l = 7 * (left l.self.now + length l.text) + 1

abbrev pub decreases-run_inside : goal.decreases-run_inside
decreases-run_inside g l = 7 * (left l.self.now + length l.contents.items) + 2

abbrev pub decreases-set_or_group : goal.decreases-set_or_group
decreases-set_or_group g l = 7 * (left l.self.now + length l.input.now.rest) + 7

abbrev pub decreases-set : goal.decreases-set
decreases-set g l = 7 * (left l.self.now + length l.input.now.rest) + 6

abbrev pub decreases-set_keys : goal.decreases-set_keys
decreases-set_keys g l = 7 * (left l.self.now + length l.input.now.rest) + 5

abbrev pub decreases-group : goal.decreases-group
decreases-group g l = 7 * (left l.self.now + length l.input.now.rest) + 5

abbrev pub invariant-run_text-loop-input : goal.invariant-run_text-loop-input
invariant-run_text-loop-input g l = record {
  told : runs (given_of evaluated l.fn.self) (Some_settings (standing_of l.fn.self l.fn.dir (record { rest = l.fn.text; end = l.fn.end })))
      ≡ runs (given_of evaluated l.fn.self) (Some_settings (standing_of l.self l.dir l.input));
  kept : Keeps l.fn.self l.self;
  used : l.fn.self.units ≤ l.self.units;
  work : left l.self + length l.input.rest ≤ left l.fn.self + length l.fn.text;
  low : l.fn.steps ≤ l.steps;
  most : most_undone l.steps l.self (length l.input.rest) ≤ most_undone l.fn.steps l.fn.self (length l.fn.text);
}

abbrev pub decreases-run_text-loop-input : goal.decreases-run_text-loop-input
decreases-run_text-loop-input g l = left l.self + length l.input.rest

abbrev pub invariant-run_parts-loop-part : goal.invariant-run_parts-loop-part
invariant-run_parts-loop-part g l = record {
  told : parts (given_of evaluated l.fn.self) (runs (given_of evaluated l.fn.self)) (parts_of l.fn.list) l.fn.dir (situation_of l.fn.self)
      ≡ parts (given_of evaluated l.fn.self) (runs (given_of evaluated l.fn.self)) l.parts l.dir (situation_of l.self);
  kept : Keeps l.fn.self l.self;
  used : l.fn.self.units ≤ l.self.units;
  low : l.fn.steps ≤ l.steps;
  most : most_undone l.steps l.self (length l.parts) ≤ most_undone l.fn.steps l.fn.self (length (parts_of l.fn.list));
}

abbrev pub decreases-run_parts-loop-part : goal.decreases-run_parts-loop-part
decreases-run_parts-loop-part g l = length l.parts
