use Rattle.std.proofs.Common.{◌≡◌, ◌≤◌, ◌++◌, length, vec_len}
use Rattle.tk_token.specs.Groups.{first_outside, first_outside_in}
use Rattle.tk_token.specs.Kinds.{begins}
use Rattle.tk_token.proofs.Outside.{prefixed}
use Rattle.tk_expand.specs.Stops.{is_stop}
use Rattle.tk_expand.proofs.input.Input.before_by_one.Given as goal

abbrev pub invariant-loop-tok : goal.invariant-loop-tok
invariant-loop-tok l = record {
  told : first_outside (begins (is_stop l.stop)) l.fn.self.rest
      ≡ prefixed l.front.items (first_outside_in (begins (is_stop l.stop)) l.depth l.self.rest);
  kept : l.front.items ++ l.self.rest ≡ l.fn.self.rest;
  end : l.self.end ≡ l.fn.self.end;
  deep : l.depth ≤ vec_len l.front;
}

abbrev pub decreases-loop-tok : goal.decreases-loop-tok
decreases-loop-tok l = length l.self.rest
