use Rattle.std.proofs.Common.{◌≡◌, length}
use Rattle.tk_token.specs.Spaces.{after_spaces}
use Rattle.tk_expand.proofs.input.Input.skip_spaces.Given as goal

abbrev pub invariant-loop-tok : goal.invariant-loop-tok
invariant-loop-tok l = record {
  told : after_spaces l.fn.self.rest ≡ after_spaces l.self.rest;
  end : l.self.end ≡ l.fn.self.end;
}

abbrev pub decreases-loop-tok : goal.decreases-loop-tok
decreases-loop-tok l = length l.self.rest
