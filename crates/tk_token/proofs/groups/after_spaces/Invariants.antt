use Rattle.std.proofs.Common.{◌≡◌, length}
use Rattle.tk_token.specs.Spaces.{after_spaces}
use Rattle.tk_token.proofs.groups.after_spaces.Given as goal

abbrev pub invariant-loop-first : goal.invariant-loop-first
invariant-loop-first l = after_spaces l.fn.list ≡ after_spaces l.rest

abbrev pub decreases-loop-first : goal.decreases-loop-first
decreases-loop-first l = length l.rest
