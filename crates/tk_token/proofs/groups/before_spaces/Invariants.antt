use Rattle.std.proofs.Common.{◌≡◌, length}
use Rattle.tk_token.specs.Spaces.{before_spaces}
use Rattle.tk_token.proofs.groups.before_spaces.Given as goal

abbrev pub invariant-loop-last : goal.invariant-loop-last
invariant-loop-last l = before_spaces l.fn.list ≡ before_spaces l.rest

abbrev pub decreases-loop-last : goal.decreases-loop-last
decreases-loop-last l = length l.rest
