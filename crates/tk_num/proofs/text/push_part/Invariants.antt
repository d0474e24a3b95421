use Rattle.std.proofs.Common.{◌-◌}
use Rattle.tk_num.proofs.Knuth.{AtDigit}
use Rattle.tk_num.proofs.text.push_part.Given as goal

abbrev pub invariant-digits : goal.invariant-digits
invariant-digits l = AtDigit l.fraction l.initial.out.items l.out.items l.rest l.delta

abbrev pub decreases-digits : goal.decreases-digits
decreases-digits l = 1000000 - l.delta
