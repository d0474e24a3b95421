use Rattle.std.proofs.Common.{◌≡◌, ◌+◌, ◌≤◌, List, ◌++◌, length}
use Rattle.tk_token.specs.declared.Tok.{Tok}
use Rattle.tk_token.specs.Groups.{first_outside, first_outside_in}
use Rattle.tk_token.specs.Sought.{begins_sought}
use Rattle.tk_token.proofs.Outside.{prefixed}
use Rattle.tk_token.proofs.groups.search.Given as goal

abbrev pub invariant-loop-first : goal.invariant-loop-first
invariant-loop-first l = record {
  told : (front : List Tok) × (l.list ≡ front ++ l.rest) × (first_outside (begins_sought l.sought) l.list
      ≡ prefixed front (first_outside_in (begins_sought l.sought) l.depth l.rest));
  within : l.depth + length l.rest ≤ length l.list;
}

abbrev pub decreases-loop-first : goal.decreases-loop-first
decreases-loop-first l = length l.rest
