use Rattle.std.proofs.Common.{◌≡◌, ◌≤◌, ℕ, List, length, ◌++◌}
use Rattle.std.specs.Str.{chars, IsUtf8, NonePass}
use Rattle.tk_token.specs.Faults.{is_refused}
use Rattle.tk_token.proofs.faults.first_refused.Given as goal

abbrev pub invariant-loop-first : goal.invariant-loop-first
invariant-loop-first l = record {
  text : IsUtf8 l.rest;
  within : length l.rest ≤ length l.text;
  told : (front : List ℕ)
      × (chars l.text ≡ front ++ chars l.rest) × NonePass is_refused front;
}

abbrev pub decreases-loop-first : goal.decreases-loop-first
decreases-loop-first l = length l.rest
