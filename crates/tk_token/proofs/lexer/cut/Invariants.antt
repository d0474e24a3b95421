use Rattle.std.proofs.Common.{◌≡◌, ◌+◌, ◌≤◌, List, length, map, ◌++◌}
use Rattle.std.specs.List.{AllByRecursion}
use Rattle.std.specs.Str.{chars, IsUtf8}
use Rattle.tk_token.specs.Cutting.{Tokens}
use Rattle.tk_token.specs.Faults.{after_mark}
use Rattle.tk_token.specs.Token.{Token, token_of, IsWordIn}
use Rattle.tk_token.specs.Words.{EachOnce, words_of}
use Rattle.tk_token.proofs.lexer.cut.Given as goal

abbrev pub invariant-loop-first : goal.invariant-loop-first
invariant-loop-first l = record {
  text : IsUtf8 l.rest;
  few : length l.names + length l.rest ≤ length l.text;
  once : EachOnce l.names;
  listed : l.names ≡ words_of (map (token_of l.names) l.toks.items);
  words : AllByRecursion (λ t. IsWordIn l.names t.kind) l.toks.items;
  goes_on : (ts : List Token) → Tokens (length l.text) (chars l.rest) ts
      → Tokens (length l.text) (after_mark (chars l.text)) (map (token_of l.names) l.toks.items ++ ts);
}

abbrev pub decreases-loop-first : goal.decreases-loop-first
decreases-loop-first l = length l.rest
