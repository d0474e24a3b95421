use Rattle.std.proofs.Common.{◌≡◌, ◌≤◌, length}
use Rattle.std.specs.Str.{chars, IsUtf8}
use Rattle.tk_token.specs.Cutting.{after_comment, after_while, is_indent}
use Rattle.tk_token.proofs.lexer.after_comment.Given as goal

abbrev pub invariant-loop-first : goal.invariant-loop-first
invariant-loop-first l = record {
  text : IsUtf8 l.rest;
  told : after_while is_indent (chars l.rest) ≡ after_comment (chars l.text);
  within : length l.rest ≤ length l.text;
}

abbrev pub decreases-loop-first : goal.decreases-loop-first
decreases-loop-first l = length l.rest
