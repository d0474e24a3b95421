use Rattle.std.proofs.Common.{◌≡◌, ℕ, List, [], map, reverse, drop}
use Rattle.tk_token.specs.Faults.{open_after_all}
use Rattle.tk_token.specs.Token.{token_of}
use Rattle.tk_token.proofs.faults.balanced.Given as goal

abbrev pub invariant-loop-tok : goal.invariant-loop-tok
invariant-loop-tok l = record {
  told : (names : List (List ℕ)) → open_after_all [] (map (token_of names) l.toks)
      ≡ open_after_all (reverse l.open_at.items) (map (token_of names) (drop l.tok-index l.toks));
}
