use Rattle.std.proofs.Common.{◌≡◌, length}
use Rattle.std.specs.List.{All}
use Rattle.tk_store.specs.Bodies.{body_of, IsArgOf}
use Rattle.tk_store.proofs.Written.{onto}
use Rattle.tk_store.proofs.body.Body.parse.Given as goal

abbrev pub invariant-loop-first : goal.invariant-loop-first
invariant-loop-first l = record {
  told : body_of l.args l.written ≡ onto l.toks.items (body_of l.args l.rest);
  places : All (λ tok. IsArgOf l.args tok.kind) l.toks.items;
}

abbrev pub decreases-loop-first : goal.decreases-loop-first
decreases-loop-first l = length l.rest
