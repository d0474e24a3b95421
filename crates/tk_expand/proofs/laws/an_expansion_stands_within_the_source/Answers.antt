use Rattle.std.proofs.Common.{◌≤◌}
use Rattle.tk_expand.proofs.Places.{full_at}
use Rattle.tk_expand.proofs.laws.an_expansion_stands_within_the_source.Goals as goal

pub returns : goal.returns
returns c = λ len budget macros s bodies all. full_at (λ at. at ≤ len) budget macros bodies s all
