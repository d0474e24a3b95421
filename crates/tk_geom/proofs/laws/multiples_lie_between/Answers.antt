use Rattle.tk_geom.proofs.Multiples.{multiples_are_among, multiples_rise}
use Rattle.tk_geom.proofs.laws.multiples_lie_between.Goals as goal

pub returns-clause-among : goal.returns-clause-among
returns-clause-among c = multiples_are_among

pub returns-clause-rise : goal.returns-clause-rise
returns-clause-rise c = multiples_rise
