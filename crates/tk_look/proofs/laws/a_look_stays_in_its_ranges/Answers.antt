use Rattle.tk_look.proofs.Ranges.{initial_in, key_in}
use Rattle.tk_look.proofs.laws.a_look_stays_in_its_ranges.Goals as goal

pub returns : goal.returns
returns c = record { begins = initial_in; below = λ g h. h; behind = key_in }
