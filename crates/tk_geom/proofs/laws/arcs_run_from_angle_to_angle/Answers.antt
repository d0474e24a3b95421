use Rattle.tk_geom.proofs.Turns.{angle_at-last}
use Rattle.tk_geom.proofs.laws.arcs_run_from_angle_to_angle.Goals as goal

pub returns-clause-last : goal.returns-clause-last
returns-clause-last c = angle_at-last
