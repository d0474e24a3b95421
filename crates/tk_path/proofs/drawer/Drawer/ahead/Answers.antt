use Rattle.tk_path.proofs.WorkLeft.{solid_falls}
use Rattle.tk_path.proofs.drawer.Drawer.ahead.Goals as goal

pub returns-clause-falls : goal.returns-clause-falls
returns-clause-falls c =
    solid_falls c.args.self.now.state c.next_solid.new.self c.args.input.now c.next_solid.new.input c.next_solid.result c.next_solid.ensures.gives
    c.next_solid.ensures.pays
