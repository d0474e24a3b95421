use Rattle.std.proofs.Common.{arith}
use Rattle.std.proofs.lemmas.Result.{on_ok_weaker}
use Rattle.tk_path.specs.Undoing.{work_left, with_taken}
use Rattle.tk_path.specs.Views.{given_to, configuration_of}
use Rattle.tk_path.proofs.WorkLeft.{movement_left, only_falls}
use Rattle.tk_path.proofs.drawer.Drawer.plain_part.Goals as goal

pub returns-then-begins_coordinate-clause-most : goal.returns-then-begins_coordinate-clause-most
returns-then-begins_coordinate-clause-most g c =
    let now = c.args.self.now in
    on_ok_weaker c.movement.result (λ k. omega (arith, k.0, k.1))
    (only_falls now c.movement.new.self c.movement.new.path c.movement.new.input c.movement.result _ (work_left now (with_taken c.args.first c.args.input.now))
    (λ d e. (let w = movement_left (given_to now) c.args.first (configuration_of now c.args.path.now c.args.input.now) d e in omega (arith, w)))
    c.movement.ensures.gives c.movement.ensures.pays)
