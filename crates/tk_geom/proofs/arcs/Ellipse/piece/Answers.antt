use Rattle.tk_geom.proofs.Sums.{near_enough, near_enough_moved}
use Rattle.tk_geom.proofs.arcs.Ellipse.piece.Goals as goal

pub plus-requires-clause-x : goal.plus-requires-clause-x
plus-requires-clause-x c = near_enough c.args.centre.now.x c.requires.x

pub plus-requires-clause-y : goal.plus-requires-clause-y
plus-requires-clause-y c = near_enough c.args.centre.now.y c.requires.y

pub plus-requires-2-clause-x : goal.plus-requires-2-clause-x
plus-requires-2-clause-x c = near_enough_moved c.plus.result.x c.args.centre.now.x c.plus.ensures.x c.requires.x

pub plus-requires-2-clause-y : goal.plus-requires-2-clause-y
plus-requires-2-clause-y c = near_enough_moved c.plus.result.y c.args.centre.now.y c.plus.ensures.y c.requires.y

pub plus-requires-3-clause-x : goal.plus-requires-3-clause-x
plus-requires-3-clause-x c = near_enough c.args.centre.now.x c.requires.x

pub plus-requires-3-clause-y : goal.plus-requires-3-clause-y
plus-requires-3-clause-y c = near_enough c.args.centre.now.y c.requires.y

pub minus-requires-clause-x : goal.minus-requires-clause-x
minus-requires-clause-x c = near_enough_moved c.plus-3.result.x c.args.centre.now.x c.plus-3.ensures.x c.requires.x

pub minus-requires-clause-y : goal.minus-requires-clause-y
minus-requires-clause-y c = near_enough_moved c.plus-3.result.y c.args.centre.now.y c.plus-3.ensures.y c.requires.y

pub plus-requires-4-clause-x : goal.plus-requires-4-clause-x
plus-requires-4-clause-x c = near_enough c.args.centre.now.x c.requires.x

pub plus-requires-4-clause-y : goal.plus-requires-4-clause-y
plus-requires-4-clause-y c = near_enough c.args.centre.now.y c.requires.y
