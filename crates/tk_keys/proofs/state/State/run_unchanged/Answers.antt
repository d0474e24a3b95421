use Rattle.tk_native.specs.declared.PaintKey.TheVariants.{Draw, Fill}
use Rattle.tk_keys.proofs.Painted.{paints, both}
use Rattle.tk_keys.proofs.state.State.run_unchanged.Goals as goal

pub returns-in-draw-clause-runs : goal.returns-in-draw-clause-runs
returns-in-draw-clause-runs c _ ev at =
    let draws = c.paints_alone.ensures c.if-paints_alone.true in
    paints ev at c.args.self.now c.requires c.args.text.now Draw c.in-draw.is draws c.switch_on.new.self c.switch_on.ensures.set

pub returns-in-fill-clause-runs : goal.returns-in-fill-clause-runs
returns-in-fill-clause-runs c _ ev at =
    let fills = c.paints_alone-then-str_eq-2.ensures c.if-paints_alone-2.true in
    let after = c.switch_on-in-fill in
    paints ev at c.args.self.now c.requires c.args.text.now Fill c.in-fill.is fills after.new.self after.ensures.set

pub returns-in-text-clause-runs : goal.returns-in-text-clause-runs
returns-in-text-clause-runs c _ ev at =
    let draws = c.paints_alone-then-str_eq-3.ensures c.if-paints_alone-3.true in
    let fills = c.paints_alone-then-paints_alone-3.ensures c.if-paints_alone-4.true in
    let first = c.switch_on-in-text in
    let second = c.switch_on-in-text-2 in
    both ev at c.args.self.now c.requires c.args.text.now c.in-text.is draws fills first.new.self first.ensures.set second.new.self second.ensures.set
