use Rattle.tk_keys.proofs.Tables.{runs_so, none_set, next_set, all_set}
use Rattle.tk_keys.proofs.initial.set_styles.Goals as goal

pub loop-name-init : goal.loop-name-init
loop-name-init c = none_set c.args.store.now

pub loop-name-preserved : goal.loop-name-preserved
loop-name-preserved c = next_set _ c.args.store.now c.args.styles.now c.loop-name.store c.set_below.new.store c.loop-name.name-index _
    c.loop-name-test.true c.loop-name.invariant (runs_so c.loop-name.store c.set_below.new.store c.in_ok-style_for.ensures c.in_ok-set_below.ensures)

pub returns : goal.returns
returns c = all_set _ c.args.store.now c.args.styles.now c.loop-name.store c.loop-name.name-index c.loop-name-test.false c.loop-name.invariant
