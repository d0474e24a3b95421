use Rattle.std.specs.Prelude.{take, map}
use Rattle.tk_keys.specs.Environment.{tikz_path, running, style_for}
use Rattle.tk_keys.specs.Made.{HasEntries}
use Rattle.tk_keys.proofs.initial.set_styles.Given as goal

abbrev pub invariant-loop-name : goal.invariant-loop-name
invariant-loop-name l =
    HasEntries l.fn.store l.store (map (λ row. (tikz_path row.0.now, running (style_for l.also row.1.now))) (take l.name-index l.styles))
