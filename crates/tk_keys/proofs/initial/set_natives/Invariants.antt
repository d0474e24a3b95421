use Rattle.std.specs.Prelude.{take, map}
use Rattle.tk_store.specs.declared.Run.TheVariants as runs
use Rattle.tk_keys.specs.Environment.{tikz_path, running}
use Rattle.tk_keys.specs.Made.{HasEntries}
use Rattle.tk_keys.proofs.initial.set_natives.Given as goal

abbrev pub invariant-loop-name : goal.invariant-loop-name
invariant-loop-name l = HasEntries l.fn.store l.store (map (λ row. (tikz_path row.0.now, running (runs.Native row.1))) (take l.name-index l.natives))
