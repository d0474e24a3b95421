use Rattle.std.specs.Prelude.{map}
use Rattle.std.proofs.lemmas.Result.{on_ok_weaker}
use Rattle.tk_native.specs.Natives.{natives, styles}
use Rattle.tk_store.specs.declared.Run.TheVariants as runs
use Rattle.tk_keys.specs.Environment.{tikz_path, running, style_for}
use Rattle.tk_keys.proofs.Tables.{both_set}
use Rattle.tk_keys.proofs.initial.set_initial.Goals as goal

pub returns : goal.returns
returns c = on_ok_weaker c.set_styles.result (both_set c.args.store.now c.set_natives.new.store c.set_styles.new.store
    (map (λ row. (tikz_path row.0, running (runs.Native row.1))) natives)
    (map (λ row. (tikz_path row.0, running (style_for c.args.also row.1))) styles) c.in_ok-set_natives.ensures) c.set_styles.ensures
