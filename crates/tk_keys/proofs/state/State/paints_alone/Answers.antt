use Rattle.std.specs.Prelude.{Some}
use Rattle.std.specs.FinMap as map
use Rattle.std.proofs.Common.{ap, sym, ◌∙◌}
use Rattle.tk_store.specs.declared.Entry.{Entry}
use Rattle.tk_keys.proofs.state.State.paints_alone.Goals as goal

pub returns-in-Some : goal.returns-in-Some
returns-in-Some c is =
    rw (← c.self.view_is) (
      c.in-Some.entry.now.value,
      ap (map.get c.self.inside.store.top.keys) (sym c.paint_path.ensures) ∙ sym c.in-Some.ensures
          ∙ ap (λ (e : Entry). Some e) (c.is_unchanged.ensures is),
    )
