use Rattle.std.proofs.Common.{ap, sym, ◌∙◌, length}
use Rattle.std.specs.Prelude.{reverse}
use Rattle.std.proofs.lemmas.List.{length-reverse}
use Rattle.tk_store.specs.Levels.{Levels}
use Rattle.tk_store.proofs.Undoing.{outer_length}
use Rattle.tk_store.proofs.store.Store.level.Goals as goal

pub returns : goal.returns
returns c =
    c.len.ensures.value ∙ sym (length-reverse c.self.inside.marks.items)
    ∙ sym (outer_length (reverse c.self.inside.saved.items) (reverse c.self.inside.marks.items) c.self.inside.tables)
    ∙ ap (λ (l : Levels). length l.outer) c.self.view_is
