use Rattle.std.proofs.Common.{◌≡◌, ◌<◌, [], ◌∷◌, length, ap, sym, ◌∙◌, arith}
use Rattle.std.specs.Prelude.{reverse}
use Rattle.std.proofs.lemmas.List.{length-reverse, reverse-append}
use Rattle.tk_store.specs.Levels.{Levels, opened}
use Rattle.tk_store.proofs.Undoing.{outer_length, open_is, marks_open}
use Rattle.tk_store.proofs.store.Store.open.Goals as goal
use Rattle.tk_store.proofs.store.Store.open.Goals.{After-push}

count_is : (c : After-push) → c.len.result ≡ length (reverse c.self.inside.saved.items)
count_is c = omega (arith, c.len.ensures, c.self.inside.saved.ok.0, length-reverse c.self.inside.saved.items)

pub push-requires : goal.push-requires
push-requires c =
    let levels : length c.args.self.now.outer ≡ length c.self.inside.marks.items =
    sym (ap (λ (l : Levels). length l.outer) c.self.view_is)
    ∙ outer_length (reverse c.self.inside.saved.items) (reverse c.self.inside.marks.items) c.self.inside.tables
    ∙ length-reverse c.self.inside.marks.items in
    let room : length c.self.inside.marks.items < 128 = omega (arith, levels, c.requires) in
    (omega arith, room)

pub invariant_of-self : goal.invariant_of-self
invariant_of-self c =
    marks_open (length (reverse c.self.inside.saved.items)) c.len.result (reverse c.self.inside.marks.items) (reverse c.push.new.self.items)
    (count_is c)
    (ap reverse c.push.ensures.items ∙ reverse-append c.self.inside.marks.items (c.len.result ∷ []))
    c.self.invariant

pub returns : goal.returns
returns c =
    open_is (reverse c.self.inside.saved.items) (reverse c.self.inside.marks.items) (reverse c.push.new.self.items) c.self.inside.tables c.len.result
    (count_is c)
    (ap reverse c.push.ensures.items ∙ reverse-append c.self.inside.marks.items (c.len.result ∷ []))
    ∙ ap opened c.self.view_is
