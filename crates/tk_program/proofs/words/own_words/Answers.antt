use Rattle.std.proofs.Common.{rules, ◌≡◌, ap, ◌∙◌, drop, length, List}
use Rattle.std.proofs.lemmas.Iterator.{items_from_collect}
use Rattle.std.proofs.lemmas.Iterator.Adapters.{YieldsList-from_skip, YieldsList-from_vec}
use Rattle.std.specs.Vec.Iter.{into_iter_items, into_iter_len}
use Rattle.tk_program.proofs.words.own_words.Goals as goal

pub returns-in_ok-collect-in-Ok-clause-words : goal.returns-in_ok-collect-in-Ok-clause-words
returns-in_ok-collect-in-Ok-clause-words c =
    let len : into_iter_len c.in-Ok.all ≡ length (into_iter_items c.in-Ok.all) = search rules in
    let h = items_from_collect c.collect.result c.collect.ensures.ran
    (YieldsList-from_skip 1
    (YieldsList-from_vec {s = c.skip.result.iter} (into_iter_items c.in-Ok.all)
    (ap into_iter_items c.skip.ensures.source) (ap into_iter_len c.skip.ensures.source ∙ len))
    c.skip.ensures.count) in
    search rules
