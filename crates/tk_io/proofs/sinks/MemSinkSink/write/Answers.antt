use Rattle.std.proofs.Common.{◌≡◌, ℕ, true, List, inl, refl, sym, ap, ◌∙◌}
use Rattle.tk_io.specs.Causes.{is_listed}
use Rattle.tk_io.proofs.sinks.MemSinkSink.write.Goals as goal

pub returns-then-contains-clause-exactly : goal.returns-then-contains-clause-exactly
returns-then-contains-clause-exactly c =
    let inside = c.self.inside in
    let listed : is_listed inside.failing.items c.saturating_add-self-inside.result
    ≡ true = ap (λ (xs : List ℕ). is_listed xs c.saturating_add-self-inside.result) (sym c.deref.ensures.value) ∙ sym c.contains.ensures.value
    ∙ c.if-contains.true in
    rw (← c.self.view_is) record {
      fails = (λ _. inl (ap (λ (n : ℕ). is_listed inside.failing.items n) (sym c.saturating_add-self-inside.ensures) ∙ listed), λ _. refl);
      count = tt;
      takes = tt;
      failed = cc;
    }
