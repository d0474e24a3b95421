use Rattle.std.proofs.Common.{ap, sym, ◌∙◌}
use Rattle.tk_expand.specs.Expand.{is_expanded}
use Rattle.tk_keys.specs.State.{State, env_of}
use Rattle.tk_keys.proofs.Natives.{native_gives}
use Rattle.tk_keys.proofs.state.State.set_native.Goals as goal

pub returns-then-is_expanded-clause-gives : goal.returns-then-is_expanded-clause-gives
returns-then-is_expanded-clause-gives c =
    let a = c.args in
    let list = c.in-Some.list.now in
    let own = sym c.if-is_expanded.true ∙ c.is_expanded.ensures ∙ ap (λ (s : State). is_expanded (env_of s).macros list) c.self.view_is in
    let set = c.set_graphics-then-is_expanded in
    rw c.in-Some.is (native_gives a.self.now a.at a.name.now a.key list own set.new.self set.ensures.kept set.result set.ensures.gives set.ensures.text)
