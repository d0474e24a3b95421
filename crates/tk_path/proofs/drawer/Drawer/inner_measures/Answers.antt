use Rattle.std.proofs.Common.{rules, arith, ◌≡◌, List, length, Ok, ap, subst}
use Rattle.tk_token.specs.declared.Tok.{Tok}
use Rattle.tk_token.specs.Refusals.{Fails}
use Rattle.std.proofs.lemmas.Result.{err_from_is_err_and}
use Rattle.tk_expand.specs.Unread.{unread}
use Rattle.tk_expr.specs.Evaluated.{evaluated}
use Rattle.tk_expr.proofs.Runs.{evaluated_is_the_answer}
use Rattle.tk_keys.specs.State.{State, env_of, given_of}
use Rattle.tk_path.specs.Configurations.{Configuration, reached}
use Rattle.tk_path.specs.Keys.{with_list, with_keys}
use Rattle.tk_path.specs.Views.{given_to, picture_of, configuration_of}
use Rattle.tk_keytext.specs.Parts.{parts_of}
use Rattle.tk_keytext.proofs.PartCounts.{parts_within}
use Rattle.tk_path.proofs.Undone.{none_yet, same_units, same_budget, same_settings, units_behind, budget_behind}
use Rattle.tk_path.proofs.Levels.{list_read, inner_fails, inner_ends}
use Rattle.tk_path.proofs.drawer.Drawer.inner_measures.Goals as goal

pub returns-in_err-run_keys-clause-gives : goal.returns-in_err-run_keys-clause-gives
returns-in_err-run_keys-clause-gives g c path =
    let p = err_from_is_err_and c.from_residual-in_err-run_keys.result c.from_residual-in_err-run_keys.ensures.1 in
    let rest = unread c.option_list.new.input.rest c.args.input.now.end in
    let start = configuration_of c.args.self.now path c.args.input.now in
    let d : State → Configuration = λ s. record {
      env = env_of c.open.new.self;
      picture = picture_of c.args.self.now path;
      list = rest;
      units = s.units;
    } in
    rw (p.1, p.2) (inner_fails (given_to c.args.self.now) (given_of evaluated c.open.new.self) c.args.at start (d c.open.new.self)
    (reached c.in_ok-list.list.items (with_list start rest)) (env_of c.open.new.self)
    (ap (given_of evaluated) c.in_ok-open.ensures.opened) (list_read c.args.at start c.in_ok-list.list.items c.option_list.new.input.rest
    c.in_ok-list.ensures.gives) c.in_ok-open.ensures.gives (ap d c.in_ok-open.ensures.opened)
    c.in_err-run_keys.field-0.0 (subst (λ (l : List Tok). Fails c.in_err-run_keys.field-0.0 (with_keys (given_of evaluated c.open.new.self) c.args.at
    l (d c.open.new.self))) c.deref.ensures.value (c.in_err-run_keys.ensures.gives evaluated evaluated_is_the_answer path rest)))

pub returns-clause-gives : goal.returns-clause-gives
returns-clause-gives g c path =
    let rest = unread c.option_list.new.input.rest c.args.input.now.end in
    let start = configuration_of c.args.self.now path c.args.input.now in
    let d : State → Configuration = λ s. record {
      env = env_of c.open.new.self;
      picture = picture_of c.args.self.now path;
      list = rest;
      units = s.units;
    } in
    let e = inner_ends (given_to c.args.self.now) (given_of evaluated c.open.new.self) c.args.at start (d c.open.new.self)
    (reached c.in_ok-list.list.items (with_list start rest)) (env_of c.open.new.self)
    (ap (given_of evaluated) c.in_ok-open.ensures.opened) (list_read c.args.at start c.in_ok-list.list.items c.option_list.new.input.rest
    c.in_ok-list.ensures.gives) c.in_ok-open.ensures.gives (ap d c.in_ok-open.ensures.opened)
    (configuration_of c.run_keys.new.self path rest) (subst (λ (l : List Tok). with_keys (given_of evaluated c.open.new.self) c.args.at l
    (d c.open.new.self) ≡ Ok (configuration_of c.run_keys.new.self path rest)) c.deref.ensures.value (c.in_ok-run_keys.ensures.gives evaluated
    evaluated_is_the_answer path rest)) in
    search rules

pub returns-in_err-run_keys-clause-high : goal.returns-in_err-run_keys-clause-high
returns-in_err-run_keys-clause-high g c =
    let begun = c.in_ok-open.ensures.opened in
    omega (
      arith,
      c.in_err-run_keys.ensures.high,
      parts_within c.in_ok-list.list.items,
      c.in_ok-list.ensures.shorter,
      ap (λ (ts : List Tok). length (parts_of ts)) c.deref.ensures.value,
      none_yet c.args.self.now.state c.open.new.self begun,
      same_units c.args.self.now.state c.open.new.self begun,
      same_budget c.args.self.now.state c.open.new.self begun,
    )

pub returns-clause-high : goal.returns-clause-high
returns-clause-high g c =
    let begun = c.in_ok-open.ensures.opened in
    omega (
      arith,
      c.in_ok-run_keys.ensures.most,
      c.close.ensures.high,
      parts_within c.in_ok-list.list.items,
      c.in_ok-list.ensures.shorter,
      ap (λ (ts : List Tok). length (parts_of ts)) c.deref.ensures.value,
      none_yet c.args.self.now.state c.open.new.self begun,
      same_units c.args.self.now.state c.open.new.self begun,
      same_budget c.args.self.now.state c.open.new.self begun,
    )

pub returns-clause-most : goal.returns-clause-most
returns-clause-most g c =
    let begun = c.in_ok-open.ensures.opened in
    let old = c.args.self.now.state in
    let kept = c.in_ok-run_keys.ensures.kept.state in
    omega (
      arith,
      c.in_ok-run_keys.ensures.most,
      c.in_ok-run_keys.ensures.used,
      kept.budget,
      c.close.ensures.high,
      parts_within c.in_ok-list.list.items,
      c.in_ok-list.ensures.shorter,
      ap (λ (ts : List Tok). length (parts_of ts)) c.deref.ensures.value,
      none_yet old c.open.new.self begun,
      same_units old c.open.new.self begun,
      same_budget old c.open.new.self begun,
      same_settings old c.open.new.self begun c.run_keys.new.self.state c.close.new.self kept c.close.ensures.levels c.close.ensures.kept,
      units_behind old c.open.new.self begun c.run_keys.new.self.state c.close.new.self kept c.close.ensures.levels c.close.ensures.kept,
      budget_behind old c.open.new.self begun c.run_keys.new.self.state c.close.new.self kept c.close.ensures.levels c.close.ensures.kept,
    )
