use Rattle.std.proofs.Common.{List, length, ap, arith}
use Rattle.tk_token.specs.declared.Tok.{Tok}
use Rattle.tk_keytext.specs.Parts.{parts_of}
use Rattle.tk_keytext.proofs.PartCounts.{parts_within}
use Rattle.tk_path.proofs.Undone.{on_ok_three}
use Rattle.tk_path.proofs.drawer.Drawer.options.Goals as goal

pub returns-clause-high : goal.returns-clause-high
returns-clause-high g c =
    omega (
      arith,
      c.run_keys.ensures.high,
      parts_within c.in_ok-list.list.items,
      c.in_ok-list.ensures.shorter,
      ap (λ (ts : List Tok). length (parts_of ts)) c.deref.ensures.value,
    )

pub returns-clause-most : goal.returns-clause-most
returns-clause-most g c =
    let within = parts_within c.in_ok-list.list.items in
    let shorter = c.in_ok-list.ensures.shorter in
    let same = ap (λ (ts : List Tok). length (parts_of ts)) c.deref.ensures.value in
    on_ok_three c.run_keys.result (λ most used kept. omega (arith, most, used, kept.state.budget, within, shorter, same)) c.run_keys.ensures.most
    c.run_keys.ensures.used c.run_keys.ensures.kept
