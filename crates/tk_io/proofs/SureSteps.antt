-- What the calls of a sure shelf mean.
use Rattle.std.proofs.Common.{◌≡◌, ℕ, ◌+◌, ◌-◌, Bool, true, false, List, [], length, take, drop, Option, Some, None, Ok, refl, sym, ap, subst, ◌∙◌}
use Rattle.std.proofs.Common.{arith, length-drop}
use Rattle.std.specs.Prelude.{◌≢◌, min, IfSome, unwrap_or, if◌then◌else◌}
use Rattle.std.specs.Option.{option_map, option_or}
use Rattle.std.specs.Str.{bytes_eq}
use Rattle.std.proofs.lemmas.Slice.Eq.{bytes_eq-Decides}
use Rattle.std.proofs.lemmas.List.{drop_all}
use Rattle.std.proofs.Math.Seq.{drop-drop}
use mathlib.Core.Path.{fun_ext}
use Rattle.tk_io.specs.declared.sure.Absent.{Absent}
use Rattle.tk_io.specs.declared.sure.Absent.TheVariants.{Nothing, Input, Other}
use Rattle.tk_io.specs.Shelf.{Opens, Reads, HandsOut, standard_input, with_input}
use Rattle.tk_io.specs.Desk.{OnDesk, IsDesk, file_at, find_file, start_at, bytes_under, is_current, opened_at, moved_on}
use Rattle.tk_io.specs.SureShelf.{Sure, IsSure, sure_holds, sure_means, sure_open}
use Rattle.tk_io.proofs.DeskFiles.{found_file_has_its_name}
use Rattle.tk_io.proofs.StockSteps.{if_true, if_false, bytes_under-input, is_named}

-- once so many bytes of standard input are behind, the shelf has what is left of them
sure_holds-input : (desk : OnDesk) (place m : ℕ) → find_file desk standard_input ≡ Some place
    → sure_holds (record desk { input = m }) ≡ with_input (Some (drop m (file_at desk place).1)) (sure_holds desk)
sure_holds-input desk place m here = fun_ext (λ n.
    ap (λ (h : List ℕ → Option (List ℕ)). option_or (h n) (if bytes_eq n standard_input then Some [] else None)) (bytes_under-input desk place m here)
    ∙ by_test (bytes_eq n standard_input) (bytes_under desk n))
  where
    by_test : (b : Bool) (h : Option (List ℕ))
        → option_or (if b then Some (drop m (file_at desk place).1) else h) (if b then Some [] else None)
        ≡ (if b then Some (drop m (file_at desk place).1) else option_or h (if b then Some [] else None))
    by_test true h = refl
    by_test false h = refl

-- a name that is there is opened
pub Sure-opened : (name : List ℕ) (shelf : Sure) (place : ℕ) → find_file shelf.desk name ≡ Some place
    → Opens name (sure_means shelf) (sure_means (record { desk = opened_at shelf.desk place; absent = Nothing })) (Ok tt)
Sure-opened name shelf place here = record {
  counts = record { no_fall = λ n. omega arith; others = λ n has other. refl; sure = refl };
  cause = tt;
  sure = λ _. refl;
  missing = λ none unsure. cc;
  opened = (bytes_eq-Decides (file_at shelf.desk place).0 name).1 (found_file_has_its_name shelf.desk place name here);
  only = λ n is _. sym ((bytes_eq-Decides (file_at shelf.desk place).0 n).0 is) ∙ found_file_has_its_name shelf.desk place name here;
  closed = tt;
  left = ap (λ (o : Option ℕ). Some (unwrap_or (option_or (option_map (λ p. drop (start_at shelf.desk p) (file_at shelf.desk p).1) o)
      (if bytes_eq name standard_input then Some [] else None)) [])) (sym here);
  taken = refl;
  holds = refl;
}

-- where a file is open, no name that isn't there is
nothing_else : (shelf : Sure) (place : ℕ) → IsSure shelf → shelf.desk.current ≡ Some place → shelf.absent ≡ Nothing
nothing_else shelf place is e = by_absent shelf.absent is.shut
  where
    by_absent : (a : Absent) → (a ≢ Nothing → shelf.desk.current ≡ None) → a ≡ Nothing
    by_absent Nothing shut = refl
    by_absent Input shut = (let none : Some place ≡ None = sym e ∙ shut (λ (same : Input ≡ Nothing). cc) in cc)
    by_absent Other shut = (let none : Some place ≡ None = sym e ∙ shut (λ (same : Other ≡ Nothing). cc) in cc)

-- a read of a file that is there
pub Sure-moved : (name : List ℕ) (desk : OnDesk) (place n : ℕ) (before after : List ℕ) → IsDesk desk → desk.current ≡ Some place
    → is_current desk name ≡ true
    → length after ≡ length before → n ≡ min (length before) (length (file_at desk place).1 - desk.at)
    → take n after ≡ take n (drop desk.at (file_at desk place).1)
    → Reads name (sure_means (record { desk = desk; absent = Nothing })) (sure_means (record { desk = moved_on desk place n; absent = Nothing }))
    (Ok n) after
Sure-moved name desk place n before after is e open_ same count front = record {
  counts = record { no_fall = λ m. omega arith; others = λ m has other. refl; sure = refl };
  cause = tt;
  sure = λ _. refl;
  is_open = refl;
  bound = omega (arith, count, same);
  bytes = subst (λ (o : Option ℕ). IfSome (option_map (λ p. drop desk.at (file_at desk p).1) o) (λ left. HandsOut n after left
      (option_map (λ p. drop (desk.at + n) (file_at desk p).1) o))) (sym e) record {
        within = omega (arith, count, length-drop desk.at (file_at desk place).1);
        front = front;
        rest = ap (λ (w : List ℕ). Some w) (sym (drop-drop n desk.at (file_at desk place).1));
      };
  ends = λ none room. subst (λ (o : Option ℕ). IfSome (option_map (λ p. drop desk.at (file_at desk p).1) o) (λ left. left ≡ [])) (sym e)
      (drop_all desk.at (file_at desk place).1 (omega (arith, count, same, none, room)));
  taken = refl;
  none_taken = tt;
  all_left = tt;
  holds = λ other. ap (λ (k : ℕ). Some (sure_holds (record desk { input = k }))) (if_false (bytes_eq (file_at desk place).0 standard_input)
      ((file_at desk place).0 ≡ standard_input) (desk.at + n) desk.input (bytes_eq-Decides (file_at desk place).0 standard_input)
      (λ is. other (sym named_so ∙ is)));
  input = λ is_dash.
      ap (λ (k : ℕ). Some (sure_holds (record desk { input = k }))) (if_true (bytes_eq (file_at desk place).0 standard_input) ((file_at desk place).0
      ≡ standard_input) (desk.at + n) desk.input (bytes_eq-Decides (file_at desk place).0 standard_input) (named_so ∙ is_dash))
      ∙ ap (λ (h : List ℕ → Option (List ℕ)). Some h) (sure_holds-input desk place (desk.at + n) (ap (find_file desk) (sym (named_so ∙ is_dash))
      ∙ is.first place e)
      ∙ ap (λ (o : Option ℕ). with_input (option_map (λ p. drop (desk.at + n) (file_at desk p).1) o) (sure_holds desk)) (sym e));
}
  where
    named_so : (file_at desk place).0 ≡ name
    named_so = is_named desk place name e open_

-- the same, whatever else was known of the shelf
pub Sure-read : (name : List ℕ) (old : Sure) (desk : OnDesk) (absent : Absent) (place n : ℕ) (before after : List ℕ) → IsSure old → IsDesk old.desk
    → old.desk.current ≡ Some place → sure_open old.desk old.absent name ≡ true
    → length after ≡ length before → n ≡ min (length before) (length (file_at old.desk place).1 - old.desk.at)
    → take n after ≡ take n (drop old.desk.at (file_at old.desk place).1)
    → desk ≡ moved_on old.desk place n → absent ≡ old.absent
    → Reads name (sure_means old) (sure_means (record { desk = desk; absent = absent })) (Ok n) after
Sure-read name old desk absent place n before after sure is e open_ same count front moved kept =
    let nothing = nothing_else old place sure e in
    let is_open : is_current old.desk name ≡ true = subst (λ (a : Absent). sure_open old.desk a name ≡ true) nothing open_ in
    let read = Sure-moved name old.desk place n before after is e is_open same count front in
    let moved_so = subst (λ (d : OnDesk). Reads name (sure_means (record { desk = old.desk; absent = Nothing }))
    (sure_means (record { desk = d; absent = Nothing })) (Ok n) after) (sym moved) read in
    let kept_so = subst (λ (a : Absent). Reads name (sure_means (record { desk = old.desk; absent = Nothing }))
    (sure_means (record { desk = desk; absent = a })) (Ok n) after) (sym (kept ∙ nothing)) moved_so in
    subst (λ (a : Absent). Reads name (sure_means (record { desk = old.desk; absent = a })) (sure_means (record { desk = desk; absent = absent }))
    (Ok n) after) (sym nothing) kept_so
