-- What the calls of a shelf in memory mean.
use Rattle.std.proofs.Common.{◌≡◌, ℕ, ◌+◌, ◌-◌, ◌<◌, ◌≤◌, Bool, true, false, List, [], length, take, drop, Option, Some, None, Ok, Err, refl, sym, ap}
use Rattle.std.proofs.Common.{subst, ◌∙◌, inl, arith, length-drop}
use Rattle.std.specs.Prelude.{◌≢◌, min, IfSome, unwrap_or, if◌then◌else◌, slice_index}
use Rattle.std.specs.Option.{option_map, option_map_or}
use Rattle.std.specs.Bool.{Decides}
use Rattle.std.specs.Str.{bytes_eq}
use Rattle.std.proofs.lemmas.Slice.Eq.{bytes_eq-Decides}
use Rattle.std.proofs.lemmas.Bool.{false≢true}
use Rattle.std.proofs.lemmas.List.{get_or-set_same, get_or-set_other, drop_all}
use Rattle.std.proofs.Math.Seq.{drop-drop}
use mathlib.Core.Path.{fun_ext}
use Rattle.tk_io.specs.declared.Failed.{Failed}
use Rattle.tk_io.specs.Causes.{count_on, is_listed}
use Rattle.tk_io.specs.Shelf.{Counts, Opens, Reads, HandsOut, standard_input, with_input}
use Rattle.tk_io.specs.Desk.{OnDesk, IsDesk, file_at, find_file, start_at, bytes_under, is_current, opened_at, moved_on}
use Rattle.tk_io.specs.Stock.{Stock, stock_means, count_at, called, blamed, OpensStock, ReadsStock}
use Rattle.tk_io.proofs.DeskFiles.{in_place, found_file_has_its_name}

-- of two numbers the first, where a test came out so
pub if_true : {A : Type 0} (b : Bool) (P : Type 0) (x y : A) → Decides b P → P → (if b then x else y) ≡ x
if_true true P x y d p = refl
if_true false P x y d p = absurd (false≢true (d.1 p))

pub if_false : {A : Type 0} (b : Bool) (P : Type 0) (x y : A) → Decides b P → (P → ⊥) → (if b then x else y) ≡ y
if_false true P x y d p = absurd (p (d.0 refl))
if_false false P x y d p = refl

-- once so many bytes of standard input are behind, it has what is left of them, and every other name what it had
pub bytes_under-input : (desk : OnDesk) (place m : ℕ) → find_file desk standard_input ≡ Some place
    → bytes_under (record desk { input = m }) ≡ with_input (Some (drop m (file_at desk place).1)) (bytes_under desk)
bytes_under-input desk place m here = fun_ext (λ n. by_test n (bytes_eq n standard_input) (bytes_eq-Decides n standard_input))
  where
    input : OnDesk
    input = record desk { input = m }

    at_input : (n : List ℕ) → n ≡ standard_input → bytes_under (record desk { input = m }) n ≡ Some (drop m (file_at desk place).1)
    at_input n is =
        ap (λ (o : Option ℕ). option_map (λ p. drop (start_at (record desk { input = m }) p) (file_at desk p).1) o) (ap (find_file desk) is ∙ here)
        ∙ ap (λ (k : ℕ). Some (drop k (file_at desk place).1)) (if_true (bytes_eq (file_at desk place).0 standard_input) ((file_at desk place).0
        ≡ standard_input) m 0 (bytes_eq-Decides (file_at desk place).0 standard_input) (found_file_has_its_name desk place standard_input here))

    other : (n : List ℕ) → (n ≡ standard_input → ⊥) → (q : Option ℕ) → find_file desk n ≡ q
        → option_map (λ p. drop (start_at (record desk { input = m }) p) (file_at desk p).1) q
        ≡ option_map (λ p. drop (start_at desk p) (file_at desk p).1) q
    other n not None e = refl
    other n not (Some p) e =
        let name : (file_at desk p).0 ≡ standard_input → ⊥ = λ is. not (sym (found_file_has_its_name desk p n e) ∙ is) in
        let test = bytes_eq-Decides (file_at desk p).0 standard_input in
        ap (λ (k : ℕ). Some (drop k (file_at desk p).1)) (if_false (bytes_eq (file_at desk p).0 standard_input) ((file_at desk p).0 ≡ standard_input)
        m 0 test name ∙ sym (if_false (bytes_eq (file_at desk p).0 standard_input) ((file_at desk p).0 ≡ standard_input) desk.input 0 test name))

    by_test : (n : List ℕ) (b : Bool) → Decides b (n ≡ standard_input)
        → bytes_under (record desk { input = m }) n ≡ (if b then Some (drop m (file_at desk place).1) else bytes_under desk n)
    by_test n true d = at_input n (d.0 refl)
    by_test n false d = other n (λ is. false≢true (d.1 is)) (find_file desk n) refl

-- the count that goes up
counts_rise : (stock : Stock) (place : Option ℕ) → ((p : ℕ) → place ≡ Some p → p < length stock.faults)
    → count_on (count_at stock place) 1 ≤ count_at (blamed place stock) place
counts_rise stock None fits = omega arith
counts_rise stock (Some p) fits = omega (arith, get_or-set_same stock.faults p (count_on (slice_index stock.faults p) 1) 0 (fits p refl))

-- the count of another file stays
other_counts_stay : (stock : Stock) (name n : List ℕ) (place of : Option ℕ) → find_file stock.desk name ≡ place → find_file stock.desk n ≡ of
    → (of ≡ None → ⊥) → n ≢ name → count_at (blamed place stock) of ≡ count_at stock of
other_counts_stay stock name n place None here there has other = absurd (has refl)
other_counts_stay stock name n None (Some q) here there has other = refl
other_counts_stay stock name n (Some p) (Some q) here there has other =
    get_or-set_other stock.faults p q (count_on (slice_index stock.faults p) 1) 0 (λ (same : q ≡ p).
    other (sym (found_file_has_its_name stock.desk q n there) ∙ ap (λ (k : ℕ). (file_at stock.desk k).0) same
    ∙ found_file_has_its_name stock.desk p name here))

-- what a fault of a name does to the counts
Counts-blamed : (name : List ℕ) (stock : Stock) (current : Option ℕ) (taken : ℕ) (place : Option ℕ) → find_file stock.desk name ≡ place
    → ((of : Option ℕ) → count_at stock of ≤ count_at (blamed place (called stock (record stock.desk { current = current; taken = taken }))) of)
    → Counts name (stock_means stock) (stock_means (blamed place (called stock (record stock.desk { current = current; taken = taken }))))
Counts-blamed name stock current taken None here no_fall = record {
  no_fall = λ n. no_fall (find_file stock.desk n);
  others = λ n has other. other_counts_stay stock name n None (find_file stock.desk n) here refl
      (λ none. has (ap (λ (o : Option ℕ). option_map (λ p. drop (start_at stock.desk p) (file_at stock.desk p).1) o) none)) other;
  sure = refl;
}
Counts-blamed name stock current taken (Some place) here no_fall = record {
  no_fall = λ n. no_fall (find_file stock.desk n);
  others = λ n has other. other_counts_stay stock name n (Some place) (find_file stock.desk n) here refl
      (λ none. has (ap (λ (o : Option ℕ). option_map (λ p. drop (start_at stock.desk p) (file_at stock.desk p).1) o) none)) other;
  sure = refl;
}

-- a name that is there is opened
pub Opens-opened : (name : List ℕ) (stock : Stock) (place : ℕ) → find_file stock.desk name ≡ Some place
    → Opens name (stock_means stock) (stock_means (called stock (opened_at stock.desk place))) (Ok tt)
Opens-opened name stock place here = record {
  counts = record { no_fall = λ n. omega arith; others = λ n has other. refl; sure = refl };
  cause = tt;
  sure = λ _. refl;
  missing =
      λ none _. (let gone : Some (drop (start_at stock.desk place) (file_at stock.desk place).1) ≡ None = ap (λ (o : Option ℕ). option_map (λ p. drop (start_at stock.desk p) (file_at stock.desk p).1) o) (sym here) ∙ none in cc);
  opened = (bytes_eq-Decides (file_at stock.desk place).0 name).1 (found_file_has_its_name stock.desk place name here);
  only = λ n is _. sym ((bytes_eq-Decides (file_at stock.desk place).0 n).0 is) ∙ found_file_has_its_name stock.desk place name here;
  closed = tt;
  left = ap (λ (o : Option ℕ). Some (unwrap_or (option_map (λ p. drop (start_at stock.desk p) (file_at stock.desk p).1) o) [])) (sym here);
  taken = refl;
  holds = refl;
}

-- a call that opens nothing
pub Opens-failed : (name : List ℕ) (stock : Stock) (failed : Failed) (place : Option ℕ) → find_file stock.desk name ≡ place
    → ((p : ℕ) → place ≡ Some p → p < length stock.faults)
    → ((of : Option ℕ) → count_at stock of ≤ count_at (blamed place (called stock (record stock.desk { current = None; taken = 0 }))) of)
    → Opens name (stock_means stock) (stock_means (blamed place (called stock (record stock.desk { current = None; taken = 0 })))) (Err failed)
Opens-failed name stock failed None here fits no_fall = record {
  counts = Counts-blamed name stock None 0 None here no_fall;
  cause = subst (λ (o : Option ℕ). count_on (count_at stock o) 1 ≤ count_at (blamed None stock) o) (sym here) (counts_rise stock None fits);
  sure = λ never. cc;
  missing = λ none unsure. refl;
  opened = tt;
  only = tt;
  closed = λ n. refl;
  left = tt;
  taken = refl;
  holds = refl;
}
Opens-failed name stock failed (Some place) here fits no_fall = record {
  counts = Counts-blamed name stock None 0 (Some place) here no_fall;
  cause = subst (λ (o : Option ℕ). count_on (count_at stock o) 1 ≤ count_at (blamed (Some place) stock) o) (sym here)
      (counts_rise stock (Some place) fits);
  sure = λ never. cc;
  missing = λ none unsure. refl;
  opened = tt;
  only = tt;
  closed = λ n. refl;
  left = tt;
  taken = refl;
  holds = refl;
}

-- the name that is open is that of the open file
pub is_named : (desk : OnDesk) (place : ℕ) (name : List ℕ) → desk.current ≡ Some place → is_current desk name ≡ true → (file_at desk place).0 ≡ name
is_named desk place name e is = (bytes_eq-Decides (file_at desk place).0 name).0
    (subst (λ (o : Option ℕ). option_map_or (λ p. bytes_eq (file_at desk p).0 name) o false ≡ true) e is)

-- a read that hands out n bytes
pub Reads-moved : (name : List ℕ) (stock : Stock) (place n : ℕ) (before after : List ℕ) → IsDesk stock.desk → 1 ≤ stock.most
    → stock.desk.current ≡ Some place → is_current stock.desk name ≡ true
    → length after ≡ length before → n ≡ min (min (length before) stock.most) (length (file_at stock.desk place).1 - stock.desk.at)
    → take n after ≡ take n (drop stock.desk.at (file_at stock.desk place).1)
    → Reads name (stock_means stock) (stock_means (called stock (moved_on stock.desk place n))) (Ok n) after
Reads-moved name stock place n before after is some e open_ same count front = record {
  counts = record { no_fall = λ m. omega arith; others = λ m has other. refl; sure = refl };
  cause = tt;
  sure = λ _. refl;
  is_open = refl;
  bound = omega (arith, count, same);
  bytes = subst (λ (o : Option ℕ). IfSome (option_map (λ p. drop desk.at (file_at desk p).1) o) (λ left. HandsOut n after left
      (option_map (λ p. drop (desk.at + n) (file_at desk p).1) o))) (sym e) record {
        within = omega (arith, count, length-drop desk.at (file_at desk place).1);
        front = front;
        rest = ap (λ (w : List ℕ). Some w) (sym (drop-drop n desk.at (file_at desk place).1));
      };
  ends = λ none room. subst (λ (o : Option ℕ). IfSome (option_map (λ p. drop desk.at (file_at desk p).1) o) (λ left. left ≡ [])) (sym e)
      (drop_all desk.at (file_at desk place).1 (omega (arith, count, same, none, room, some)));
  taken = refl;
  none_taken = tt;
  all_left = tt;
  holds = λ other. ap (λ (k : ℕ). Some (bytes_under (record desk { input = k }))) (if_false (bytes_eq (file_at desk place).0 standard_input)
      ((file_at desk place).0 ≡ standard_input) (desk.at + n) desk.input (bytes_eq-Decides (file_at desk place).0 standard_input)
      (λ is. other (sym named_so ∙ is)));
  input = λ is_dash.
      ap (λ (k : ℕ). Some (bytes_under (record desk { input = k }))) (if_true (bytes_eq (file_at desk place).0 standard_input) ((file_at desk place).0
      ≡ standard_input) (desk.at + n) desk.input (bytes_eq-Decides (file_at desk place).0 standard_input) (named_so ∙ is_dash))
      ∙ ap (λ (h : List ℕ → Option (List ℕ)). Some h) (bytes_under-input desk place (desk.at + n) (ap (find_file desk) (sym (named_so ∙ is_dash))
      ∙ is.first place e)
      ∙ ap (λ (o : Option ℕ). with_input (option_map (λ p. drop (desk.at + n) (file_at desk p).1) o) (bytes_under desk)) (sym e));
}
  where
    desk : OnDesk
    desk = stock.desk

    named_so : (file_at stock.desk place).0 ≡ name
    named_so = is_named stock.desk place name e open_

-- a read that fails
pub Reads-failed : (name : List ℕ) (stock : Stock) (failed : Failed) (place : ℕ) (buffer : List ℕ) → IsDesk stock.desk → place < length stock.faults
    → stock.desk.current ≡ Some place → is_current stock.desk name ≡ true
    → ((of : Option ℕ) → count_at stock of ≤ count_at (blamed (Some place) (called stock stock.desk)) of)
    → Reads name (stock_means stock) (stock_means (blamed (Some place) (called stock stock.desk))) (Err failed) buffer
Reads-failed name stock failed place buffer is fits e open_ no_fall = record {
  counts = Counts-blamed name stock stock.desk.current stock.desk.taken (Some place) here no_fall;
  cause = subst (λ (o : Option ℕ). count_on (count_at stock o) 1 ≤ count_at (blamed (Some place) stock) o) (sym here) (counts_rise stock (Some place)
      (λ p same. let at_p : place ≡ p = cc in subst (λ (p : ℕ). p < length stock.faults) at_p fits));
  sure = λ never. cc;
  is_open = refl;
  bound = tt;
  bytes = tt;
  ends = tt;
  taken = tt;
  none_taken = refl;
  all_left = refl;
  holds = λ other. refl;
  input = λ is_dash. ap (λ (h : List ℕ → Option (List ℕ)). Some h)
      (bytes_under-input stock.desk place stock.desk.input (ap (find_file stock.desk) (sym is_dash) ∙ here)
      ∙ ap (λ (k : ℕ). with_input (Some (drop k (file_at stock.desk place).1)) (bytes_under stock.desk)) (sym (is.input place e (named_so ∙ is_dash)))
      ∙ ap (λ (o : Option ℕ). with_input (option_map (λ p. drop stock.desk.at (file_at stock.desk p).1) o) (bytes_under stock.desk)) (sym e));
}
  where
    named_so : (file_at stock.desk place).0 ≡ name
    named_so = is_named stock.desk place name e open_

    here : find_file stock.desk name ≡ Some place
    here = subst (λ (n : List ℕ). find_file stock.desk n ≡ Some place) named_so (is.first place e)

-- a call was made
pub called-is : (inside old : Stock) (desk : OnDesk) (calls : ℕ) (f : OnDesk → OnDesk) → inside ≡ old → desk ≡ f inside.desk
    → calls ≡ count_on inside.calls 1 → record inside { desk = desk; calls = calls } ≡ called old (f old.desk)
called-is inside old desk calls f same is counted =
    ap (λ (d : OnDesk). let s : Stock = record inside { desk = d; calls = calls } in s) is
    ∙ ap (λ (k : ℕ). let s : Stock = record inside { desk = f inside.desk; calls = k } in s) counted
    ∙ ap (λ (s : Stock). called s (f s.desk)) same

-- the same of what it means, after a fault was counted
pub Opens-blamed : (name : List ℕ) (old mid new : Stock) (failed : Failed) (place : Option ℕ)
    → mid ≡ called old (record old.desk { current = None; taken = 0 }) → new ≡ blamed place mid
    → ((of : Option ℕ) → count_at mid of ≤ count_at new of) → find_file old.desk name ≡ place → ((p : ℕ) → place ≡ Some p → p < length old.faults)
    → Opens name (stock_means old) (stock_means new) (Err failed)
Opens-blamed name old mid new failed place m n no_fall here fits =
    subst (λ (s : Stock). Opens name (stock_means old) (stock_means s) (Err failed)) (sym (n ∙ ap (blamed place) m))
    (Opens-failed name old failed place here fits (λ of. subst (λ (s : Stock). count_at s of ≤ count_at (blamed place s) of) m
    (subst (λ (s : Stock). count_at mid of ≤ count_at s of) n (no_fall of))))

pub Reads-blamed : (name : List ℕ) (old mid new : Stock) (failed : Failed) (place : ℕ) (buffer : List ℕ) → mid ≡ called old old.desk
    → new ≡ blamed (Some place) mid
    → ((of : Option ℕ) → count_at mid of ≤ count_at new of) → IsDesk old.desk → place < length old.faults → old.desk.current ≡ Some place
    → is_current old.desk name ≡ true → Reads name (stock_means old) (stock_means new) (Err failed) buffer
Reads-blamed name old mid new failed place buffer m n no_fall is fits e open_ =
    subst (λ (s : Stock). Reads name (stock_means old) (stock_means s) (Err failed) buffer) (sym (n ∙ ap (blamed (Some place)) m))
    (Reads-failed name old failed place buffer is fits e open_ (λ of. subst (λ (s : Stock). count_at s of ≤ count_at (blamed (Some place) s) of) m
    (subst (λ (s : Stock). count_at mid of ≤ count_at s of) n (no_fall of))))

-- there is a count for each file
pub fits_there : (stock : Stock) (place : ℕ) (name : List ℕ) → length stock.faults ≡ length stock.desk.files → find_file stock.desk name ≡ Some place
    → (p : ℕ) → Some place ≡ Some p → p < length stock.faults
fits_there stock place name long here p same =
    let at_p : place ≡ p = cc in
    subst (λ (p : ℕ). p < length stock.faults) at_p (omega (arith, long, in_place stock.desk place name here))

-- what was found on a desk that was closed was found on the desk before
pub found_is : (inside old : Stock) (closed : OnDesk) (name : List ℕ) (place : Option ℕ) → inside ≡ old
    → closed ≡ record inside.desk { current = None; taken = 0 } → place ≡ find_file closed name → find_file old.desk name ≡ place
found_is inside old closed name place same is found =
    ap (λ (s : Stock). find_file s.desk name) (sym same) ∙ ap (λ (d : OnDesk). find_file d name) (sym is) ∙ sym found

-- whether the call is listed
pub listed_is : (inside old : Stock) (xs : List ℕ) (k : ℕ) (r b : Bool) → inside ≡ old → xs ≡ inside.failing → k ≡ count_on inside.calls 1
    → r ≡ is_listed xs k → r ≡ b → is_listed old.failing (count_on old.calls 1) ≡ b
listed_is inside old xs k r b same list call test came =
    ap (λ (s : Stock). is_listed s.failing (count_on s.calls 1)) (sym same)
    ∙ ap (λ (xs : List ℕ). is_listed xs (count_on inside.calls 1)) (sym list)
    ∙ ap (λ (k : ℕ). is_listed xs k) (sym call)
    ∙ sym test ∙ came

pub OpensStock-listed : (name : List ℕ) (old mid new : Stock) (failed : Failed) (place : ℕ)
    → mid ≡ called old (record old.desk { current = None; taken = 0 }) → new ≡ blamed (Some place) mid → find_file old.desk name ≡ Some place
    → is_listed old.failing (count_on old.calls 1) ≡ true → OpensStock name old new (Err failed)
OpensStock-listed name old mid new failed place m n here listed = record {
  fails = (λ _. inl listed, λ _. refl);
  opened = tt;
  failed = n ∙ ap (blamed (Some place)) m ∙ ap (λ (o : Option ℕ). blamed o (called old (record old.desk { current = None; taken = 0 }))) (sym here);
}

pub ReadsStock-listed : (old mid new : Stock) (failed : Failed) (place : ℕ) (buffer : List ℕ) → mid ≡ called old old.desk
    → new ≡ blamed (Some place) mid → old.desk.current ≡ Some place → is_listed old.failing (count_on old.calls 1) ≡ true
    → IfSome old.desk.current (λ place. ReadsStock place old new (Err failed) buffer buffer)
ReadsStock-listed old mid new failed place buffer m n e listed =
    subst (λ (o : Option ℕ). IfSome o (λ place. ReadsStock place old new (Err failed) buffer buffer)) (sym e) record {
      fails = (λ _. listed, λ _. refl);
      count = tt;
      front = tt;
      rest = tt;
      moved = tt;
      kept = refl;
      failed = n ∙ ap (blamed (Some place)) m;
    }

pub ReadsStock-moved : (old new : Stock) (place n : ℕ) (before after : List ℕ) → old.desk.current ≡ Some place
    → is_listed old.failing (count_on old.calls 1) ≡ false → new ≡ called old (moved_on old.desk place n)
    → n ≡ min (min (length before) old.most) (length (file_at old.desk place).1 - old.desk.at)
    → take n after ≡ take n (drop old.desk.at (file_at old.desk place).1) → drop n after ≡ drop n before
    → IfSome old.desk.current (λ place. ReadsStock place old new (Ok n) before after)
ReadsStock-moved old new place n before after e unlisted moved count front rest =
    subst (λ (o : Option ℕ). IfSome o (λ place. ReadsStock place old new (Ok n) before after)) (sym e) record {
      fails = (λ never. cc, λ listed. absurd (false≢true (sym unlisted ∙ listed)));
      count = count;
      front = front;
      rest = rest;
      moved = moved;
      kept = tt;
      failed = tt;
    }
