-- The steps of reading all of a file.
use Rattle.std.proofs.Common.{◌≡◌, ℕ, zero, suc, ◌+◌, ◌<◌, ◌≤◌, Bool, true, false, List, [], ◌++◌, length, take, drop, Option, Some, None, Result, Ok}
use Rattle.std.proofs.Common.{Err, refl, sym, ap, subst, ◌∙◌, inl, inr, arith}
use Rattle.std.specs.Prelude.{◌≢◌, ◌⊎◌, IfSome, IsSomeAnd, IsErrAnd, unwrap_or, if◌then◌else◌}
use Rattle.std.specs.Bool.{Decides}
use Rattle.std.specs.Result.{result_map_both}
use Rattle.std.specs.Str.{bytes_eq}
use Rattle.std.proofs.lemmas.Slice.Eq.{bytes_eq-Decides}
use Rattle.std.proofs.lemmas.List.{length-append, length-take, length-drop, take_all, take-append-le}
use Rattle.std.proofs.lemmas.Bool.{false≢true}
use Rattle.std.proofs.Math.Seq.{take-add, drop-drop}
use mathlib.Core.Path.{fun_ext}
use Rattle.tk_io.specs.declared.Failed.{Failed}
use Rattle.tk_io.specs.declared.reading.ReadRefusal.{ReadRefusal}
use Rattle.tk_io.specs.declared.reading.ReadRefusal.TheVariants.{OutOfMemory, TooLong}
use Rattle.tk_io.specs.declared.reading.ReadRefusal.TheVariants.{Failed as ShelfFailed}
use Rattle.tk_io.specs.Shelf.{Shelved, Counts, Reads, HandsOut, LeavesOfInput, Leaves, all_kept, input_read, standard_input, with_input}
use Rattle.tk_io.specs.Reading.{ReadsAll}
use Rattle.tk_io.proofs.Told.{told_by, told_at}
use Rattle.tk_io.proofs.SoFar.{SoFar}

-- what a shelf holds under each name
abbrev Holds : Type 0
Holds = List ℕ → Option (List ℕ)

-- but for standard input both hold the same
abbrev Alike : Holds → Holds → Type 0
Alike now holds = (n : List ℕ) → n ≢ standard_input → now n ≡ holds n

-- a value of which it holds
some_of : {A : Type 0} (o : Option A) (P : A → Type 0) → IsSomeAnd o P → (x : A) × (o ≡ Some x) × P x
some_of None P h = absurd h
some_of (Some x) P h = (x, refl, h)

-- a name is that of standard input, or it is another
by_name : (n : List ℕ) → (n ≡ standard_input) ⊎ (n ≢ standard_input)
by_name n = by_test (bytes_eq n standard_input) (bytes_eq-Decides n standard_input)
  where
    by_test : (b : Bool) → Decides b (n ≡ standard_input) → (n ≡ standard_input) ⊎ (n ≢ standard_input)
    by_test true h = inl (h.0 refl)
    by_test false h = inr (λ (same : n ≡ standard_input). false≢true (h.1 same))

-- under every other name the shelf has what it had
pub with_input-other : (left : Option (List ℕ)) (holds : Holds) (n : List ℕ) → n ≢ standard_input → with_input left holds n ≡ holds n
with_input-other left holds n other = by_test (bytes_eq n standard_input) (λ e. other ((bytes_eq-Decides n standard_input).0 e))
  where
    by_test : (b : Bool) → (b ≡ true → ⊥) → (if b then left else holds n) ≡ holds n
    by_test true h = absurd (h refl)
    by_test false h = refl

-- what stands under the name of standard input is replaced
pub with_input-alike : (left : Option (List ℕ)) (now holds : Holds) → Alike now holds → with_input left now ≡ with_input left holds
with_input-alike left now holds alike = fun_ext (λ n. by_test n (bytes_eq n standard_input) refl)
  where
    by_test : (n : List ℕ) (b : Bool) → bytes_eq n standard_input ≡ b → (if b then left else now n) ≡ (if b then left else holds n)
    by_test n true e = refl
    by_test n false e =
        alike n (λ (same : n ≡ standard_input). false≢true (sym e ∙ subst (λ (m : List ℕ). bytes_eq m standard_input ≡ true) (sym same) refl))

-- what a call on a name does to the counts, after calls on the same name
Counts-more : (name : List ℕ) (old mid new : Shelved) → Counts name old mid → IfSome old.holds (λ holds. IsSomeAnd mid.holds (λ now. Alike now holds))
    → (name ≢ standard_input → mid.holds ≡ old.holds) → Counts name mid new → Counts name old new
Counts-more name old mid new before alike same after = record {
  no_fall = λ n. omega (arith, before.no_fall n, after.no_fall n);
  others = told_by old.holds (λ holds. (n : List ℕ) → holds n ≢ None → n ≢ name → new.faults n ≡ old.faults n) (λ holds e n has other.
      let here = some_of mid.holds (λ now. Alike now holds) (told_at old.holds (λ holds. IsSomeAnd mid.holds (λ now. Alike now holds)) holds e alike)
      in
      let kept : here.0 n ≡ holds n = under n other holds e here.0 here.1 here.2 in
      told_at mid.holds (λ now. (n : List ℕ) → now n ≢ None → n ≢ name → new.faults n ≡ mid.faults n) here.0 here.1 after.others n
      (λ (gone : here.0 n ≡ None). has (sym kept ∙ gone)) other
      ∙ told_at old.holds (λ holds. (n : List ℕ) → holds n ≢ None → n ≢ name → mid.faults n ≡ old.faults n) holds e before.others n has other);
  sure = after.sure ∙ before.sure;
}
  where
    under : (n : List ℕ) → n ≢ name → (holds : Holds) → old.holds ≡ Some holds → (now : Holds) → mid.holds ≡ Some now → Alike now holds
        → now n ≡ holds n
    under n other holds e now f alike = elim (by_name name) [
      | inl is ↦ alike n (λ (at : n ≡ standard_input). other (at ∙ sym is))
      | inr not ↦ (let same_holds : Some now ≡ Some holds = sym f ∙ same not ∙ e in let same_map : now ≡ holds = cc in ap (λ (h : Holds).
          h n) same_map)
    ]

-- what a shelf holds but for standard input, after a read
Alike-more : (name : List ℕ) (old mid new : Shelved) → IfSome old.holds (λ holds. IsSomeAnd mid.holds (λ now. Alike now holds))
    → (name ≢ standard_input → new.holds ≡ mid.holds)
    → (name ≡ standard_input → IfSome mid.holds (λ holds. new.holds ≡ Some (with_input new.left holds)))
    → IfSome old.holds (λ holds. IsSomeAnd new.holds (λ now. Alike now holds))
Alike-more name old mid new before other input =
    told_by old.holds (λ holds. IsSomeAnd new.holds (λ now. Alike now holds)) (λ holds e.
    let here = some_of mid.holds (λ now. Alike now holds) (told_at old.holds (λ holds. IsSomeAnd mid.holds (λ now. Alike now holds)) holds e before)
    in
    elim (by_name name) [
      | inl is ↦ subst (λ (o : Option Holds). IsSomeAnd o (λ now. Alike now holds)) (sym (told_at mid.holds (λ now. new.holds
          ≡ Some (with_input new.left now)) here.0 here.1 (input is)))
          (λ n ne. with_input-other new.left here.0 n ne ∙ here.2 n ne)
      | inr not ↦ subst (λ (o : Option Holds). IsSomeAnd o (λ now. Alike now holds)) (sym (other not ∙ here.1)) here.2
    ])

-- of standard input the rest is left after a read
rest_left :
    (name : List ℕ) (old mid new : Shelved) (n : ℕ)
    → name ≡ standard_input
    → IfSome old.holds (λ holds. IsSomeAnd mid.holds (λ now. Alike now holds))
    → (name ≡ standard_input → IfSome mid.holds (λ holds. new.holds ≡ Some (with_input new.left holds)))
    → IfSome old.holds (λ holds. new.left ≡ Some (drop n (unwrap_or (holds name) [])))
    → LeavesOfInput (drop n) old new
rest_left name old mid new n is others input left =
    told_by old.holds (λ holds. new.holds ≡ Some (with_input (Some (drop n (unwrap_or (holds standard_input) []))) holds)) (λ holds e.
    let here = some_of mid.holds (λ now. Alike now holds) (told_at old.holds (λ holds. IsSomeAnd mid.holds (λ now. Alike now holds)) holds e others)
    in
    told_at mid.holds (λ now. new.holds ≡ Some (with_input new.left now)) here.0 here.1 (input is)
    ∙ ap (λ (h : Holds). Some h) (with_input-alike new.left here.0 holds here.2)
    ∙ ap (λ (l : Option (List ℕ)). Some (with_input l holds)) (told_at old.holds (λ holds. new.left
    ≡ Some (drop n (unwrap_or (holds name) []))) holds e left)
    ∙ ap (λ (m : List ℕ). Some (with_input (Some (drop n (unwrap_or (holds m) []))) holds)) is)

-- what is left once so many bytes were taken
leaves_of : (name : List ℕ) (old now : Shelved) (bytes : List ℕ) → SoFar name old bytes now → Leaves name old now
leaves_of name old now bytes so = elim (by_name name) [
  | inl is ↦ by_length (length bytes) so.taken so.unmoved (so.moved is) is
  | inr other ↦ all_kept (so.holds other) (λ is. absurd (other is))
]
  where
    by_length : (n : ℕ) → now.taken ≡ n → (n ≡ 0 → now.holds ≡ old.holds) → (0 < n → LeavesOfInput (drop n) old now) → name ≡ standard_input
        → Leaves name old now
    by_length zero taken unmoved moved is = all_kept (unmoved refl) (λ _. taken)
    by_length (suc n) taken unmoved moved is = input_read is (subst (λ (k : ℕ). LeavesOfInput (drop k) old now) (sym taken) (moved (omega arith)))

-- one read more
pub SoFar-more : (name : List ℕ) (old mid new : Shelved) (bytes buffer : List ℕ) (n : ℕ) → SoFar name old bytes mid → Reads name mid new (Ok n) buffer
    → n ≢ 0 → length bytes + n ≤ 16777217 → SoFar name old (bytes ++ take n buffer) new
SoFar-more name old mid new bytes buffer n before read some fits = record {
  counts = Counts-more name old mid new before.counts before.others before.holds read.counts;
  is_open = ap (λ (f : List ℕ → Bool). f name) read.is_open ∙ before.is_open;
  taken = read.taken ∙ omega (arith, before.taken, len);
  front = told_by old.holds (λ holds. bytes ++ take n buffer ≡ take (length (bytes ++ take n buffer)) (unwrap_or (holds name) [])) (λ holds e.
      let whole_file = unwrap_or (holds name) [] in
      let out = handed holds e in
      ap (λ (w : List ℕ). w ++ take n buffer) (told_at old.holds (λ holds. bytes ≡ take (length bytes) (unwrap_or (holds name) [])) holds
      e before.front)
      ∙ ap (λ (w : List ℕ). take (length bytes) whole_file ++ w) out.front
      ∙ sym (take-add (length bytes) n whole_file)
      ∙ ap (λ (k : ℕ). take k whole_file) (sym len));
  left = left_so;
  there = before.there;
  holds = λ other. read.holds other ∙ before.holds other;
  others = Alike-more name old mid new before.others read.holds read.input;
  unmoved = λ none. absurd (some (omega (arith, none, len)));
  moved = λ is _. rest_left name old mid new (length (bytes ++ take n buffer)) is before.others read.input left_so;
}
  where
    len : length (bytes ++ take n buffer) ≡ length bytes + n
    len = omega (arith, length-append bytes (take n buffer), length-take n buffer, read.bound)

    handed : (holds : Holds) → old.holds ≡ Some holds → HandsOut n buffer (drop (length bytes) (unwrap_or (holds name) [])) new.left
    handed holds e = told_at mid.left (λ left. HandsOut n buffer left new.left) (drop (length bytes) (unwrap_or (holds name) []))
        (told_at old.holds (λ holds. mid.left ≡ Some (drop (length bytes) (unwrap_or (holds name) []))) holds e before.left) read.bytes

    left_so : IfSome old.holds (λ holds. new.left ≡ Some (drop (length (bytes ++ take n buffer)) (unwrap_or (holds name) [])))
    left_so = told_by old.holds (λ holds. new.left ≡ Some (drop (length (bytes ++ take n buffer)) (unwrap_or (holds name) []))) (λ holds e.
        let whole = unwrap_or (holds name) [] in
        (handed holds e).rest ∙ ap (λ (w : List ℕ). Some w) (drop-drop n (length bytes) whole ∙ ap (λ (k : ℕ). drop k whole) (sym len)))

-- the shelf has the name, or it is sure
there_at : (name : List ℕ) (old now : Shelved) (bytes : List ℕ) (C : Type 0) → SoFar name old bytes now
    → IfSome old.holds (λ holds. holds name ≡ None → old.sure ≡ false → C)
there_at name old now bytes C so =
    told_by old.holds (λ holds. holds name ≡ None → old.sure ≡ false → C) (λ holds e gone unsure.
    absurd (told_at old.holds (λ holds. holds name ≡ None → old.sure ≡ false → ⊥) holds e so.there gone unsure))

-- a file that is too long is refused, whatever the refusal
too_long_is_refused : (old : Shelved) (name : List ℕ) → IfSome old.holds (λ holds. 16777216 < length (unwrap_or (holds name) []) → true ≡ true)
too_long_is_refused old name = told_by old.holds (λ holds. 16777216 < length (unwrap_or (holds name) []) → true ≡ true) (λ holds e long. refl)

-- the front of a buffer was appended
pub taken_bytes_appended : (new bytes buffer rest : List ℕ) (n : ℕ) → n ≤ length buffer → new ≡ bytes ++ take n (buffer ++ rest)
    → new ≡ bytes ++ take n buffer
taken_bytes_appended new bytes buffer rest n fits is = is ∙ ap (λ (w : List ℕ). bytes ++ w) (take-append-le n buffer rest fits)

-- a read of nothing was the end
pub ReadsAll-end : (name : List ℕ) (old mid new : Shelved) (bytes buffer : List ℕ) → SoFar name old bytes mid → Reads name mid new (Ok 0) buffer
    → length bytes ≤ 16777216 → 0 < length buffer → ReadsAll name old new (Ok bytes)
ReadsAll-end name old mid new bytes buffer before read short room = record {
  counts = Counts-more name old mid new before.counts before.others before.holds read.counts;
  bytes = told_by old.holds (λ holds. bytes ≡ unwrap_or (holds name) []) whole;
  short = short;
  taken = taken_so;
  end = told_by old.holds (λ holds. new.left ≡ Some []) at_end;
  is_open = ap (λ (f : List ℕ → Bool). f name) read.is_open ∙ before.is_open;
  failed = λ e. cc;
  sure = λ _ e. cc;
  missing = there_at name old mid bytes (Ok bytes ≡ Err ShelfFailed) before;
  too_many = λ e. cc;
  too_long = λ e. cc;
  long = told_by old.holds (λ holds. 16777216 < length (unwrap_or (holds name) [])
      → false ≡ true) (λ holds e long. absurd (omega (arith, long, short, ap length (whole holds e))));
  leaves = elim (by_name name) [
    | inl is ↦ input_read is (subst (λ (k : ℕ). LeavesOfInput (drop k) old new) (sym taken_so) (rest_left name old mid new (length bytes) is
        before.others read.input left_so))
    | inr other ↦ all_kept (read.holds other ∙ before.holds other) (λ is. absurd (other is))
  ];
  emptied = λ is. told_by old.holds (λ holds. new.holds ≡ Some (with_input (Some []) holds)) (λ holds e.
      told_at old.holds (λ holds. new.holds ≡ Some (with_input (Some (drop (length bytes) (unwrap_or (holds standard_input) []))) holds)) holds e
      (rest_left name old mid new (length bytes) is before.others read.input left_so)
      ∙ ap (λ (w : List ℕ). Some (with_input (Some w) holds)) (ap (λ (m : List ℕ). drop (length bytes) (unwrap_or (holds m) [])) (sym is)
      ∙ none_left holds e));
  long_input = λ _ e. cc;
}
  where
    left_is : (holds : Holds) → old.holds ≡ Some holds → mid.left ≡ Some (drop (length bytes) (unwrap_or (holds name) []))
    left_is holds e = told_at old.holds (λ holds. mid.left ≡ Some (drop (length bytes) (unwrap_or (holds name) []))) holds e before.left

    taken_so : new.taken ≡ length bytes
    taken_so = read.taken ∙ omega (arith, before.taken)

    left_so : IfSome old.holds (λ holds. new.left ≡ Some (drop (length bytes) (unwrap_or (holds name) [])))
    left_so = told_by old.holds (λ holds. new.left ≡ Some (drop (length bytes) (unwrap_or (holds name) []))) (λ holds e.
        (told_at mid.left (λ left. HandsOut 0 buffer left new.left) (drop (length bytes) (unwrap_or (holds name) [])) (left_is holds e)
        read.bytes).rest)

    none_left : (holds : Holds) → old.holds ≡ Some holds → drop (length bytes) (unwrap_or (holds name) []) ≡ []
    none_left holds e = told_at mid.left (λ left. left ≡ []) (drop (length bytes) (unwrap_or (holds name) [])) (left_is holds e) (read.ends refl room)

    at_end : (holds : Holds) → old.holds ≡ Some holds → new.left ≡ Some []
    at_end holds e =
        let out = told_at mid.left (λ left. HandsOut 0 buffer left new.left) (drop (length bytes) (unwrap_or (holds name) []))
        (left_is holds e) read.bytes in
        out.rest ∙ ap (λ (w : List ℕ). Some (drop 0 w)) (none_left holds e)

    whole : (holds : Holds) → old.holds ≡ Some holds → bytes ≡ unwrap_or (holds name) []
    whole holds e =
        let whole_file = unwrap_or (holds name) [] in
        let short : length whole_file ≤ length bytes = omega (arith, length-drop (length bytes) whole_file, ap length (none_left holds e)) in
        told_at old.holds (λ holds. bytes ≡ take (length bytes) (unwrap_or (holds name) [])) holds e before.front
        ∙ take_all (length bytes) whole_file short

-- an error is passed on
pub ReadsAll-error : {T : Type 0} (f : T → List ℕ) (name : List ℕ) (old new : Shelved) (result : Result T ReadRefusal) (e : ReadRefusal)
    → IsErrAnd result (λ x. x ≡ e) → ReadsAll name old new (Err e) → ReadsAll name old new (result_map_both f (λ e. e) result)
ReadsAll-error f name old new (Ok x) e h reads = absurd h
ReadsAll-error f name old new (Err x) e h reads = subst (λ (x : ReadRefusal). ReadsAll name old new (Err x)) (sym h) reads

-- a read failed
pub ReadsAll-failed : (name : List ℕ) (old mid new : Shelved) (bytes buffer : List ℕ) (failed : Failed) → SoFar name old bytes mid
    → Reads name mid new (Err failed) buffer → ReadsAll name old new (Err ShelfFailed)
ReadsAll-failed name old mid new bytes buffer failed before read = record {
  counts = Counts-more name old mid new before.counts before.others before.holds read.counts;
  bytes = tt;
  short = tt;
  taken = tt;
  end = tt;
  is_open = tt;
  failed = λ _. omega (arith, before.counts.no_fall name, read.cause);
  sure = λ sure _. false≢true (read.sure (before.counts.sure ∙ sure));
  missing = there_at name old mid bytes (Err ShelfFailed ≡ Err ShelfFailed) before;
  too_many = λ e. cc;
  too_long = λ e. cc;
  long = too_long_is_refused old name;
  leaves = elim (by_name name) [
    | inl is ↦ input_read is (subst (λ (k : ℕ). LeavesOfInput (drop k) old new) (sym (read.none_taken ∙ before.taken)) (rest_left name old mid new
        (length bytes) is before.others read.input left_so))
    | inr other ↦ all_kept (read.holds other ∙ before.holds other) (λ is. absurd (other is))
  ];
  emptied = λ _. tt;
  long_input = λ _ e. cc;
}
  where
    left_so : IfSome old.holds (λ holds. new.left ≡ Some (drop (length bytes) (unwrap_or (holds name) [])))
    left_so = told_by old.holds (λ holds. new.left ≡ Some (drop (length bytes) (unwrap_or (holds name) []))) (λ holds e.
        read.all_left ∙ told_at old.holds (λ holds. mid.left ≡ Some (drop (length bytes) (unwrap_or (holds name) []))) holds e before.left)

-- no memory was left
pub ReadsAll-no_memory : (name : List ℕ) (old now : Shelved) (bytes : List ℕ) → SoFar name old bytes now → ReadsAll name old now (Err OutOfMemory)
ReadsAll-no_memory name old now bytes so = record {
  counts = so.counts;
  bytes = tt;
  short = tt;
  taken = tt;
  end = tt;
  is_open = tt;
  failed = λ e. cc;
  sure = λ _ e. cc;
  missing = there_at name old now bytes (Err OutOfMemory ≡ Err ShelfFailed) so;
  too_many = λ e. cc;
  too_long = λ e. cc;
  long = too_long_is_refused old name;
  leaves = leaves_of name old now bytes so;
  emptied = λ _. tt;
  long_input = λ _ e. cc;
}

-- a file went on behind the longest input
pub ReadsAll-too_long : (name : List ℕ) (old now : Shelved) (bytes : List ℕ) → SoFar name old bytes now → length bytes ≡ 16777217
    → ReadsAll name old now (Err TooLong)
ReadsAll-too_long name old now bytes so long = record {
  counts = so.counts;
  bytes = tt;
  short = tt;
  taken = tt;
  end = tt;
  is_open = tt;
  failed = λ e. cc;
  sure = λ _ e. cc;
  missing = there_at name old now bytes (Err TooLong ≡ Err ShelfFailed) so;
  too_many = λ e. so.taken ∙ long;
  too_long = λ e. told_by old.holds (λ holds. 16777216 < length (unwrap_or (holds name) [])) (λ holds h.
      let front = told_at old.holds (λ holds. bytes ≡ take (length bytes) (unwrap_or (holds name) [])) holds h so.front in
      omega (arith, ap length front, length-take (length bytes) (unwrap_or (holds name) []), long));
  long = too_long_is_refused old name;
  leaves = leaves_of name old now bytes so;
  emptied = λ _. tt;
  long_input = λ is _. subst (λ (k : ℕ). LeavesOfInput (drop k) old now) long (so.moved is (omega (arith, long)));
}
