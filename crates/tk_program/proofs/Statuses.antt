-- What the status of an end tells.
use Rattle.std.proofs.Common.{◌≡◌, ◌≢◌, ◌⊎◌, inl, inr, ℕ, ◌<◌, ◌≤◌, List, [], length, Option, Some, None, Result, Ok, Err, IfSome, unwrap_or, refl}
use Rattle.std.proofs.Common.{ap, sym, subst, ◌∙◌, arith}
use denote.Enum.Declared.{tag_of}
use Rattle.tk_token.specs.declared.Fault.{Fault}
use Rattle.tk_token.specs.Answers.{Answer}
use Rattle.tk_item.specs.declared.Drawing.{Drawing}
use Rattle.tk_io.specs.Shelf.{Shelved}
use Rattle.tk_program.specs.declared.program.Status.{Status}
use Rattle.tk_program.specs.declared.program.Status.TheVariants as statuses
use Rattle.tk_program.specs.contracts.program.Status.{the_type}
use Rattle.tk_picture.specs.declared.Asked.{Asked}
use Rattle.tk_render.specs.Rendered.{ComesTo}
use Rattle.tk_program.specs.Words.{Order, Command, Render}
use Rattle.tk_program.specs.Lines.{fault_line}
use Rattle.tk_program.specs.Run.{World, IsTold, WasRead, WasTooLong, Says, WritesDocument, Done, HasFault, IsTooLong, ReadFails, WriteFails}
use Rattle.tk_program.specs.Run.{LacksMemory, UsesOne, Completes, NamesFault, RefusesLong, Renders, Runs}
use Rattle.tk_program.specs.Endings.{Ends, done, fault, too_long, read_fault, write_fault, out_of_memory, EndsAsAsked}

-- the number of a status
abbrev pub number : Status → ℕ
number statuses.Done = 0
number statuses.Fault = 1
number statuses.Usage = 2
number statuses.ReadFault = 3
number statuses.WriteFault = 4
number statuses.OutOfMemory = 5

number_small : (s : Status) → number s ≤ 5
number_small statuses.Done = omega arith
number_small statuses.Fault = omega arith
number_small statuses.Usage = omega arith
number_small statuses.ReadFault = omega arith
number_small statuses.WriteFault = omega arith
number_small statuses.OutOfMemory = omega arith

module _ {order : Order} {b a : World} where
  done_at : {s : Status} → Ends order b a s → number s ≡ 0 → Done order b a
  done_at (done r) e = r
  done_at (fault r) e = absurd (omega arith)
  done_at (too_long r) e = absurd (omega arith)
  done_at (read_fault r) e = absurd (omega arith)
  done_at (write_fault r) e = absurd (omega arith)
  done_at (out_of_memory r) e = absurd (omega arith)

  fault_at : {s : Status} → Ends order b a s → number s ≡ 1 → HasFault order b a ⊎ IsTooLong order.file b a
  fault_at (done r) e = absurd (omega arith)
  fault_at (fault r) e = inl r
  fault_at (too_long r) e = inr r
  fault_at (read_fault r) e = absurd (omega arith)
  fault_at (write_fault r) e = absurd (omega arith)
  fault_at (out_of_memory r) e = absurd (omega arith)

  not_usage_at : {s : Status} → Ends order b a s → number s ≡ 2 → ⊥
  not_usage_at (done r) e = omega arith
  not_usage_at (fault r) e = omega arith
  not_usage_at (too_long r) e = omega arith
  not_usage_at (read_fault r) e = omega arith
  not_usage_at (write_fault r) e = omega arith
  not_usage_at (out_of_memory r) e = omega arith

  read_fault_at : {s : Status} → Ends order b a s → number s ≡ 3 → ReadFails order.file b a
  read_fault_at (done r) e = absurd (omega arith)
  read_fault_at (fault r) e = absurd (omega arith)
  read_fault_at (too_long r) e = absurd (omega arith)
  read_fault_at (read_fault r) e = r
  read_fault_at (write_fault r) e = absurd (omega arith)
  read_fault_at (out_of_memory r) e = absurd (omega arith)

  write_fault_at : {s : Status} → Ends order b a s → number s ≡ 4 → WriteFails order b a
  write_fault_at (done r) e = absurd (omega arith)
  write_fault_at (fault r) e = absurd (omega arith)
  write_fault_at (too_long r) e = absurd (omega arith)
  write_fault_at (read_fault r) e = absurd (omega arith)
  write_fault_at (write_fault r) e = r
  write_fault_at (out_of_memory r) e = absurd (omega arith)

  memory_at : {s : Status} → Ends order b a s → number s ≡ 5 → LacksMemory b a
  memory_at (done r) e = absurd (omega arith)
  memory_at (fault r) e = absurd (omega arith)
  memory_at (too_long r) e = absurd (omega arith)
  memory_at (read_fault r) e = absurd (omega arith)
  memory_at (write_fault r) e = absurd (omega arith)
  memory_at (out_of_memory r) e = r

  untouched_at : {s : Status} → Ends order b a s → number s ≢ 0 → number s ≢ 4 → a.out ≡ b.out
  untouched_at (done r) n m = absurd (n refl)
  untouched_at (fault r) n m = r.untouched
  untouched_at (too_long r) n m = r.untouched
  untouched_at (read_fault r) n m = r.untouched
  untouched_at (write_fault r) n m = absurd (m refl)
  untouched_at (out_of_memory r) n m = r.untouched

-- ---- the other direction

ok_same : (d e : Drawing) (r : Result Drawing Fault) → r ≡ Ok d → r ≡ Ok e → d ≡ e
ok_same d e r p q = cc

ok_is_no_err : (d : Drawing) (f : Fault) (r : Result Drawing Fault) → r ≡ Ok d → r ≡ Err f → ⊥
ok_is_no_err d f r e g = cc

err_same : (f g : Fault) (r : Result Drawing Fault) → r ≡ Err f → r ≡ Err g → f ≡ g
err_same f g r e h = cc

same_source : (shelf after : Shelved) (file source read : List ℕ) → IsTold file source shelf after → WasRead file read shelf after → read ≡ source
same_source shelf after file source read h w = subst (λ o. IfSome o (λ holds. read ≡ unwrap_or (holds file) [])) h.told w.is_source ∙ sym h.is

long_source : (shelf after : Shelved) (file source : List ℕ) → IsTold file source shelf after → WasTooLong file shelf after → 16777216 < length source
long_source shelf after file source h w =
    subst (λ (bytes : List ℕ). 16777216 < length bytes) (sym h.is) (subst (λ o. IfSome o (λ holds. 16777216 < length (unwrap_or (holds file) [])))
    h.told w.long)

-- a source comes to one drawing or fault
abbrev pub OneAnswer : Type 0
OneAnswer = (asked : Asked) (source : List ℕ) (a b : Answer Drawing) → ComesTo asked source a → ComesTo asked source b → a ≡ b

module _ (law : OneAnswer) (order : Order) (b a : World) where
  -- what was drawn or broken was this source
  drawn_is : (source read : List ℕ) (r s : Result Drawing Fault) → IsTold order.file source b.shelf a.shelf → WasRead order.file read b.shelf a.shelf
      → ComesTo order.asked read r → ComesTo order.asked source s → r ≡ s
  drawn_is source read r s holds w is this =
      law order.asked source r s (subst (λ (bytes : List ℕ). ComesTo order.asked bytes r) (same_source b.shelf a.shelf order.file source read
      holds w) is) this

  completes_at : {s : Status} → Ends order b a s → Completes order b a (number s)
  completes_at (done r) source drawing told short is writes =
      let this = ok_same r.drawing drawing (Ok drawing) (sym (drawn_is source r.drawn.source (Ok r.drawing) (Ok drawing) told r.drawn.read
      r.drawn.is is)) refl in
      inl (refl, subst (λ (d : Drawing). WritesDocument d b.out a.out) this r.written)
  completes_at (fault r) source drawing told short is writes =
      absurd (ok_is_no_err drawing r.fault (Ok drawing) refl (sym (drawn_is source r.source (Err r.fault) (Ok drawing) told r.broken.read
      r.broken.broken.is is)))
  completes_at (too_long r) source drawing told short is writes =
      absurd (let long : 16777216 < length source = long_source b.shelf a.shelf order.file source told r.long in omega arith)
  completes_at (read_fault r) source drawing told short is writes = absurd (told.sound r.cause)
  completes_at (write_fault r) source drawing told short is writes = absurd (writes r.cause)
  completes_at (out_of_memory r) source drawing told short is writes = inr refl

  names_at : {s : Status} → Ends order b a s → NamesFault order b a (number s)
  names_at (done r) source f told short is =
      absurd (ok_is_no_err r.drawing f (Err f) (sym (drawn_is source r.drawn.source (Ok r.drawing) (Err f) told r.drawn.read r.drawn.is is)) refl)
  names_at (fault r) source f told short is =
      let same = same_source b.shelf a.shelf order.file source r.source told r.broken.read in
      let this = err_same r.fault f (Err f) (sym (drawn_is source r.source (Err r.fault) (Err f) told r.broken.read r.broken.broken.is is)) refl in
      inl (
        refl,
        subst (λ (bytes : List ℕ). Says b.err a.err (fault_line order.file bytes f)) same
            (subst (λ (g : Fault). Says b.err a.err (fault_line order.file r.source g)) this r.says),
      )
  names_at (too_long r) source f told short is =
      absurd (let long : 16777216 < length source = long_source b.shelf a.shelf order.file source told r.long in omega arith)
  names_at (read_fault r) source f told short is = absurd (told.sound r.cause)
  names_at (write_fault r) source f told short is =
      absurd (ok_is_no_err r.drawing f (Err f) (sym (drawn_is source r.drawn.source (Ok r.drawing) (Err f) told r.drawn.read r.drawn.is is)) refl)
  names_at (out_of_memory r) source f told short is = inr refl

  -- a longer file wasn't read
  too_short : (source read : List ℕ) → IsTold order.file source b.shelf a.shelf → WasRead order.file read b.shelf a.shelf → 16777216 < length source → ⊥
  too_short source read told w long
      = let short : length source ≤ 16777216 = subst (λ (bytes : List ℕ). length bytes ≤ 16777216) (same_source b.shelf a.shelf order.file source read told w) w.short in omega arith

  refuses_at : {s : Status} → Ends order b a s → RefusesLong order.file b a (number s)
  refuses_at (done r) source told long = absurd (too_short source r.drawn.source told r.drawn.read long)
  refuses_at (fault r) source told long = absurd (too_short source r.source told r.broken.read long)
  refuses_at (too_long r) source told long = inl (refl, r.says)
  refuses_at (read_fault r) source told long = absurd (told.sound r.cause)
  refuses_at (write_fault r) source told long = absurd (too_short source r.drawn.source told r.drawn.read long)
  refuses_at (out_of_memory r) source told long = inr refl

  -- what the status of `render` tells
  renders_of : (s : Status) → Ends order b a s → UsesOne order.file b.shelf a.shelf → Renders order b a (number s)
  renders_of s end one_file = record {
    known = number_small s;
    done = done_at end;
    refused = fault_at end;
    asked = not_usage_at end;
    read = read_fault_at end;
    write = write_fault_at end;
    memory = memory_at end;
    untouched = untouched_at end;
    completes = completes_at end;
    names_fault = names_at end;
    refuses_long = refuses_at end;
    one_file = one_file;
  }

-- a run, from how it ended
pub run_of : (law : OneAnswer) (asked : Option Command) (b a : World) (s : Status) → EndsAsAsked asked b a s → Runs asked b a (number s)
run_of law None b a s end = (ap number end.0, end.1)
run_of law (Some (Render order)) b a s end = renders_of law order b a s end.0 end.1

pub tag_is : (s : Status) → tag_of the_type s ≡ number s
tag_is statuses.Done = refl
tag_is statuses.Fault = refl
tag_is statuses.Usage = refl
tag_is statuses.ReadFault = refl
tag_is statuses.WriteFault = refl
tag_is statuses.OutOfMemory = refl
