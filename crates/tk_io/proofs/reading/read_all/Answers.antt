use Rattle.std.proofs.Common.{◌≡◌, ◌+◌, List, ℕ, length, take, drop, subst, sym, ap, ◌∙◌, arith, Ok}
use Rattle.std.proofs.lemmas.List.{length-append, length-take, length-drop}
use Rattle.tk_io.specs.Shelf.{Reads}
use Rattle.tk_io.proofs.SoFar.{SoFar}
use Rattle.tk_io.proofs.ReadSteps.{taken_bytes_appended, SoFar-more, ReadsAll-end, ReadsAll-failed, ReadsAll-no_memory, ReadsAll-too_long}
use Rattle.tk_io.proofs.ReadSteps.{ReadsAll-error}
use Rattle.tk_io.proofs.reading.read_all.Goals as goal

pub returns-in_err-count : goal.returns-in_err-count
returns-in_err-count g c =
    let so_far = c.loop-buffer.invariant.so_far in
    ReadsAll-error _ _ _ _ _ _ c.from_residual-in_err-count.ensures.1
    (ReadsAll-failed _ _ _ _ _ _ _ so_far (c.in_err-count.ensures c.args.name.now so_far.is_open))

pub returns-then-count-eq0 : goal.returns-then-count-eq0
returns-then-count-eq0 g c =
    let so_far = c.loop-buffer.invariant.so_far in
    let read = subst (λ (n : ℕ). Reads c.args.name.now (g.H.Shelf.meaning c.loop-buffer.shelf) (g.H.Shelf.meaning c.read.new.self) (Ok n)
    c.read.new.buf) c.if-count-eq0.true (c.in_ok-count.ensures c.args.name.now so_far.is_open) in
    let room : length c.read.new.buf ≡ c.min-room.result = c.read.auto.buf ∙ omega (arith, length-take c.min-room.result c.loop-buffer.buffer) in
    ReadsAll-end _ _ _ _ _ _ so_far read (omega arith) (omega (arith, room))

pub loop-buffer-preserved : goal.loop-buffer-preserved
loop-buffer-preserved g c =
    let so_far = c.loop-buffer.invariant.so_far in
    let read = c.in_ok-count.ensures c.args.name.now so_far.is_open in
    let bytes = taken_bytes_appended _ c.loop-buffer.bytes.items c.read.new.buf (drop c.min-room.result c.loop-buffer.buffer) c.in_ok-count.count
    read.bound c.in_ok-extend_from_slice.ensures.items in
    let len : length c.extend_from_slice.new.self.items ≡ length c.loop-buffer.bytes.items + c.in_ok-count.count = ap length bytes
    ∙ omega (
      arith,
      length-append c.loop-buffer.bytes.items (take c.in_ok-count.count c.read.new.buf),
      length-take c.in_ok-count.count
          c.read.new.buf,
      read.bound,
    ) in
    let room : length c.read.new.buf ≡ c.min-room.result = c.read.auto.buf ∙ omega (arith, length-take c.min-room.result c.loop-buffer.buffer) in
    record {
      so_far = subst (λ (w : List ℕ). SoFar c.args.name.now (g.H.Shelf.meaning c.args.shelf.now) w (g.H.Shelf.meaning c.read.new.self)) (sym bytes)
          (SoFar-more _ _ _ _ _ _ _ so_far read c.if-count-eq0.false (omega (arith, room, read.bound)));
      most = omega (arith, len, room, read.bound);
      wide = omega (
        arith,
        room,
        length-append c.read.new.buf (drop c.min-room.result c.loop-buffer.buffer),
        length-drop c.min-room.result
            c.loop-buffer.buffer,
      );
    }

pub returns-in_err-extend_from_slice : goal.returns-in_err-extend_from_slice
returns-in_err-extend_from_slice g c =
    let so_far = c.loop-buffer.invariant.so_far in
    let read = c.in_ok-count.ensures c.args.name.now so_far.is_open in
    let room : length c.read.new.buf ≡ c.min-room.result = c.read.auto.buf ∙ omega (arith, length-take c.min-room.result c.loop-buffer.buffer) in
    ReadsAll-error _ _ _ _ _ _ c.from_residual-in_err-extend_from_slice.ensures.1
    (ReadsAll-no_memory _ _ _ _ (SoFar-more _ _ _ _ _ _ _ so_far read c.if-count-eq0.false (omega (arith, room, read.bound))))

pub returns : goal.returns
returns g c = ReadsAll-too_long _ _ _ _ c.loop-buffer.invariant.so_far (omega arith)
