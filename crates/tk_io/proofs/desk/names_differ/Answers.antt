use Rattle.std.proofs.Common.{◌≡◌, ℕ, ◌<◌, List, false, length, nat_eq, Option, Some, refl, sym, ap, ◌∙◌, arith}
use Rattle.std.specs.Prelude.{not, position, string_bytes}
use Rattle.std.specs.Option.{option_eq}
use Rattle.std.specs.Str.{bytes_eq}
use Rattle.std.proofs.lemmas.Bool.{false≢true, eq-eqb}
use Rattle.tk_io.specs.declared.desk.MemFile.{MemFile}
use Rattle.tk_io.proofs.Names.{NamesDiffer-from_first, NamesDiffer-first}
use Rattle.tk_io.proofs.desk.names_differ.Goals as goal

pub returns-then-ne : goal.returns-then-ne
returns-then-ne c = (
  λ e. absurd (false≢true e),
  λ differ.
      let files : List MemFile = c.args.files.now in
      let place = c.loop-place.place in
      let within : place < length files = omega arith in
      let named = c.as_str.ensures.value ∙ ap (λ (file : MemFile). string_bytes file.name) c.index-files-place.is in
      let first = c.place_in.ensures ∙ ap (λ (name : List ℕ). position (λ file. bytes_eq (string_bytes file.name) name) files) named
      ∙ NamesDiffer-first files place c.index-files-place.result within differ in
      let same : c.ne.result ≡ false = c.ne.ensures ∙ ap (λ (o : Option ℕ). not (option_eq nat_eq o (Some place))) first
      ∙ ap not (eq-eqb place place refl) in
      absurd (false≢true (sym same ∙ c.if-ne.true)),
)

pub returns : goal.returns
returns c = (λ _. NamesDiffer-from_first c.args.files.now (λ k within. c.loop-place.invariant k (omega arith)), λ _. refl)
