use Rattle.std.proofs.Common.{rules, ◌≡◌, ◌∙◌, sym}
use Rattle.std.proofs.lemmas.Bool.Decides.{Decides-int_eq}
use Rattle.std.proofs.lemmas.Slice.Eq.{slice_eq-Decides}
use Rattle.tk_svgwrite.proofs.Strokes.{same_stroke}
use Rattle.tk_svgwrite.proofs.presentation.is_same.Goals as goal

pub returns : goal.returns
returns c h =
    let rgb : c.args.one.now.rgb ≡ c.args.other.now.rgb = search rules in
    let cap : c.args.one.now.cap ≡ c.args.other.now.cap = search rules in
    let join : c.args.one.now.join ≡ c.args.other.now.join = search rules in
    let width : c.args.one.now.width ≡ c.args.other.now.width = search rules in
    let miter : c.args.one.now.miter ≡ c.args.other.now.miter = search rules in
    let phase : c.args.one.now.phase ≡ c.args.other.now.phase = search rules in
    let dashes = (slice_eq-Decides Decides-int_eq c.as_slice.result.now c.as_slice-2.result.now c.eq.result c.eq.ensures).0 h in
    let dash : c.args.one.now.dash ≡ c.args.other.now.dash = sym c.as_slice.ensures.value ∙ dashes ∙ c.as_slice-2.ensures.value in
    same_stroke c.args.one.now c.args.other.now rgb width cap join miter dash phase
