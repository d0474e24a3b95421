use Rattle.tk_render.proofs.Rendering.{is_svg_of}
use Rattle.tk_render.proofs.render_counting.Goals as goal

pub returns-in-Ok-clause-document : goal.returns-in-Ok-clause-document
returns-in-Ok-clause-document g c =
    is_svg_of c.document_means_one.ensures c.args.asked c.args.source.now c.in_ok-write_svg-in-Ok.field-0.items c.in-Ok.compiled
    c.in-Ok.ensures.compiled c.in_ok-write_svg-in-Ok.ensures.text c.in_ok-write_svg-in-Ok.ensures.means
