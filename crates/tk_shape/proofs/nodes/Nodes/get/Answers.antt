use Rattle.std.proofs.Common.{◌∙◌, ap, sym}
use Rattle.std.specs.FinMap as map
use Rattle.tk_shape.specs.Nodes.{NamedNodes}
use Rattle.tk_shape.proofs.NamesGiven.{named}
use Rattle.tk_shape.proofs.nodes.Nodes.get.Goals as goal

pub returns : goal.returns
returns c =
    c.get.ensures.value
    ∙ sym (named c.self.inside.records.entries c.args.name.now)
    ∙ ap (λ (nodes : NamedNodes). map.get nodes c.args.name.now) c.self.view_is
