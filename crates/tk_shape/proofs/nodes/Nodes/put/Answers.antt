use Rattle.std.proofs.Common.{◌∙◌, ap}
use Rattle.std.specs.String.{string_bytes}
use Rattle.std.specs.FinMap as map
use Rattle.tk_shape.specs.Nodes.{NamedNodes}
use Rattle.tk_shape.proofs.NamesGiven.{name_given}
use Rattle.tk_shape.proofs.nodes.Nodes.put.Goals as goal

pub returns-clause-ok : goal.returns-clause-ok
returns-clause-ok c =
    name_given c.self.inside.records c.insert.new.self c.in_ok-name.name c.args.node c.in_ok-insert.ensures.updates
    ∙ ap (λ (nodes : NamedNodes). map.insert nodes (string_bytes c.in_ok-name.name) c.args.node) c.self.view_is
    ∙ ap (λ name. map.insert c.args.self.now name c.args.node) c.in_ok-name.ensures.ok
