use Rattle.std.proofs.Common.{subst}
use Rattle.tk_io.specs.Desk.{IsDesk}
use Rattle.tk_io.proofs.DeskFiles.{in_place}
use Rattle.tk_io.proofs.desk.Desk.hand_out.Goals as goal

pub file-file-requires : goal.file-file-requires
file-file-requires c =
    let desk : IsDesk c.args.self.now = subst IsDesk c.self.view_is c.self.invariant in
    in_place c.args.self.now c.args.place _ (desk.first c.args.place c.requires)
