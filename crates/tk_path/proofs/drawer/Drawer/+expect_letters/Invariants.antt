use Rattle.std.proofs.Common.{length}
use Rattle.tk_path.proofs.drawer.Drawer.+expect_letters.Given as goal

abbrev pub decreases-expect_letters : goal.decreases-expect_letters
decreases-expect_letters l = length l.letters.now
