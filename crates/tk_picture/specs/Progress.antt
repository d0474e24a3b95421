-- What comes back from behind the end of commands.
use Rattle.std.specs.Prelude.{ℕ}
use Rattle.tk_expand.specs.Unread.{Unread}
use Rattle.tk_path.specs.Configurations.{Configuration}
use Rattle.tk_path.specs.Pictures.{Picture}

-- what comes back from behind an end: the picture so far, the list that is left, and the units paid so far
pub record Progress : Type 0 where
  pub picture : Picture
  pub list : Unread
  pub units : ℕ

-- what comes back where an end was met
abbrev pub progress_at : Configuration → Progress
progress_at c = record { picture = c.picture; list = c.list; units = c.units }

-- the run goes on with what came back
abbrev pub with_progress : Configuration → Progress → Configuration
with_progress c p = record c { picture = p.picture; list = p.list; units = p.units }
