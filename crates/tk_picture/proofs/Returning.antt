-- How a run comes back from behind the end of commands.
use Rattle.std.specs.Prelude.{◌≡◌, ℕ, ◌+◌, ◌≤◌}
use Rattle.tk_expand.specs.Expand.{Stream, stream, work}
use Rattle.tk_expand.proofs.Places.{StandAt}
use Rattle.tk_keys.specs.Given.{Given}
use Rattle.tk_path.specs.Configurations.{Configuration, stream_at}
use Rattle.tk_keys.proofs.Narrow.{IfNarrow}
use Rattle.tk_path.proofs.Places.{Here}
use Rattle.tk_path.proofs.Ranges.{PictureIn}
use Rattle.tk_picture.specs.Progress.{Progress, progress_at, with_progress}

-- the units and the list that came back
abbrev pub stream_back : Progress → Stream
stream_back p = stream p.units p.list

module _ (P : ℕ → Type 0) (given : Given) (from : Configuration) where
  -- this came back from behind an end, and so much of the work is gone; what is drawn is in range
  pub record Back (gone : ℕ) (p : Progress) : Type 0 where
    pub end : p.list.end ≡ from.list.end
    pub units : from.units ≤ p.units
    pub work : work given.budget (stream_back p) + gone ≤ work given.budget (stream_at from)
    pub rest : StandAt P p.list.rest
    pub last : P p.list.end
    pub drawn : IfNarrow P (PictureIn p.picture)

  pub comes_back : (gone : ℕ) (c : Configuration) → Here P given from gone c → Back gone (progress_at c)
  comes_back gone c h = record { end = h.end; units = h.units; work = h.work; rest = h.good.rest; last = h.good.end; drawn = h.good.drawn }

  -- the run goes on with it where the block began
  pub goes_on_with : (gone before : ℕ) (c : Configuration) (p : Progress) → Here P given from before c → Back gone p
      → Here P given from gone (with_progress c p)
  goes_on_with gone before c p h b = record {
    end = b.end;
    units = b.units;
    work = b.work;
    good = record { env = h.good.env; drawn = b.drawn; rest = b.rest; end = b.last };
  }
