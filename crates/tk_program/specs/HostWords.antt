-- Private: only private contracts use this. Why the host gave no words.
use Rattle.std.specs.Prelude.{◌≡◌, ◌≢◌}
use Rattle.std.specs.declared.io.ErrorKind.{ErrorKind}
use Rattle.std.specs.declared.io.ErrorKind.TheVariants as kinds
use Rattle.tk_program.specs.declared.words.NoWords.{NoWords}
use Rattle.tk_program.specs.declared.words.NoWords.TheVariants.{OutOfMemory, Unreadable}

-- the cause of an error of that kind: want of memory, or else a word that can't be read
pub record IsCauseOf (kind : ErrorKind) (cause : NoWords) : Type 0 where
  pub memory : kind ≡ kinds.OutOfMemory → cause ≡ OutOfMemory
  pub others : kind ≢ kinds.OutOfMemory → cause ≡ Unreadable
