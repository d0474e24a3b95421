-- Private: only private contracts use this. The cause that a refusal is.
use Rattle.std.specs.Prelude.{ℕ, List}
use Rattle.tk_token.specs.declared.Refusal.{Refusal}
use Rattle.tk_token.specs.declared.Refusal.TheVariants as refusals
use Rattle.tk_render.specs.declared.NoSvg.{NoSvg}
use Rattle.tk_render.specs.declared.NoSvg.TheVariants as causes
use Rattle.tk_render.specs.Rendered.{placed_fault}

-- a fault of that source with its line and column, or want of memory
abbrev pub cause_of : List ℕ → Refusal → NoSvg
cause_of source (refusals.Fault f) = causes.Fault (placed_fault source f)
cause_of source refusals.OutOfMemory = causes.OutOfMemory
