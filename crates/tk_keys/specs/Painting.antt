-- Private: only private contracts use this. The keys `draw` and `fill` without a value, while they are those that are
-- there from the beginning.
use Rattle.std.specs.Prelude.{◌≡◌, ℕ, true, List, Option, Some, codes}
use Rattle.std.specs.FinMap as map
use Rattle.tk_token.specs.declared.Tok.{Tok}
use Rattle.tk_native.specs.declared.Native.TheVariants.{Look}
use Rattle.tk_native.specs.declared.LookKey.TheVariants.{Paint}
use Rattle.tk_native.specs.declared.PaintKey.{PaintKey}
use Rattle.tk_native.specs.declared.PaintKey.TheVariants.{Draw, Fill}
use Rattle.tk_store.specs.declared.Entry.{Entry}
use Rattle.tk_store.specs.declared.Need.TheVariants.{Free}
use Rattle.tk_store.specs.declared.Run.TheVariants.{Native}
use Rattle.tk_look.specs.Applied.{switched}
use Rattle.tk_keys.specs.Environment.{Env, Situation, tikz_path, with_graphics}

-- the name of a key
abbrev pub paint_name : PaintKey → List ℕ
paint_name Draw = codes "draw"
paint_name Fill = codes "fill"

-- the entry of a key that runs as it does from the beginning, and needs no value, with what is stored there
abbrev pub unchanged : PaintKey → Option (List Tok) → Entry
unchanged key stored = record { run = Some (Native (Look (Paint key))); value = stored; need = Free }

-- that entry stands at the path of the key
abbrev pub PaintsAlone : Env → PaintKey → Type 0
PaintsAlone env key =
    (stored : Option (List Tok)) × (map.get env.keys (tikz_path (paint_name key)) ≡ Some (unchanged key stored))

-- paths are drawn or filled from there on
abbrev pub painting : PaintKey → Situation → Situation
painting key s = with_graphics s (record s.env.graphics { look = switched key true s.env.graphics.look })
