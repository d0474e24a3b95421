-- Private: only private contracts use this. Default paths as the code keeps them.
use Rattle.std.specs.Prelude.{ℕ, List, [], codes, string_bytes}
use Rattle.tk_keys.specs.declared.dir.DirPath.{DirPath}
use Rattle.tk_keys.specs.declared.dir.DirPath.TheVariants.{Root, Tikz, Other}

-- the text of a default path
abbrev pub path_text : DirPath → List ℕ
path_text Root = []
path_text Tikz = codes "/tikz"
path_text (Other path) = string_bytes path
