-- Parts of key lists as the code has them.
use Rattle.std.specs.Prelude.{option_copied}
use Rattle.tk_keytext.specs.declared.lists.Part.{Part}
use Rattle.tk_keytext.specs.Parts.{KeyPart}

-- what a part says, wherever its tokens lie in memory
abbrev pub key_part : Part → KeyPart
key_part part = record { name = part.name.now; value = option_copied part.value; at = part.at }
