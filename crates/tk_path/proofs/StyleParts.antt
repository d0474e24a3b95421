-- The key list of a style that runs by itself has one part.
use Rattle.std.specs.Prelude.{◌≡◌, ℕ, ◌≤◌, List, length, codes}
use Rattle.std.proofs.Common.{refl, arith}
use Rattle.std.specs.Str.{chars}
use Rattle.tk_token.specs.Groups.{first_outside_in}
use Rattle.tk_token.specs.Spaces.{before_spaces}
use Rattle.tk_token.specs.Recursion.{by_size, within}
use Rattle.tk_token.specs.Texts.{tokens_of}
use Rattle.tk_keytext.specs.Parts.{parts_of}
use Rattle.tk_path.specs.declared.keys.Style.{Style}
use Rattle.tk_path.specs.declared.keys.Style.TheVariants.{EveryPicture, EveryScope, EveryPath}
use Rattle.tk_path.specs.Views.{style_name}

pub one_part : (style : Style) (at : ℕ) → length (parts_of (tokens_of at (style_name style))) ≤ 1
unfolding chars parts_of by_size within first_outside_in before_spaces
one_part EveryPicture at = (let one : length (parts_of (tokens_of at (codes "every picture"))) ≡ 1 = refl in omega (arith, one))
one_part EveryScope at = (let one : length (parts_of (tokens_of at (codes "every scope"))) ≡ 1 = refl in omega (arith, one))
one_part EveryPath at = (let one : length (parts_of (tokens_of at (codes "every path"))) ≡ 1 = refl in omega (arith, one))
