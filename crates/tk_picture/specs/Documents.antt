-- Documents: the tokens of a whole source.
use Rattle.std.specs.Prelude.{ℕ, Bool, false, if◌then◌else◌, List, [], ◌∷◌, Ok, pos, codes, unwrap_or, slice_get}
use Rattle.std.specs.Str.{bytes_eq}
use Rattle.tk_item.specs.declared.Frame.{Frame}
use Rattle.tk_token.specs.declared.Kind.{Kind}
use Rattle.tk_token.specs.declared.Kind.TheVariants.{Word}
use Rattle.tk_token.specs.declared.Tok.{Tok}
use Rattle.tk_token.specs.declared.Code.TheVariants.{Unbuilt}
use Rattle.tk_token.specs.Answers.{Answer, ◌>>=◌, fault}
use Rattle.tk_expand.specs.Unread.{Unread, past_spaces}
use Rattle.tk_expand.specs.Reading.{next_token, after_name}
use Rattle.tk_token.specs.Spaces.{after_spaces}
use Rattle.tk_keys.specs.Environment.{Env, first_env, level}
use Rattle.tk_keys.specs.Given.{Given}
use Rattle.tk_picture.specs.declared.Compiled.{Compiled}
use Rattle.tk_picture.specs.Commands.{A_picture, styled_commands, commands}
use Rattle.tk_path.specs.Configurations.{Configuration}
use Rattle.tk_path.specs.Pictures.{Picture, first_picture}

-- `\` and that word
abbrev pub is_word : List (List ℕ) → List ℕ → Kind → Bool
is_word names word (Word n) = bytes_eq (unwrap_or (slice_get names n) []) word
is_word names word _ = false

-- a frame of nothing is all 0
abbrev pub no_frame : Frame
no_frame = record { left = pos 0; bottom = pos 0; right = pos 0; top = pos 0 }

-- the drawing of a picture, in which the font is `monospace` of 10pt, and the units paid
abbrev pub compiled : Picture → ℕ → Compiled
compiled pic units = record {
  drawing = record {
    frame = unwrap_or pic.frame no_frame;
    family = codes "monospace";
    size = pos 655360;
    items = pic.items;
  };
  units = units;
}

-- where the commands of a picture begin: nothing is drawn or paid
abbrev pub first_configuration : Env → Unread → Configuration
first_configuration env list = record { env = env; picture = first_picture; list = list; units = 0 }

-- nothing is left but Spaces
abbrev pub nothing_after : Compiled → List Tok → Answer Compiled
nothing_after c [] = Ok c
nothing_after c (t ∷ ts) = fault Unbuilt t.at

module _ (given : Given) where
  -- the picture behind a `\begin` at that place, with nothing behind it
  unfoldable pub picture_behind : ℕ → Unread → Answer Compiled
  picture_behind at list = do
    inside ← after_name Unbuilt (codes "tikzpicture") list
    env ← level at (first_env given)
    end ← styled_commands given (commands given) (codes "every picture") (A_picture at)
        (first_configuration env inside)
    nothing_after (compiled end.picture end.units) (after_spaces end.list.rest)

  -- a whole source: `\begin{tikzpicture}`, options, commands and `\end{tikzpicture}`
  unfoldable pub document : Unread → Answer Compiled
  document list = do
    first ← next_token Unbuilt (past_spaces list)
    if is_word given.names (codes "begin") first.value.kind then picture_behind first.value.at first.list
        else fault Unbuilt first.value.at
