-- Private: only private contracts use this. What the code holds, as the definitions see it.
use Rattle.std.specs.Prelude.{◌≡◌, ◌≤◌, ℕ, List, length}
use Rattle.tk_token.specs.Texts.{tokens_of}
use Rattle.tk_keytext.specs.Parts.{parts_of}
use Rattle.tk_expand.specs.Unread.{Unread}
use Rattle.tk_keys.specs.Environment.{first_env}
use Rattle.tk_keys.specs.State.{env_of}
use Rattle.tk_path.specs.declared.drawer.Drawer.{Drawer}
use Rattle.tk_path.specs.declared.drawer.Flow as code_flow
use Rattle.tk_path.specs.declared.drawer.Flow.TheVariants as flows
use Rattle.tk_path.specs.Configurations.{Configuration}
use Rattle.tk_outline.specs.CurrentPaths.{no_path}
use Rattle.tk_path.specs.Flow.{Flow, Goes_on, Finishes}
use Rattle.tk_path.specs.Pictures.{first_picture}
use Rattle.tk_path.specs.Views.{given_to, picture_of, configuration_of}
use Rattle.tk_picture.specs.declared.commands.BlockOpener as code_opener
use Rattle.tk_picture.specs.declared.commands.BlockOpener.TheVariants as openers
use Rattle.tk_picture.specs.declared.commands.Beginning as code_beginning
use Rattle.tk_picture.specs.declared.commands.Beginning.TheVariants as beginnings
use Rattle.tk_picture.specs.Commands.{BlockOpener, A_picture, A_scope, A_group, Beginning, Begins_path, Opens_group}
use Rattle.tk_picture.specs.Commands.{Closes_group, Begins_environment, Ends_environment, Begins_later, Begins_other}
use Rattle.tk_picture.specs.Progress.{Progress, progress_at}

-- how far the run has come, where no path is being read
abbrev pub place_of_run : Drawer → Unread → Configuration
place_of_run d list = configuration_of d no_path list

-- what comes back
abbrev pub progress_of : Drawer → Unread → Progress
progress_of d list = progress_at (place_of_run d list)

-- what a part leaves
abbrev pub flow_of : Drawer → Unread → code_flow.Flow → Flow Configuration Progress
flow_of d list flows.GoesOn = Goes_on (place_of_run d list)
flow_of d list flows.Finishes = Finishes (progress_of d list)

-- what commands stand in
abbrev pub opener_of : code_opener.BlockOpener → BlockOpener
opener_of (openers.Picture at) = A_picture at
opener_of (openers.Scope at) = A_scope at
opener_of (openers.Group at) = A_group at

-- what a token begins
abbrev pub begun_of : code_beginning.Beginning → Beginning
begun_of (beginnings.Path keys) = Begins_path keys.now
begun_of beginnings.OpenGroup = Opens_group
begun_of beginnings.CloseGroup = Closes_group
begun_of beginnings.BeginEnvironment = Begins_environment
begun_of beginnings.EndEnvironment = Ends_environment
begun_of beginnings.Later = Begins_later
begun_of beginnings.Other = Begins_other

-- nothing is drawn or paid, and the run is at its beginning
pub record IsNew (d : Drawer) : Type 0 where
  pub env : env_of d.state ≡ first_env (given_to d)
  pub picture : picture_of d no_path ≡ first_picture
  pub units : d.state.units ≡ 0

-- a command runs two keys at most
abbrev pub RunsFew : List ℕ → Type 0
RunsFew keys = (at : ℕ) → length (parts_of (tokens_of at keys)) ≤ 2

-- the same of what a token begins
abbrev pub BeginsFew : code_beginning.Beginning → Type 0
BeginsFew (beginnings.Path keys) = RunsFew keys.now
BeginsFew _ = Unit {0}
