-- What the code holds, as the definitions see it.
use Rattle.std.specs.Prelude.{◌≡◌, ℕ, codes, List, Option, IfSome}
use Rattle.std.specs.List.{AllByRecursion}
use Rattle.tk_item.specs.Frame.{IsProperFrame}
use Rattle.tk_svg.specs.Fitting.{FitsItem}
use Rattle.tk_token.specs.declared.Tok.{Tok}
use Rattle.tk_expand.specs.Unread.{Unread}
use Rattle.tk_expr.specs.Evaluated.{evaluated}
use Rattle.tk_keys.specs.Given.{Given}
use Rattle.tk_keys.specs.State.{env_of, given_of, Keeps}
use Rattle.tk_path.specs.declared.coordinate.Written as code_written
use Rattle.tk_path.specs.declared.drawer.Drawer.{Drawer}
use Rattle.tk_path.specs.declared.drawer.Flow as code_flow
use Rattle.tk_path.specs.declared.drawer.Flow.TheVariants as flows
use Rattle.tk_path.specs.declared.keys.Style.{Style}
use Rattle.tk_path.specs.declared.keys.Style.TheVariants.{EveryPicture, EveryScope, EveryPath}
use Rattle.tk_path.specs.declared.operations.Control as code_control
use Rattle.tk_path.specs.declared.operations.Control.TheVariants as controls
use Rattle.tk_path.specs.declared.operations.Way as code_way
use Rattle.tk_path.specs.declared.operations.Way.TheVariants as ways
use Rattle.tk_path.specs.declared.targets.Target as code_target
use Rattle.tk_path.specs.declared.targets.Target.TheVariants as targets
use Rattle.tk_path.specs.Configurations.{Configuration, Reached, reached, Lookahead, lookahead}
use Rattle.tk_path.specs.Coordinates.{Written}
use Rattle.tk_outline.specs.CurrentPaths.{CurrentPath}
use Rattle.tk_path.specs.Flow.{Flow, Goes_on, Finishes}
use Rattle.tk_path.specs.Operations.{Control, Known, From_end, Way, Straight, Cornered, Curved}
use Rattle.tk_path.specs.Pictures.{Picture}
use Rattle.tk_path.specs.Targets.{Target, A_coordinate, The_start}

-- the name of a style that runs by itself
abbrev pub style_name : Style → List ℕ
style_name EveryPicture = codes "every picture"
style_name EveryScope = codes "every scope"
style_name EveryPath = codes "every path"

-- what is given for the run
abbrev pub given_to : Drawer → Given
given_to d = given_of evaluated d.state

-- the picture so far, with the path that is being read
abbrev pub picture_of : Drawer → CurrentPath → Picture
picture_of d path = record { items = d.items; frame = d.frame; path = path }

-- how far the run has come
abbrev pub configuration_of : Drawer → CurrentPath → Unread → Configuration
configuration_of d path list =
    record { env = env_of d.state; picture = picture_of d path; list = list; units = d.state.units }

-- a token that was taken
abbrev pub lookahead_of : Option Tok → Drawer → CurrentPath → Unread → Lookahead
lookahead_of first d path list = lookahead first (configuration_of d path list)

-- what a part of a path leaves
abbrev pub path_flow_of : Drawer → CurrentPath → Unread → code_flow.Flow → Flow Configuration Configuration
path_flow_of d path list flows.GoesOn = Goes_on (configuration_of d path list)
path_flow_of d path list flows.Finishes = Finishes (configuration_of d path list)

-- what was read
abbrev pub reached_at : {A : Type 0} → A → Drawer → CurrentPath → Unread → Reached A
reached_at value d path list = reached value (configuration_of d path list)

-- a coordinate as it is written
abbrev pub written_of : code_written.Written → Written
written_of w = record { sign = w.sign; at = w.at; text = w.text.items }

-- what an operation goes to
abbrev pub target_of : code_target.Target → Target
target_of (targets.Coordinate w) = A_coordinate (written_of w)
target_of targets.Start = The_start

-- the second control point of a curve
abbrev pub control_of : code_control.Control → Control
control_of (controls.Known p) = Known p
control_of (controls.FromEnd w) = From_end (written_of w)

-- how an operation gets there
abbrev pub way_of : code_way.Way → Way
way_of ways.Straight = Straight
way_of (ways.Cornered sign at) = Cornered sign at
way_of (ways.Curved first second) = Curved first (control_of second)

-- what is drawn fits a document
pub record IsSound (d : Drawer) : Type 0 where
  pub items : AllByRecursion FitsItem d.items
  pub proper : IfSome d.frame IsProperFrame

-- nothing but the units paid is another
abbrev pub OnlyPays : Drawer → Drawer → Type 0
OnlyPays old new = new ≡ record old { state = record old.state { units = new.state.units } }

-- what was given stays, and so do the levels further out, the count of running key lists, and the items; a frame that
-- was proper is so
pub record KeepsDrawn (old new : Drawer) : Type 0 where
  pub state : Keeps old.state new.state
  pub items : new.items ≡ old.items
  pub proper : IfSome old.frame IsProperFrame → IfSome new.frame IsProperFrame
