-- How a look fills and draws a path, or the border of a node.
use Rattle.std.specs.Prelude.{if◌then◌else◌, Option, None, Some, ℤ, pos}
use Rattle.tk_item.specs.declared.Fill.{Fill}
use Rattle.tk_item.specs.declared.Stroke.{Stroke}
use Rattle.tk_item.specs.Frame.{half_width}
use Rattle.tk_look.specs.declared.Look.{Look}

-- how a look fills a path
abbrev pub look_fill : Look → Option Fill
look_fill look = if look.fill_on then Some (record { rgb = look.fill; rule = look.fill_rule }) else None

-- how a look draws a path
abbrev pub look_stroke : Look → Option Stroke
look_stroke look = if look.draw_on then Some (record {
  rgb = look.draw;
  width = look.line_width;
  cap = look.line_cap;
  join = look.line_join;
  miter = look.miter_limit;
  dash = look.dash_pattern;
  phase = look.dash_phase;
}) else None

-- how far a path reaches round its points
abbrev pub look_reach : Look → ℤ
look_reach look = if look.draw_on then half_width look.line_width else pos 0
