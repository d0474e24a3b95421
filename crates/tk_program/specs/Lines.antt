-- The lines that `err` takes.
use Rattle.std.specs.Prelude.{ℕ, List, ◌++◌, codes, decimal}
use Rattle.tk_token.specs.declared.Fault.{Fault}
use Rattle.tk_token.specs.declared.Code.{Code}
use Rattle.tk_token.specs.declared.Code.TheVariants.{NotUtf8, BadChar, Brace, TooDeep, TooLarge, DivZero, Domain}
use Rattle.tk_token.specs.declared.Code.TheVariants.{Expression, Singular, HandlerValue, MacroSyntax, MacroArg, Budget}
use Rattle.tk_token.specs.declared.Code.TheVariants.{Levels, KeyDepth, UnknownKey, ValueRequired, ValueForbidden}
use Rattle.tk_token.specs.declared.Code.TheVariants.{UnknownChoice, NotASetting, Colour, LoopSyntax, LoopItem, NoAnchor}
use Rattle.tk_token.specs.declared.Code.TheVariants.{NoGlyph, TextCommand, Math, Coordinate, NoNode, PathSyntax}
use Rattle.tk_token.specs.declared.Code.TheVariants.{UnknownCommand, EndMismatch, NoPicture, Font, TooLong, Unbuilt}
use Rattle.tk_token.specs.Places.{line_of, column_of}

-- the name of a fault
abbrev pub code_name : Code → List ℕ
code_name NotUtf8 = codes "NotUtf8"
code_name BadChar = codes "BadChar"
code_name Brace = codes "Brace"
code_name TooDeep = codes "TooDeep"
code_name TooLarge = codes "TooLarge"
code_name DivZero = codes "DivZero"
code_name Domain = codes "Domain"
code_name Expression = codes "Expression"
code_name Singular = codes "Singular"
code_name HandlerValue = codes "HandlerValue"
code_name MacroSyntax = codes "MacroSyntax"
code_name MacroArg = codes "MacroArg"
code_name Budget = codes "Budget"
code_name Levels = codes "Levels"
code_name KeyDepth = codes "KeyDepth"
code_name UnknownKey = codes "UnknownKey"
code_name ValueRequired = codes "ValueRequired"
code_name ValueForbidden = codes "ValueForbidden"
code_name UnknownChoice = codes "UnknownChoice"
code_name NotASetting = codes "NotASetting"
code_name Colour = codes "Colour"
code_name LoopSyntax = codes "LoopSyntax"
code_name LoopItem = codes "LoopItem"
code_name NoAnchor = codes "NoAnchor"
code_name NoGlyph = codes "NoGlyph"
code_name TextCommand = codes "TextCommand"
code_name Math = codes "Math"
code_name Coordinate = codes "Coordinate"
code_name NoNode = codes "NoNode"
code_name PathSyntax = codes "PathSyntax"
code_name UnknownCommand = codes "UnknownCommand"
code_name EndMismatch = codes "EndMismatch"
code_name NoPicture = codes "NoPicture"
code_name Font = codes "Font"
code_name TooLong = codes "TooLong"
code_name Unbuilt = codes "Unbuilt"

-- `FILE:LINE:COLUMN: FAULT`
unfoldable pub placed_line : List ℕ → ℕ → ℕ → Code → List ℕ
placed_line file line column code =
    file ++ codes ":" ++ decimal line ++ codes ":" ++ decimal column
    ++ codes ": " ++ code_name code ++ codes "\n"

-- the line of a fault of that source
abbrev pub fault_line : List ℕ → List ℕ → Fault → List ℕ
fault_line file source f = placed_line file (line_of source f.at) (column_of source f.at) f.code

-- a file that is too long is named at its first byte
abbrev pub too_long_line : List ℕ → List ℕ
too_long_line file = placed_line file 1 1 TooLong

-- the shelf failed at the file
abbrev pub read_fault_line : List ℕ → List ℕ
read_fault_line file = file ++ codes ": ReadFault\n"

-- the words ask for nothing
abbrev pub usage_line : List ℕ
usage_line = codes "tikzsvg: Usage\n"

-- `out` failed
abbrev pub write_fault_line : List ℕ
write_fault_line = codes "tikzsvg: WriteFault\n"

-- no memory was left
abbrev pub out_of_memory_line : List ℕ
out_of_memory_line = codes "tikzsvg: OutOfMemory\n"
