-- What a script has yet to hand out.
use Rattle.std.specs.Prelude.{◌+◌, List, ◌∷◌, length, Some, None, Option}
use Rattle.fields.specs.Left.{left}
use Rattle.scripts.specs.Lines.{ScriptLine, lines_in}
use Rattle.scripts.specs.declared.lines.Line.{Line}
use Rattle.scripts.specs.declared.lines.Script.{Script}

abbrev pub line_of : Line → ScriptLine
line_of l = record { number = l.number; offset = l.offset; bytes = l.bytes.now; ended = l.ended; past = l.past }

-- the lines yet to be handed out
abbrev pub lines_left : Script → List ScriptLine
lines_left s = lines_in (length s.text.now) (s.number + 1) (left s.lines)

-- a line in hand, if any, and the lines after it
abbrev pub pending : Option Line → List ScriptLine → List ScriptLine
pending None ls = ls
pending (Some l) ls = line_of l ∷ ls
