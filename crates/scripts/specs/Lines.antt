-- The lines of a script.
use Rattle.std.specs.Prelude.{ℕ, ◌+◌, ◌-◌, Bool, true, cond, ◌&&◌, ◌||◌, List, [], ◌∷◌, length, take, drop, ◌==◌, nat_le, nat_lt}
use Rattle.fields.specs.Parts.{Part, parts}

-- the longest script
abbrev pub script_limit : ℕ
script_limit = 1048576

-- a line without its line feed: its number from 1, where it begins, its bytes, whether it has its line feed,
-- and where the next line begins
pub record ScriptLine : Type 0 where
  pub number : ℕ
  pub offset : ℕ
  pub bytes : List ℕ
  pub ended : Bool
  pub past : ℕ

-- a part between line feeds as a line of a script of `size` bytes
abbrev pub line_at : ℕ → ℕ → Part → ScriptLine
line_at size n p = record { number = n; offset = p.offset; bytes = p.bytes; ended = nat_lt (p.offset + length p.bytes) size; past = p.offset + length p.bytes + 1 }

-- the lines of parts, numbered from n; what would begin at the script's end is no line
abbrev pub lines_in : ℕ → ℕ → List Part → List ScriptLine
lines_in size n [] = []
lines_in size n (p ∷ ps) = cond (nat_lt p.offset size) (line_at size n p ∷ lines_in size (n + 1) ps) []

-- a script, or nothing of one that is too long
abbrev pub readable_of : List ℕ → List ℕ
readable_of input = cond (nat_le (length input) script_limit) input []

-- the lines of a script
abbrev pub script_lines : List ℕ → List ScriptLine
script_lines input = lines_in (length (readable_of input)) 1 (parts 10 0 (readable_of input))

-- a blank line is a line feed alone
abbrev pub is_blank : ScriptLine → Bool
is_blank l = length l.bytes == 0

-- lines from the first that is not blank
abbrev pub skip_blank_of : List ScriptLine → List ScriptLine
skip_blank_of [] = []
skip_blank_of (l ∷ ls) = cond (is_blank l) (skip_blank_of ls) (l ∷ ls)

abbrev pub tail : List ScriptLine → List ScriptLine
tail [] = []
tail (l ∷ ls) = ls

-- where a text ends that goes on over some lines: at the first blank one, else at the script's end
abbrev pub text_end : ℕ → List ScriptLine → ℕ
text_end size [] = size
text_end size (l ∷ ls) = cond (is_blank l) l.offset (text_end size ls)

-- the lines after it: the blank line belongs to no text
abbrev pub after_text : List ScriptLine → List ScriptLine
after_text [] = []
after_text (l ∷ ls) = cond (is_blank l) ls (after_text ls)

-- the part of a script from one place to another
abbrev pub between : ℕ → ℕ → List ℕ → List ℕ
between from to input = take (to - from) (drop from input)

-- only the last of some parts may begin at the script's end
abbrev pub last_only : ℕ → List Part → Bool
last_only size [] = true
last_only size (p ∷ ps) = (nat_lt p.offset size || length ps == 0) && last_only size ps
