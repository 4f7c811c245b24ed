-- The line in hand, and the lines after it.
use Rattle.std.proofs.Common.{◌≡◌, ◌<◌, ◌≤◌, false, List, [], ◌∷◌, length, Some, None, Option, MatchOption, sym, ap, ◌∙◌, ap₂, subst, arith}
use Rattle.std.proofs.lemmas.Bool.{cond-false}
use Rattle.std.proofs.lemmas.List.{nil_from_length}
use Rattle.streams.specs.declared.prepared.Entry.{Entry}
use Rattle.scripts.specs.declared.lines.Line.{Line}
use Rattle.scripts.specs.Lines.{ScriptLine, is_blank, skip_blank_of}
use Rattle.scripts.specs.Commands.{command_of}
use Rattle.scripts.specs.Left.{line_of, lines_left, pending}
use Rattle.replay.specs.declared.reading.Reading.{Reading}
use Rattle.replay.specs.Readings.{read_entries_of, with_entry, entry_in}
use Rattle.replay.specs.Walks.{waiting}
use Rattle.replay.proofs.Skips.{few_skipped}

-- a line in hand is the first of those that wait, and it is not blank
pub in_hand : (r : Reading) (line : Line) → r.line ≡ Some line → waiting r ≡ line_of line ∷ lines_left r.script
in_hand r line e = ap (λ (o : Option Line). pending o (lines_left r.script)) e

pub hand_shown : (r : Reading) (line : Line) → r.line ≡ Some line → is_blank (line_of line) ≡ false
hand_shown r line e = subst (λ (o : Option Line). MatchOption o (length (lines_left r.script) ≡ 0) (λ l. is_blank (line_of l) ≡ false)) e r.shown

-- where there is none, none waits
pub none_waits : (r : Reading) → r.line ≡ None → waiting r ≡ []
none_waits r e =
    ap (λ (o : Option Line). pending o (lines_left r.script)) e
    ∙ nil_from_length (lines_left r.script) (subst (λ (o : Option Line). MatchOption o (length (lines_left r.script) ≡ 0) (λ l. is_blank (line_of l) ≡ false)) e r.shown)

-- after a line in hand and those that were taken with it fewer wait
pub fewer : (r r' : Reading) (line : Line) (mid : List ScriptLine) → r.line ≡ Some line → waiting r' ≡ skip_blank_of mid → length mid ≤ length (lines_left r.script) → length (waiting r') < length (waiting r)
fewer r r' line mid e k h = omega (arith, few_skipped mid, ap length k, ap length (in_hand r line e), h)

-- the entry of the line in hand, if it is one, and those after it
pub entries_step : (r : Reading) (o : Option Entry) → MatchOption r.line (o ≡ None) (λ l. o ≡ entry_in (command_of (line_of l)))
    → read_entries_of (waiting r) ≡ with_entry o (waiting r) (read_entries_of (lines_left r.script))
entries_step r o h = step r.line h r.shown
  where
    step : (n : Option Line) → MatchOption n (o ≡ None) (λ l. o ≡ entry_in (command_of (line_of l))) → MatchOption n (length (lines_left r.script) ≡ 0) (λ l. is_blank (line_of l) ≡ false)
        → read_entries_of (pending n (lines_left r.script)) ≡ with_entry o (pending n (lines_left r.script)) (read_entries_of (lines_left r.script))
    step None e z =
        let none : lines_left r.script ≡ [] = nil_from_length (lines_left r.script) z in
        ap read_entries_of none ∙ ap₂ (λ (p : Option Entry) (ls : List ScriptLine). with_entry p ls (read_entries_of (lines_left r.script))) (sym e) (sym none)
    step (Some l) e z =
        cond-false (is_blank (line_of l)) _ _ z ∙ ap (λ (p : Option Entry). with_entry p (line_of l ∷ lines_left r.script) (read_entries_of (lines_left r.script))) (sym e)

-- an entry came of a line in hand
pub fewer_entries : (r r' : Reading) (o : Option Entry) (entry : Entry) → MatchOption r.line (o ≡ None) (λ l. o ≡ entry_in (command_of (line_of l))) → o ≡ Some entry → waiting r' ≡ skip_blank_of (lines_left r.script) → length (waiting r') < length (waiting r)
fewer_entries r r' o entry h e k = step r.line h
  where
    step : (n : Option Line) → MatchOption n (o ≡ None) (λ l. o ≡ entry_in (command_of (line_of l))) → length (waiting r') < length (pending n (lines_left r.script))
    step None x = let z : None ≡ Some entry = sym x ∙ e in cc
    step (Some l) x = omega (arith, few_skipped (lines_left r.script), ap length k)
