-- What replay prints, from the bytes of a script.
use Rattle.std.specs.Prelude.{ℕ, ◌+◌, min, Bool, true, false, cond, List, [], ◌∷◌, ◌++◌, length, Some, None, codes, Option, nat_le}
use Rattle.times.specs.Clock.{last_moment}
use Rattle.streams.specs.Streams.{Parts, most_shown}
use Rattle.streams.specs.Prepared.{is_prepared_of, prepared_parts}
use Rattle.streams.specs.Stacks.{stack}
use Rattle.questions.specs.declared.window.Window.{Window}
use Rattle.questions.specs.Texts.{schedule_text_of}
use Rattle.questions.specs.Asking as asking
use Rattle.questions.specs.Asking.{Answer}
use Rattle.stacks.specs.declared.calls.Call.TheVariants.{HandIn, Take, Tick, Active, Interval}
use Rattle.stacks.specs.Calls.{reply, follow}
use Rattle.plan.specs.Plans.{empty_table}
use Rattle.scripts.specs.declared.command.Start.{Start}
use Rattle.scripts.specs.declared.command.Start.TheVariants.{Live, Prepared}
use Rattle.scripts.specs.Lines.{ScriptLine, script_limit, script_lines, is_blank}
use Rattle.scripts.specs.Commands.{start_of}
use Rattle.scripts.specs.Printing.{reply_text, node_text, unreadable_text}
use Rattle.replay.specs.Readings.{Entries, read_entries_of, NodeLines, read_nodes_of, Ask, sends, unsent, Calls, read_calls_of}

-- whether a text is handed in
abbrev pub hands_in_of : Ask → Bool
hands_in_of (sends (HandIn text)) = true
hands_in_of (sends (Take x)) = false
hands_in_of (sends (Tick t)) = false
hands_in_of (sends (Active w t)) = false
hands_in_of (sends (Interval w n)) = false
hands_in_of (unsent n) = false

-- what is answered, by the book of the stack if it is sent to it
abbrev pub reply_to : Parts → Ask → Answer
reply_to p (sends c) = reply p c
reply_to p (unsent n) = asking.refused n

-- what becomes of the book
abbrev pub follow_to : Parts → Ask → Parts
follow_to p (sends c) = follow p c
follow_to p (unsent n) = p

abbrev pub run_to : Parts → List Ask → Parts
run_to p [] = p
run_to p (c ∷ cs) = run_to (follow_to p c) cs

-- the lines of the nodes, counted from k
abbrev pub node_lines : ℕ → List ℕ → List ℕ
node_lines k [] = []
node_lines k (n ∷ ns) = node_text k n ++ node_lines (k + 1) ns

-- the lines of the calls, counted from k: to each what is answered
abbrev pub call_lines : ℕ → Parts → List Ask → List ℕ
call_lines k p [] = []
call_lines k p (c ∷ cs) = reply_text k (hands_in_of c) (reply_to p c) ++ call_lines (k + 1) (follow_to p c) cs

abbrev pub node_names : List ℕ
node_names = codes "node,reply" ++ (10 ∷ [])

abbrev pub call_names : List ℕ
call_names = codes "call,reply" ++ (10 ∷ [])

-- the window from 0 to the last moment
abbrev pub whole_window : Window
whole_window = record { begin = 0; end = last_moment }

-- the line that ended the reading, if one did
abbrev pub stop_text : Option ℕ → List ℕ
stop_text None = []
stop_text (Some n) = unreadable_text n

-- the calls on a stack, its schedule afterwards, and where the reading ended
abbrev pub calls_text : Parts → Calls → List ℕ
calls_text p c = call_names ++ (call_lines 1 p c.calls ++ (schedule_text_of whole_window (run_to p c.calls).shown ++ stop_text c.stops))

-- the nodes over a bare stream, and the calls on the stack
abbrev pub nodes_text : List ℕ → Bool → Parts → NodeLines → List ℕ
nodes_text input takes bare n = node_names ++ (node_lines 1 n.replies ++ calls_text (stack n.standing bare) (read_calls_of input takes None n.rest))

-- a run over a bare stream, from the lines after it
abbrev pub run_text : List ℕ → Bool → Parts → List ScriptLine → List ℕ
run_text input takes bare ls = nodes_text input takes bare (read_nodes_of bare [] ls)

-- a run over a prepared list, if it opens
abbrev pub prepared_text : List ℕ → Entries → List ℕ
prepared_text input e = cond (is_prepared_of e.entries) (run_text input false (prepared_parts e.entries) e.rest) (codes "stream,18" ++ (10 ∷ []))

-- a run over the stream that the first line names; a live table uses at most 4,096 of its records
abbrev pub start_text : List ℕ → ℕ → Option Start → List ScriptLine → List ℕ
start_text input n None ls = unreadable_text n
start_text input n (Some (Live records)) ls = run_text input true (empty_table (min records most_shown)) ls
start_text input n (Some Prepared) ls = prepared_text input (read_entries_of ls)

-- the run of some lines that begin with the line n
abbrev pub lines_text : List ℕ → ℕ → List ScriptLine → List ℕ
lines_text input n [] = unreadable_text n
lines_text input n (l ∷ ls) = cond (is_blank l) (lines_text input (n + 1) ls) (start_text input l.number (start_of l) ls)

-- what replay prints of a script
abbrev pub replay_of : List ℕ → List ℕ
replay_of input = cond (nat_le (length input) script_limit) (lines_text input 1 (script_lines input)) (unreadable_text 0)
