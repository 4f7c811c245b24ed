-- What a script has after its first line: entries, nodes, and calls.
use Rattle.std.specs.Prelude.{ℕ, Bool, cond, List, [], ◌∷◌, length, Some, None, Option, nat_lt}
use Rattle.streams.specs.declared.prepared.Entry.{Entry}
use Rattle.streams.specs.Streams.{Parts}
use Rattle.streams.specs.Stacks.{Delay, holding, retiming, approved, stack}
use Rattle.nodes.specs.declared.delay.pile.Nodes.{Nodes}
use Rattle.nodes.specs.Piles.{standing, pile_nodes}
use Rattle.nodes.specs.Approvals as approvals
use Rattle.nodes.specs.Approvals.{Approval, approval_of}
use Rattle.questions.specs.Resolved.{Opening, opened, refused, window_for}
use Rattle.stacks.specs.declared.calls.Call.{Call}
use Rattle.stacks.specs.declared.calls.Call.TheVariants.{HandIn, Take, Tick, Active, Interval}
use Rattle.scripts.specs.declared.command.Command.{Command}
use Rattle.scripts.specs.declared.command.Command.TheVariants as says
use Rattle.scripts.specs.Lines.{ScriptLine, is_blank, between}
use Rattle.scripts.specs.Commands.{command_of}

-- the nodes of a pile, the uppermost first
abbrev pub delays_of : Nodes → List Delay
delays_of ns = pile_nodes (standing ns) []

-- the entries of a prepared list, and the lines from the first that is none
pub record Entries : Type 0 where
  pub entries : List Entry
  pub rest : List ScriptLine

abbrev pub entry_in : Option Command → Option Entry
entry_in None = None
entry_in (Some (says.Entry e)) = Some e
entry_in (Some (says.Holder a)) = None
entry_in (Some (says.Retimer a)) = None
entry_in (Some (says.Take x)) = None
entry_in (Some (says.Tick t)) = None
entry_in (Some (says.Active b e t)) = None
entry_in (Some (says.Interval b e n)) = None
entry_in (Some says.Text) = None

abbrev pub with_entry : Option Entry → List ScriptLine → Entries → Entries
with_entry None here more = record { entries = []; rest = here }
with_entry (Some e) here more = record { entries = e ∷ more.entries; rest = more.rest }

abbrev pub read_entries_of : List ScriptLine → Entries
read_entries_of [] = record { entries = []; rest = [] }
read_entries_of (l ∷ ls) = cond (is_blank l) (read_entries_of ls) (with_entry (entry_in (command_of l)) (l ∷ ls) (read_entries_of ls))

-- what is answered to each node line, the nodes that stand, uppermost first, and the lines from the first that is none
pub record NodeLines : Type 0 where
  pub replies : List ℕ
  pub standing : List Delay
  pub rest : List ScriptLine

-- a node that a line asks for
abbrev pub node_in : Option Command → Option Delay
node_in None = None
node_in (Some (says.Entry e)) = None
node_in (Some (says.Holder a)) = Some (holding a)
node_in (Some (says.Retimer a)) = Some (retiming a)
node_in (Some (says.Take x)) = None
node_in (Some (says.Tick t)) = None
node_in (Some (says.Active b e t)) = None
node_in (Some (says.Interval b e n)) = None
node_in (Some says.Text) = None

-- the most nodes that stand
abbrev pub most_nodes : ℕ
most_nodes = 8

abbrev pub answering : ℕ → NodeLines → NodeLines
answering n more = record { replies = n ∷ more.replies; standing = more.standing; rest = more.rest }

-- a node over the nodes ks: refused and left out, or put on top, unless it would be one too many, which is no node line
abbrev pub with_approval : Approval → Delay → List Delay → List ScriptLine → (List Delay → NodeLines) → NodeLines
with_approval (approvals.refused n) k ks here more = answering n (more ks)
with_approval (approvals.approved a) k ks here more = cond (nat_lt (length ks) most_nodes) (answering 0 (more (k ∷ ks))) (record { replies = []; standing = ks; rest = here })

abbrev pub with_node : Parts → Option Delay → List Delay → List ScriptLine → (List Delay → NodeLines) → NodeLines
with_node bare None ks here more = record { replies = []; standing = ks; rest = here }
with_node bare (Some k) ks here more = with_approval (approval_of (stack ks bare).total (approved k)) k ks here more

-- the nodes over a bare stream on which the nodes ks stand already
abbrev pub read_nodes_of : Parts → List Delay → List ScriptLine → NodeLines
read_nodes_of bare ks [] = record { replies = []; standing = ks; rest = [] }
read_nodes_of bare ks (l ∷ ls) = cond (is_blank l) (read_nodes_of bare ks ls) (with_node bare (node_in (command_of l)) ks (l ∷ ls) (λ more. read_nodes_of bare more ls))

-- what a line asks: a call, or a question in what is no window, which is answered by its refusal and not sent
pub data Ask : Type 0 where
  sends : Call → Ask
  unsent : ℕ → Ask

-- the calls, and the number of the line that ended the reading, if one did
pub record Calls : Type 0 where
  pub calls : List Ask
  pub stops : Option ℕ

-- a hand-in of some bytes, wherever they are
abbrev pub handing : List ℕ → Call
handing bytes = HandIn (record { ref_ptr = (0, 0); now = bytes })

-- a call, wherever the bytes of its text are
abbrev pub plain : Call → Call
plain (HandIn text) = handing text.now
plain (Take x) = Take x
plain (Tick t) = Tick t
plain (Active w t) = Active w t
plain (Interval w n) = Interval w n

-- what a line is among the calls
pub data Step : Type 0 where
  -- no call that this stream takes
  unreadable : Step
  -- the text of a hand-in follows
  opens : Step
  asks : Ask → Step

-- a question in a window, or in none
abbrev pub active_in_of : Opening → ℕ → Ask
active_in_of (opened b e) t = sends (Active (record { begin = b; end = e }) t)
active_in_of (refused c) t = unsent c

abbrev pub interval_in_of : Opening → ℕ → Ask
interval_in_of (opened b e) n = sends (Interval (record { begin = b; end = e }) n)
interval_in_of (refused c) n = unsent c

-- takes, ticks and hand-ins are no calls over a stream that does not take
abbrev pub step_of : Bool → Option Command → Step
step_of takes None = unreadable
step_of takes (Some (says.Entry e)) = unreadable
step_of takes (Some (says.Holder a)) = unreadable
step_of takes (Some (says.Retimer a)) = unreadable
step_of takes (Some (says.Take x)) = cond takes (asks (sends (Take x))) unreadable
step_of takes (Some (says.Tick t)) = cond takes (asks (sends (Tick t))) unreadable
step_of takes (Some (says.Active b e t)) = asks (active_in_of (window_for b e) t)
step_of takes (Some (says.Interval b e n)) = asks (interval_in_of (window_for b e) n)
step_of takes (Some says.Text) = cond takes opens unreadable

abbrev pub calling : Ask → Calls → Calls
calling c more = record { calls = c ∷ more.calls; stops = more.stops }

-- after a line of this number: what follows, read as lines or as a text
abbrev pub with_step : Step → ℕ → Calls → Calls → Calls
with_step unreadable n more text = record { calls = []; stops = Some n }
with_step opens n more text = text
with_step (asks c) n more text = calling c more

-- the calls of a script, from a line on; inside a text, from the place where the text began. A text ends at
-- a blank line or at the script's end.
abbrev pub read_calls_of : List ℕ → Bool → Option ℕ → List ScriptLine → Calls
read_calls_of input takes None [] = record { calls = []; stops = None }
read_calls_of input takes None (l ∷ ls) =
    cond (is_blank l) (read_calls_of input takes None ls)
    (with_step (step_of takes (command_of l)) l.number (read_calls_of input takes None ls) (read_calls_of input takes (Some l.past) ls))
read_calls_of input takes (Some from) [] = calling (sends (handing (between from (length input) input))) (record { calls = []; stops = None })
read_calls_of input takes (Some from) (l ∷ ls) =
    cond (is_blank l) (calling (sends (handing (between from l.offset input))) (read_calls_of input takes None ls)) (read_calls_of input takes (Some from) ls)
