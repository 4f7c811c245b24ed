-- The words of the steps by which nodes are put on one another and calls are read, which only inner contracts cite.
use Rattle.std.specs.Prelude.{ℕ, List, [], Some, None, Ok, Err, Option, Result}
use Rattle.times.specs.declared.refusal.Refusal.{Refusal}
use Rattle.times.specs.Refusals.{number_of}
use Rattle.streams.specs.Stacks.{Delay, approved}
use Rattle.nodes.specs.declared.delay.pile.Node.{Node}
use Rattle.nodes.specs.declared.delay.pile.Nodes.{Nodes}
use Rattle.nodes.specs.Piles.{delay_of}
use Rattle.nodes.specs.Approvals as approvals
use Rattle.nodes.specs.Approvals.{Approval, approval_of}
use Rattle.stacks.specs.declared.calls.Call.{Call}
use Rattle.scripts.specs.Lines.{ScriptLine}
use Rattle.scripts.specs.Left.{lines_left, pending}
use Rattle.replay.specs.declared.reading.Reading.{Reading}
use Rattle.replay.specs.declared.running.NotPut.{NotPut}
use Rattle.replay.specs.declared.running.NotPut.TheVariants.{Refused, NoNode}
use Rattle.replay.specs.Readings.{NodeLines, answering, delays_of, Ask, sends, unsent, Calls, plain, calling}

-- the lines yet to be read, from the one in hand on
abbrev pub waiting : Reading → List ScriptLine
waiting r = pending r.line (lines_left r.script)

-- what a line asks to be put on the nodes that stand: a node, one that is refused, or nothing
pub data Putting : Type 0 where
  puts : Delay → Putting
  refuses : ℕ → Putting
  nothing : Putting

abbrev pub told_node : Result Node NotPut → Putting
told_node (Ok n) = puts (delay_of n)
told_node (Err (Refused e)) = refuses (number_of e)
told_node (Err NoNode) = nothing

abbrev pub judged_as : Approval → Delay → Putting
judged_as (approvals.refused n) k = refuses n
judged_as (approvals.approved a) k = puts k

-- over a stream of this total
abbrev pub putting_of : ℕ → Option Delay → Putting
putting_of total None = nothing
putting_of total (Some k) = judged_as (approval_of total (approved k)) k

-- the nodes that stand with one more, or why there is no more: a refusal is answered to its line, which is else no node line
abbrev pub with_put : Result Nodes NotPut → List Delay → List ScriptLine → (List Delay → NodeLines) → NodeLines
with_put (Ok s) ks here more = answering 0 (more (delays_of s))
with_put (Err (Refused e)) ks here more = answering (number_of e) (more ks)
with_put (Err NoNode) ks here more = record { replies = []; standing = ks; rest = here }

-- what a line asks, as it was read, wherever the bytes of its text are
abbrev pub told_ask : Result Call Refusal → Ask
told_ask (Ok c) = sends (plain c)
told_ask (Err e) = unsent (number_of e)

-- what a line asks, if anything, and what follows
abbrev pub with_ask : Option (Result Call Refusal) → ℕ → Calls → Calls
with_ask None n more = record { calls = []; stops = Some n }
with_ask (Some c) n more = calling (told_ask c) more
