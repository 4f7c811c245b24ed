-- What sending a list of calls to one stream does.
use Rattle.std.specs.Prelude.{◌≡◌, ℕ, Bool, cond, ◌&&◌, List, [], map, length, take, drop, Ok, Err, Result, nat_le}
use Rattle.times.specs.declared.refusal.Refusal.{Refusal}
use Rattle.times.specs.Refusals.{number_of}
use Rattle.streams.specs.declared.stream.Stream.{Ghosts}
use Rattle.questions.specs.Asking.{Answer}
use Rattle.stacks.specs.declared.calls.Call.{Call}
use Rattle.stacks.specs.declared.calls.Reply.{Reply}
use Rattle.stacks.specs.Calls.{told_reply, run, replies}

-- there is room for the replies to a list in both outputs
abbrev pub room : List Call → List Reply → List Reply → Bool
room calls kept others = nat_le (length calls) (length kept) && nat_le (length calls) (length others)

-- the list that is sent: nothing, if there is no room
abbrev pub sent : List Call → List Reply → List Reply → List Call
sent calls kept others = cond (room calls kept others) calls []

-- the result: how many calls were sent, or the number of a refusal
pub data Sending : Type 0 where
  answered : ℕ → Sending
  unsent : ℕ → Sending

abbrev pub told_sending : Result ℕ Refusal → Sending
told_sending (Ok n) = answered n
told_sending (Err e) = unsent (number_of e)

-- 17 where there is too little room
abbrev pub sending : List Call → List Reply → List Reply → Sending
sending calls kept others = cond (room calls kept others) (answered (length calls)) (unsent 17)

-- the answers to a list, in the records that were written for it
abbrev pub said : List Call → List Reply → List Answer
said calls kept = map told_reply (take (length calls) kept)

-- a list was sent to a stream: its parts and its replies are the book's, other records keep what they held,
-- its nodes are the same, and the bare stream below them followed the same list
pub record Served {X : Type 0} (S : Ghosts X) (calls : List Call) (before after : X) (held kept : List Reply) : Type 0 where
  pub book : S.parts after ≡ run (S.parts before) calls
  pub answers : said calls kept ≡ replies (S.parts before) calls
  pub rest : drop (length calls) kept ≡ drop (length calls) held
  pub nodes : S.nodes after ≡ S.nodes before
  pub bare : S.bare after ≡ run (S.bare before) calls
