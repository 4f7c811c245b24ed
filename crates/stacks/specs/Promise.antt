-- What a stack promises after every list of calls.
use Rattle.std.specs.Prelude.{◌≡◌, ℕ, ◌+◌, ◌<◌, ◌≤◌, true, false, List, [], ◌∷◌, Some, Option, nat_lt}
use Rattle.std.specs.List.{slice_get}
use Rattle.times.specs.Clock.{entry_limit, last_moment}
use Rattle.streams.specs.declared.stream.Stream.{Ghosts}
use Rattle.streams.specs.Streams.{Parts}
use Rattle.streams.specs.Stacks.{Delay, adjustment}
use Rattle.questions.specs.declared.window.Window.{Window}
use Rattle.questions.specs.Asking.{Answer, active, active_of}
use Rattle.questions.specs.Begun.{Greatest}
use Rattle.stacks.specs.declared.calls.Call.{Call}
use Rattle.stacks.specs.declared.calls.Reply.{Reply}
use Rattle.stacks.specs.Calls.{asks, marked, asked_of}
use Rattle.stacks.specs.Sendings.{said}

-- a. In every window, for every moment up to the last, the active question is answered with the greatest
-- number begun by then, and its content, if the moment is before that document's own end, else with none;
-- the mark is set exactly when the moment is before the settled moment.
abbrev pub Answers : Parts → Type 0
Answers p =
    (w : Window) (t : ℕ) → t ≤ last_moment
    → (shows : Option (ℕ × ℕ)) × Greatest w p.shown t shows × (active_of p w t ≡ active shows (nat_lt t p.settled))

-- b. A question of the list whose answer was marked settled gets the same answer after the list, mark included.
abbrev pub Settles : Parts → List Call → List Answer → Type 0
Settles p calls answers =
    (place : ℕ) (call : Call) (answer : Answer) → slice_get calls place ≡ Some call → slice_get answers place ≡ Some answer
    → marked answer ≡ true → asked_of p call ≡ answer

-- So does one that was asked before the list: b carries over from one list to the next.
abbrev pub Lasts : Parts → Parts → Type 0
Lasts before p = (question : Call) → marked (asked_of before question) ≡ true → asked_of p question ≡ asked_of before question

-- the sum of the adjustments of nodes over a stream of this total
abbrev pub adjustments : List Delay → ℕ → ℕ
adjustments [] total = 0
adjustments (node ∷ nodes) total = adjustments nodes total + adjustment node (total + adjustments nodes total)

-- a window begins before its end, which is up to the last moment
pub record IsWindow (w : Window) : Type 0 where
  pub forward : w.begin < w.end
  pub within : w.end ≤ last_moment

-- v is the window w, moved by k
pub record Moved (k : ℕ) (w v : Window) : Type 0 where
  pub begins : v.begin ≡ w.begin + k
  pub ends : v.end ≡ w.end + k

-- c. For a moment and a window's end up to the entry limit, the stack answers for the moment later by the sum
-- of the adjustments, in the window moved by it, which is a window, the same as the bare stream.
abbrev pub Moves : ℕ → Parts → Parts → Type 0
Moves k p bare =
    (w : Window) (t : ℕ) → IsWindow w → w.end ≤ entry_limit → t ≤ entry_limit
    → ((v : Window) × IsWindow v × Moved k w v) × ((v : Window) → Moved k w v → active_of p v (t + k) ≡ active_of bare w t)

-- And each hand-in, take and tick was answered alike.
abbrev pub Alike : List Call → List Answer → List Answer → Type 0
Alike calls answers others =
    (place : ℕ) (call : Call) → slice_get calls place ≡ Some call → asks call ≡ false → slice_get answers place ≡ slice_get others place

-- A list was sent to a stack, which was `stack` and is `stack'`, and to a second stream; these are the replies
-- that were kept. c is about a second stream that starts with the parts of the stack's bare stream.
pub record Promise {X Y : Type 0} (D : Ghosts X) (B : Ghosts Y) (calls : List Call) (stack stack' : X) (kept : List Reply) (second second' : Y) (others : List Reply) : Type 0 where
  pub a : Answers (D.parts stack')
  pub b : Settles (D.parts stack') calls (said calls kept)
  pub lasts : Lasts (D.parts stack) (D.parts stack')
  pub c : B.parts second ≡ D.bare stack
      → Moves (adjustments (D.nodes stack) (D.bare stack).total) (D.parts stack') (B.parts second')
      × Alike calls (said calls kept) (said calls others)
