-- What take and tick answer, and what they change.
use Rattle.std.specs.Prelude.{◌≡◌, ℕ, ◌+◌, ◌-◌, ◌≤◌, cond, List, [], ◌∷◌, ◌++◌, Some, None, Option, ◌==◌, nat_le, nat_lt}
use Rattle.times.specs.Clock.{entry_limit}
use Rattle.documents.specs.declared.document.Document.{Document}
use Rattle.streams.specs.Streams.{Parts, Entry, timely, due}

-- the entry moment, where there is one
abbrev pub moment_in : Option Entry → Option ℕ
moment_in (Some e) = Some e.moment
moment_in None = None

abbrev pub entry_moment_of : Parts → Option ℕ
entry_moment_of p = moment_in p.entry

-- the last number of a list, or n
abbrev pub last_from : ℕ → List Document → ℕ
last_from n [] = n
last_from n (x ∷ xs) = last_from x.number xs

-- the last number shown, 0 where nothing is shown
abbrev pub last_number_of : List Document → ℕ
last_number_of xs = last_from 0 xs

-- why a document is refused: the number of the first refusal that applies, or 0
abbrev pub take_refusal_by : Parts → Entry → Document → ℕ
take_refusal_by p e x =
    cond (x.number == 0) 4
    (cond (timely entry_limit x)
    (cond (nat_lt x.available e.moment) 8
    (cond (nat_le x.number (last_number_of p.shown)) 9
    (cond (e.left == 0) 10 0)))
    7)

-- after a document is taken: its appearance stands last, the entry moment is its available, the settled
-- moment has grown by as much, and one record less is left
abbrev pub taken : Parts → Entry → Document → Parts
taken p e x = record {
  shown = p.shown ++ e.appearance x ∷ [];
  settled = p.settled + (x.available - e.moment);
  total = p.total;
  entry = Some (record { moment = x.available; left = e.left - 1; appearance = e.appearance });
}

abbrev pub after_take_by : Parts → Entry → Document → Parts
after_take_by p e x = cond (take_refusal_by p e x == 0) (taken p e x) p

-- why a tick is refused, or 0
abbrev pub tick_refusal_by : Entry → ℕ → ℕ
tick_refusal_by e t = cond (nat_lt t e.moment) 8 (cond (nat_le t entry_limit) 0 11)

-- after a tick: the entry moment is the one named, the settled moment has grown by as much
abbrev pub ticked : Parts → Entry → ℕ → Parts
ticked p e t = record {
  shown = p.shown;
  settled = p.settled + (t - e.moment);
  total = p.total;
  entry = Some (record { moment = t; left = e.left; appearance = e.appearance });
}

abbrev pub after_tick_by : Parts → Entry → ℕ → Parts
after_tick_by p e t = cond (tick_refusal_by e t == 0) (ticked p e t) p

-- what is shown of a document that is taken is not due before the settled moment that held before
abbrev pub PromptBy : Parts → Entry → Document → Type 0
PromptBy p e x = take_refusal_by p e x ≡ 0 → p.settled ≤ due (e.appearance x)

-- The same over a stream's parts. A stream that does not take is never sent these.
module _ (p : Parts) where
  abbrev pub take_refusal_at : Option Entry → Document → ℕ
  take_refusal_at (Some e) x = take_refusal_by p e x
  take_refusal_at None x = 0

  abbrev pub after_take_at : Option Entry → Document → Parts
  after_take_at (Some e) x = after_take_by p e x
  after_take_at None x = p

  abbrev pub tick_refusal_at : Option Entry → ℕ → ℕ
  tick_refusal_at (Some e) t = tick_refusal_by e t
  tick_refusal_at None t = 0

  abbrev pub after_tick_at : Option Entry → ℕ → Parts
  after_tick_at (Some e) t = after_tick_by p e t
  after_tick_at None t = p

  abbrev pub PromptAt : Option Entry → Document → Type 0
  PromptAt (Some e) x = PromptBy p e x
  PromptAt None x = Unit {0}

abbrev pub take_refusal : Parts → Document → ℕ
take_refusal p x = take_refusal_at p p.entry x

abbrev pub after_take : Parts → Document → Parts
after_take p x = after_take_at p p.entry x

abbrev pub tick_refusal : Parts → ℕ → ℕ
tick_refusal p t = tick_refusal_at p p.entry t

abbrev pub after_tick : Parts → ℕ → Parts
after_tick p t = after_tick_at p p.entry t

abbrev pub Prompt : Parts → Document → Type 0
Prompt p x = PromptAt p p.entry x
