-- The two questions: which document is active at a moment, and when one document is on screen.
use Rattle.std.specs.Prelude.{ℕ, Bool, cond, ◌&&◌, List, [], ◌∷◌, Some, None, Ok, Err, Option, Result, nat_eq, nat_le, nat_lt}
use Rattle.std.specs.Option.{option_map}
use Rattle.times.specs.declared.refusal.Refusal.{Refusal}
use Rattle.times.specs.Refusals.{number_of}
use Rattle.times.specs.Clock.{last_moment}
use Rattle.documents.specs.declared.document.Document.{Document}
use Rattle.streams.specs.Streams.{Parts}
use Rattle.questions.specs.declared.window.Window.{Window}
use Rattle.questions.specs.Resolved.{resolved_begin_of, resolved_end_of}

-- what a call on a stream answers, each refusal with its number
pub data Answer : Type 0 where
  -- a take, a tick or a hand-in that was not refused
  done : Answer
  refused : ℕ → Answer
  -- a refused hand-in: number, line, byte, cause
  not_handed_in : ℕ → ℕ → ℕ → ℕ → Answer
  -- a take, a tick or a hand-in on a stream that does not take
  does_not_take : Answer
  -- the active number with its content, if any, and the mark settled
  active : Option (ℕ × ℕ) → Bool → Answer
  -- both resolved times and the mark settled
  interval : ℕ → ℕ → Bool → Answer

-- a document is active at t when its resolved begin is at most t and t is before its resolved end
abbrev pub is_active : Window → List Document → ℕ → Document → Bool
is_active w shown t d = nat_le (resolved_begin_of w d) t && nat_lt t (resolved_end_of w shown d)

-- the first document that passes a test
abbrev pub found : (Document → Bool) → List Document → Option Document
found test [] = None
found test (d ∷ shown) = cond (test d) (Some d) (found test shown)

-- a document by its number and content
abbrev pub naming : Document → ℕ × ℕ
naming d = (d.number, d.content)

-- the active question: 15 past the last moment; the mark is set exactly when t is before the settled moment
abbrev pub active_of : Parts → Window → ℕ → Answer
active_of p w t =
    cond (nat_lt last_moment t) (refused 15)
    (active (option_map naming (found (is_active w p.shown t) p.shown)) (nat_lt t p.settled))

-- the interval of a document: the mark is set exactly when the end is at most the settled moment
abbrev pub interval_in : Parts → Window → Option Document → Answer
interval_in p w None = refused 16
interval_in p w (Some d) = interval (resolved_begin_of w d) (resolved_end_of w p.shown d) (nat_le (resolved_end_of w p.shown d) p.settled)

-- the interval question names a number; one that is not shown is 16
abbrev pub interval_of : Parts → Window → ℕ → Answer
interval_of p w n = interval_in p w (found (λ d. nat_eq d.number n) p.shown)

-- the calls' results, with their numbers
abbrev pub told_active : Result (Option (ℕ × ℕ) × Bool) Refusal → Answer
told_active (Ok r) = active r.0 r.1
told_active (Err e) = refused (number_of e)

abbrev pub told_interval : Result (ℕ × ℕ × Bool) Refusal → Answer
told_interval (Ok r) = interval r.0 r.1 r.2
told_interval (Err e) = refused (number_of e)
