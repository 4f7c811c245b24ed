-- The calls, what is answered to them, and the book that follows from them.
use Rattle.std.specs.Prelude.{ℕ, zero, suc, Bool, true, false, List, [], ◌∷◌, Some, None, Option}
use Rattle.times.specs.Refusals.{number_of}
use Rattle.fields.specs.Faults.{Told, fine, refused, cause_number_of}
use Rattle.streams.specs.Streams.{Parts, Entry}
use Rattle.streams.specs.Taking.{take_refusal, after_take, tick_refusal, after_tick, Prompt}
use Rattle.streams.specs.Handing.{hand_in_told, hand_in_after, PromptHandIn}
use Rattle.questions.specs.Asking as asking
use Rattle.questions.specs.Asking.{Answer, done, not_handed_in, does_not_take, active, interval, active_of, interval_of}
use Rattle.stacks.specs.declared.calls.Call.{Call}
use Rattle.stacks.specs.declared.calls.Call.TheVariants.{HandIn, Take, Tick, Active, Interval}
use Rattle.stacks.specs.declared.calls.Reply.{Reply}
use Rattle.stacks.specs.declared.calls.Reply.TheVariants.{Done, Refused, NotHandedIn, DoesNotTake, Shows, Lasts}

-- a reply, with its number if it is a refusal
abbrev pub told_reply : Reply → Answer
told_reply Done = done
told_reply (Refused e) = asking.refused (number_of e)
told_reply (NotHandedIn r) = not_handed_in (number_of r.refusal) r.line r.byte (cause_number_of r.cause)
told_reply DoesNotTake = does_not_take
told_reply (Shows o m) = active o m
told_reply (Lasts b e m) = interval b e m

-- whether a call only asks
abbrev pub asks : Call → Bool
asks (HandIn text) = false
asks (Take x) = false
asks (Tick t) = false
asks (Active w t) = true
asks (Interval w n) = true

-- an answer's mark: only a question's answer has one
abbrev pub marked : Answer → Bool
marked done = false
marked (asking.refused n) = false
marked (not_handed_in n l b c) = false
marked does_not_take = false
marked (active o m) = m
marked (interval b e m) = m

-- the answer of a call that refuses with n, or with none at 0
abbrev pub answered : ℕ → Answer
answered zero = done
answered (suc n) = asking.refused (suc n)

-- the answer of a hand-in
abbrev pub handed_answer : Told (Unit {0}) → Answer
handed_answer (fine u) = done
handed_answer (refused n l b c) = not_handed_in n l b c

-- what is answered to a call by parts that only answer
abbrev pub asked_of : Parts → Call → Answer
asked_of p (HandIn text) = does_not_take
asked_of p (Take x) = does_not_take
asked_of p (Tick t) = does_not_take
asked_of p (Active w t) = active_of p w t
asked_of p (Interval w n) = interval_of p w n

-- what is answered to a call by parts that take
abbrev pub taking_reply : Parts → Call → Answer
taking_reply p (HandIn text) = handed_answer (hand_in_told p text.now)
taking_reply p (Take x) = answered (take_refusal p x)
taking_reply p (Tick t) = answered (tick_refusal p t)
taking_reply p (Active w t) = active_of p w t
taking_reply p (Interval w n) = interval_of p w n

abbrev pub reply_at : Parts → Option Entry → Call → Answer
reply_at p (Some e) c = taking_reply p c
reply_at p None c = asked_of p c

-- what the book answers to a call
abbrev pub reply : Parts → Call → Answer
reply p c = reply_at p p.entry c

-- what becomes of the book: a call that is refused leaves it, a question leaves it, and so does any call
-- where the stream does not take
abbrev pub follow : Parts → Call → Parts
follow p (HandIn text) = hand_in_after p text.now
follow p (Take x) = after_take p x
follow p (Tick t) = after_tick p t
follow p (Active w t) = p
follow p (Interval w n) = p

-- the book after a list of calls, and what it answered to each
abbrev pub run : Parts → List Call → Parts
run p [] = p
run p (c ∷ cs) = run (follow p c) cs

abbrev pub replies : Parts → List Call → List Answer
replies p [] = []
replies p (c ∷ cs) = reply p c ∷ replies (follow p c) cs

-- what a call takes is not due before the settled moment
abbrev pub PromptCall : Parts → Call → Type 0
PromptCall p (HandIn text) = PromptHandIn p text.now
PromptCall p (Take x) = Prompt p x
PromptCall p (Tick t) = Unit {0}
PromptCall p (Active w t) = Unit {0}
PromptCall p (Interval w n) = Unit {0}

-- so for every call of a list
abbrev pub PromptRun : Parts → List Call → Type 0
PromptRun p [] = Unit {0}
PromptRun p (c ∷ cs) = PromptCall p c × PromptRun (follow p c) cs
