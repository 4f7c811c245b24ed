-- The calls of a script: a text that is handed in, one line more, and what is written for them.
use Rattle.std.proofs.Common.{◌≡◌, ℕ, ◌+◌, Bool, true, false, cond, List, [], ◌∷◌, ◌++◌, length, Some, None, Option, Result, sym, refl, ap, ◌∙◌, ap₂}
use Rattle.std.proofs.lemmas.Bool.{cond-true, cond-false}
use Rattle.std.proofs.lemmas.List.{append_assoc}
use Rattle.times.specs.declared.refusal.Refusal.{Refusal}
use Rattle.streams.specs.Streams.{Parts}
use Rattle.questions.specs.Asking.{Answer}
use Rattle.questions.specs.Texts.{schedule_text_of}
use Rattle.stacks.specs.declared.calls.Call.{Call}
use Rattle.scripts.specs.declared.command.Command.{Command}
use Rattle.scripts.specs.declared.command.Command.TheVariants as says
use Rattle.scripts.specs.declared.lines.Line.{Line}
use Rattle.scripts.specs.Lines.{ScriptLine, is_blank, skip_blank_of, text_end, after_text, between}
use Rattle.scripts.specs.Commands.{command_of}
use Rattle.scripts.specs.Left.{line_of, lines_left}
use Rattle.scripts.specs.Printing.{reply_text}
use Rattle.replay.specs.Readings.{Ask, sends, Calls, handing, calling, step_of, with_step, read_calls_of}
use Rattle.replay.specs.Replays.{hands_in_of, reply_to, follow_to, run_to, call_lines, call_names, whole_window, stop_text, calls_text}
use Rattle.replay.specs.Walks.{waiting, told_ask, with_ask}
use Rattle.replay.specs.declared.reading.Reading.{Reading}
use Rattle.replay.proofs.Skips.{skipped}
use Rattle.replay.proofs.Waiting.{in_hand, hand_shown}

module _ (input : List ℕ) (takes : Bool) where
  -- a text and the calls after it
  text-read : (from : ℕ) (ls : List ScriptLine) → read_calls_of input takes (Some from) ls ≡ calling (sends (handing (between from (text_end (length input) ls) input))) (read_calls_of input takes None (after_text ls))
  text-read from [] = refl
  text-read from (l ∷ ls) = step (is_blank l) (text-read from ls)
    where
      step : (b : Bool) → read_calls_of input takes (Some from) ls ≡ calling (sends (handing (between from (text_end (length input) ls) input))) (read_calls_of input takes None (after_text ls))
          → cond b (calling (sends (handing (between from l.offset input))) (read_calls_of input takes None ls)) (read_calls_of input takes (Some from) ls)
          ≡ calling (sends (handing (between from (cond b l.offset (text_end (length input) ls)) input))) (read_calls_of input takes None (cond b ls (after_text ls)))
      step true ih = refl
      step false ih = ih

  pub text-call : (l : ScriptLine) (ls : List ScriptLine) (text : List ℕ) (rest : List ScriptLine) → Some says.Text ≡ command_of l → takes ≡ true
      → text ≡ between l.past (text_end (length input) ls) input → rest ≡ after_text ls
      → with_step (step_of takes (command_of l)) l.number (read_calls_of input takes None ls) (read_calls_of input takes (Some l.past) ls) ≡ calling (sends (handing text)) (read_calls_of input takes None rest)
  text-call l ls text rest f t x r =
      ap₂ (λ (b : Bool) (p : Option Command). with_step (step_of b p) l.number (read_calls_of input takes None ls) (read_calls_of input takes (Some l.past) ls)) t (sym f)
      ∙ text-read l.past ls
      ∙ ap₂ (λ (bytes : List ℕ) (xs : List ScriptLine). calling (sends (handing bytes)) (read_calls_of input takes None xs)) (sym x) (sym r)

  calls-blank : (l : ScriptLine) (ls : List ScriptLine) → is_blank l ≡ true → read_calls_of input takes None (l ∷ ls) ≡ read_calls_of input takes None ls
  calls-blank l ls h = cond-true (is_blank l) _ _ h

  -- the calls from the next line on
  pub calls-skipped : (ls xs : List ScriptLine) → xs ≡ skip_blank_of ls → read_calls_of input takes None xs ≡ read_calls_of input takes None ls
  calls-skipped ls xs e = sym (skipped (read_calls_of input takes None) calls-blank ls xs e)

  pub calls-line : (l : ScriptLine) (ls : List ScriptLine) → is_blank l ≡ false
      → read_calls_of input takes None (l ∷ ls) ≡ with_step (step_of takes (command_of l)) l.number (read_calls_of input takes None ls) (read_calls_of input takes (Some l.past) ls)
  calls-line l ls h = cond-false (is_blank l) _ _ h

  -- the call of the line in hand, and the calls after it
  pub next-call : (r r' : Reading) (line : Line) (mid : List ScriptLine) (x : Result Call Refusal) → r.line ≡ Some line
      → with_step (step_of takes (command_of (line_of line))) line.number (read_calls_of input takes None (lines_left r.script)) (read_calls_of input takes (Some line.past) (lines_left r.script)) ≡ with_ask (Some x) line.number (read_calls_of input takes None mid)
      → waiting r' ≡ skip_blank_of mid
      → read_calls_of input takes None (waiting r) ≡ calling (told_ask x) (read_calls_of input takes None (waiting r'))
  next-call r r' line mid x e w k =
      ap (read_calls_of input takes None) (in_hand r line e) ∙ calls-line (line_of line) (lines_left r.script) (hand_shown r line e) ∙ w ∙ ap (calling (told_ask x)) (sym (calls-skipped mid (waiting r') k))

  -- a line that is no call ends them
  pub no-call : (r : Reading) (line : Line) (mid : List ScriptLine) → r.line ≡ Some line
      → with_step (step_of takes (command_of (line_of line))) line.number (read_calls_of input takes None (lines_left r.script)) (read_calls_of input takes (Some line.past) (lines_left r.script)) ≡ with_ask None line.number (read_calls_of input takes None mid)
      → read_calls_of input takes None (waiting r) ≡ record { calls = []; stops = Some line.number }
  no-call r line mid e w = ap (read_calls_of input takes None) (in_hand r line e) ∙ calls-line (line_of line) (lines_left r.script) (hand_shown r line e) ∙ w

-- one line more for a call
pub call_more : (k k' : ℕ) (p p' : Parts) (c : Ask) (cs : List Ask) (b : Bool) (a : Answer) → b ≡ hands_in_of c → a ≡ reply_to p c → p' ≡ follow_to p c → k' ≡ k → call_lines k p (c ∷ cs) ≡ reply_text k b a ++ call_lines (k' + 1) p' cs
call_more k k' p p' c cs b a e f g h =
    sym (ap₂ (λ (x : Bool) (y : Answer). reply_text k x y ++ call_lines (k' + 1) p' cs) e f ∙ ap₂ (λ (j : ℕ) (q : Parts). reply_text k (hands_in_of c) (reply_to p c) ++ call_lines (j + 1) q cs) h g)

-- the calls of a script with the lines before and after them, and the schedule
pub told : (w w₁ w₂ w₃ : List ℕ) (p q : Parts) (c : Calls) (text slice : List ℕ) (stops : Option ℕ)
    → w₁ ≡ w ++ (call_names ++ call_lines 1 p c.calls) → q ≡ run_to p c.calls → text ≡ schedule_text_of whole_window q.shown → slice ≡ text → w₂ ≡ w₁ ++ slice → stops ≡ c.stops → w₃ ≡ w₂ ++ stop_text stops
    → w₃ ≡ w ++ calls_text p c
told w w₁ w₂ w₃ p q c text slice stops b d e f g h i =
    let lines = call_lines 1 p c.calls in
    let schedule = schedule_text_of whole_window (run_to p c.calls).shown in
    let s : slice ≡ schedule = f ∙ e ∙ ap (λ (v : Parts). schedule_text_of whole_window v.shown) d in
    i
    ∙ ap₂ (λ (xs : List ℕ) (o : Option ℕ). xs ++ stop_text o) (g ∙ ap₂ (λ (xs ys : List ℕ). xs ++ ys) b s) h
    ∙ append_assoc (w ++ (call_names ++ lines)) schedule (stop_text c.stops)
    ∙ append_assoc w (call_names ++ lines) (schedule ++ stop_text c.stops)
    ∙ ap (λ (xs : List ℕ). w ++ xs) (append_assoc call_names lines (schedule ++ stop_text c.stops))
