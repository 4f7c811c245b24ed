-- A run over a bare stream, from its parts.
use Rattle.std.proofs.Common.{◌≡◌, ℕ, suc, ◌+◌, ◌<◌, ◌≤◌, min, Bool, true, false, cond, leb, List, [], ◌∷◌, ◌++◌, length, is_ok, Some, None, Ok, Err, Option, Result, OnOk, MatchOption, sym, refl, ap, ◌∙◌, ap₂, arith}
use Rattle.std.proofs.lemmas.Bool.{cond-true, cond-false, le-leb, lt-leb}
use Rattle.plan.specs.Plans.{empty_table}
use Rattle.std.proofs.lemmas.List.{append_assoc, nil_from_length}
use Rattle.streams.specs.Streams.{Parts, Entry}
use Rattle.streams.specs.Stacks.{Delay, stack}
use Rattle.nodes.specs.declared.delay.pile.Nodes.{Nodes}
use Rattle.nodes.specs.Piles.{standing, pile_parts, pile_stacked}
use Rattle.stacks.specs.Still.{still, still_stacked}
use Rattle.scripts.specs.Lines.{ScriptLine, is_blank, skip_blank_of, readable_of, script_lines}
use Rattle.scripts.specs.Commands.{start_of}
use Rattle.scripts.specs.Printing.{unreadable_text}
use Rattle.scripts.specs.declared.command.Start.{Start}
use Rattle.scripts.specs.declared.command.Start.TheVariants.{Live, Prepared}
use Rattle.scripts.specs.declared.lines.Line.{Line}
use Rattle.scripts.specs.Left.{line_of, lines_left, pending}
use Rattle.replay.specs.declared.reading.Reading.{Reading}
use Rattle.replay.specs.Walks.{waiting}
use Rattle.replay.proofs.Skips.{skipped, entries_blank}
use Rattle.replay.proofs.Standings.{nodes-blank}
use Rattle.replay.proofs.Waiting.{in_hand, hand_shown}
use Rattle.replay.specs.Readings.{NodeLines, read_calls_of, delays_of}
use Rattle.replay.specs.Replays.{node_names, node_lines, calls_text, nodes_text, prepared_text, start_text, lines_text, replay_of}

-- the nodes and the calls, written one after the other
pub noded : (input input' : List ℕ) (takes : Bool) (bare p : Parts) (n : NodeLines) (rest : List ScriptLine) (s : Nodes) (w w₁ w₂ : List ℕ)
    → w₁ ≡ w ++ (node_names ++ node_lines 1 n.replies) → delays_of s ≡ n.standing → rest ≡ n.rest → p ≡ stack (delays_of s) bare → input' ≡ input
    → w₂ ≡ w₁ ++ calls_text p (read_calls_of input' takes None rest) → w₂ ≡ w ++ nodes_text input takes bare n
noded input input' takes bare p n rest s w w₁ w₂ b d e f g h =
    let q : p ≡ stack n.standing bare = f ∙ ap (λ (ks : List Delay). stack ks bare) d in
    let c : read_calls_of input' takes None rest ≡ read_calls_of input takes None n.rest = ap₂ (λ (t : List ℕ) (ls : List ScriptLine). read_calls_of t takes None ls) g e in
    let text : List ℕ = calls_text (stack n.standing bare) (read_calls_of input takes None n.rest) in
    h
    ∙ ap₂ (λ (xs ys : List ℕ). xs ++ ys) b (ap₂ calls_text q c)
    ∙ append_assoc w (node_names ++ node_lines 1 n.replies) text
    ∙ ap (λ (xs : List ℕ). w ++ xs) (append_assoc node_names (node_lines 1 n.replies) text)

-- a pile is its nodes over the stream below
pub piled : (s : Nodes) (p : Parts) → pile_parts (standing s) p ≡ stack (delays_of s) p
piled s p = pile_stacked (standing s) [] p p refl

-- parts that do not take are as still as they can be
still_same : (p : Parts) → p.entry ≡ None → still p ≡ p
still_same p e = ap (λ (o : Option Entry). record { shown = p.shown; settled = p.settled; total = p.total; entry = o }) (sym e)

pub still_piled : (s : Nodes) (p : Parts) → p.entry ≡ None → still (pile_parts (standing s) p) ≡ stack (delays_of s) p
still_piled s p e = still_stacked (delays_of s) (pile_parts (standing s) p) p (piled s p) ∙ ap (stack (delays_of s)) (still_same p e)

-- the run of a script, from its first line that is not blank
pub lines_start : (input : List ℕ) (n : ℕ) (ls rest : List ScriptLine) (l : ScriptLine) → l ∷ rest ≡ skip_blank_of ls → is_blank l ≡ false → lines_text input n ls ≡ start_text input l.number (start_of l) rest
lines_start input n [] rest l e h = let z : ◌≡◌ {A = ℕ} 0 1 = cc in absurd (omega arith)
lines_start input n (m ∷ ls) rest l e h = step (is_blank m) refl (λ f. lines_start input (n + 1) ls rest l f h)
  where
    step : (b : Bool) → is_blank m ≡ b → (l ∷ rest ≡ skip_blank_of ls → lines_text input (n + 1) ls ≡ start_text input l.number (start_of l) rest) → lines_text input n (m ∷ ls) ≡ start_text input l.number (start_of l) rest
    step true k more = cond-true (is_blank m) _ _ k ∙ more (e ∙ cond-true (is_blank m) (skip_blank_of ls) (m ∷ ls) k)
    step false k more =
        let f : l ∷ rest ≡ m ∷ ls = e ∙ cond-false (is_blank m) (skip_blank_of ls) (m ∷ ls) k in
        let a : m ≡ l = cc in
        let b : ls ≡ rest = cc in
        cond-false (is_blank m) _ _ k ∙ ap₂ (λ (x : ScriptLine) (xs : List ScriptLine). start_text input x.number (start_of x) xs) a b

pub lines_none : (input : List ℕ) (n : ℕ) (ls : List ScriptLine) → [] ≡ skip_blank_of ls → lines_text input n ls ≡ unreadable_text (n + length ls)
lines_none input n [] e = ap unreadable_text (omega arith)
lines_none input n (m ∷ ls) e = step (is_blank m) refl (λ f. lines_none input (n + 1) ls f)
  where
    step : (b : Bool) → is_blank m ≡ b → ([] ≡ skip_blank_of ls → lines_text input (n + 1) ls ≡ unreadable_text ((n + 1) + length ls)) → lines_text input n (m ∷ ls) ≡ unreadable_text (n + suc (length ls))
    step true k more = cond-true (is_blank m) _ _ k ∙ more (e ∙ cond-true (is_blank m) (skip_blank_of ls) (m ∷ ls) k) ∙ ap unreadable_text (omega arith)
    step false k more =
        let f : [] ≡ m ∷ ls = e ∙ cond-false (is_blank m) (skip_blank_of ls) (m ∷ ls) k in
        let z : ◌≡◌ {A = ℕ} 0 1 = cc in
        absurd (omega arith)

-- blank lines before the others say nothing to a run either
start_blank : (input : List ℕ) (n : ℕ) (o : Option Start) (l : ScriptLine) (ls : List ScriptLine) → is_blank l ≡ true → start_text input n o (l ∷ ls) ≡ start_text input n o ls
start_blank input n None l ls h = refl
start_blank input n (Some (Live records)) l ls h = ap (nodes_text input true (empty_table (min records 4096))) (nodes-blank (empty_table (min records 4096)) [] l ls h)
start_blank input n (Some Prepared) l ls h = ap (prepared_text input) (entries_blank l ls h)

-- the run from the line in hand on, which is its first
pub lines_in_hand : (r r' : Reading) (line : Line) (input : List ℕ) (n : ℕ) → r.line ≡ Some line → waiting r' ≡ skip_blank_of (lines_left r.script)
    → lines_text input n (waiting r) ≡ start_text input line.number (start_of (line_of line)) (waiting r')
lines_in_hand r r' line input n e k =
    ap (lines_text input n) (in_hand r line e)
    ∙ cond-false (is_blank (line_of line)) _ _ (hand_shown r line e)
    ∙ skipped (start_text input line.number (start_of (line_of line))) (start_blank input line.number (start_of (line_of line))) (lines_left r.script) (waiting r') k

-- the run of a script is that of its lines from the first one in hand on
pub lines_waiting : (r : Reading) (input : List ℕ) (ls : List ScriptLine) → waiting r ≡ skip_blank_of ls → r.script.number + length (lines_left r.script) ≡ length ls
    → lines_text input (r.script.number + 1) (waiting r) ≡ lines_text input 1 ls
lines_waiting r input ls e k = step r.line r.shown e
  where
    step : (n : Option Line) → MatchOption n (length (lines_left r.script) ≡ 0) (λ l. is_blank (line_of l) ≡ false) → pending n (lines_left r.script) ≡ skip_blank_of ls
        → lines_text input (r.script.number + 1) (pending n (lines_left r.script)) ≡ lines_text input 1 ls
    step None z h =
        let none : lines_left r.script ≡ [] = nil_from_length (lines_left r.script) z in
        ap (lines_text input (r.script.number + 1)) none ∙ ap unreadable_text (omega (arith, k, z)) ∙ sym (lines_none input 1 ls (sym none ∙ h))
    step (Some l) z h = cond-false (is_blank (line_of l)) _ _ z ∙ sym (lines_start input 1 ls (lines_left r.script) (line_of l) h z)

pub readable : (input : List ℕ) → length input ≤ 1048576 → readable_of input ≡ input
readable input h = cond-true (leb (length input) 1048576) input [] (le-leb (length input) 1048576 h)

-- a run of the whole script, if it is no longer than the longest
pub whole_run : (r : Reading) (input : List ℕ) → length input ≤ 1048576 → waiting r ≡ skip_blank_of (script_lines input) → r.script.number + length (lines_left r.script) ≡ length (script_lines input) → r.script.text.now ≡ readable_of input
    → lines_text r.script.text.now (r.script.number + 1) (waiting r) ≡ replay_of input
whole_run r input h e k t =
    ap (λ (text : List ℕ). lines_text text (r.script.number + 1) (waiting r)) (t ∙ readable input h)
    ∙ lines_waiting r input (script_lines input) e k
    ∙ sym (cond-true (leb (length input) 1048576) _ _ (le-leb (length input) 1048576 h))

pub too_long : (input : List ℕ) → 1048576 < length input → unreadable_text 0 ≡ replay_of input
too_long input h = sym (cond-false (leb (length input) 1048576) _ _ (lt-leb (length input) 1048576 h))

-- what was written if nothing failed
pub on_written : {E : Type 0} (r : Result (Unit {0}) E) (w w₁ text text' : List ℕ) → w₁ ≡ cond (is_ok r) (w ++ text) w → text ≡ text' → OnOk r (w₁ ≡ w ++ text')
on_written (Ok x) w w₁ text text' e f = e ∙ ap (λ (t : List ℕ). w ++ t) f
on_written (Err y) w w₁ text text' e f = tt
