-- The two tables of a plan, one after the other.
use Rattle.std.proofs.Common.{◌≡◌, ℕ, ◌+◌, ◌<◌, ◌≤◌, leb, List, [], ◌∷◌, ◌++◌, length, take, drop, Some, Ok, codes, sym, ap, ◌∙◌, ap₂, arith}
use Rattle.std.proofs.lemmas.Bool.{le-leb, lt-leb, cond-true, cond-false}
use Rattle.std.proofs.lemmas.List.{append_assoc, length-append, length-take-le, length-drop, drop_at}
use Rattle.std.specs.Fmt.{digits}
use Rattle.times.specs.Refusals.{wrote, refused, into}
use Rattle.times.specs.Put.{put_before}
use Rattle.times.proofs.Puts.{put_front}
use Rattle.documents.specs.declared.document.Document.{Document}
use Rattle.streams.specs.Streams.{Parts}
use Rattle.streams.specs.Tables.{table_parts}
use Rattle.questions.specs.declared.window.Window.{Window}
use Rattle.questions.specs.Resolved.{told_window, window_for}
use Rattle.questions.specs.Texts.{schedule_text_of}
use Rattle.plan.specs.Pieces.{pieces_of}
use Rattle.plan.specs.Plans.{empty_table, handed_in_of, refusals_text, refusal_names, plan_text, plan_in, plan_of, entry_window}

pub names_after : (w : Window) (n : ℕ) (p p' : Parts) → n ≡ length (schedule_text_of w p.shown) → p ≡ p' → n + 33 ≡ length (schedule_text_of w p'.shown ++ refusal_names)
names_after w n p p' e f =
    ap (λ k. k + 33) (e ∙ ap (λ (v : Parts). length (schedule_text_of w v.shown)) f) ∙ sym (length-append (schedule_text_of w p'.shown) refusal_names)

length_around : (begin end : ℕ) (text out : List ℕ) → end ≡ begin + length text → end ≤ length out → length (take begin out ++ (text ++ drop end out)) ≡ length out
length_around begin end text out e h =
    length-append (take begin out) (text ++ drop end out)
    ∙ ap₂ (λ (x y : ℕ). x + y) (length-take-le begin out (omega arith)) (length-append text (drop end out) ∙ ap (λ k. length text + k) (length-drop end out))
    ∙ omega arith

pub whole : (w : Window) (begin end : ℕ) (p p' : Parts) (refusals out first second : List ℕ) → p ≡ p' → begin ≡ length (schedule_text_of w p'.shown ++ refusal_names) → end ≡ begin + length refusals → end ≤ length out
    → first ≡ take begin out ++ (refusals ++ drop end out) → second ≡ put_before begin (schedule_text_of w p.shown ++ refusal_names) first
    → second ≡ plan_text w p'.shown refusals ++ drop (begin + length refusals) out
whole w begin end p p' refusals out first second f b e h g both =
    let text : List ℕ = schedule_text_of w p'.shown ++ refusal_names in
    let same : schedule_text_of w p.shown ++ refusal_names ≡ text = ap (λ (v : Parts). schedule_text_of w v.shown ++ refusal_names) f in
    let long : length first ≡ length out = ap length g ∙ length_around begin end refusals out e h in
    both
    ∙ put_front (schedule_text_of w p.shown ++ refusal_names) first begin (b ∙ ap length (sym same)) (omega arith)
    ∙ ap₂ (λ (x y : List ℕ). x ++ y) same (ap (drop begin) g ∙ drop_at (take begin out) (refusals ++ drop end out) begin (length-take-le begin out (omega arith)))
    ∙ sym (append_assoc text refusals (drop end out))
    ∙ ap (λ n. (text ++ refusals) ++ drop n out) e

-- a table that was just made
pub table_empty : (used moment n : ℕ) (xs ys : List Document) → used ≡ 0 → moment ≡ 0 → xs ≡ ys → length ys ≡ n → n ≤ 4096 → table_parts used xs moment ≡ empty_table n
table_empty used moment n xs ys u m e l h =
    ap₂ (λ (i t : ℕ). table_parts i xs t) u m
    ∙ ap (λ (zs : List Document). table_parts 0 zs 0) e
    ∙ ap (λ (k : ℕ). record { shown = []; settled = 0; total = 0; entry = Some (record { moment = 0; left = k; appearance = λ x. x }) }) (omega arith)

-- the plan of an input that is not too long, over a table of the parts p
module _ (w : Window) (n : ℕ) (input out : List ℕ) (short : length input ≤ 65536) where
  text_of : Parts → List ℕ
  text_of p = plan_text w (handed_in_of p (pieces_of input)).shown (refusals_text 1 p (pieces_of input))

  is-plan : (p : Parts) → p ≡ empty_table n → text_of p ≡ plan_in w n input
  unfolding text_of
  is-plan p e = ap text_of e ∙ sym (cond-true (leb (length input) 65536) _ _ (le-leb _ _ short))

  long_as : (p : Parts) (begin total : ℕ) → begin ≡ length (schedule_text_of w (handed_in_of p (pieces_of input)).shown ++ refusal_names) → total ≡ begin + length (refusals_text 1 p (pieces_of input)) → total ≡ length (text_of p)
  unfolding text_of
  long_as p begin total b t = t ∙ ap (λ k. k + length (refusals_text 1 p (pieces_of input))) b ∙ sym (length-append (schedule_text_of w (handed_in_of p (pieces_of input)).shown ++ refusal_names) (refusals_text 1 p (pieces_of input)))

  pub plan-refused : (p : Parts) (begin total : ℕ) → p ≡ empty_table n → begin ≡ length (schedule_text_of w (handed_in_of p (pieces_of input)).shown ++ refusal_names) → total ≡ begin + length (refusals_text 1 p (pieces_of input))
      → length out < total → refused 17 out ≡ into (plan_in w n input) out
  plan-refused p begin total e b t h =
      let l : total ≡ length (plan_in w n input) = long_as p begin total b t ∙ ap length (is-plan p e) in
      sym (cond-false (leb (length (plan_in w n input)) (length out)) _ _ (lt-leb _ _ (omega (arith, l))))

  pub plan-wrote : (p q : Parts) (begin total : ℕ) (after : List ℕ) → p ≡ empty_table n → q ≡ empty_table n → begin ≡ length (schedule_text_of w (handed_in_of p (pieces_of input)).shown ++ refusal_names) → total ≡ begin + length (refusals_text 1 p (pieces_of input))
      → total ≤ length out → after ≡ plan_text w (handed_in_of q (pieces_of input)).shown (refusals_text 1 q (pieces_of input)) ++ drop (begin + length (refusals_text 1 q (pieces_of input))) out → wrote total after ≡ into (plan_in w n input) out
  unfolding text_of
  plan-wrote p q begin total after e f b t h a =
      let l : total ≡ length (plan_in w n input) = long_as p begin total b t ∙ ap length (is-plan p e) in
      let same : refusals_text 1 q (pieces_of input) ≡ refusals_text 1 p (pieces_of input) = ap (λ (v : Parts). refusals_text 1 v (pieces_of input)) (f ∙ sym e) in
      let d : begin + length (refusals_text 1 q (pieces_of input)) ≡ length (plan_in w n input) = ap (λ (x : List ℕ). begin + length x) same ∙ sym t ∙ l in
      ap₂ wrote l (a ∙ ap₂ (λ (x : List ℕ) (k : ℕ). x ++ drop k out) (is-plan q f) d)
      ∙ sym (cond-true (leb (length (plan_in w n input)) (length out)) _ _ (le-leb _ _ (omega (arith, l))))

-- the one window that a plan is made in
pub same_window : (w : Window) → told_window (Ok w) ≡ window_for 0 355199999 → w ≡ entry_window
same_window w e =
    let b : w.begin ≡ 0 = cc in
    let d : w.end ≡ 355199999 = cc in
    ap₂ (λ (x y : ℕ). record { begin = x; end = y }) b d

-- what is printed of an input that is too long
abbrev pub too_long : List ℕ
too_long = codes "number,begin,end,content" ++ (10 ∷ (codes "document,refusal,line,byte,cause" ++ (10 ∷ (codes "0,1,0,0,0" ++ (10 ∷ [])))))

pub plan_long : (input : List ℕ) → 65536 < length input → too_long ≡ plan_of input
unfolding digits
plan_long input h = sym (cond-false (leb (length input) 65536) _ _ (lt-leb _ _ h))
