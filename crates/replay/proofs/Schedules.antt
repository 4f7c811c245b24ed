-- The schedule's text in an output of exactly its length.
use Rattle.std.proofs.Common.{◌≡◌, ℕ, List, ◌++◌, length, take, drop, Ok, ap, ◌∙◌, ap₂, arith}
use Rattle.std.proofs.lemmas.List.{drop_all, take_at, append-nil}
use Rattle.times.specs.Put.{put_before}
use Rattle.times.proofs.Puts.{put_front}
use Rattle.questions.specs.declared.window.Window.{Window}
use Rattle.questions.specs.Resolved.{told_window, window_for}
use Rattle.replay.specs.Replays.{whole_window}

-- an output of exactly the text's length holds the text
filled : (n : ℕ) (out out' text : List ℕ) → out' ≡ put_before n text out → n ≡ length text → n ≡ length out → out' ≡ text
filled n out out' text e l m = e ∙ put_front text out n l (omega arith) ∙ ap (λ (xs : List ℕ). text ++ xs) (drop_all n out (omega arith)) ∙ append-nil text

pub refilled : (n len : ℕ) (items out out' text whole : List ℕ) → out' ≡ put_before n text out → length out ≡ len → len ≡ n → n ≡ length text → text ≡ whole → take len (out' ++ drop (length out') items) ≡ whole
refilled n len items out out' text whole e o m l w =
    let f : out' ≡ text = filled n out out' text e l (omega arith) in
    take_at out' (drop (length out') items) len (omega (arith, ap length f)) ∙ f ∙ w

pub whole_window_is : (w : Window) → told_window (Ok w) ≡ window_for 0 359999999 → w ≡ whole_window
whole_window_is w e =
    let b : w.begin ≡ 0 = cc in
    let d : w.end ≡ 359999999 = cc in
    ap₂ (λ (x y : ℕ). record { begin = x; end = y }) b d
