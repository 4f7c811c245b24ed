-- A line that was put before the end of its room.
use Rattle.std.proofs.Common.{◌≡◌, ℕ, ◌-◌, ◌≤◌, List, [], ◌++◌, length, take, drop, ap, ◌∙◌, ap₂, arith}
use Rattle.std.proofs.lemmas.List.{length-take-le, drop_at, drop_all, append-nil}
use Rattle.times.specs.declared.put.BackWriter.{BackWriter}
use Rattle.times.specs.Put.{Puts, room}

pub put_tail : (end : ℕ) (text : List ℕ) (w w' : BackWriter) → w.end ≡ end → length w.out.now ≡ end → length text ≤ end → Puts text w w' → drop w'.end w'.out.now ≡ text
put_tail end text w w' we l h p =
    let out : List ℕ = w.out.now in
    let r : room w.end out - length text ≡ end - length text = omega arith in
    let z : length text - room w.end out ≡ 0 = omega arith in
    let t : length (take (end - length text) out) ≡ end - length text = length-take-le (end - length text) out (omega arith) in
    let e : w'.out.now ≡ take (end - length text) out ++ (text ++ []) =
    p.holds ∙ ap₂ (λ (i j : ℕ). take i out ++ (drop j text ++ drop w.end out)) r z ∙ ap (λ (xs : List ℕ). take (end - length text) out ++ (text ++ xs)) (drop_all w.end out (omega arith)) in
    ap₂ (λ (i : ℕ) (xs : List ℕ). drop i xs) (p.begins ∙ r) e ∙ drop_at (take (end - length text) out) (text ++ []) (end - length text) t ∙ append-nil text
