-- One text put before another is both put at once.
use native.Mathlib.Numerals.{unary_clauses}
use borrow.Rule.Slice.PartMut.{put_mid}
use Rattle.std.proofs.Common.{◌≡◌, ℕ, ◌+◌, ◌-◌, ◌/◌, ◌%◌, ◌^◌, ◌*◌, zero, suc, ◌<◌, ◌≤◌, min, List, ◌++◌, length, take, drop, decimal, sym, refl, ap, ◌∙◌, ap₂, ⊎_elim, arith}
use Rattle.std.proofs.Math.Nat.{one-le-pow}
use Rattle.std.proofs.lemmas.Fmt.{decimal_digit, decimal_step, decimal_nonempty, length-decimal-le}
use Rattle.std.proofs.lemmas.List.{append_assoc, length-append, length-take-le, length-drop, take-append-le, take-take, take_at, drop_at, drop_all, drop-append-le, drop-drop, take_rest, length_push}
use Rattle.std.proofs.lemmas.Bool.{cases_lt}
use Rattle.times.specs.declared.put.BackWriter.{BackWriter}
use Rattle.times.specs.Put.{last_of, room, put_before, Puts}

-- a drop that takes all of the front goes on into the back
drop_past : (n : ℕ) (a b : List ℕ) → length a ≤ n → drop n (a ++ b) ≡ drop (n - length a) b
drop_past n a b h =
    let e : n ≡ length a + (n - length a) = omega arith in
    ap (λ k. drop k (a ++ b)) e ∙ sym (drop-drop (n - length a) (length a) (a ++ b)) ∙ ap (drop (n - length a)) (drop_at a b (length a) refl)

last_append : (n : ℕ) (a b : List ℕ) → last_of n (a ++ b) ≡ last_of (n - length b) a ++ last_of n b
last_append n a b =
    let l : length (a ++ b) - n ≡ length a + length b - n = ap (λ k. k - n) (length-append a b) in
    ap (λ k. drop k (a ++ b)) l
    ∙ ⊎_elim
    (λ (h : length b < n).
    let e : length a + length b - n ≡ length a - (n - length b) = omega arith in
    let z : length b - n ≡ 0 = omega arith in
    ap (λ k. drop k (a ++ b)) e
    ∙ drop-append-le (length a - (n - length b)) a b (omega arith)
    ∙ ap (λ k. drop (length a - (n - length b)) a ++ drop k b) (sym z))
    (λ (h : n ≤ length b).
    let e : length a + length b - n - length a ≡ length b - n = omega arith in
    drop_past (length a + length b - n) a b (omega arith)
    ∙ ap (λ k. drop k b) e
    ∙ ap (λ (xs : List ℕ). xs ++ drop (length b - n) b) (sym (drop_all (length a - (n - length b)) a (omega arith))))
    (cases_lt (length b) n)

length_last : (n : ℕ) (a : List ℕ) → length (last_of n a) ≡ min n (length a)
length_last n a = length-drop (length a - n) a ∙ omega arith

-- a writer keeps the output's length
pub length_put : (end : ℕ) (a out : List ℕ) → length (put_before end a out) ≡ length out
length_put end a out =
    let n : ℕ = room end out in
    let t : length (take (n - length a) out) ≡ n - length a = length-take-le (n - length a) out (omega arith) in
    length-append (take (n - length a) out) (last_of n a ++ drop end out)
    ∙ ap₂ (λ (x y : ℕ). x + y) t (length-append (last_of n a) (drop end out) ∙ ap₂ (λ (x y : ℕ). x + y) (length_last n a) (length-drop end out))
    ∙ omega arith

-- `a` put before `b`
put_put : (end r : ℕ) (a b out out' : List ℕ) → r ≡ room end out - length b → out' ≡ put_before end b out → put_before r a out' ≡ put_before end (a ++ b) out
put_put end r a b out out' e f =
    let n : ℕ = room end out in
    let back : List ℕ = last_of n b ++ drop end out in
    let g : out' ≡ take r out ++ back = f ∙ ap (λ k. take k out ++ back) (sym e) in
    let l : length out' ≡ length out = ap length f ∙ length_put end b out in
    let lr : length (take r out) ≡ r = length-take-le r out (omega arith) in
    let m : room r out' ≡ r = omega arith in
    let t : take (r - length a) out' ≡ take (r - length a) out =
    ap (take (r - length a)) g ∙ take-append-le (r - length a) (take r out) back (omega arith) ∙ take-take (r - length a) r out (omega arith) in
    let d : drop r out' ≡ back = ap (drop r) g ∙ drop_at (take r out) back r lr in
    let w : r - length a ≡ n - length (a ++ b) = omega (arith, length-append a b) in
    ap (λ k. take (k - length a) out' ++ (last_of k a ++ drop r out')) m
    ∙ ap₂ (λ (x y : List ℕ). x ++ (last_of r a ++ y)) t d
    ∙ ap (λ k. take k out ++ (last_of r a ++ back)) w
    ∙ ap (λ (x : List ℕ). take (n - length (a ++ b)) out ++ x) (sym (append_assoc (last_of r a) (last_of n b) (drop end out)) ∙ ap (λ (x : List ℕ). x ++ drop end out) (ap (λ k. last_of k a ++ last_of n b) e ∙ sym (last_append n a b)))

-- where the text begins
put_start : (end r s : ℕ) (a b out out' : List ℕ) → r ≡ room end out - length b → out' ≡ put_before end b out → s ≡ room r out' - length a → s ≡ room end out - length (a ++ b)
put_start end r s a b out out' e f g =
    let l : length out' ≡ length out = ap length f ∙ length_put end b out in
    omega (arith, length-append a b)

-- one text and then another in front of it
pub put_then : (a b : List ℕ) (w w' w'' : BackWriter) → Puts b w w' → Puts a w' w'' → Puts (a ++ b) w w''
put_then a b w w' w'' p q = record {
  begins = put_start w.end w'.end w''.end a b w.out.now w'.out.now p.begins p.holds q.begins;
  holds = q.holds ∙ put_put w.end w'.end a b w.out.now w'.out.now p.begins p.holds;
  lender = q.lender ∙ p.lender;
}

-- to put `a` here does what it does to put `b` there: the step of a loop that puts one text after another
pub record SamePut (a : List ℕ) (here : BackWriter) (b : List ℕ) (there : BackWriter) : Type 0 where
  pub begins : room here.end here.out.now - length a ≡ room there.end there.out.now - length b
  pub holds : put_before here.end a here.out.now ≡ put_before there.end b there.out.now
  pub lender : here.out.ghost_name ≡ there.out.ghost_name

pub same_start : (a b : List ℕ) (w : BackWriter) → a ≡ b → SamePut a w b w
same_start a b w e = record { begins = ap (λ (x : List ℕ). room w.end w.out.now - length x) e; holds = ap (λ (x : List ℕ). put_before w.end x w.out.now) e; lender = refl }

pub same_more : (all a b whole : List ℕ) (w w' there : BackWriter) → all ≡ a ++ b → Puts b w w' → SamePut all w whole there → SamePut a w' whole there
same_more all a b whole w w' there e p h = record {
  begins = put_start w.end w'.end _ a b w.out.now w'.out.now p.begins p.holds refl ∙ ap (λ (x : List ℕ). room w.end w.out.now - length x) (sym e) ∙ h.begins;
  holds = put_put w.end w'.end a b w.out.now w'.out.now p.begins p.holds ∙ ap (λ (x : List ℕ). put_before w.end x w.out.now) (sym e) ∙ h.holds;
  lender = p.lender ∙ h.lender;
}

pub same_last : (a b whole : List ℕ) (w w' there : BackWriter) → a ≡ b → Puts b w w' → SamePut a w whole there → Puts whole there w'
same_last a b whole w w' there e p h = record {
  begins = p.begins ∙ ap (λ (x : List ℕ). room w.end w.out.now - length x) (sym e) ∙ h.begins;
  holds = p.holds ∙ ap (λ (x : List ℕ). put_before w.end x w.out.now) (sym e) ∙ h.holds;
  lender = p.lender ∙ h.lender;
}

-- a text that fills the front
pub put_front : (text out : List ℕ) (n : ℕ) → n ≡ length text → n ≤ length out → put_before n text out ≡ text ++ drop n out
put_front text out n e h =
    let a : room n out - length text ≡ 0 = omega arith in
    let b : length text - room n out ≡ 0 = omega arith in
    ap₂ (λ (x y : ℕ). take x out ++ (drop y text ++ drop n out)) a b

drop-room : (end : ℕ) (out : List ℕ) → drop (room end out) out ≡ drop end out
drop-room end out =
    ⊎_elim
    (λ (h : end < length out). ap (λ k. drop k out) (omega arith))
    (λ (h : length out ≤ end). drop_all (room end out) out (omega arith) ∙ sym (drop_all end out h))
    (cases_lt end (length out))

-- What copying the part of a text that has room does: no proof here cites it; proofs of a host's own may.
pub copied_part : (end n lost start : ℕ) (text out kept copied : List ℕ) → n ≡ room end out → lost ≡ length text - n → kept ≡ take (length text - lost) (drop lost text) → start ≡ n - length kept → copied ≡ kept
    → (start ≡ room end out - length text) × (put_mid start (n - start) out copied ≡ put_before end text out)
copied_part end n lost start text out kept copied en el ek es ec =
    let k : kept ≡ last_of n text = ek ∙ take_rest text lost ∙ ap (λ j. drop j text) el in
    let l : length kept ≡ min n (length text) = ap length k ∙ length_last n text in
    let b : start ≡ n - length text = omega arith in
    let d : drop (n - start) (drop start out) ≡ drop end out = drop-drop (n - start) start out ∙ ap (λ j. drop j out) (omega arith) ∙ drop-room end out in
    let m : put_mid start (n - start) out copied ≡ put_before end text out =
    ap₂ (λ (x y : List ℕ). take start out ++ (x ++ y)) (ec ∙ k) d ∙ ap₂ (λ (i j : ℕ). take i out ++ (last_of j text ++ drop end out)) (omega arith) en in
    (omega arith, m)

-- how long a number is
pub length_more : (n : ℕ) → 10 ≤ n → n < 2 ^ 64 → length (decimal n) ≡ length (decimal (n / 10)) + 1
length_more n h f = ap length (decimal_step n h f) ∙ length_push (decimal (n / 10)) (48 + n % 10)

-- A number below ten is one digit long: no proof here cites it; proofs of a host's own may.
pub length-one : (n : ℕ) → n < 10 → length (decimal n) ≡ 1
length-one n h = ap length (decimal_digit n h)

pub length_zero : (n : ℕ) → n ≡ 0 → 1 ≡ length (decimal n)
length_zero n e = sym (ap length (decimal_digit n (omega (arith, e))))

-- a number from a power of ten to the next has as many digits as that power, and one more
ten_more : (k : ℕ) → 10 ^ (k + 1) ≡ 10 ^ k * 10
ten_more k = simp unary_clauses refl

most_power : (k n : ℕ) → 10 ^ k ≤ n → n < 2 ^ 64 → k < length (decimal n)
most_power zero n h f = decimal_nonempty n f
most_power (suc k) n h f =
    let p = ten_more k in
    let one : 1 ≤ 10 ^ k = one-le-pow k 10 (omega arith) in
    omega (arith, length_more n (omega (arith, p, one, h)) f, most_power k (n / 10) (omega (arith, p, h)) (omega (arith, f)))

pub length_power : (k n : ℕ) → 10 ^ k ≤ n → n < 10 * 10 ^ k → n < 2 ^ 64 → length (decimal n) ≡ k + 1
length_power k n h l f = omega (arith, most_power k n h f, length-decimal-le (k + 1) n (omega arith) (omega (arith, ten_more k, l)) f)

-- what is put before a place leaves what stands from there on
pub put_back : (end : ℕ) (text out : List ℕ) → drop end (put_before end text out) ≡ drop end out
put_back end text out =
    ⊎_elim
    (λ (h : end < length out).
    let n : ℕ = room end out in
    let t : length (take (n - length text) out) ≡ n - length text = length-take-le (n - length text) out (omega arith) in
    let l : length (take (n - length text) out ++ last_of n text) ≡ end = length-append (take (n - length text) out) (last_of n text) ∙ omega (arith, t, length_last n text) in
    ap (drop end) (sym (append_assoc (take (n - length text) out) (last_of n text) (drop end out))) ∙ drop_at (take (n - length text) out ++ last_of n text) (drop end out) end l)
    (λ (h : length out ≤ end). drop_all end (put_before end text out) (omega (arith, length_put end text out)) ∙ sym (drop_all end out h))
    (cases_lt end (length out))

-- a text for which there is room, and what stands before it
pub put_middle : (at end : ℕ) (text out : List ℕ) → end ≡ at + length text → end ≤ length out → take end (put_before end text out) ≡ take at out ++ text
put_middle at end text out e h =
    let a : room end out - length text ≡ at = omega arith in
    let b : length text - room end out ≡ 0 = omega arith in
    let t : length (take at out) ≡ at = length-take-le at out (omega arith) in
    ap (take end) (ap₂ (λ (x y : ℕ). take x out ++ (drop y text ++ drop end out)) a b ∙ sym (append_assoc (take at out) text (drop end out)))
    ∙ take_at (take at out ++ text) (drop end out) end (length-append (take at out) text ∙ omega arith)
