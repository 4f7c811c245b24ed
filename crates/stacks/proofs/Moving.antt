-- A stack moves every document, and all that follows, by the sum of its adjustments.
use Rattle.std.proofs.Common.{◌≡◌, ℕ, ◌+◌, ◌≤◌, min, Bool, true, false, cond, ◌&&◌, ltb, leb, List, [], ◌∷◌, map, Some, None, Option, sym, refl, ap, ◌∙◌, ap₂, add-zero, add_assoc, arith}
use Rattle.std.specs.Option.{option_map}
use Rattle.std.proofs.lemmas.List.{map-id}
use Rattle.std.proofs.lemmas.Simd.{map-map}
use Rattle.std.proofs.lemmas.Bool.Decides.{nat_tests}
use Rattle.documents.specs.declared.document.Document.{Document}
use Rattle.streams.specs.Streams.{Parts, later_of, due}
use Rattle.streams.specs.Stacks.{Delay, holding, retiming, altered, adjustment, stack, later}
use Rattle.questions.specs.declared.window.Window.{Window}
use Rattle.questions.specs.Resolved.{earlier_of, plus, resolved_begin_of, own_end_of, resolved_end_of}
use Rattle.questions.specs.Asking.{is_active, found, naming, active}
use Rattle.questions.proofs.Latest.{asked}
use Rattle.stacks.specs.Promise.{adjustments, Moves}

-- e is d, later by k
record Shifted (k : ℕ) (d e : Document) : Type 0 where
  number : e.number ≡ d.number
  content : e.content ≡ d.content
  dur : e.dur ≡ d.dur
  late : due e ≡ due d + k
  end : e.end ≡ later k d.end

due-later : (k a : ℕ) (o : Option ℕ) → later_of (a + k) (later k o) ≡ later_of a o + k
due-later k a None = refl
due-later k a (Some b) = omega arith

later_first : (a : ℕ) (o : Option ℕ) → a ≤ later_of a o
later_first a None = omega arith
later_first a (Some b) = omega arith

shifted_node : (n : Delay) (k : ℕ) (d : Document) → Shifted k d (altered n k d)
shifted_node (holding a) k d = record { number = refl; content = refl; dur = refl; late = due-later k d.available d.begin; end = refl }
shifted_node (retiming a) k d =
    record { number = refl; content = refl; dur = refl; late = omega (arith, later_first d.available d.begin); end = refl }

later-zero : (o : Option ℕ) → o ≡ later 0 o
later-zero None = refl
later-zero (Some x) = ap Some (sym (add-zero x))

later-later : (j k : ℕ) (o : Option ℕ) → later k (later j o) ≡ later (j + k) o
later-later j k None = refl
later-later j k (Some x) = ap Some (add_assoc x j k)

-- a document as nodes over a stream of this total show it
abbrev through : List Delay → ℕ → Document → Document
through [] total d = d
through (n ∷ nodes) total d = altered n (adjustment n (total + adjustments nodes total)) (through nodes total d)

shifted : (nodes : List Delay) (total : ℕ) (d : Document) → Shifted (adjustments nodes total) d (through nodes total d)
shifted [] total d = record { number = refl; content = refl; dur = refl; late = omega arith; end = later-zero d.end }
shifted (n ∷ nodes) total d =
    let k = adjustment n (total + adjustments nodes total) in
    let below = shifted nodes total d in
    let here = shifted_node n k (through nodes total d) in
    record {
      number = here.number ∙ below.number;
      content = here.content ∙ below.content;
      dur = here.dur ∙ below.dur;
      late = omega arith;
      end = here.end ∙ ap (later k) below.end ∙ later-later (adjustments nodes total) k d.end;
    }

pub total_stacked : (nodes : List Delay) (p : Parts) → (stack nodes p).total ≡ p.total + adjustments nodes p.total
total_stacked [] p = omega arith
total_stacked (n ∷ nodes) p =
    let e = total_stacked nodes p in
    ap (λ (t : ℕ). t + adjustment n t) e ∙ add_assoc p.total (adjustments nodes p.total) (adjustment n (p.total + adjustments nodes p.total))

pub settled_stacked : (nodes : List Delay) (p : Parts) → (stack nodes p).settled ≡ p.settled + adjustments nodes p.total
settled_stacked [] p = omega arith
settled_stacked (n ∷ nodes) p =
    ap₂ (λ (s t : ℕ). s + adjustment n t) (settled_stacked nodes p) (total_stacked nodes p)
    ∙ add_assoc p.settled (adjustments nodes p.total) (adjustment n (p.total + adjustments nodes p.total))

shown_stacked : (nodes : List Delay) (p : Parts) → (stack nodes p).shown ≡ map (through nodes p.total) p.shown
shown_stacked [] p = sym (map-id p.shown)
shown_stacked (n ∷ nodes) p =
    ap₂ (λ (t : ℕ) (ds : List Document). map (altered n (adjustment n t)) ds) (total_stacked nodes p) (shown_stacked nodes p)
    ∙ map-map (altered n (adjustment n (p.total + adjustments nodes p.total))) (through nodes p.total) p.shown

leb-plus : (k a b a' b' : ℕ) → a' ≡ a + k → b' ≡ b + k → leb a' b' ≡ leb a b
leb-plus k a b a' b' p q = grind (arith, nat_tests)

pub ltb-plus : (k a b a' b' : ℕ) → a' ≡ a + k → b' ≡ b + k → ltb a' b' ≡ ltb a b
ltb-plus k a b a' b' p q = grind (arith, nat_tests)

min-plus : (k x x' y y' : ℕ) (b b' : Bool) → b' ≡ b → x' ≡ x + k → y' ≡ y + k → cond b' (min x' y') y' ≡ cond b (min x y) y + k
min-plus k x x' y y' true b' e p q = rw e (omega arith)
min-plus k x x' y y' false b' e p q = rw e (omega arith)

own_plus : (k w w' b b' : ℕ) (end end' dur dur' : Option ℕ) → w' ≡ w + k → b' ≡ b + k → end' ≡ later k end → dur' ≡ dur
    → earlier_of (earlier_of w' end') (plus b' dur') ≡ earlier_of (earlier_of w end) (plus b dur) + k
own_plus k w w' b b' None end' None dur' p q e f = rw (e, f) (omega arith)
own_plus k w w' b b' None end' (Some y) dur' p q e f = rw (e, f) (omega arith)
own_plus k w w' b b' (Some x) end' None dur' p q e f = rw (e, f) (omega arith)
own_plus k w w' b b' (Some x) end' (Some y) dur' p q e f = rw (e, f) (omega arith)

found_map : (p q : Document → Bool) (f : Document → Document) → ((d : Document) → q (f d) ≡ p d) → (ds : List Document)
    → found q (map f ds) ≡ option_map f (found p ds)
found_map p q f h [] = refl
found_map p q f h (d ∷ ds) = step (p d) (q (f d)) (h d) (found_map p q f h ds)
  where
    step : (b b' : Bool) → b' ≡ b → found q (map f ds) ≡ option_map f (found p ds)
        → cond b' (Some (f d)) (found q (map f ds)) ≡ option_map f (cond b (Some d) (found p ds))
    step true b' e ih = rw e refl
    step false b' e ih = rw e ih

module _ (f : Document → Document) (k : ℕ) (s : (d : Document) → Shifted k d (f d)) (w v : Window)
    (vb : v.begin ≡ w.begin + k) (ve : v.end ≡ w.end + k) where
  begin-moved : (d : Document) → resolved_begin_of v (f d) ≡ resolved_begin_of w d + k
  begin-moved d = omega (arith, (s d).late)

  own-moved : (d : Document) → own_end_of v (f d) ≡ own_end_of w d + k
  own-moved d = own_plus k _ _ _ _ _ _ _ _ ve (begin-moved d) (s d).end (s d).dur

  end_moved : (shown : List Document) (d : Document) → resolved_end_of v (map f shown) (f d) ≡ resolved_end_of w shown d + k
  end_moved [] d = own-moved d
  end_moved (e ∷ shown) d =
      min-plus k _ _ _ _ _ _ (ap₂ ltb (s d).number (s e).number) (begin-moved e) (end_moved shown d)

  named : (o : Option Document) → option_map naming (option_map f o) ≡ option_map naming o
  named None = refl
  named (Some d) = ap Some (λ i. ((s d).number i, (s d).content i))

  shows-moved : (shown : List Document) (t t' : ℕ) → t' ≡ t + k
      → option_map naming (found (is_active v (map f shown) t') (map f shown)) ≡ option_map naming (found (is_active w shown t) shown)
  shows-moved shown t t' tk =
      ap (option_map naming)
      (found_map (is_active w shown t) (is_active v (map f shown) t') f
      (λ d. ap₂ ◌&&◌ (leb-plus k _ _ _ _ (begin-moved d) tk) (ltb-plus k _ _ _ _ tk (end_moved shown d))) shown)
      ∙ named (found (is_active w shown t) shown)

shows_stacked : (nodes : List Delay) (p : Parts) (w v : Window) (t t' : ℕ) → v.begin ≡ w.begin + adjustments nodes p.total
    → v.end ≡ w.end + adjustments nodes p.total → t' ≡ t + adjustments nodes p.total
    → option_map naming (found (is_active v (stack nodes p).shown t') (stack nodes p).shown)
    ≡ option_map naming (found (is_active w p.shown t) p.shown)
shows_stacked nodes p w v t t' vb ve tk =
    ap (λ (ds : List Document). option_map naming (found (is_active v ds t') ds)) (shown_stacked nodes p)
    ∙ shows-moved (through nodes p.total) (adjustments nodes p.total) (shifted nodes p.total) w v vb ve p.shown t t' tk

-- c, the answers
pub moves : (nodes : List Delay) (p : Parts) → (stack nodes p).total ≤ 4800000 → Moves (adjustments nodes p.total) (stack nodes p) p
moves nodes p room w t is wh th =
    let k : ℕ = adjustments nodes p.total in
    let small : adjustments nodes p.total ≤ 4800000 = omega (arith, total_stacked nodes p) in
    let v : Window = record { begin = w.begin + adjustments nodes p.total; end = w.end + adjustments nodes p.total } in (
      (v, record { forward = omega (arith, is.forward); within = omega (arith, small, wh) }, record { begins = refl; ends = refl }),
      λ v' m.
          asked (stack nodes p) v' (t + adjustments nodes p.total) (omega (arith, small, th))
          ∙ ap₂ active (shows_stacked nodes p w v' t (t + adjustments nodes p.total) m.begins m.ends refl)
          (ltb-plus (adjustments nodes p.total) t p.settled (t + adjustments nodes p.total) (stack nodes p).settled refl (settled_stacked nodes p))
          ∙ sym (asked p w t (omega (arith, th))),
    )
