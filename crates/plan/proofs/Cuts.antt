-- A text is its pieces, the first and then the rest.
use Rattle.std.proofs.Common.{◌≡◌, ℕ, zero, suc, ◌+◌, ◌-◌, ◌<◌, ◌≤◌, min, Bool, true, false, cond, eqb, List, [], ◌∷◌, ◌++◌, length, get_or, take, drop, sym, refl, ap, ◌∙◌, ap₂, arith}
use Rattle.std.specs.List.{position_or_len}
use Rattle.std.proofs.lemmas.Grind.{common_steps}
use Rattle.std.proofs.lemmas.List.{at_drop_more, at_drop_all, drop-drop, take_all, length-take-le, append_assoc, append-nil, length-append}
use Rattle.std.proofs.lemmas.Bool.{eq-eqb, ne_eqb, cond-false, cond_both}
use Rattle.fields.specs.Parts.{Part, rest}
use Rattle.plan.specs.Pieces.{longer, lines_of, is_blank, onto, between, kept_if, kept}
use Rattle.plan.specs.Cutting.{line_end_of, feeds_of, left_at, piece_at, empty_at}

-- the first line ends after the first line feed, or where the bytes end
pub line_is : (bs : List ℕ) → line_end_of bs ≡ min (position_or_len (λ b. eqb b 10) bs + 1) (length bs)
line_is [] = refl
line_is (b ∷ bs) = grind (arith, common_steps, line_is bs)

-- The steps and the end of a scan of a line: no proof here cites these three; proofs of a host's own may.
pub line_more : (i : ℕ) (bs : List ℕ) → i < length bs → (get_or bs i 0 ≡ 10 → ⊥) → line_end_of (drop i bs) ≡ suc (line_end_of (drop (i + 1) bs))
line_more i bs l ne =
    let e : line_end_of (drop i bs) ≡ cond (eqb (get_or bs i 0) 10) 1 (suc (line_end_of (drop (i + 1) bs))) = at_drop_more line_end_of bs i 0 l in
    let f = ne_eqb (get_or bs i 0) 10 ne in
    simp f at e

pub line_here : (i : ℕ) (bs : List ℕ) → i < length bs → get_or bs i 0 ≡ 10 → line_end_of (drop i bs) ≡ 1
line_here i bs l eq =
    let e : line_end_of (drop i bs) ≡ cond (eqb (get_or bs i 0) 10) 1 (suc (line_end_of (drop (i + 1) bs))) = at_drop_more line_end_of bs i 0 l in
    let f = eq-eqb (get_or bs i 0) 10 eq in
    simp f at e

pub line_none : (i : ℕ) (bs : List ℕ) → length bs ≤ i → line_end_of (drop i bs) ≡ 0
line_none i bs l = at_drop_all line_end_of bs i l

-- no piece begins in the line feeds in front
feeds_skipped : (k : ℕ) (bs : List ℕ) → kept (between (k + feeds_of bs) (lines_of (drop (feeds_of bs) bs))) ≡ kept (between k (lines_of bs))
feeds_skipped k [] = refl
feeds_skipped k (b ∷ bs) = step (eqb b 10) refl (feeds_skipped (k + 1) bs)
  where
    step : (v : Bool) → eqb b 10 ≡ v
        → kept (between (k + 1 + feeds_of bs) (lines_of (drop (feeds_of bs) bs))) ≡ kept (between (k + 1) (lines_of bs))
        → kept (between (k + feeds_of (b ∷ bs)) (lines_of (drop (feeds_of (b ∷ bs)) (b ∷ bs)))) ≡ kept (between k (lines_of (b ∷ bs)))
    step true e ih =
        let f : feeds_of (b ∷ bs) ≡ suc (feeds_of bs) = simp e (omega arith) in
        let blank : kept (between k (lines_of (b ∷ bs))) ≡ kept (between (k + 1) (lines_of bs)) = simp e in
        ap (λ n. kept (between (k + n) (lines_of (drop n (b ∷ bs))))) f ∙ ap (λ j. kept (between j (lines_of (drop (feeds_of bs) bs)))) (omega arith) ∙ ih ∙ sym blank
    step false e ih =
        let f : feeds_of (b ∷ bs) ≡ 0 = simp e in
        ap (λ n. kept (between (k + n) (lines_of (drop n (b ∷ bs))))) f ∙ ap (λ j. kept (between j (lines_of (b ∷ bs)))) (omega arith)

pub skipped : (from n : ℕ) (input : List ℕ) → n ≡ feeds_of (drop from input) → kept (left_at (from + n) input) ≡ kept (left_at from input)
skipped from n input e =
    ap₂ (λ (j : ℕ) (ds : List ℕ). kept (between (from + j) (lines_of ds))) e (ap (λ j. drop (from + j) input) e ∙ sym (drop-drop (feeds_of (drop from input)) from input))
    ∙ feeds_skipped from (drop from input)

line_le : (bs : List ℕ) → line_end_of bs ≤ length bs
line_le [] = omega arith
line_le (b ∷ bs) = elim (eqb b 10) as (λ v. cond v 1 (suc (line_end_of bs)) ≤ suc (length bs)) [ true ↦ omega arith | false ↦ omega (arith, line_le bs) ]

-- the first line, and the lines of the rest
line_first : (b : ℕ) (bs : List ℕ) → lines_of (b ∷ bs) ≡ take (line_end_of (b ∷ bs)) (b ∷ bs) ∷ lines_of (drop (line_end_of (b ∷ bs)) (b ∷ bs))
line_first b [] = elim (eqb b 10) as (λ v. cond v ((b ∷ []) ∷ []) (longer b []) ≡ take (cond v 1 1) (b ∷ []) ∷ lines_of (drop (cond v 1 1) (b ∷ []))) [ true ↦ refl | false ↦ refl ]
line_first b (c ∷ cs) =
    let bs : List ℕ = c ∷ cs in
    elim (eqb b 10) as (λ v. cond v ((b ∷ []) ∷ lines_of bs) (longer b (lines_of bs)) ≡ take (cond v 1 (suc (line_end_of bs))) (b ∷ bs) ∷ lines_of (drop (cond v 1 (suc (line_end_of bs))) (b ∷ bs)))
    [ true ↦ refl | false ↦ ap (longer b) (line_first c cs) ]

not_blank : (b : ℕ) (bs : List ℕ) → eqb b 10 ≡ false → is_blank (b ∷ bs) ≡ false
not_blank b [] e = e
not_blank b (c ∷ bs) e = refl

line_shown : (b : ℕ) (bs : List ℕ) → eqb b 10 ≡ false → is_blank (take (line_end_of (b ∷ bs)) (b ∷ bs)) ≡ false
line_shown b bs e = simp e (not_blank b (take (line_end_of bs) bs) e)

between_line : (k b : ℕ) (bs : List ℕ) → eqb b 10 ≡ false
    → between k (lines_of (b ∷ bs)) ≡ onto k (take (line_end_of (b ∷ bs)) (b ∷ bs)) (between (k + line_end_of (b ∷ bs)) (lines_of (drop (line_end_of (b ∷ bs)) (b ∷ bs))))
between_line k b bs e =
    let n : ℕ = line_end_of (b ∷ bs) in
    ap (between k) (line_first b bs)
    ∙ cond-false (is_blank (take n (b ∷ bs))) _ _ (line_shown b bs e)
    ∙ ap (λ m. onto k (take n (b ∷ bs)) (between (k + m) (lines_of (drop n (b ∷ bs))))) (length-take-le n (b ∷ bs) (line_le (b ∷ bs)))

-- at a place of the input
pub left_line : (place r : ℕ) (input : List ℕ) → place < length input → (get_or input place 0 ≡ 10 → ⊥) → r ≡ place + line_end_of (drop place input)
    → left_at place input ≡ onto place (take (r - place) (drop place input)) (left_at r input)
left_line place r input h ne e =
    let F : List ℕ → List Part = λ ds. onto place (take (line_end_of ds) ds) (between (place + line_end_of ds) (lines_of (drop (line_end_of ds) ds))) in
    let n : r - place ≡ line_end_of (drop place input) = omega arith in
    let d : drop r input ≡ drop (line_end_of (drop place input)) (drop place input) = ap (λ j. drop j input) e ∙ sym (drop-drop (line_end_of (drop place input)) place input) in
    at_drop_more (λ (ds : List ℕ). between place (lines_of ds)) input place 0 h
    ∙ between_line place (get_or input place 0) (drop (place + 1) input) (ne_eqb _ _ ne)
    ∙ sym (at_drop_more F input place 0 h)
    ∙ ap₂ (λ (m : ℕ) (ps : List Part). onto place (take m (drop place input)) ps) (sym n) (ap₂ (λ (m : ℕ) (ds : List ℕ). between m (lines_of ds)) (sym e) (sym d))

pub left_blank : (place : ℕ) (input : List ℕ) → place < length input → get_or input place 0 ≡ 10 → left_at place input ≡ empty_at place ∷ left_at (place + 1) input
left_blank place input h e =
    at_drop_more (λ (ds : List ℕ). between place (lines_of ds)) input place 0 h ∙ ap (λ (b : ℕ). between place (lines_of (b ∷ drop (place + 1) input))) e

pub left_end : (place : ℕ) (input : List ℕ) → length input ≤ place → left_at place input ≡ empty_at place ∷ []
left_end place input h = at_drop_all (λ (ds : List ℕ). between place (lines_of ds)) input place h

onto-onto : (j k : ℕ) (xs bs : List ℕ) (ps : List Part) → onto j xs (onto k bs ps) ≡ onto j (xs ++ bs) ps
onto-onto j k xs bs [] = refl
onto-onto j k xs bs (p ∷ ps) = ap (λ (ys : List ℕ). record { offset = j; bytes = ys } ∷ ps) (sym (append_assoc xs bs p.bytes))

pub take-plus : (m n k : ℕ) (xs : List ℕ) → k ≡ m + n → take k xs ≡ take m xs ++ take n (drop m xs)
take-plus zero n k xs e = ap (λ j. take j xs) (omega arith)
take-plus (suc m) n k [] e = take_all k [] (omega arith) ∙ sym (take_all n [] (omega arith))
take-plus (suc m) n zero (x ∷ xs) e = absurd (omega arith)
take-plus (suc m) n (suc k) (x ∷ xs) e = ap (λ (ys : List ℕ). x ∷ ys) (take-plus m n k xs (omega arith))

-- one line more
pub left_more : (start place r : ℕ) (input : List ℕ) → start ≤ place → place < length input → (get_or input place 0 ≡ 10 → ⊥) → r ≡ place + line_end_of (drop place input)
    → left_at start input ≡ onto start (take (place - start) (drop start input)) (left_at place input)
    → left_at start input ≡ onto start (take (r - start) (drop start input)) (left_at r input)
left_more start place r input s h ne e i =
    let d : drop (place - start) (drop start input) ≡ drop place input = drop-drop (place - start) start input ∙ ap (λ j. drop j input) (omega arith) in
    i
    ∙ ap (onto start (take (place - start) (drop start input))) (left_line place r input h ne e)
    ∙ onto-onto start place (take (place - start) (drop start input)) (take (r - place) (drop place input)) (left_at r input)
    ∙ ap (λ (xs : List ℕ). onto start xs (left_at r input))
    (ap (λ (ds : List ℕ). take (place - start) (drop start input) ++ take (r - place) ds) (sym d) ∙ sym (take-plus (place - start) (r - place) (r - start) (drop start input) (omega arith)))

-- where a piece ends
pub left_cut : (start r : ℕ) (input : List ℕ) (ps : List Part) → left_at start input ≡ onto start (take (r - start) (drop start input)) (left_at r input) → left_at r input ≡ empty_at r ∷ ps
    → (left_at start input ≡ piece_at start r input ∷ rest (left_at r input)) × (left_at r input ≡ empty_at r ∷ rest (left_at r input))
left_cut start r input ps i e =
    let q : rest (left_at r input) ≡ ps = ap rest e in (
      i ∙ ap (onto start (take (r - start) (drop start input))) e ∙ ap₂ (λ (xs : List ℕ) (qs : List Part). record { offset = start; bytes = xs } ∷ qs) (append-nil (take (r - start) (drop start input))) (sym q),
      e ∙ ap (λ (qs : List Part). empty_at r ∷ qs) (sym q),
    )

-- a line is not empty
pub line_some : (i : ℕ) (bs : List ℕ) → i < length bs → 0 < line_end_of (drop i bs)
line_some i bs h = rw (at_drop_more line_end_of bs i 0 h) (elim (eqb (get_or bs i 0) 10) as (λ v. 0 < cond v 1 (suc (line_end_of (drop (i + 1) bs)))) [ true ↦ omega arith | false ↦ omega arith ])

-- how many pieces there are
bytes_in : List Part → ℕ
bytes_in [] = 0
bytes_in (p ∷ ps) = length p.bytes + bytes_in ps

total : List (List ℕ) → ℕ
total [] = 0
total (l ∷ ls) = length l + total ls

kept_few : (ps : List Part) → length (kept ps) ≤ bytes_in ps
unfolding bytes_in
kept_few [] = omega arith
kept_few (p ∷ ps) = step p.bytes (kept_few ps)
  where
    step : (bs : List ℕ) → length (kept ps) ≤ bytes_in ps → length (kept_if bs p (kept ps)) ≤ length bs + bytes_in ps
    step [] h = omega arith
    step (b ∷ bs) h = omega arith

onto_bytes : (k : ℕ) (l : List ℕ) (ps : List Part) → bytes_in (onto k l ps) ≤ length l + bytes_in ps
unfolding bytes_in
onto_bytes k l [] = omega arith
onto_bytes k l (p ∷ ps) = omega (arith, length-append l p.bytes)

between_bytes : (k : ℕ) (ls : List (List ℕ)) → bytes_in (between k ls) ≤ total ls
unfolding bytes_in total
between_bytes k [] = omega arith
between_bytes k (l ∷ ls) = cond_both (is_blank l) _ _ (λ (ps : List Part). bytes_in ps ≤ length l + total ls) (λ _. omega (arith, between_bytes (k + length l) ls)) (λ _. omega (arith, between_bytes (k + length l) ls, onto_bytes k l (between (k + length l) ls)))

longer_total : (b : ℕ) (ls : List (List ℕ)) → total (longer b ls) ≡ suc (total ls)
unfolding total
longer_total b [] = omega arith
longer_total b (l ∷ ls) = omega arith

lines_total : (bs : List ℕ) → total (lines_of bs) ≡ length bs
unfolding total
lines_total [] = refl
lines_total (b ∷ bs) = cond_both (eqb b 10) _ _ (λ (ls : List (List ℕ)). total ls ≡ suc (length bs)) (λ _. omega (arith, lines_total bs)) (λ _. omega (arith, lines_total bs, longer_total b (lines_of bs)))

pub pieces_few : (bs : List ℕ) → length (kept (between 0 (lines_of bs))) ≤ length bs
pieces_few bs = omega (arith, kept_few (between 0 (lines_of bs)), between_bytes 0 (lines_of bs), lines_total bs)
