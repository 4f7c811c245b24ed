use Rattle.std.proofs.Common.{◌≡◌, ℕ, ◌+◌, ◌<◌, eqb, List, [], ◌∷◌, ◌++◌, length, take, drop, sym, refl, ap, ◌∙◌, ap₂, arith, length-append}
use Rattle.std.proofs.lemmas.List.{drop-drop, take_at, drop_at}
use Rattle.std.proofs.lemmas.Bool.{cond_both}
use Rattle.fields.specs.Parts.{Part}
use Rattle.plan.specs.Pieces.{longer, lines_of, is_blank, onto, between, kept_if, kept, PartOf, EachOf, Pieced}
use Rattle.plan.proofs.Cuts.{take-plus}

flat : List (List ℕ) → List ℕ
flat [] = []
flat (l ∷ ls) = l ++ flat ls

flat_longer : (b : ℕ) (ls : List (List ℕ)) → flat (longer b ls) ≡ b ∷ flat ls
unfolding flat
flat_longer b [] = refl
flat_longer b (l ∷ ls) = refl

-- the lines together are the input
flat_lines : (bs : List ℕ) → flat (lines_of bs) ≡ bs
unfolding flat
flat_lines [] = refl
flat_lines (b ∷ bs) =
    cond_both (eqb b 10) _ _ (λ (ls : List (List ℕ)). flat ls ≡ b ∷ bs) (λ _. ap (λ (cs : List ℕ). b ∷ cs) (flat_lines bs)) (λ _. flat_longer b (lines_of bs) ∙ ap (λ (cs : List ℕ). b ∷ cs) (flat_lines bs))

-- the first piece begins at k
Starts : ℕ → List Part → Type 0
Starts k [] = ⊥
Starts k (p ∷ ps) = p.offset ≡ k

onto_starts : (k j : ℕ) (l : List ℕ) (ps : List Part) → Starts j ps → Starts k (onto k l ps)
unfolding Starts
onto_starts k j l [] s = s
onto_starts k j l (p ∷ ps) s = refl

between_starts : (k : ℕ) (ls : List (List ℕ)) → Starts k (between k ls)
unfolding Starts
between_starts k [] = refl
between_starts k (l ∷ ls) = cond_both (is_blank l) _ _ (Starts k) (λ _. refl) (λ _. onto_starts k (k + length l) l (between (k + length l) ls) (between_starts (k + length l) ls))

-- l stands at k, and the first piece right after it
onto_parts : (input : List ℕ) (k : ℕ) (l : List ℕ) (ps : List Part) → take (length l) (drop k input) ≡ l → Starts (k + length l) ps → EachOf (PartOf input) ps → EachOf (PartOf input) (onto k l ps)
unfolding Starts
onto_parts input k l [] t s a = tt
onto_parts input k l (p ∷ ps) t s a = (
  take-plus (length l) (length p.bytes) (length (l ++ p.bytes)) (drop k input) (length-append l p.bytes)
      ∙ ap₂ (λ (xs ys : List ℕ). xs ++ ys) t (ap (take (length p.bytes)) (drop-drop (length l) k input ∙ ap (λ j. drop j input) (sym s)) ∙ a.0),
  a.1,
)

between-parts : (input : List ℕ) (k : ℕ) (ls : List (List ℕ)) → drop k input ≡ flat ls → EachOf (PartOf input) (between k ls)
unfolding flat
between-parts input k [] e = (refl, tt)
between-parts input k (l ∷ ls) e =
    let d : drop (k + length l) input ≡ flat ls = sym (drop-drop (length l) k input) ∙ ap (drop (length l)) e ∙ drop_at l (flat ls) (length l) refl in
    let t : take (length l) (drop k input) ≡ l = ap (take (length l)) e ∙ take_at l (flat ls) (length l) refl in
    let r : EachOf (PartOf input) (between (k + length l) ls) = between-parts input (k + length l) ls d in
    cond_both (is_blank l) _ _ (EachOf (PartOf input)) (λ _. (refl, r)) (λ _. onto_parts input k l (between (k + length l) ls) t (between_starts (k + length l) ls) r)

kept-parts : (input : List ℕ) (ps : List Part) → EachOf (PartOf input) ps → EachOf (λ p. (0 < length p.bytes) × PartOf input p) (kept ps)
kept-parts input [] a = tt
kept-parts input (p ∷ ps) a = step p.bytes refl (kept-parts input ps a.1)
  where
    step : (bs : List ℕ) → p.bytes ≡ bs → EachOf (λ q. (0 < length q.bytes) × PartOf input q) (kept ps) → EachOf (λ q. (0 < length q.bytes) × PartOf input q) (kept_if bs p (kept ps))
    step [] e r = r
    step (b ∷ bs) e r = ((omega (arith, ap length e), a.0), r)

pub parts : Pieced
parts input = kept-parts input (between 0 (lines_of input)) (between-parts input 0 (lines_of input) (sym (flat_lines input)))
