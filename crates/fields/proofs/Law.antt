use Rattle.std.proofs.Common.{◌≡◌, ℕ, ◌+◌, eqb, List, [], ◌∷◌, sym, refl, ap, ◌∙◌, subst, ⊎_elim, arith}
use Rattle.std.proofs.lemmas.Bool.{eqb-true, eqb-false, cases_Bool, cond-true, cond-false}
use Rattle.fields.specs.Parts.{Part, longer, parts, bytes_of, join_by, Placed, Clear, Cut}

-- what the law says of one list of parts
record Cuts (sep k : ℕ) (bs : List ℕ) (ps : List Part) : Type 0 where
  join : join_by sep (bytes_of ps) ≡ bs
  clear : Clear sep (bytes_of ps)
  placed : Placed k ps

at_separator : (sep k b : ℕ) (bs : List ℕ) (p : Part) (ps : List Part) → b ≡ sep → Cuts sep (k + 1) bs (p ∷ ps) → Cuts sep k (b ∷ bs) (record { offset = k; bytes = [] } ∷ p ∷ ps)
at_separator sep k b bs p ps e h =
    let j = h.join in
    record { join = cc; clear = (tt, h.clear); placed = (refl, subst (λ n. Placed n (p ∷ ps)) (omega arith) h.placed) }

at_byte : (sep k b : ℕ) (bs : List ℕ) (p : Part) (ps : List Part) → (b ≡ sep → ⊥) → Cuts sep (k + 1) bs (p ∷ ps) → Cuts sep k (b ∷ bs) (longer k b (p ∷ ps))
at_byte sep k b bs p [] e h = record { join = ap (λ l. b ∷ l) h.join; clear = ((e, h.clear.0), tt); placed = (refl, tt) }
at_byte sep k b bs p (q ∷ ps) e h =
    record { join = ap (λ l. b ∷ l) h.join; clear = ((e, h.clear.0), h.clear.1); placed = (refl, subst (λ n. Placed n (q ∷ ps)) (omega arith) h.placed.1) }

-- a text always has a part
some_cut : (sep k : ℕ) (bs : List ℕ) → (p : Part) × (ps : List Part) × (parts sep k bs ≡ p ∷ ps) × Cuts sep k bs (p ∷ ps)
some_cut sep k [] = (record { offset = k; bytes = [] }, [], refl, record { join = refl; clear = (tt, tt); placed = (refl, tt) })
some_cut sep k (b ∷ bs) =
    let i = some_cut sep (k + 1) bs in
    ⊎_elim
    (λ t. (record { offset = k; bytes = [] }, i.0 ∷ i.1, cond-true _ _ _ t ∙ ap (λ l. record { offset = k; bytes = [] } ∷ l) i.2, at_separator sep k b bs i.0 i.1 (eqb-true b sep t) i.3))
    (λ f. (record { offset = k; bytes = b ∷ i.0.bytes }, i.1, cond-false _ _ _ f ∙ ap (longer k b) i.2, at_byte sep k b bs i.0 i.1 (eqb-false b sep f) i.3))
    (cases_Bool (eqb b sep))

pub cut_law : Cut
cut_law sep k bs =
    let i = some_cut sep k bs in
    let e = sym i.2 in
    (subst (λ ps. join_by sep (bytes_of ps) ≡ bs) e i.3.join, subst (λ ps. Clear sep (bytes_of ps)) e i.3.clear, subst (Placed k) e i.3.placed)
