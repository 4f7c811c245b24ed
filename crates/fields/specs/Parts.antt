-- A text as its parts between separators.
use Rattle.std.specs.Prelude.{◌≡◌, ℕ, suc, ◌+◌, ◌^◌, cond, ◌&&◌, List, [], ◌∷◌, ◌++◌, length, Some, None, Option, ◌==◌, ◌≢◌, nat_lt, slice_index_or}

-- a part of a text, and how many bytes stand before it
pub record Part : Type 0 where
  pub offset : ℕ
  pub bytes : List ℕ

abbrev pub longer : ℕ → ℕ → List Part → List Part
longer k b [] = []
longer k b (p ∷ ps) = record { offset = k; bytes = b ∷ p.bytes } ∷ ps

-- the parts of a text that begins at offset k
abbrev pub parts : ℕ → ℕ → List ℕ → List Part
parts sep k [] = record { offset = k; bytes = [] } ∷ []
parts sep k (b ∷ bs) = cond (b == sep) (record { offset = k; bytes = [] } ∷ parts sep (k + 1) bs) (longer k b (parts sep (k + 1) bs))

-- the same, unless the offsets would pass what a reader can count
abbrev pub parts_at : ℕ → ℕ → List ℕ → List Part
parts_at sep k bs = cond (nat_lt (k + length bs) (2 ^ 63)) (parts sep k bs) []

-- how many bytes stand before the first separator
abbrev pub before : ℕ → List ℕ → ℕ
before sep [] = 0
before sep (b ∷ bs) = cond (b == sep) 0 (suc (before sep bs))

-- how many separators a text begins with
abbrev pub leading : ℕ → List ℕ → ℕ
leading sep [] = 0
leading sep (b ∷ bs) = cond (b == sep) (suc (leading sep bs)) 0

-- parts from the first that has bytes or is the last
abbrev pub past_empty : List Part → List Part
past_empty [] = []
past_empty (p ∷ ps) = cond (length p.bytes == 0 && nat_lt 0 (length ps)) (past_empty ps) (p ∷ ps)

-- the part at a place of a list that is known to have it
abbrev pub nth_part : List Part → ℕ → Part
nth_part ps i = slice_index_or ps i (record { offset = 0; bytes = [] })

abbrev pub first : List Part → Option Part
first [] = None
first (p ∷ ps) = Some p

abbrev pub rest : List Part → List Part
rest [] = []
rest (p ∷ ps) = ps

-- the bytes of some parts
abbrev pub bytes_of : List Part → List (List ℕ)
bytes_of [] = []
bytes_of (p ∷ ps) = p.bytes ∷ bytes_of ps

-- texts with a separator between each two
abbrev pub join_by : ℕ → List (List ℕ) → List ℕ
join_by sep [] = []
join_by sep (t ∷ []) = t
join_by sep (t ∷ u ∷ ts) = t ++ sep ∷ join_by sep (u ∷ ts)

-- a text does not hold the separator
abbrev pub Lacks : ℕ → List ℕ → Type 0
Lacks sep [] = Unit {0}
Lacks sep (b ∷ bs) = (b ≢ sep) × Lacks sep bs

-- none of some texts holds the separator
abbrev pub Clear : ℕ → List (List ℕ) → Type 0
Clear sep [] = Unit {0}
Clear sep (t ∷ ts) = Lacks sep t × Clear sep ts

-- each part begins one byte past the end of the part before
abbrev pub Placed : ℕ → List Part → Type 0
Placed k [] = Unit {0}
Placed k (p ∷ ps) = (p.offset ≡ k) × Placed (k + length p.bytes + 1) ps

-- the law of parts: with the separator between them they are the text, none holds it, and each stands at
-- its offset
abbrev pub Cut : Type 0
Cut = (sep k : ℕ) (bs : List ℕ) → (join_by sep (bytes_of (parts sep k bs)) ≡ bs) × Clear sep (bytes_of (parts sep k bs)) × Placed k (parts sep k bs)
