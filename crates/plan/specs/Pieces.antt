-- The pieces of an input between its blank lines.
use Rattle.std.specs.Prelude.{◌≡◌, ℕ, ◌+◌, ◌<◌, Bool, false, cond, List, [], ◌∷◌, ◌++◌, length, take, drop, ◌==◌}
use Rattle.fields.specs.Parts.{Part}

-- a byte in front of the first line
abbrev pub longer : ℕ → List (List ℕ) → List (List ℕ)
longer b [] = (b ∷ []) ∷ []
longer b (l ∷ ls) = (b ∷ l) ∷ ls

-- the lines of an input, each with its line feed, which a last one may lack
abbrev pub lines_of : List ℕ → List (List ℕ)
lines_of [] = []
lines_of (b ∷ bs) = cond (b == 10) ((b ∷ []) ∷ lines_of bs) (longer b (lines_of bs))

-- a blank line is a line feed alone
abbrev pub is_blank : List ℕ → Bool
is_blank [] = false
is_blank (b ∷ []) = b == 10
is_blank (b ∷ c ∷ bs) = false

-- bytes that stand at k, in front of the first piece
abbrev pub onto : ℕ → List ℕ → List Part → List Part
onto k l [] = []
onto k l (p ∷ ps) = record { offset = k; bytes = l ++ p.bytes } ∷ ps

-- what stands between blank lines, for lines that begin at k
abbrev pub between : ℕ → List (List ℕ) → List Part
between k [] = record { offset = k; bytes = [] } ∷ []
between k (l ∷ ls) = cond (is_blank l) (record { offset = k; bytes = [] } ∷ between (k + length l) ls) (onto k l (between (k + length l) ls))

-- the empty ones are skipped
abbrev pub kept_if : List ℕ → Part → List Part → List Part
kept_if [] p ps = ps
kept_if (b ∷ bs) p ps = p ∷ ps

abbrev pub kept : List Part → List Part
kept [] = []
kept (p ∷ ps) = kept_if p.bytes p (kept ps)

-- the pieces of an input
abbrev pub pieces_of : List ℕ → List Part
pieces_of input = kept (between 0 (lines_of input))

-- a piece is the part of the input at its offset
abbrev pub PartOf : List ℕ → Part → Type 0
PartOf input p = take (length p.bytes) (drop p.offset input) ≡ p.bytes

-- each of some pieces
abbrev pub EachOf : (Part → Type 0) → List Part → Type 0
EachOf P [] = Unit {0}
EachOf P (p ∷ ps) = P p × EachOf P ps

-- the law of pieces: none is empty, and each is the part of the input at its offset
abbrev pub Pieced : Type 0
Pieced = (input : List ℕ) → EachOf (λ p. (0 < length p.bytes) × PartOf input p) (pieces_of input)
