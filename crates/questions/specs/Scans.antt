-- The words of the chains that answer a question, which only inner contracts cite.
-- Of the first two, which are the steps of a loop, only lemmas speak (proofs/Scanning).
use Rattle.std.specs.Prelude.{ℕ, min, cond, List, [], ◌∷◌, Some, None, Option, nat_le, nat_lt}
use Rattle.documents.specs.declared.document.Document.{Document}
use Rattle.questions.specs.declared.window.Window.{Window}
use Rattle.questions.specs.Resolved.{resolved_begin_of, own_end_of}
use Rattle.questions.specs.Asking.{naming}

-- d if there is one and it is begun by t, else o
abbrev pub next_begun_of : Window → ℕ → Option Document → Option Document → Option Document
next_begun_of w t o None = o
next_begun_of w t o (Some d) = cond (nat_le (resolved_begin_of w d) t) (Some d) o

-- an end, cut by e if there is one and its number is greater
abbrev pub cut_by_of : Window → ℕ → ℕ → Option Document → ℕ
cut_by_of w n end None = end
cut_by_of w n end (Some e) = cond (nat_lt n e.number) (min (resolved_begin_of w e) end) end

-- the last document begun by t, or o
abbrev pub last_begun_of : Window → ℕ → Option Document → List Document → Option Document
last_begun_of w t o [] = o
last_begun_of w t o (d ∷ ds) = last_begun_of w t (cond (nat_le (resolved_begin_of w d) t) (Some d) o) ds

-- that document, if t is before its own end
abbrev pub unless_ended_of : Window → ℕ → Option Document → Option (ℕ × ℕ)
unless_ended_of w t None = None
unless_ended_of w t (Some d) = cond (nat_lt t (own_end_of w d)) (Some (naming d)) None
