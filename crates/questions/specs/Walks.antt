-- The words of the walk from the last document to the first, which only inner contracts cite.
use Rattle.std.specs.Prelude.{ℕ, min, cond, List, [], ◌∷◌, ◌++◌, nat_lt}
use Rattle.documents.specs.declared.document.Document.{Document}
use Rattle.questions.specs.declared.window.Window.{Window}
use Rattle.questions.specs.declared.schedule.Interval.{Interval}
use Rattle.questions.specs.Resolved.{resolved_begin_of, own_end_of}

-- the least of l and the resolved begins of some documents
abbrev pub least_of : Window → ℕ → List Document → ℕ
least_of w l [] = l
least_of w l (d ∷ ds) = min (resolved_begin_of w d) (least_of w l ds)

abbrev pub cut_interval : Window → ℕ → Document → Interval
cut_interval w l d = record { number = d.number; begin = resolved_begin_of w d; end = min (own_end_of w d) l; content = d.content }

-- the interval of a document whose followers begin at l or later, if it is listed
abbrev pub interval_before_of : Window → ℕ → Document → List Interval
interval_before_of w l d = cond (nat_lt (resolved_begin_of w d) (min (own_end_of w d) l)) (cut_interval w l d ∷ []) []

-- the intervals of documents whose followers begin at l or later
abbrev pub intervals_before : Window → ℕ → List Document → List Interval
intervals_before w l [] = []
intervals_before w l (d ∷ ds) = interval_before_of w (least_of w l ds) d ++ intervals_before w l ds
