-- The active document in other words: the greatest number begun.
use Rattle.std.specs.Prelude.{◌≡◌, ℕ, ◌≤◌, cond, ◌⊎◌, List, Some, None, Option, nat_lt}
use Rattle.documents.specs.declared.document.Document.{Document}
use Rattle.questions.specs.declared.window.Window.{Window}
use Rattle.questions.specs.Resolved.{resolved_begin_of, own_end_of}
use Rattle.questions.specs.Schedules.{◌∈◌}
use Rattle.questions.specs.Asking.{naming}

-- a document is begun by t when its resolved begin is at most t
abbrev pub begun_by : Window → ℕ → Document → Type 0
begun_by w t d = resolved_begin_of w d ≤ t

-- d is shown and begun by t, and no greater number is
pub record GreatestBegun (w : Window) (shown : List Document) (t : ℕ) (d : Document) : Type 0 where
  pub among : d ∈ shown
  pub begun : begun_by w t d
  pub greatest : (e : Document) → e ∈ shown → begun_by w t e → e.number ≤ d.number

-- the greatest number begun by t, with its content, if t is before that document's own end; else none
abbrev pub Greatest : Window → List Document → ℕ → Option (ℕ × ℕ) → Type 0
Greatest w shown t shows =
    ((d : Document) × GreatestBegun w shown t d × (shows ≡ cond (nat_lt t (own_end_of w d)) (Some (naming d)) None))
    ⊎ (((d : Document) → d ∈ shown → begun_by w t d → ⊥) × (shows ≡ None))
