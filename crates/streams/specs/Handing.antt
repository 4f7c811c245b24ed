-- Hand-in: a text is read, and its document is taken.
use Rattle.std.specs.Prelude.{ℕ, cond, List, ◌==◌}
use Rattle.documents.specs.declared.document.Document.{Document}
use Rattle.fields.specs.Faults.{Told, fine, refused, then}
use Rattle.documents.specs.Reading.{read_document_of}
use Rattle.streams.specs.Streams.{Parts}
use Rattle.streams.specs.Taking.{take_refusal, after_take, Prompt}

-- a take's refusal in hand-in's record: line, byte and cause are 0
abbrev pub take_told : ℕ → Told (Unit {0})
take_told n = cond (n == 0) (fine tt) (refused n 0 0 0)

-- what hand-in answers: the text's refusal, else the take's
abbrev pub hand_in_told : Parts → List ℕ → Told (Unit {0})
hand_in_told p text = then (read_document_of text) (λ x. take_told (take_refusal p x))

module _ (p : Parts) where
  abbrev pub after_read : Told Document → Parts
  after_read (fine x) = after_take p x
  after_read (refused n l o c) = p

  abbrev pub prompt_read : Told Document → Type 0
  prompt_read (fine x) = Prompt p x
  prompt_read (refused n l o c) = Unit {0}

-- the parts after it: a text that is refused changes nothing
abbrev pub hand_in_after : Parts → List ℕ → Parts
hand_in_after p text = after_read p (read_document_of text)

abbrev pub PromptHandIn : Parts → List ℕ → Type 0
PromptHandIn p text = prompt_read p (read_document_of text)
