-- A stack that does not take keeps its parts whatever it is sent.
use Rattle.std.proofs.Common.{◌≡◌, false, refl}
use Rattle.fields.specs.Faults.{Told, fine, refused}
use Rattle.documents.specs.declared.document.Document.{Document}
use Rattle.documents.specs.Reading.{read_document_of}
use Rattle.streams.specs.Streams.{Parts}
use Rattle.streams.specs.Handing.{after_read, prompt_read}
use Rattle.questions.specs.Asking.{does_not_take}
use Rattle.stacks.specs.declared.calls.Call.{Call}
use Rattle.stacks.specs.declared.calls.Call.TheVariants.{HandIn, Take, Tick, Active, Interval}
use Rattle.stacks.specs.Calls.{asks, asked_of, follow, PromptCall}
use Rattle.stacks.specs.Still.{still}

read_quiet : (p : Parts) (t : Told Document) → still p ≡ after_read (still p) t
read_quiet p (fine x) = refl
read_quiet p (refused n l o c) = refl

prompt_quiet : (p : Parts) (t : Told Document) → prompt_read (still p) t
prompt_quiet p (fine x) = tt
prompt_quiet p (refused n l o c) = tt

pub record Quiet (p : Parts) (c : Call) : Type 0 where
  pub answer : does_not_take ≡ asked_of (still p) c
  pub after : still p ≡ follow (still p) c
  pub prompt : PromptCall (still p) c

pub quiet : (p : Parts) (c : Call) → asks c ≡ false → Quiet p c
quiet p (HandIn text) h = record { answer = refl; after = read_quiet p (read_document_of text.now); prompt = prompt_quiet p (read_document_of text.now) }
quiet p (Take x) h = record { answer = refl; after = refl; prompt = tt }
quiet p (Tick t) h = record { answer = refl; after = refl; prompt = tt }
quiet p (Active w t) h = absurd (cc)
quiet p (Interval w n) h = absurd (cc)
