-- What delay nodes make of the parts of the stream below.
use Rattle.std.specs.Prelude.{ℕ, ◌+◌, ◌-◌, min, List, [], ◌∷◌, map, Some, None, Option}
use Rattle.documents.specs.declared.document.Document.{Document}
use Rattle.streams.specs.Streams.{Parts, Entry, most_total, due}

-- a delay node: which kind it is, with its approved adjustment
pub data Delay : Type 0 where
  holding : ℕ → Delay
  retiming : ℕ → Delay

abbrev pub approved : Delay → ℕ
approved (holding a) = a
approved (retiming a) = a

-- the adjustment in force: the smaller of the approved one and what the total below leaves
abbrev pub adjustment : Delay → ℕ → ℕ
adjustment k total = min (approved k) (most_total - total)

-- a moment that is there, d later
abbrev pub later : ℕ → Option ℕ → Option ℕ
later d (Some t) = Some (t + d)
later d None = None

-- a document held back by d: available, begin and end all move
abbrev pub held : ℕ → Document → Document
held d x = record { number = x.number; available = x.available + d; begin = later d x.begin; end = later d x.end; dur = x.dur; content = x.content }

-- a document retimed by d: it begins d after the later of available and begin
abbrev pub retimed : ℕ → Document → Document
retimed d x = record { number = x.number; available = x.available; begin = Some (due x + d); end = later d x.end; dur = x.dur; content = x.content }

abbrev pub altered : Delay → ℕ → Document → Document
altered (holding a) d = held d
altered (retiming a) d = retimed d

abbrev pub delayed_entry : (Document → Document) → Option Entry → Option Entry
delayed_entry f (Some e) = Some (record { moment = e.moment; left = e.left; appearance = λ x. f (e.appearance x) })
delayed_entry f None = None

-- the parts of a node over a stream of the parts p
abbrev pub delayed : Delay → Parts → Parts
delayed k p = record {
  shown = map (altered k (adjustment k p.total)) p.shown;
  settled = p.settled + adjustment k p.total;
  total = p.total + adjustment k p.total;
  entry = delayed_entry (altered k (adjustment k p.total)) p.entry;
}

-- the parts of nodes, the uppermost first, over a bare stream of the parts p
abbrev pub stack : List Delay → Parts → Parts
stack [] p = p
stack (k ∷ ks) p = delayed k (stack ks p)
