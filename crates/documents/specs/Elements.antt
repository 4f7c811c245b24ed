-- Elements: written times and computed times.
use Rattle.std.specs.Prelude.{ℕ, ◌+◌, min, max, cond, Some, None, Option, nat_le}
use Rattle.times.specs.Clock.{entry_limit}
use Rattle.fields.specs.Faults.{Judged, good, bad, Told, fine, at, then, optional_time_of}
use Rattle.fields.specs.Parts.{Part}
use Rattle.documents.specs.declared.element.Computed.{Computed}

-- a time past the entry limit is 7
abbrev pub up_to_limit : ℕ → Judged ℕ
up_to_limit t = cond (nat_le t entry_limit) (good t) (bad 7 0)

-- the computed begin: the parent's, plus the written one
abbrev pub begin_of : Computed → Option ℕ → Judged ℕ
begin_of parent None = good parent.begin
begin_of parent (Some w) = up_to_limit (parent.begin + w)

-- a time, cut to an end if there is one
abbrev pub cut_to : Option ℕ → ℕ → ℕ
cut_to None t = t
cut_to (Some e) t = min t e

abbrev pub cut_in : Option ℕ → Judged ℕ → Judged (Option ℕ)
cut_in end (good t) = good (Some (cut_to end t))
cut_in end (bad n c) = bad n c

-- the computed end: the parent's begin plus the written end, judged, then cut to the parent's end;
-- with no written end it is the parent's
abbrev pub end_of : Computed → Option ℕ → Judged (Option ℕ)
end_of parent None = good parent.end
end_of parent (Some w) = cut_in parent.end (up_to_limit (parent.begin + w))

-- the least so far and the computed begin of an element that writes one
abbrev pub least_of : Option ℕ → Option ℕ → ℕ → Option ℕ
least_of sofar None t = sofar
least_of None (Some w) t = Some t
least_of (Some s) (Some w) t = Some (min s t)

-- the greatest so far and the computed end of an element that writes one
abbrev pub most_of : Option ℕ → Option ℕ → Option ℕ → Option ℕ
most_of sofar None t = sofar
most_of None (Some w) t = t
most_of (Some s) (Some w) None = Some s
most_of (Some s) (Some w) (Some t) = Some (max s t)

-- the body's parent: begin 0, no end
abbrev pub root : Computed
root = record { begin = 0; end = None }

-- an optional time at its place
abbrev pub time_at_of : ℕ → Part → Told (Option ℕ)
time_at_of line p = at line p.offset (optional_time_of p.bytes)

-- the computed times of an element, whose begin and end are written at the two offsets
abbrev pub computed_at_of : ℕ → ℕ → ℕ → Computed → Option ℕ → Option ℕ → Told Computed
computed_at_of line ob oe parent b e =
    then (at line ob (begin_of parent b)) (λ cb.
    then (at line oe (end_of parent e)) (λ ce.
    fine (record { begin = cb; end = ce })))
