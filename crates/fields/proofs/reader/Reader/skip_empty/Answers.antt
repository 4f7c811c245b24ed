use Rattle.std.proofs.Common.{◌≡◌, ◌+◌, length, drop, ◌∙◌}
use Rattle.std.proofs.lemmas.Bool.{le-leb}
use Rattle.std.proofs.lemmas.List.{take_rest}
use Rattle.fields.proofs.Skipped.{skipped}
use Rattle.fields.proofs.reader.Reader.skip_empty.Goals as goal

pub returns : goal.returns
returns c =
    let s = c.args.self.now in
    let got = c.in-Some.ensures.lookup.0 in
    let after : c.in-Some.rest.now ≡ drop s.place s.text.now = got.2 ∙ take_rest s.text.now s.place in
    let past = skipped s.separator s.base s.place c.leading-count.result s.text.now c.in-Some.rest.now got.0 after c.leading-count.ensures.value in
    let more = le-leb s.place (length s.text.now) got.0 in
    let still = le-leb (s.place + c.leading-count.result) (length s.text.now) past.0 in
    record { parts = simp (more, still) past.1; count = simp (more, still) past.2 }
