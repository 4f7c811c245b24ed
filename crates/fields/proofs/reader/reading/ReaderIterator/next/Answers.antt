use Rattle.std.proofs.Common.{◌≡◌, length, drop, ◌∙◌, arith, rules}
use Rattle.std.proofs.lemmas.Bool.{le-leb}
use Rattle.std.proofs.lemmas.List.{take_rest}
use Rattle.fields.proofs.Cuts.{left_cut}
use Rattle.fields.proofs.reader.reading.ReaderIterator.next.Goals as goal

pub returns : goal.returns
returns c =
    let s = c.args.self.now in
    let got = c.in_ok-rest.ensures.lookup.0 in
    let after : c.in_ok-rest.rest.now ≡ drop s.place s.text.now = got.2 ∙ take_rest s.text.now s.place in
    let more = le-leb s.place (length s.text.now) got.0 in
    let cut = left_cut s.separator s.base s.place c.until-len.result s.text.now c.in_ok-rest.rest.now got.0 after c.until-len.ensures.value in
    record { steps = (simp more cut, search rules); goes = record { on = λ _. (tt, tt, simp (more, cut) (omega arith)); keeps = tt; rests = λ _. tt }; small = search rules; first = simp (more, cut); rest = simp (more, cut); fewer = simp (more, cut) (omega arith); cases = simp more cut }
