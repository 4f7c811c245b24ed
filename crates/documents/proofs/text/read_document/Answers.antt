use Rattle.std.proofs.Common.{◌+◌, ◌-◌, ◌^◌, ◌<◌, length, get_or, take, ap, ◌∙◌, arith, rules}
use Rattle.std.proofs.lemmas.List.{length-take}
use Rattle.std.proofs.lemmas.Bool.{le-leb, eq-eqb}
use Rattle.fields.specs.Parts.{parts}
use Rattle.documents.specs.Outlines.{read_lines_of}
use Rattle.documents.proofs.Nesting.{same_lines}
use Rattle.documents.proofs.Shapes.{accepting}
use Rattle.documents.proofs.Bounds.{bounding}
use Rattle.documents.proofs.text.read_document.Goals as goal

pub returns : goal.returns
returns c =
    let t = c.args.text.now in
    let some = le-leb 1 (length t) (omega arith) in
    let small = le-leb (length t) 4096 c.if-len-gt-TEXT_LIMIT.false in
    let last = eq-eqb (get_or t (length t - 1) 0) 10 c.if-text-len-ne-LINE_FEED.false in
    let near : 0 + length (take (length t - 1) t) < 2 ^ 63 = omega (arith, length-take (length t - 1) t, c.if-len-gt-TEXT_LIMIT.false) in
    record { reads = simp (some, small, last) (c.read_lines.ensures ∙ ap (read_lines_of (length t)) (c.new-lines.ensures.near near) ∙ same_lines (length t) (parts 10 0 (take (length t - 1) t))); accepting = accepting; bounding = bounding }

pub returns-then-len-eq0 : goal.returns-then-len-eq0
returns-then-len-eq0 c = record { reads = search rules; accepting = accepting; bounding = bounding }
