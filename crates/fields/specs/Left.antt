use Rattle.std.specs.Prelude.{◌+◌, ◌^◌, ◌<◌, cond, List, [], length, drop, IfSome, Some, None, Option, nat_le}
use Rattle.std.specs.Iterator.{YieldsFirstBy}
use Rattle.fields.specs.Parts.{Part, parts}
use Rattle.fields.specs.declared.reader.Field.{Field}
use Rattle.fields.specs.declared.reader.Reader.{Reader}

abbrev pub part_of : Field → Part
part_of f = record { offset = f.offset; bytes = f.bytes.now }

-- what a reader has yet to hand out
abbrev pub left : Reader → List Part
left r = cond (nat_le r.place (length r.text.now)) (parts r.separator (r.base + r.place) (drop r.place r.text.now)) []

abbrev pub part_in : Option Field → Option Part
part_in None = None
part_in (Some f) = Some (part_of f)

-- a call gave the first part that was left, which ends where a reader can count, or `None` where none was
-- left, and then none is
abbrev pub GivesPart : Reader → Option Field → Reader → Type 0
GivesPart s r t = YieldsFirstBy part_of left s r t × IfSome r (λ f. f.offset + length f.bytes.now < 2 ^ 63)
