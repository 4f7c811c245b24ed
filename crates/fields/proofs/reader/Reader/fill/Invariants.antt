use Rattle.std.proofs.Common.{◌≡◌, length}
use Rattle.fields.specs.Left.{left}
use Rattle.fields.proofs.Filled.{Filled}
use Rattle.fields.proofs.reader.Reader.fill.Given as goal

abbrev pub invariant-loop-field : goal.invariant-loop-field
invariant-loop-field l = record { len : length l.fields ≡ length l.fn.fields; filled : Filled (left l.fn.self) l.fields l.field-index (left l.self) }
