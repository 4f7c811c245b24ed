use Rattle.std.proofs.Common.{◌≡◌, ◌+◌, ◌≤◌, length}
use Rattle.std.specs.Iterator.Adapters.{enumerate_source, enumerate_count}
use Rattle.fields.specs.Left.{left}
use Rattle.documents.specs.Outlines.{outlined, outline_of}
use Rattle.documents.proofs.text.read_elements.Given as goal

abbrev pub invariant-loop-i : goal.invariant-loop-i
invariant-loop-i l = record {
  so_far : outlined (5 + enumerate_count l.i-iterator) l.outline (left (enumerate_source l.i-iterator).now) ≡ outline_of l.fn.len (left l.fn.lines);
  few : enumerate_count l.i-iterator + length (left (enumerate_source l.i-iterator).now) ≤ 4097;
}
