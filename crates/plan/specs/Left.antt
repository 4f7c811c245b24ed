-- What the walk through an input has yet to hand out.
use Rattle.std.specs.Prelude.{List}
use Rattle.fields.specs.Parts.{Part}
use Rattle.plan.specs.Pieces.{kept}
use Rattle.plan.specs.Cutting.{left_at}
use Rattle.plan.specs.declared.pieces.Piece.{Piece}
use Rattle.plan.specs.declared.pieces.Pieces.{Pieces}

abbrev pub piece_of : Piece → Part
piece_of p = record { offset = p.offset; bytes = p.bytes.now }

-- the pieces yet to be handed out
abbrev pub left : Pieces → List Part
left c = kept (left_at c.place c.input.now)
