-- What a live table means, said of the table itself.
use Rattle.streams.specs.declared.live.LiveTable.{LiveTable}
use Rattle.streams.specs.Streams.{Parts}
use Rattle.streams.specs.Tables.{table_parts}

-- the parts of a live table
abbrev pub table_of : LiveTable → Parts
table_of t = table_parts t.used t.records.now t.moment
