use Rattle.std.proofs.Common.{◌≡◌, ◌++◌, take, map}
use Rattle.std.specs.List.{flat_map}
use Rattle.bib_spec.specs.Tree.{Entry, row_bytes}
use Rattle.bib_fields.specs.MixSeen.{row_seen}
use Rattle.bib_fields.specs.Sources.{IsSource}
use Rattle.bib_fields.proofs.writing.add_rows.Given as goal

abbrev pub invariant-rows : goal.invariant-rows
invariant-rows l = (eo et : Entry) → IsSource l.ours eo → IsSource l.theirs et → l.out.items ≡ l.fn.out.items ++ flat_map row_bytes (map (row_seen eo.rows et.rows) (take l.k l.rows))
