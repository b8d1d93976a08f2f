use Rattle.bibtex_plain.proofs.LastLines.{ChunkWalk}
use Rattle.bibtex_plain.proofs.lines.chunk_line.Given as goal

abbrev pub invariant-bytes : goal.invariant-bytes
invariant-bytes l = ChunkWalk l.chunk l.is_end l.k

abbrev pub decreases-bytes : goal.decreases-bytes
decreases-bytes l = l.k
