use Rattle.bib_tokens.proofs.Words.{ap, have_part, test_of}
use Rattle.std.proofs.lemmas.List.Edits.{between_none}
use Rattle.bib_tokens.proofs.tokens.next_from.Goals as goal

pub returns-then-likely-clause-sought : goal.returns-then-likely-clause-sought
returns-then-likely-clause-sought g c db reads = ap (have_part (test_of c.args.sought)) (between_none db.items c.args.n)

pub returns-then-likely-clause-watched : goal.returns-then-likely-clause-watched
returns-then-likely-clause-watched g c db reads = ap (have_part (test_of c.args.watched)) (between_none db.items c.args.n)
