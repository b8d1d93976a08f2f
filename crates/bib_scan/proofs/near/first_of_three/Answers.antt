use Rattle.bib_scan.proofs.Words.{is_byte3}
use Rattle.bib_scan.proofs.FirstPlaces.{first_of_places}
use Rattle.bib_scan.proofs.near.first_of_three.Goals as goal

pub returns : goal.returns
returns c = first_of_places (is_byte3 c.args.a c.args.b c.args.c) c.args.text.now _ _ c.next.result c.memchr3_iter.ensures.value c.next.ensures.steps
