use Rattle.bib_pages.proofs.Paging.{parted_by}
use Rattle.bib_numbers.proofs.leaves.part.Goals as goal

pub returns-clause-ok : goal.returns-clause-ok
returns-clause-ok c =
    parted_by c.args.leaves.now.items c.insert.new.self.items c.args.p 256 c.index.result.now c.in_ok-second.second c.index_mut.result.now c.truncate.new.self
    c.requires.page c.index.ensures c.in_ok-second.ensures c.in_ok-insert.ensures.items c.index_mut.ensures.value c.truncate.ensures
