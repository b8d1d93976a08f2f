use Rattle.bib_edit.specs.Numbers.{which_seen}
use Rattle.bib_edit.proofs.Referrers.{key-short}
use Rattle.bib_edit.proofs.MeantTexts.{meant-entry}
use Rattle.bib_edit.proofs.MeantParents.{first-parent, later-no_parent}
use Rattle.bib_edit.proofs.one_entry.is_parent_at.Goals as goal

pub is_parent-requires : goal.is_parent-requires
is_parent-requires g c =
    let db = c.opens.ensures.0 in
    let reads = c.opens.ensures.1.reads in
    key-short c.args.db.now db reads c.args.key.name.now c.in-Some.m (c.in-Some.ensures.first db reads).0

pub returns-in-Some : goal.returns-in-Some
returns-in-Some g c db reads =
    let first = c.in-Some.ensures.first db reads in
    first-parent (which_seen c.args.key) db c.args.n c.in-Some.m c.is_parent.result first.1 first.0 (meant-entry (which_seen c.args.key) db c.args.n (c.requires db reads)).number
    (c.is_parent.ensures db reads first.0)

pub returns-in-None : goal.returns-in-None
returns-in-None g c db reads = later-no_parent (which_seen c.args.key) db c.args.n (c.requires db reads) (c.in-None.ensures.later db reads)
