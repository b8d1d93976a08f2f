use Rattle.bib_answers.proofs.Words.{◌∙◌, ap, length, option_map, option_copied, entries_of, key_at}
use Rattle.bib_store.proofs.EntryItems.{entry_within}
use Rattle.bib_answers.specs.Raw.{standing_of}
use Rattle.bib_answers.proofs.StandingItems.{standing_within, standing_among}
use Rattle.bib_answers.proofs.RawLines.{raw_seen}
use Rattle.bib_answers.proofs.raw.found_at.Goals as goal

pub standing_at-requires : goal.standing_at-requires
standing_at-requires c =
    let opened = c.opens.ensures in
    let r = opened.0 in
    let reads = opened.1.reads in
    let m = c.entry_item.result in
    standing_within (standing_of (option_copied c.args.files) r) (length r.items) c.args.standings.now m (c.requires.standings r reads) (entry_within r c.args.n m (c.requires.number r reads) (c.entry_item.ensures r reads))

pub returns : goal.returns
returns c r reads =
    let files = option_copied c.args.files in
    let m = c.entry_item.result in
    let within = c.requires.number r reads in
    let numbered = c.entry_item.ensures r reads in
    raw_seen c.args.depth files r c.args.n m c.entry-entry.result c.type_name.result.now c.key.result.now (option_copied c.key_of.result) _ c.standing_at.result (option_copied c.file_of.result)
    within numbered (c.entry-entry.ensures r reads) c.type_name.ensures c.key.ensures
    (c.key_of.ensures r reads ∙ ap (option_map (key_at (entries_of r))) (c.parent.ensures.parent r reads))
    (c.in_ok-written_fields.ensures r reads)
    (standing_among (standing_of files r) (length r.items) c.args.standings.now m c.standing_at.result (c.requires.standings r reads) (entry_within r c.args.n m within numbered) c.standing_at.ensures)
    (c.file_of.ensures r reads)
