use Rattle.bib_ris.proofs.Words.{◌∙◌, ◌++◌, ◌<◌, [], length, get_or, rules, ap, option_map_or, Text, entries_of, expanded, record_text, ris}
use Rattle.bib_ris.proofs.EntriesRis.{texts_more}
use Rattle.bib_ris.proofs.exporting.entries_ris.Goals as goal

pub entries-preserved : goal.entries-preserved
entries-preserved g c db reads =
    let within : c.entries.n-index < length c.args.list.now = search rules in
    c.in_ok-add_entry.ensures.text db reads
    ∙ ap (λ (t : Text). t ++ option_map_or (λ entry. record_text (ris entry)) (expanded c.args.depth (entries_of db) (get_or c.args.list.now c.entries.n-index 0)) []) (c.entries.invariant db reads)
    ∙ texts_more (expanded c.args.depth (entries_of db)) c.args.list.now c.entries.n-index 0 within
