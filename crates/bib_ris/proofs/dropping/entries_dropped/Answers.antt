use Rattle.bib_ris.proofs.Words.{◌∙◌, ◌++◌, ◌<◌, [], length, get_or, rules, ap, option_map_or, Text, entries_of, expanded, dropped_lines}
use Rattle.bib_ris.proofs.EntriesDropped.{dropped_more}
use Rattle.bib_ris.proofs.dropping.entries_dropped.Goals as goal

pub entries-preserved : goal.entries-preserved
entries-preserved g c =
    let within : c.entries.n-index < length c.args.list.now = search rules in
    λ db reads.
    c.in_ok-add_entry.ensures.text db reads
    ∙ ap (λ (t : Text). t ++ option_map_or dropped_lines (expanded c.args.depth (entries_of db) (get_or c.args.list.now c.entries.n-index 0)) []) (c.entries.invariant db reads)
    ∙ dropped_more (expanded c.args.depth (entries_of db)) c.args.list.now c.entries.n-index 0 within
