use Rattle.bib_ris.proofs.Words.{◌∙◌, ◌++◌, ◌<◌, [], length, get_or, rules, ap, option_map_or, Text, entries_of, expanded, record_text, ris}
use Rattle.bib_ris.specs.Plain.{in_plain}
use Rattle.bib_ris.proofs.EntriesRis.{plain_more}
use Rattle.bib_ris.proofs.exporting.entries_plain.Goals as goal

pub entries-preserved : goal.entries-preserved
entries-preserved g c db reads =
    let within : c.entries.n-index < length c.args.list.now = search rules in
    c.in_ok-add_plain.ensures.text db reads
    ∙ ap (λ (t : Text). t ++ option_map_or (λ entry. record_text (in_plain (ris entry))) (expanded c.args.depth (entries_of db) (get_or c.args.list.now c.entries.n-index 0)) []) (c.entries.invariant db reads)
    ∙ plain_more (expanded c.args.depth (entries_of db)) c.args.list.now c.entries.n-index 0 within
