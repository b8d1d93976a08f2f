use Rattle.bib_ris.proofs.Words.{◌≡◌, ◌∙◌, ◌++◌, [], List, Option, Some, option_map, ap, sym, subst, option_map_or, Text, Record, entries_of, expanded, with_chosen, RisRecord, record_text, ris}
use Rattle.ris_text.specs.Writing.{is_well_formed}
use Rattle.bib_ris.proofs.RisFields.{ris_gathered}
use Rattle.bib_ris.proofs.exporting.add_entry.Goals as goal

pub write_entry-requires : goal.write_entry-requires
write_entry-requires g c =
    let opened = c.opens.ensures in
    let whole = expanded c.args.depth (entries_of opened.0) c.args.n in
    let of_whole = ris_gathered whole c.in-Ok.entry
    (subst (λ (names : List Text). option_map (with_chosen names) whole ≡ Some c.in-Ok.entry) c.ris_names-names.ensures (c.in-Ok.ensures.rec opened.0 opened.1.reads)) in
    let fits = c.given_records_fit.ensures.given c.args.db.now opened.0 c.args.depth c.args.n of_whole.0 opened.1.reads of_whole.1.0 in
    ap is_well_formed of_whole.1.1 ∙ fits

pub returns-clause-text : goal.returns-clause-text
returns-clause-text g c db reads =
    let whole = expanded c.args.depth (entries_of db) c.args.n in
    let of_whole = ris_gathered whole c.in-Ok.entry
    (subst (λ (names : List Text). option_map (with_chosen names) whole ≡ Some c.in-Ok.entry) c.ris_names-names.ensures (c.in-Ok.ensures.rec db reads)) in
    c.in_ok-write_entry.ensures.text
    ∙ ap (λ (r : RisRecord). c.args.text.now.items ++ record_text r) of_whole.1.1
    ∙ ap (λ (o : Option Record). c.args.text.now.items ++ option_map_or (λ entry. record_text (ris entry)) o []) (sym of_whole.1.0)
