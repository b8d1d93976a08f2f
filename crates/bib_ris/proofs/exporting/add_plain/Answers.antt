use Rattle.bib_ris.proofs.Words.{◌≡◌, ◌∙◌, ◌++◌, [], List, Option, Some, option_map, ap, sym, subst, option_map_or, Text, Record, entries_of, expanded, with_chosen, RisRecord, record_text, ris}
use Rattle.ris_text.specs.Writing.{is_well_formed}
use Rattle.bib_ris.specs.Plain.{in_plain}
use Rattle.bib_ris.proofs.RisFields.{ris_gathered}
use Rattle.bib_ris.proofs.exporting.add_plain.Goals as goal

pub in_plain-requires : goal.in_plain-requires
in_plain-requires g c =
    let opened = c.opens.ensures in
    let whole = expanded c.args.depth (entries_of opened.0) c.args.n in
    let of_whole = ris_gathered whole c.in-Ok.entry
    (subst (λ (names : List Text). option_map (with_chosen names) whole ≡ Some c.in-Ok.entry) c.ris_names-names.ensures (c.in-Ok.ensures.rec opened.0 opened.1.reads)) in
    let fits = c.given_records_fit.ensures.given c.args.db.now opened.0 c.args.depth c.args.n of_whole.0 opened.1.reads of_whole.1.0 in
    ap is_well_formed (c.in_ok-record.ensures.record ∙ of_whole.1.1) ∙ fits

pub returns-clause-text : goal.returns-clause-text
returns-clause-text g c db reads =
    let whole = expanded c.args.depth (entries_of db) c.args.n in
    let of_whole = ris_gathered whole c.in-Ok.entry
    (subst (λ (names : List Text). option_map (with_chosen names) whole ≡ Some c.in-Ok.entry) c.ris_names-names.ensures (c.in-Ok.ensures.rec db reads)) in
    c.in_ok-write_record.ensures.record
    ∙ ap (λ (r : RisRecord). c.args.text.now.items ++ record_text r) (c.in_ok-record-2.ensures.plain ∙ ap in_plain (c.in_ok-record.ensures.record ∙ of_whole.1.1))
    ∙ ap (λ (o : Option Record). c.args.text.now.items ++ option_map_or (λ entry. record_text (in_plain (ris entry))) o []) (sym of_whole.1.0)
