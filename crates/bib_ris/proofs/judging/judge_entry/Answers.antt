use Rattle.bib_ris.proofs.Words.{List, refl, sym, ◌∙◌, ap, subst, arith, map}
use Rattle.std.specs.List.{AllZip}
use Rattle.bib_spec.specs.Records.{RecordField, field_of}
use Rattle.bib_scan.specs.View.{Field, View}
use Rattle.bib_definitions.specs.MacrosSeen.{macros_seen}
use Rattle.bib_store.specs.Gathering.{IsFieldOf, with_fields}
use Rattle.bib_store.proofs.EntryItems.{IsEntryAt, entry_at, entry_within}
use Rattle.bib_store.proofs.ReadableFields.{fields_zip, seen_at, gathered_of}
use Rattle.bib_ris.specs.Judging.{IsJudged}
use Rattle.bib_ris.proofs.judging.judge_entry.Goals as goal

pub macros_at-macros-requires : goal.macros_at-macros-requires
macros_at-macros-requires g c = λ db reads.
    let within = entry_within db c.args.n c.entry_item.result (c.requires db reads) (c.entry_item.ensures db reads) in
    omega (arith, within)

pub returns : goal.returns
returns g c = λ whole db reads all from.
    let n = c.args.n in
    let at = entry_at db n (c.requires db reads) in
    let it : IsEntryAt db n at.0 = at.1 in
    let seen = seen_at db n c.entry_item.result at.0 it c.macros_at-macros.result (c.entry_item.ensures db reads) (c.macros_at-macros.ensures db reads) in
    let zip : AllZip IsFieldOf c.fields-fields.result it.entry.rows =
    subst (λ (fields : List Field). AllZip IsFieldOf fields it.entry.rows) (sym (c.fields-fields.ensures.fields ∙ ap (λ (v : View). v.fields) (c.entry.ensures db reads at.0 it.listed))) (fields_zip c.args.db.now db n at.0 reads it) in
    subst (λ (fields : List RecordField). IsJudged c.args.kind_name.now c.args.key.now fields c.judge_all.new.seen.items c.judge_all.new.lines.items)
    (gathered_of db n at.0 it all (with_fields all (map (field_of (macros_seen c.macros_at-macros.result)) it.entry.rows)) c.macros_at-macros.result seen refl)
    (c.in_ok-all_judged.ensures whole it.entry.rows zip all from)
