use Rattle.std.proofs.Common.{◌∙◌, List, map, sym, ap, subst, arith}
use Rattle.std.specs.List.{AllZip}
use Rattle.std.proofs.lemmas.Option.{same_Some}
use Rattle.bib_spec.specs.Texts.{Macros, months, macros_at}
use Rattle.bib_spec.specs.Records.{EntryTexts, field_of, texts_of}
use Rattle.bib_scan.specs.View.{Field, View, fields_of}
use Rattle.bib_store.specs.Gathering.{IsFieldOf}
use Rattle.bib_store.proofs.EntryItems.{IsEntryAt, entry_at, entry_within}
use Rattle.bib_store.proofs.ReadableFields.{fields_zip, fields_readable, seen_at}
use Rattle.bib_diff.specs.Texts.{Map, HaveShortNames, AreTextsOf, AreTextsOfEntry}
use Rattle.bib_diff.proofs.GatheredTexts.{short_names}
use Rattle.bib_diff.proofs.texts.texts_at.Goals as goal

pub macros_at-requires : goal.macros_at-requires
macros_at-requires c = λ db reads.
    let within = entry_within db c.args.n c.entry_item.result (c.requires db reads) (c.entry_item.ensures db reads) in
    omega (arith, within)

pub gathered-requires : goal.gathered-requires
gathered-requires c =
    let db = c.opens.ensures.0 in
    let reads = c.opens.ensures.1.reads in
    let n = c.args.n in
    let at = entry_at db n (c.requires db reads) in
    let it : IsEntryAt db n at.0 = at.1 in
    subst HaveShortNames (sym (c.fields.ensures.fields ∙ ap (λ (v : View). v.fields) (c.entry.ensures db reads at.0 it.listed)))
    (short_names (macros_at months db.items it.number) (fields_of at.0.tree) (fields_readable c.args.db.now db n at.0 reads c.opens.ensures.1.texts it))

pub returns : goal.returns
returns c = λ db reads entry there.
    let n = c.args.n in
    let at = entry_at db n (c.requires db reads) in
    let it : IsEntryAt db n at.0 = at.1 in
    let texts : Map = c.in_ok-texts.texts in
    let seen = seen_at db n c.entry_item.result at.0 it c.macros_at.result (c.entry_item.ensures db reads) (c.macros_at.ensures db reads) in
    let zip : AllZip IsFieldOf c.fields.result it.entry.rows =
    subst (λ (fields : List Field). AllZip IsFieldOf fields it.entry.rows) (sym (c.fields.ensures.fields ∙ ap (λ (v : View). v.fields) (c.entry.ensures db reads at.0 it.listed))) (fields_zip c.args.db.now db n at.0 reads it) in
    let own : AreTextsOfEntry (texts_of (macros_at months db.items it.number) it.entry) texts =
    subst (λ (macros : Macros). AreTextsOf (map (field_of macros) it.entry.rows) texts) seen (c.in_ok-texts.ensures it.entry.rows zip) in
    subst (λ (e : EntryTexts). AreTextsOfEntry e texts) (same_Some (texts_of (macros_at months db.items it.number) it.entry) entry (sym it.texts ∙ there)) own
