use Rattle.bib_ris.proofs.Words.{◌∙◌, List, ap, Text, made_keys, NewEntry, usable_ids, bases_of, usable_keys, with_keys}
use Rattle.bib_keys.specs.TakenKeys.{taken_in}
use Rattle.bib_ris.proofs.KeyedRecords.{usable-entries, keyed-with}
use Rattle.bib_ris.proofs.importing.imported.Goals as goal

pub returns-clause-entries : goal.returns-clause-entries
returns-clause-entries g c records drafts db reads =
    c.with_keys.ensures
    ∙ ap (λ (keys : List Text). with_keys keys c.args.drafts.entries.items)
    (c.in_ok-keys.ensures.keys db reads
    ∙ ap (λ (entries : List NewEntry). made_keys (taken_in db (usable_keys entries)) c.as_slice.result.now) (c.as_slice-2.ensures.value ∙ drafts.entries)
    ∙ ap (λ (ids : List Text). made_keys (taken_in db ids) c.as_slice.result.now) (usable-entries records)
    ∙ ap (made_keys (taken_in db (usable_ids records))) (c.as_slice.ensures.value ∙ drafts.bases))
    ∙ ap (with_keys (made_keys (taken_in db (usable_ids records)) (bases_of records))) drafts.entries
    ∙ keyed-with (taken_in db (usable_ids records)) records
