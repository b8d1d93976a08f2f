use Rattle.bib_store.proofs.Words.{◌≡◌, ◌∙◌, ◌∷◌, [], List, Option, ap, subst, Text, Macros, crossref_in, OfRows}
use Rattle.bib_scan.specs.View.{Field}
use Rattle.bib_store.proofs.SettledCrossrefs.{settled_none, settled_fields}
use Rattle.bib_store.proofs.bounds.is_settled_entry.Goals as goal

pub returns-in-None : goal.returns-in-None
returns-in-None c t m i is entry seen says = settled_none m i entry (says ∙ ap (λ (o : Option Text). o ∷ []) c.in-None.is)

pub returns-in-Some : goal.returns-in-Some
returns-in-Some c t m i is entry seen says =
    let said = c.are_settled.ensures t in
    settled_fields c.args.entry.now said.0 (subst (λ (fields : List Field). OfRows fields (λ before rows. (m : Macros) → said.0 ≡ crossref_in m rows)) c.fields.ensures.fields said.1) i is entry seen
