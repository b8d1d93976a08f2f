use Rattle.bib_store.proofs.Words.{List, ⊎_elim, sym, subst, Note, AreNotesOf}
use Rattle.bib_store.proofs.OpenedFiles.{taken_file, taken_kept, taken_notes, no_notes}
use Rattle.bib_store.proofs.database.Database.of_items.Goals as goal

pub invariant_of-result : goal.invariant_of-result
invariant_of-result g c =
    let items = g.L.ItemList.items c.args.items in (
      taken_kept c.requires.0 c.args.front items c.args.notes c.requires.1 c.args.tables c.requires.2,
      ⊎_elim
          (λ all. subst (λ (ns : List Note). AreNotesOf ns items) (sym all) (taken_notes c.requires.0 c.args.front items c.args.notes c.requires.1))
          (λ none. no_notes c.kept_notes.result items none)
          c.kept_notes.ensures,
    )

pub returns : goal.returns
returns g c bytes t = taken_file bytes c.args.front (g.L.ItemList.items c.args.items) c.args.notes t
