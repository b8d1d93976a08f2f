use Rattle.std.proofs.Common.{slice_index_or, ◌∙◌, ap}
use Rattle.bib_shelf.specs.declared.joining.Joined.{Joined}
use Rattle.bib_shelf.proofs.Opens.{file_known}
use Rattle.bib_shelf.proofs.Counts.{items_found}
use Rattle.bib_shelf.proofs.opening.Shelf.items.Goals as goal

pub returns : goal.returns
returns g c = λ files dbs are all.
    let spans = c.as_slice.result.now in
    let is = ap (λ (j : Joined). j.spans) c.self.view_is in
    ap (λ n. (c.first_from-first.result, n)) c.saturating_sub.ensures
    ∙ items_found files dbs c.self.inside.database c.args.file c.first_from-first.result c.first_from-next.result (slice_index_or spans c.args.file (0, 0)) all
    (ap (λ (j : Joined). j.text) c.self.view_is ∙ are.text) (file_known files c.args.self.now spans c.args.file are (c.as_slice.ensures ∙ is) c.requires)
    c.first_from-first.ensures c.first_from-next.ensures
