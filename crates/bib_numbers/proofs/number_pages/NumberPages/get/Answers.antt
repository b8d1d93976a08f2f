use Rattle.bib_numbers.proofs.Words.{◌≡◌, ◌∙◌, ℕ, List, [], ap, sym, subst, get_or_read, page_at, IsPlace}
use Rattle.std.proofs.Common.{slice_get}
use Rattle.bib_numbers.proofs.FilledPages.{get_at}
use Rattle.bib_numbers.proofs.number_pages.NumberPages.get.Goals as goal

pub returns : goal.returns
returns c =
    let pages : List (List ℕ) = c.self.inside.leaves.items in
    let place : IsPlace pages c.args.k c.locate-p.result.0 c.locate-p.result.1 = subst (λ (l : List (List ℕ)). IsPlace l c.args.k c.locate-p.result.0 c.locate-p.result.1) c.deref.ensures.value c.locate-p.ensures in
    let seen : c.index.result.now ≡ page_at pages c.locate-p.result.0 = get_or_read pages c.locate-p.result.0 c.index.result.now place.page c.index.ensures [] in
    ap (λ (l : List ℕ). slice_get l c.args.k) (sym c.self.view_is)
    ∙ get_at pages c.args.k c.locate-p.result.0 c.locate-p.result.1 place
    ∙ ap (λ (l : List ℕ). slice_get l c.locate-p.result.1) (sym seen)
    ∙ c.get.ensures
