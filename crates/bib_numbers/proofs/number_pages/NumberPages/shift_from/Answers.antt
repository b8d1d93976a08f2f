use Rattle.bib_numbers.proofs.Words.{◌≡◌, ◌<◌, ◌∙◌, ℕ, List, length, ap, sym, subst, arith, joined, page_at, IsPlace, plus, moved_from, shifted, starts, AreFilled}
use Rattle.bib_numbers.specs.Moves.{IsKept}
use Rattle.bib_numbers.proofs.Moves.{joined-shifted, length-moved_from, written_shifted}
use Rattle.bib_numbers.proofs.FilledPages.{starts-shifted, filled_shifted}
use Rattle.bib_numbers.proofs.number_pages.NumberPages.shift_from.Goals as goal

-- after the shift the list is moved from that place on, and nothing else changes
kept_shifted : (step k count p j : ℕ) (pages now : List (List ℕ)) (firsts : List ℕ) → IsPlace pages k p j → now ≡ shifted (plus step) p j pages → IsKept pages firsts count → IsKept now firsts count × (joined now ≡ moved_from (plus step) k (joined pages))
kept_shifted step k count p j pages now firsts place is kept =
    let within : j < length (page_at pages p) = place.within in
    let list : joined now ≡ moved_from (plus step) k (joined pages)
    = ap joined is ∙ joined-shifted (plus step) pages p j place.page (omega (arith, within)) ∙ ap (λ (n : ℕ). moved_from (plus step) n (joined pages)) (sym place.at) in (
      record {
        filled = subst AreFilled (sym is) (filled_shifted (plus step) pages p j kept.filled);
        told = kept.told ∙ sym (ap (starts 0) is ∙ starts-shifted (plus step) 0 pages p j);
        count_is = kept.count_is ∙ sym (ap (length {A = ℕ}) list ∙ length-moved_from (plus step) k (joined pages));
        fits = kept.fits;
      },
      list,
    )

pub invariant_of-self : goal.invariant_of-self
invariant_of-self c =
    let pages : List (List ℕ) = c.self.inside.leaves.items in
    let place : IsPlace pages c.args.k c.locate-p.result.0 c.locate-p.result.1 = subst (λ (l : List (List ℕ)). IsPlace l c.args.k c.locate-p.result.0 c.locate-p.result.1) c.deref.ensures.value c.locate-p.ensures in
    (kept_shifted c.args.step c.args.k c.self.inside.count c.locate-p.result.0 c.locate-p.result.1 pages _ c.self.inside.firsts.items place
    (written_shifted (plus c.args.step) c.self.inside.leaves.len c.locate-p.result.0 c.locate-p.result.1 pages c.deref_mut.result.now c.shift_from.new.leaves c.self.inside.leaves.ok.0 c.deref_mut.ensures.value c.shift_from.ensures)
    c.self.invariant).0

pub returns-then-k-self : goal.returns-then-k-self
returns-then-k-self c =
    let pages : List (List ℕ) = c.self.inside.leaves.items in
    let place : IsPlace pages c.args.k c.locate-p.result.0 c.locate-p.result.1 = subst (λ (l : List (List ℕ)). IsPlace l c.args.k c.locate-p.result.0 c.locate-p.result.1) c.deref.ensures.value c.locate-p.ensures in
    (kept_shifted c.args.step c.args.k c.self.inside.count c.locate-p.result.0 c.locate-p.result.1 pages _ c.self.inside.firsts.items place
    (written_shifted (plus c.args.step) c.self.inside.leaves.len c.locate-p.result.0 c.locate-p.result.1 pages c.deref_mut.result.now c.shift_from.new.leaves c.self.inside.leaves.ok.0 c.deref_mut.ensures.value c.shift_from.ensures)
    c.self.invariant).1
    ∙ ap (moved_from (plus c.args.step) c.args.k) c.self.view_is
