use Rattle.std.proofs.Common.{◌≡◌, ℕ, Bool, List, ◌++◌, ◌+◌, [], ◌∷◌, if◌then◌else◌, filter, refl, ◌∙◌, sym, ap, ap₂}
use Rattle.std.specs.List.{range_with_len}
use Rattle.std.proofs.lemmas.List.Elements.{filter-append}
use Rattle.bib_store.proofs.Citations.{range_more}
use Rattle.bib_extract.specs.Marks.{is_marked}
use Rattle.bib_extract.proofs.extracting.marked_numbers.Goals as goal

one : (test : ℕ → Bool) (n : ℕ) → (if test n then n ∷ [] else []) ≡ filter test (n ∷ [])
one test n = refl

pub marks-preserved : goal.marks-preserved
marks-preserved c =
    let test = is_marked c.args.marks.now in
    c.in_ok-add_marked.ensures
    ∙ ap₂ (λ (a b : List ℕ). a ++ b) c.marks.invariant (one test c.marks.n)
    ∙ sym (filter-append test (range_with_len 0 c.marks.n) (c.marks.n ∷ []))
    ∙ ap (filter test) (sym (range_more c.marks.n))
