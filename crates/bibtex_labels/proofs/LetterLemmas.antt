-- The letters of labels, one entry after another.
use Rattle.std.proofs.Common.{◌≡◌, ◌∙◌, ℕ, suc, ◌+◌, ◌<◌, ◌≤◌, List, [], ◌∷◌, ◌++◌, length, drop, get_or, refl, sym, ap, subst, append_assoc, append-nil, add-one, drop-cons}
use Rattle.std.specs.Prelude.{if◌then◌else◌}
use Rattle.std.proofs.lemmas.List.{drop_all}
use Rattle.bib_spec.specs.Text.{Text}
use Rattle.bibtex_labels.specs.Order.{kept, is_followed, letter, lettered_from}
use Rattle.bibtex_labels.specs.declared.ordering.Labelled.{Labelled}

front_label : (number : ℕ) (list rest : List Labelled) (entry : Labelled) → list ≡ entry ∷ rest
    → lettered_from number list ≡ kept (entry.label ++ letter number (is_followed list)) ∷ lettered_from (if is_followed list then number + 1 else 0) rest
front_label number list rest entry is =
    subst (λ l. lettered_from number l ≡ kept (entry.label ++ letter number (is_followed l)) ∷ lettered_from (if is_followed l then number + 1 else 0) rest) (sym is) refl

-- one more label
pub lettered_more : (number n : ℕ) (d : Labelled) (entries : List Labelled) (labels all : List Text) → n < length entries → labels ++ lettered_from number (drop n entries) ≡ all
    → (labels ++ kept ((get_or entries n d).label ++ letter number (is_followed (drop n entries))) ∷ [])
    ++ lettered_from (if is_followed (drop n entries) then number + 1 else 0) (drop (n + 1) entries) ≡ all
lettered_more number n d entries labels all within told =
    let followed = is_followed (drop n entries) in
    let label = kept ((get_or entries n d).label ++ letter number followed) in
    ap (λ k. (labels ++ label ∷ []) ++ lettered_from (if followed then number + 1 else 0) (drop k entries)) (add-one n)
    ∙ append_assoc labels (label ∷ []) _
    ∙ ap (λ on. labels ++ on) (sym (front_label number (drop n entries) (drop (suc n) entries) (get_or entries n d) (drop-cons entries n d within)))
    ∙ told

-- all labels
pub lettered_all : (number n : ℕ) (entries : List Labelled) (labels all : List Text) → length entries ≤ n → labels ++ lettered_from number (drop n entries) ≡ all → labels ≡ all
lettered_all number n entries labels all end told =
    sym (append-nil labels) ∙ ap (λ l. labels ++ lettered_from number l) (sym (drop_all n entries end)) ∙ told
