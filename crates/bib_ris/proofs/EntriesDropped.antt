-- What RIS leaves out of entries, one after another.
use Rattle.bib_ris.proofs.Words.{◌≡◌, ◌∙◌, ℕ, ◌+◌, ◌<◌, List, [], ◌∷◌, ◌++◌, length, take, get_or, filter_map, Option, None, Some, refl, sym, ap, append-nil, flat_map, cons_option, option_map_or, take_more, filter_map-append, flat_map-append, Text, Record, dropped_lines}

lines_found : (o : Option Record) → option_map_or dropped_lines o [] ≡ flat_map dropped_lines (cons_option o [])
lines_found None = refl
lines_found (Some r) = sym (append-nil (dropped_lines r))

-- one more entry
pub dropped_more : {X : Type 0} (f : X → Option Record) (xs : List X) (n : ℕ) (d : X) → n < length xs
    → flat_map dropped_lines (filter_map f (take n xs)) ++ option_map_or dropped_lines (f (get_or xs n d)) [] ≡ flat_map dropped_lines (filter_map f (take (n + 1) xs))
dropped_more f xs n d within =
    ap (λ (t : Text). flat_map dropped_lines (filter_map f (take n xs)) ++ t) (lines_found (f (get_or xs n d)))
    ∙ sym (flat_map-append dropped_lines (filter_map f (take n xs)) (filter_map f (get_or xs n d ∷ [])))
    ∙ ap (flat_map dropped_lines) (sym (filter_map-append f (take n xs) (get_or xs n d ∷ [])))
    ∙ ap (λ l. flat_map dropped_lines (filter_map f l)) (sym (take_more xs n d within))
