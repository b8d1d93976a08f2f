-- The RIS text of entries, one after another.
use Rattle.bib_ris.proofs.Words.{◌≡◌, ◌∙◌, ℕ, ◌+◌, ◌<◌, List, [], ◌∷◌, ◌++◌, length, take, get_or, map, filter_map, Option, None, Some, refl, sym, ap, append-nil, cons_option, option_map_or, take_more, map-append, filter_map-append, flat_map-append, Text, Record, RisRecord, record_text, ris}
use Rattle.ris_text.specs.Writing.{ris_text}
use Rattle.bib_ris.specs.Plain.{in_plain}

-- the text of the records that are found
abbrev texts_found : {X : Type 0} → (X → Option Record) → List X → Text
texts_found f xs = ris_text (map ris (filter_map f xs))

texts-append : {X : Type 0} (f : X → Option Record) (xs ys : List X) → texts_found f (xs ++ ys) ≡ texts_found f xs ++ texts_found f ys
texts-append f xs ys =
    ap (λ (rs : List Record). ris_text (map ris rs)) (filter_map-append f xs ys)
    ∙ ap ris_text (map-append ris (filter_map f xs) (filter_map f ys))
    ∙ flat_map-append record_text (map ris (filter_map f xs)) (map ris (filter_map f ys))

-- the text of one record, if it is found
text_found : (o : Option Record) → option_map_or (λ r. record_text (ris r)) o [] ≡ ris_text (map ris (cons_option o []))
text_found None = refl
text_found (Some r) = sym (append-nil (record_text (ris r)))

-- one more record
pub texts_more : {X : Type 0} (f : X → Option Record) (xs : List X) (n : ℕ) (d : X) → n < length xs
    → ris_text (map ris (filter_map f (take n xs))) ++ option_map_or (λ r. record_text (ris r)) (f (get_or xs n d)) [] ≡ ris_text (map ris (filter_map f (take (n + 1) xs)))
texts_more f xs n d within =
    ap (λ (t : Text). texts_found f (take n xs) ++ t) (text_found (f (get_or xs n d)))
    ∙ sym (texts-append f (take n xs) (get_or xs n d ∷ []))
    ∙ ap (texts_found f) (sym (take_more xs n d within))

-- ---- with plain texts

-- the text of the records that are found, with plain texts
abbrev plain_found : {X : Type 0} → (X → Option Record) → List X → Text
plain_found f xs = ris_text (map in_plain (map ris (filter_map f xs)))

plain-append : {X : Type 0} (f : X → Option Record) (xs ys : List X) → plain_found f (xs ++ ys) ≡ plain_found f xs ++ plain_found f ys
plain-append f xs ys =
    ap (λ (rs : List Record). ris_text (map in_plain (map ris rs))) (filter_map-append f xs ys)
    ∙ ap (λ (rs : List RisRecord). ris_text (map in_plain rs)) (map-append ris (filter_map f xs) (filter_map f ys))
    ∙ ap ris_text (map-append in_plain (map ris (filter_map f xs)) (map ris (filter_map f ys)))
    ∙ flat_map-append record_text (map in_plain (map ris (filter_map f xs))) (map in_plain (map ris (filter_map f ys)))

-- the plain text of one record, if it is found
plain_one : (o : Option Record) → option_map_or (λ r. record_text (in_plain (ris r))) o [] ≡ ris_text (map in_plain (map ris (cons_option o [])))
plain_one None = refl
plain_one (Some r) = sym (append-nil (record_text (in_plain (ris r))))

-- one more record
pub plain_more : {X : Type 0} (f : X → Option Record) (xs : List X) (n : ℕ) (d : X) → n < length xs
    → plain_found f (take n xs) ++ option_map_or (λ r. record_text (in_plain (ris r))) (f (get_or xs n d)) [] ≡ plain_found f (take (n + 1) xs)
plain_more f xs n d within =
    ap (λ (t : Text). plain_found f (take n xs) ++ t) (plain_one (f (get_or xs n d)))
    ∙ sym (plain-append f (take n xs) (get_or xs n d ∷ []))
    ∙ ap (plain_found f) (sym (take_more xs n d within))
