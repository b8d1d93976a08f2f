-- What is found after tags in lines that were written of neat values.
use Rattle.ris_format.proofs.Words.{◌≡◌, Bool, true, false, [], ◌∷◌, ◌++◌, refl, sym, ap, ◌∙◌, ⊎_elim, if◌then◌else◌, flat_map, list_any, list_all, bytes_eq, cases_Bool, cond-true, cond-false, and_from, and_parts, map-append, filter-append, Text, RisLine, neat, has_bytes, line, Tagged, tagged_lines}
use Rattle.ris_format.proofs.Words.{lines_of, spaced, read_lines, has_tag, values_at, are_neat_lines, field_text-neat}
use Rattle.std.proofs.Common.{List, map}
use Rattle.std.specs.Prelude.{filter}
use Rattle.ris_format.proofs.Neat.{neat-has_bytes}
use Rattle.ris_format.proofs.Values.{are_neat}

-- ---- neat values are read unchanged

abbrev is_filled_line : RisLine → Bool
is_filled_line l = has_bytes l.value

pub read-neat : (lines : List RisLine) → are_neat_lines lines ≡ true → read_lines lines ≡ lines
read-neat [] n = refl
read-neat (l ∷ lines) n =
    let p = and_parts (neat true l.value) (are_neat_lines lines) n in
    let same : spaced l ≡ l = ap (λ (v : Text). line l.tag v) (field_text-neat l.value p.0) in
    let kept : is_filled_line l ≡ true = neat-has_bytes l.value p.0 in
    ap (λ (k : RisLine). filter is_filled_line (k ∷ map spaced lines)) same
    ∙ cond-true (is_filled_line l) (l ∷ filter is_filled_line (map spaced lines)) _ kept
    ∙ ap (λ (ls : List RisLine). l ∷ ls) (read-neat lines p.1)

lines-append : (xs ys : List RisLine) → are_neat_lines xs ≡ true → are_neat_lines ys ≡ true → are_neat_lines (xs ++ ys) ≡ true
lines-append [] ys h k = k
lines-append (x ∷ xs) ys h k =
    let p = and_parts (neat true x.value) (are_neat_lines xs) h in
    and_from (neat true x.value) (are_neat_lines (xs ++ ys)) p.0 (lines-append xs ys p.1 k)

group-neat : (tag : Text) (values : List Text) → are_neat values ≡ true → are_neat_lines (map (line tag) values) ≡ true
group-neat tag [] n = refl
group-neat tag (v ∷ values) n =
    let p = and_parts (neat true v) (are_neat values) n in
    and_from (neat true v) _ p.0 (group-neat tag values p.1)

abbrev pub is_neat_group : Tagged → Bool
is_neat_group g = are_neat g.values

groups-neat : (groups : List Tagged) → list_all is_neat_group groups ≡ true → are_neat_lines (lines_of groups) ≡ true
groups-neat [] n = refl
groups-neat (g ∷ groups) n =
    let p = and_parts (is_neat_group g) (list_all is_neat_group groups) n in
    lines-append (tagged_lines g) (lines_of groups) (group-neat g.tag g.values p.0) (groups-neat groups p.1)

pub read-lines_of : (groups : List Tagged) → list_all is_neat_group groups ≡ true → read_lines (lines_of groups) ≡ lines_of groups
read-lines_of groups n = read-neat (lines_of groups) (groups-neat groups n)

-- ---- the values after tags

abbrev pub is_among : List Text → Text → Bool
is_among tags tag = list_any (λ other. bytes_eq other tag) tags

abbrev pub picked : List Text → Tagged → List Text
picked tags g = if is_among tags g.tag then g.values else []

values-append : (tags : List Text) (xs ys : List RisLine) → values_at tags (xs ++ ys) ≡ values_at tags xs ++ values_at tags ys
values-append tags xs ys =
    ap (λ (ls : List RisLine). map (λ (l : RisLine). l.value) ls) (filter-append (has_tag tags) xs ys)
    ∙ map-append (λ (l : RisLine). l.value) (filter (has_tag tags) xs) (filter (has_tag tags) ys)

all-picked : (tags : List Text) (tag : Text) (values : List Text) → is_among tags tag ≡ true → values_at tags (map (line tag) values) ≡ values
all-picked tags tag [] h = refl
all-picked tags tag (v ∷ values) h =
    ap (λ (ls : List RisLine). map (λ (l : RisLine). l.value) ls) (cond-true (is_among tags tag) (line tag v ∷ filter (has_tag tags) (map (line tag) values)) _ h)
    ∙ ap (λ (vs : List Text). v ∷ vs) (all-picked tags tag values h)

none-picked : (tags : List Text) (tag : Text) (values : List Text) → is_among tags tag ≡ false → values_at tags (map (line tag) values) ≡ []
none-picked tags tag [] h = refl
none-picked tags tag (v ∷ values) h =
    ap (λ (ls : List RisLine). map (λ (l : RisLine). l.value) ls) (cond-false (is_among tags tag) (line tag v ∷ filter (has_tag tags) (map (line tag) values)) _ h)
    ∙ none-picked tags tag values h

group-picked : (tags : List Text) (g : Tagged) → values_at tags (tagged_lines g) ≡ picked tags g
group-picked tags g =
    ⊎_elim
    (λ h. all-picked tags g.tag g.values h ∙ sym (cond-true (is_among tags g.tag) g.values [] h))
    (λ h. none-picked tags g.tag g.values h ∙ sym (cond-false (is_among tags g.tag) g.values [] h))
    (cases_Bool (is_among tags g.tag))

pub values-lines_of : (tags : List Text) (groups : List Tagged) → values_at tags (lines_of groups) ≡ flat_map (picked tags) groups
values-lines_of tags [] = refl
values-lines_of tags (g ∷ groups) =
    values-append tags (tagged_lines g) (lines_of groups)
    ∙ ap (λ (vs : List Text). vs ++ values_at tags (lines_of groups)) (group-picked tags g)
    ∙ ap (λ (vs : List Text). picked tags g ++ vs) (values-lines_of tags groups)
