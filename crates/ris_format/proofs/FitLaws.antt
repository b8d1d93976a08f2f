-- Lines that are written of texts that are their own field texts can be lines of a file.
use Rattle.ris_format.proofs.Words.{◌≡◌, ℕ, ◌+◌, ◌-◌, Bool, true, false, cond, ◌&&◌, eqb, [], ◌∷◌, ◌++◌, take, drop, refl, sym, ap, subst, ◌∙◌, ⊎_elim, append-nil, Some, None, option_map, find, flat_map, list_any, list_all, slice_range, prefix_len, AllByRecursion, option_map_or, bytes_eq}
use Rattle.ris_format.proofs.Words.{cases_Bool, cond-true, and_parts, and_from, or_from, or_cases, or_parts, not-true, not-false, not_from_false, both_ways, false_from_ne_true, eqb-true, take-append-drop, bytes_eq-Decides, Text, is_space, IsBalanced, is_empty, field_text, Record, RecordField}
use Rattle.ris_format.proofs.Words.{eq-true, trimmed, names_of, NameWord, parts_of, balances, Name, balances-yes, IsBalanced-from_test, RisLine, Kind, Article, Book, Incollection, Inproceedings, Phdthesis, Techreport, Unpublished, Misc, ris_type, publisher_field, serial_field, is_article}
use Rattle.ris_format.proofs.Words.{kind_of_entry, neat, has_bytes, single, line, Tagged, tagged_lines, lines_of, words_end, part_text, family, Person, person, with_comma, ris_name, is_somebody, taken_apart, is_broken, is_refused, written_person, written_name, written_people, Month, has_slash}
use Rattle.ris_format.proofs.Words.{written_year, written_month, date_value, written_date, is_no_hyphen, before_dash, has_dash, before_cut, after_cut, is_margin, page, are_two, written_start, written_end, Fields, is_filled, text_of, ris, has_own_text, neat-space, neat-word}
use Rattle.std.proofs.Common.{not, List, map}
use Rattle.std.specs.Prelude.{codes, Option}
use Rattle.std.proofs.lemmas.Bool.{cond_both}
use Rattle.ris_text.specs.Tags as tags
use Rattle.ris_text.specs.Tags.{is_known}
use Rattle.ris_text.specs.Writing.{ends_line, fits_line, is_well_formed_line, is_well_formed}
use Rattle.ris_format.specs.Dates.{months, names_month}
use Rattle.ris_format.specs.Mapping.{written}
use Rattle.ris_format.specs.Fitting.{SpacedRecordsFit}
use Rattle.ris_format.proofs.Neat.{neat-append, neat-slice, neat-field_text}
use Rattle.ris_format.proofs.Trims.{neat-cut, trimmed-neat}
use Rattle.ris_format.proofs.Values.{are_neat, single-neat, are_neat-append}
use Rattle.ris_format.proofs.DateLaws.{IsMonth, each_month}
use Rattle.ris_format.proofs.PageLaws.{takes-space}
use Rattle.ris_format.proofs.KeywordLaws.{keywords-neat}
use Rattle.ris_format.proofs.Levels.{opens, closes, cut_off}
use Rattle.ris_format.proofs.PartLaws.{IsPart, name-parts}
use Rattle.ris_format.proofs.ListLaws.{IsListed, names-listed}
use Rattle.ris_format.proofs.PeopleLaws.{level-of, neat-comma}
use Rattle.ris_format.proofs.LineLaws.{is_neat_group}

-- a text that is neat, if it has a byte
abbrev Neat : Text → Type 0
Neat text = has_bytes text ≡ true → neat true text ≡ true

-- ---- neat texts fit a line

end-space : (b : ℕ) → ends_line b ≡ true → is_space b ≡ true
unfolding is_space
end-space b h = ⊎_elim (λ (e : eqb b 10 ≡ true). rw (eqb-true b 10 e) refl) (λ (e : eqb b 13 ≡ true). rw (eqb-true b 13 e) refl) (or_cases (eqb b 10) (eqb b 13) h)

one-line : (apart : Bool) (t : Text) → neat apart t ≡ true → list_any ends_line t ≡ false
one-line apart [] n = refl
one-line apart (b ∷ t) n =
    ⊎_elim
    (λ (h : is_space b ≡ true).
    let s = neat-space apart b t h n in
    or_from (ends_line b) (list_any ends_line t) (ap ends_line s.0) (one-line true t s.2))
    (λ (h : is_space b ≡ false).
    or_from (ends_line b) (list_any ends_line t)
    (false_from_ne_true (ends_line b) (λ e. both_ways (is_space b) h (end-space b e)))
    (one-line false t (sym (neat-word apart b t h) ∙ n)))
    (cases_Bool (is_space b))

neat-fits : (t : Text) → neat true t ≡ true → fits_line t ≡ true
unfolding fits_line
neat-fits t n =
    and_from (not (list_any ends_line t)) (bytes_eq (trimmed t) t)
    (not_from_false (list_any ends_line t) (one-line true t n)) ((bytes_eq-Decides (trimmed t) t).1 (trimmed-neat t n))

-- ---- names

slice-neat : (name : Text) (at end : ℕ) → neat true name ≡ true → IsPart (slice_range name at end) → Neat (slice_range name at end)
slice-neat name at end n is some =
    let p = is.plain some in
    neat-slice true (take at name) (slice_range name at end) (drop (end - at) (drop at name)) (ap (neat true) (cut_off name at (end - at)) ∙ n) p.0 p.1

part-neat : (name : Text) (words : List NameWord) → neat true name ≡ true → IsPart (part_text name words) → Neat (part_text name words)
part-neat name [] n is some = absurd (cc)
part-neat name (w ∷ ws) n is some = slice-neat name w.at (words_end w ws) n is some

comma-neat : (v z : Text) → Neat v → neat true z ≡ true → neat true (with_comma v z) ≡ true
comma-neat [] z nv nz = neat-comma true z ∙ nz
comma-neat (b ∷ v) z nv nz = neat-append true (b ∷ v) (44 ∷ 32 ∷ z) (nv refl) ∙ neat-comma false z ∙ nz

abbrev of : Text → Text → Text → Person
of last first suffix = record { last = last; first = first; suffix = suffix }

value-neat : (v f j : Text) → Neat v → Neat f → Neat j → is_somebody (of v f j) ≡ true → neat true (ris_name (of v f j)) ≡ true
value-neat v f (b ∷ j) nv nf nj some = comma-neat v (with_comma f (b ∷ j)) nv (comma-neat f (b ∷ j) nf (nj refl))
value-neat v (b ∷ f) [] nv nf nj some = comma-neat v (b ∷ f) nv (nf refl)
value-neat (b ∷ v) [] [] nv nf nj some = nv refl
value-neat [] [] [] nv nf nj some = absurd (cc)

person-neat : (p : Person) → Neat p.last → Neat p.first → Neat p.suffix → are_neat (written_person p) ≡ true
person-neat p nv nf nj =
    cond_both (is_somebody p) (ris_name p ∷ []) [] (λ vs. are_neat vs ≡ true)
    (λ some. and_from (neat true (ris_name p)) true (value-neat p.last p.first p.suffix nv nf nj some) refl)
    (λ none. refl)

name-neat : (name : Text) → IsBalanced name → opens name ≡ closes name → neat true name ≡ true → are_neat (written_name name) ≡ true
name-neat name is level n = go (taken_apart name) refl
  where
    go : (o : Option Name) → taken_apart name ≡ o → are_neat (option_map_or (λ (parts : Name). written_person (person name parts)) o []) ≡ true
    go None e = refl
    go (Some parts) e =
        let apart : parts_of name ≡ Some parts = sym (cond-true (balances name) (parts_of name) None (balances-yes name is)) ∙ e in
        let are = name-parts name parts is level apart in
        person-neat (person name parts)
        (part-neat name (family parts.von parts.last) n are.last)
        (part-neat name parts.first n are.first)
        (part-neat name parts.jr n are.suffix)

listed-neat : (text name : Text) → IsBalanced text → neat true text ≡ true → IsListed text name → are_neat (written_name name) ≡ true
listed-neat text [] is n l = refl
listed-neat text (b ∷ name) is n l = name-neat (b ∷ name) (l.balanced is) l.level (l.neat_is n refl)

names-neat : (text : Text) (names : List Text) → IsBalanced text → neat true text ≡ true → AllByRecursion (IsListed text) names → are_neat (flat_map written_name names) ≡ true
names-neat text [] is n all = refl
names-neat text (name ∷ names) is n all =
    are_neat-append (written_name name) (flat_map written_name names) (listed-neat text name is n all.0) (names-neat text names is n all.1)

people-neat : (text : Text) → Neat text → are_neat (written_people text) ≡ true
people-neat [] fit = refl
people-neat (b ∷ t) fit =
    let text : Text = b ∷ t in
    cond_both (is_refused text) [] (flat_map written_name (names_of text)) (λ vs. are_neat vs ≡ true)
    (λ refused. refl)
    (λ sound.
    let is = IsBalanced-from_test text (not-false (balances text) (or_parts (not (balances text)) (list_any is_broken (names_of text)) sound).0) in
    names-neat text (names_of text) is (fit refl) (names-listed text (level-of text is)))

-- ---- dates

-- the number of a month, or no bytes
record IsNumber (digits : Text) : Type 0 where
  inside : neat false (date_value [] digits) ≡ true
  front : neat true (date_value [] digits) ≡ true

no-number : IsNumber []
unfolding is_space
no-number = record { inside = refl; front = refl }

number-among : (text : Text) (ms : List Month) → AllByRecursion IsMonth ms → IsNumber (option_map_or (λ (m : Month). m.digits) (find (names_month text) ms) [])
number-among text [] all = no-number
number-among text (m ∷ ms) all =
    cond_both (names_month text m) (Some m) (find (names_month text) ms) (λ o. IsNumber (option_map_or (λ (n : Month). n.digits) o []))
    (λ yes. record { inside = all.0.inside; front = all.0.front })
    (λ other. number-among text ms all.1)

as-number : (o : Option Month) → option_map_or (λ (digits : Text). digits) (option_map (λ (m : Month). m.digits) o) [] ≡ option_map_or (λ (m : Month). m.digits) o []
as-number None = refl
as-number (Some m) = refl

month-number : (text : Text) → IsNumber (written_month text)
month-number text = subst IsNumber (sym (as-number (find (names_month text) months))) (number-among text months each_month)

year-neat : (year : Text) → Neat year → Neat (written_year year)
year-neat year fit = cond_both (has_slash year) [] year (λ y. Neat y) (λ slash some. absurd (cc)) (λ none. fit)

value-of-date : (year digits : Text) → Neat year → IsNumber digits → neat true (date_value year digits) ≡ true
value-of-date [] digits fit is = is.front
value-of-date (b ∷ t) digits fit is = neat-append true (b ∷ t) (date_value [] digits) (fit refl) ∙ is.inside

date-neat : (year text : Text) → Neat year → are_neat (written_date year text) ≡ true
date-neat year text fit =
    let y = written_year year in
    let d = written_month text in
    cond_both (is_empty y && is_empty d) [] (date_value y d ∷ []) (λ vs. are_neat vs ≡ true)
    (λ none. refl)
    (λ some. and_from (neat true (date_value y d)) true (value-of-date y d (year-neat year fit) (month-number text)) refl)

-- ---- pages

front-neat : (text : Text) (n : ℕ) → neat true text ≡ true → Neat (page (take n text))
front-neat text n neat_is some =
    neat-cut is_margin true [] (take n text) (drop n text) takes-space (ap (neat true) (take-append-drop n text) ∙ neat_is) some

rest-neat : (text : Text) (n : ℕ) → neat true text ≡ true → Neat (page (drop n text))
rest-neat text n neat_is some =
    neat-cut is_margin true (take n text) (drop n text) [] takes-space
    (ap (λ (u : Text). neat true (take n text ++ u)) (append-nil (drop n text)) ∙ ap (neat true) (take-append-drop n text) ∙ neat_is) some

before-neat : (text : Text) → neat true text ≡ true → Neat (page (before_cut text))
before-neat text n =
    cond_both (has_dash text) (take (before_dash text) text) (take (prefix_len is_no_hyphen text) text) (λ u. Neat (page u))
    (λ dash. front-neat text (before_dash text) n) (λ none. front-neat text (prefix_len is_no_hyphen text) n)

after-neat : (text : Text) → neat true text ≡ true → Neat (page (after_cut text))
after-neat text n =
    cond_both (has_dash text) (drop (before_dash text + 2) text) (drop (prefix_len is_no_hyphen text + 1) text) (λ u. Neat (page u))
    (λ dash. rest-neat text (before_dash text + 2) n) (λ none. rest-neat text (prefix_len is_no_hyphen text + 1) n)

start-neat : (text : Text) → Neat text → are_neat (written_start text) ≡ true
start-neat [] fit = refl
start-neat (b ∷ t) fit =
    let text : Text = b ∷ t in
    cond_both (are_two text) (page (before_cut text) ∷ []) (single text) (λ vs. are_neat vs ≡ true)
    (λ two. and_from _ true (before-neat text (fit refl) (and_parts (has_bytes (page (before_cut text))) (has_bytes (page (after_cut text))) two).0) refl)
    (λ one. single-neat text fit)

end-neat : (text : Text) → Neat text → are_neat (written_end text) ≡ true
end-neat [] fit = refl
end-neat (b ∷ t) fit =
    let text : Text = b ∷ t in
    cond_both (are_two text) (page (after_cut text) ∷ []) [] (λ vs. are_neat vs ≡ true)
    (λ two. and_from _ true (after-neat text (fit refl) (and_parts (has_bytes (page (before_cut text))) (has_bytes (page (after_cut text))) two).1) refl)
    (λ one. refl)

-- ---- all lines

-- the text of a name is one of the texts of the fields, or empty
text-neat : (name : Text) (fields : Fields) → list_all has_own_text fields ≡ true → Neat (text_of fields name)
text-neat name [] own some = absurd (cc)
text-neat name (f ∷ fields) own some =
    let p = and_parts (has_own_text f) (list_all has_own_text fields) own in
    cond_both (is_filled name f) (Some f) (find (is_filled name) fields) (λ o. Neat (option_map_or (λ (g : RecordField). g.1) o []))
    (λ here filled. neat-field_text f.1 (eq-true (field_text f.1) f.1 p.0) filled)
    (λ past filled. text-neat name fields p.1 filled) some

title-neat : (art : Bool) (text : Text) → Neat text → are_neat (single (cond art [] text)) ≡ true
title-neat true text fit = refl
title-neat false text fit = single-neat text fit

plain-neat : (t : Text) → list_any is_space t ≡ false → neat false t ≡ true
plain-neat [] none = refl
plain-neat (b ∷ t) none =
    let p = or_parts (is_space b) (list_any is_space t) none in
    neat-word false b t p.0 ∙ plain-neat t p.1

key-neat : (key : Text) → list_any is_space key ≡ false → Neat key
key-neat [] none some = absurd (cc)
key-neat (b ∷ t) none some =
    let p = or_parts (is_space b) (list_any is_space t) none in
    neat-word true b t p.0 ∙ plain-neat t p.1

module _ (kind : Kind) (entry : Record) (own : list_all has_own_text entry.fields ≡ true) (bare : list_any is_space entry.key ≡ false) where
  abbrev of_name : Text → Text
  of_name name = text_of entry.fields name

  alone : (name : Text) → are_neat (single (of_name name)) ≡ true
  alone name = single-neat (of_name name) (text-neat name entry.fields own)

  groups-neat : list_all is_neat_group (written kind entry) ≡ true
  groups-neat =
      rw (
        people-neat (of_name (codes "author")) (text-neat (codes "author") entry.fields own),
        people-neat (of_name (codes "editor")) (text-neat (codes "editor") entry.fields own),
        alone (codes "title"),
        title-neat (is_article kind) (of_name (codes "booktitle")) (text-neat (codes "booktitle") entry.fields own),
        alone (codes "series"),
        alone (codes "journal"),
        date-neat (of_name (codes "year")) (of_name (codes "month")) (text-neat (codes "year") entry.fields own),
        alone (codes "volume"),
        alone (codes "number"),
        start-neat (of_name (codes "pages")) (text-neat (codes "pages") entry.fields own),
        end-neat (of_name (codes "pages")) (text-neat (codes "pages") entry.fields own),
        alone (publisher_field kind),
        alone (codes "address"),
        alone (serial_field kind),
        alone (codes "url"),
        alone (codes "doi"),
        alone (codes "abstract"),
        alone (codes "note"),
        keywords-neat (of_name (codes "keywords")) (text-neat (codes "keywords") entry.fields own),
        single-neat entry.key (key-neat entry.key bare),
      ) refl

-- ---- lines that can be written

abbrev is_known_group : Tagged → Bool
is_known_group g = is_known g.tag

tags-known : (kind : Kind) (entry : Record) → list_all is_known_group (written kind entry) ≡ true
unfolding is_known tags.known_tags
tags-known kind entry = refl

lines-append : (xs ys : List RisLine) → list_all is_well_formed_line xs ≡ true → list_all is_well_formed_line ys ≡ true → list_all is_well_formed_line (xs ++ ys) ≡ true
lines-append [] ys h k = k
lines-append (x ∷ xs) ys h k =
    let p = and_parts (is_well_formed_line x) (list_all is_well_formed_line xs) h in
    and_from (is_well_formed_line x) _ p.0 (lines-append xs ys p.1 k)

group-fits : (tag : Text) (values : List Text) → is_known tag ≡ true → are_neat values ≡ true → list_all is_well_formed_line (map (line tag) values) ≡ true
group-fits tag [] known n = refl
group-fits tag (v ∷ values) known n =
    let p = and_parts (neat true v) (are_neat values) n in
    and_from (is_well_formed_line (line tag v)) _ (and_from (is_known tag) (fits_line v) known (neat-fits v p.0)) (group-fits tag values known p.1)

groups-fit : (groups : List Tagged) → list_all is_known_group groups ≡ true → list_all is_neat_group groups ≡ true → list_all is_well_formed_line (lines_of groups) ≡ true
groups-fit [] known n = refl
groups-fit (g ∷ groups) known n =
    let k = and_parts (is_known_group g) (list_all is_known_group groups) known in
    let p = and_parts (is_neat_group g) (list_all is_neat_group groups) n in
    lines-append (tagged_lines g) (lines_of groups) (group-fits g.tag g.values k.0 p.0) (groups-fit groups k.1 p.1)

type-fits : (kind : Kind) → (not (is_empty (ris_type kind)) && fits_line (ris_type kind)) ≡ true
unfolding fits_line is_space
type-fits Article = refl
type-fits Book = refl
type-fits Incollection = refl
type-fits Inproceedings = refl
type-fits Phdthesis = refl
type-fits Techreport = refl
type-fits Unpublished = refl
type-fits Misc = refl

-- ---- the law

pub spaced_records_fit : SpacedRecordsFit
unfolding is_well_formed
spaced_records_fit entry spaced =
    let p = and_parts (list_all has_own_text entry.fields) (not (list_any is_space entry.key)) spaced in
    let kind = kind_of_entry entry.kind_name in
    and_from _ (list_all is_well_formed_line (ris entry).lines) (type-fits kind)
    (groups-fit (written kind entry) (tags-known kind entry) (groups-neat kind entry p.0 (not-true (list_any is_space entry.key) p.1)))
