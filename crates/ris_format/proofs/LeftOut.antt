-- The rules for single fields say from which fields lines come.
use Rattle.ris_format.proofs.Words.{◌≡◌, ℕ, Bool, true, false, ◌&&◌, ◌||◌, [], ◌∷◌, ◌++◌, refl, sym, ap, ap₂, ◌∙◌, ⊎_elim, find, Some, None, if◌then◌else◌, flat_map, list_any, list_all, option_map, option_map_or, and_parts, bytes_eq, slice_split, onto_first, cases_Bool, cond-true, cond-false, Text, RecordField}
use Rattle.ris_format.proofs.Words.{eq-true, is_space, before_run, has_bytes, trimmed, single, RisLine, Tagged, tagged, tagged_lines, lines_of, Kind, is_article, publisher_field, serial_field, field_names, text_of, is_dropped, written_fields}
use Rattle.ris_format.proofs.Words.{Month, has_slash, written_year, written_month, written_date, before_cut, page, written_start, written_end, are_two, is_broken, written_name, written_people, read_people, is_comma_byte, written_keywords, read_keywords, Article, Book, Incollection, Inproceedings, Misc, Phdthesis, Techreport, Unpublished}
use Rattle.std.proofs.Common.{not, List, map, codes}
use Rattle.std.specs.Prelude.{filter, is_some, Option}
use Rattle.bib_names.specs.Label.{listed_names}
use Rattle.ris_format.specs.Dates.{months, month_digits, digits_among, names_month, date_values}
use Rattle.ris_format.specs.Keywords.{keyword_pieces}
use Rattle.ris_format.specs.Lines.{has_lines}
use Rattle.ris_format.specs.Mapping.{later_names, lines_from}
use Rattle.ris_format.specs.People.{written_names}
use Rattle.ris_format.specs.Carried.{has_texts, is_written_name, are_written_names, are_written_people, has_keyword, is_written, is_carried}
use Rattle.ris_format.proofs.TakenApart.{written_listed}
use Rattle.ris_format.proofs.Trims.{after_run-yes, after_run-no, before_run-cons, fails}

-- ---- tests of lists

or-false : (b : Bool) → b || false ≡ b
or-false true = refl
or-false false = refl

or-assoc : (a b c : Bool) → (a || b) || c ≡ a || (b || c)
or-assoc true b c = refl
or-assoc false b c = refl

and-false : (b : Bool) → b && false ≡ false
and-false true = refl
and-false false = refl

-- a line for each value
some-tagged : (tag : Text) (values : List Text) → has_lines (tagged_lines (tagged tag values)) ≡ has_texts values
some-tagged tag [] = refl
some-tagged tag (v ∷ vs) = refl

some-append : (xs ys : List RisLine) → has_lines (xs ++ ys) ≡ has_lines xs || has_lines ys
some-append [] ys = refl
some-append (x ∷ xs) ys = refl

-- there is a line if a group has a value
some-lines : (groups : List Tagged) → has_lines (lines_of groups) ≡ list_any (λ (g : Tagged). has_texts g.values) groups
some-lines [] = refl
some-lines (g ∷ groups) =
    some-append (tagged_lines g) (lines_of groups)
    ∙ ap (λ b. b || has_lines (lines_of groups)) (some-tagged g.tag g.values)
    ∙ ap (λ b. has_texts g.values || b) (some-lines groups)

texts-append : (xs ys : List Text) → has_texts (xs ++ ys) ≡ has_texts xs || has_texts ys
texts-append [] ys = refl
texts-append (x ∷ xs) ys = refl

texts-map : (f : Text → List Text) (xs : List Text) → has_texts (flat_map f xs) ≡ list_any (λ x. has_texts (f x)) xs
texts-map f [] = refl
texts-map f (x ∷ xs) = texts-append (f x) (flat_map f xs) ∙ ap (λ b. has_texts (f x) || b) (texts-map f xs)

texts-filter : (test : Text → Bool) (xs : List Text) → has_texts (filter test xs) ≡ list_any test xs
texts-filter test [] = refl
texts-filter test (x ∷ xs) =
    ⊎_elim
    (λ h. ap has_texts (cond-true (test x) (x ∷ filter test xs) (filter test xs) h) ∙ sym (ap (λ b. b || list_any test xs) h))
    (λ h. ap has_texts (cond-false (test x) (x ∷ filter test xs) (filter test xs) h) ∙ texts-filter test xs ∙ sym (ap (λ b. b || list_any test xs) h))
    (cases_Bool (test x))

-- ---- names

some-names : (names : List Text) → has_texts (written_names names) ≡ are_written_names names
some-names names = go (list_any is_broken names)
  where
    go : (b : Bool) → has_texts (if b then [] else flat_map written_name names) ≡ list_any is_written_name names && not b
    go true = sym (and-false (list_any is_written_name names))
    go false = texts-map written_name names ∙ sym (and-true (list_any is_written_name names))
      where
        and-true : (b : Bool) → b && true ≡ b
        and-true true = refl
        and-true false = refl

some-people : (list : Text) → has_texts (written_people list) ≡ are_written_people list
some-people list = ap has_texts (sym (written_listed list)) ∙ some-names (listed_names list)

-- ---- keywords

abbrev is_dark : ℕ → Bool
is_dark byte = fails is_space byte

some-trimmed : (text : Text) → has_bytes (trimmed text) ≡ list_any is_dark text
some-trimmed [] = refl
some-trimmed (b ∷ t) =
    ⊎_elim
    (λ h.
    ap (λ (u : Text). has_bytes (before_run is_space u)) (after_run-yes is_space b t h)
    ∙ some-trimmed t
    ∙ sym (ap (λ c. not c || list_any is_dark t) h))
    (λ h.
    let some : list_any is_dark (b ∷ t) ≡ true = ap (λ c. not c || list_any is_dark t) h in
    ap (λ (u : Text). has_bytes (before_run is_space u)) (after_run-no is_space b t h)
    ∙ ap has_bytes (before_run-cons is_space b t some)
    ∙ sym some)
    (cases_Bool (is_space b))

some-pieces : (pieces : List Text) → list_any has_bytes (map trimmed pieces) ≡ list_any (list_any is_dark) pieces
some-pieces [] = refl
some-pieces (p ∷ ps) = ap₂ (λ b c. b || c) (some-trimmed p) (some-pieces ps)

onto-some : (b : ℕ) (pieces : List Text) → list_any (list_any is_dark) (onto_first b pieces) ≡ is_dark b || list_any (list_any is_dark) pieces
onto-some b [] = or-false (is_dark b || false)
onto-some b (p ∷ ps) = or-assoc (is_dark b) (list_any is_dark p) (list_any (list_any is_dark) ps)

some-split : (text : Text) → list_any (list_any is_dark) (slice_split is_comma_byte text) ≡ has_keyword text
some-split [] = refl
some-split (b ∷ t) =
    ⊎_elim
    (λ h.
    ap (list_any (list_any is_dark)) (cond-true (is_comma_byte b) ([] ∷ slice_split is_comma_byte t) (onto_first b (slice_split is_comma_byte t)) h)
    ∙ some-split t
    ∙ sym (ap (λ c. not c && is_dark b || has_keyword t) h))
    (λ h.
    ap (list_any (list_any is_dark)) (cond-false (is_comma_byte b) ([] ∷ slice_split is_comma_byte t) (onto_first b (slice_split is_comma_byte t)) h)
    ∙ onto-some b (slice_split is_comma_byte t)
    ∙ ap (λ c. is_dark b || c) (some-split t)
    ∙ sym (ap (λ c. not c && is_dark b || has_keyword t) h))
    (cases_Bool (is_comma_byte b))

some-keywords : (text : Text) → has_texts (written_keywords text) ≡ has_keyword text
some-keywords text = texts-filter has_bytes (keyword_pieces text) ∙ some-pieces (slice_split is_comma_byte text) ∙ some-split text

-- ---- dates

some-dates : (year digits : Text) → has_texts (date_values year digits) ≡ has_bytes year || has_bytes digits
some-dates [] [] = refl
some-dates [] (b ∷ t) = refl
some-dates (b ∷ t) digits = refl

some-year : (text : Text) → has_bytes text ≡ true → has_bytes (written_year text) ≡ not (has_slash text)
some-year text some = go (has_slash text)
  where
    go : (b : Bool) → has_bytes (if b then [] else text) ≡ not b
    go true = refl
    go false = some

abbrev number_of : Option Text → Text
number_of found = option_map_or (λ (digits : Text). digits) found []

-- each of these months has a number
some-digits : (text : Text) (ms : List Month) → list_all (λ (m : Month). has_bytes m.digits) ms ≡ true → has_bytes (number_of (digits_among ms text)) ≡ is_some (digits_among ms text)
some-digits text [] all = refl
some-digits text (m ∷ ms) all =
    let p = and_parts (has_bytes m.digits) (list_all (λ (m : Month). has_bytes m.digits) ms) all in
    ⊎_elim
    (λ h.
    let e : digits_among (m ∷ ms) text ≡ Some m.digits = ap (option_map (λ (m : Month). m.digits)) (cond-true (names_month text m) (Some m) (find (names_month text) ms) h) in
    ap (λ (o : Option Text). has_bytes (number_of o)) e ∙ p.0 ∙ sym (ap (λ (o : Option Text). is_some o) e))
    (λ h.
    let e : digits_among (m ∷ ms) text ≡ digits_among ms text = ap (option_map (λ (m : Month). m.digits)) (cond-false (names_month text m) (Some m) (find (names_month text) ms) h) in
    ap (λ (o : Option Text). has_bytes (number_of o)) e ∙ some-digits text ms p.1 ∙ sym (ap (λ (o : Option Text). is_some o) e))
    (cases_Bool (names_month text m))

some-month : (text : Text) → has_bytes (written_month text) ≡ is_some (month_digits text)
some-month text = some-digits text months refl

-- ---- a record with one field

-- the text, if the name is the field's
abbrev if_named : Bool → Text → Text
if_named e text = if e then text else []

text-alone : (name text n : Text) → has_bytes text ≡ true → text_of ((name, text) ∷ []) n ≡ if_named (bytes_eq name n) text
text-alone name [] n some = absurd (cc)
text-alone name (b ∷ t) n some = go (bytes_eq name n)
  where
    go : (e : Bool) → option_map_or (λ (f : RecordField). f.1) (if e && true then Some (name, b ∷ t) else None) [] ≡ if_named e (b ∷ t)
    go true = refl
    go false = refl

named-single : (e : Bool) (text : Text) → has_bytes text ≡ true → has_texts (single (if_named e text)) ≡ e
named-single true [] some = absurd (cc)
named-single true (b ∷ t) some = refl
named-single false text some = refl

named-people : (e : Bool) (text : Text) → has_texts (written_people (if_named e text)) ≡ e && are_written_people text
named-people true text = some-people text
named-people false text = refl

named-keywords : (e : Bool) (text : Text) → has_texts (written_keywords (if_named e text)) ≡ e && has_keyword text
named-keywords true text = some-keywords text
named-keywords false text = refl

named-start : (e : Bool) (text : Text) → has_bytes text ≡ true → has_texts (written_start (if_named e text)) ≡ e
named-start true text some = go (are_two text)
  where
    go : (b : Bool) → has_texts (if b then page (before_cut text) ∷ [] else single text) ≡ true
    go true = refl
    go false = named-single true text some
named-start false text some = refl

named-pages : (e : Bool) (text : Text) (rest : Bool) → has_bytes text ≡ true → has_texts (written_start (if_named e text)) || (has_texts (written_end (if_named e text)) || rest) ≡ e || rest
named-pages true text rest some = ap (λ b. b || (has_texts (written_end text) || rest)) (named-start true text some)
named-pages false text rest some = refl

named-date : (y m : Bool) (text : Text) → has_bytes text ≡ true → has_texts (written_date (if_named y text) (if_named m text)) ≡ y && not (has_slash text) || m && is_some (month_digits text)
named-date y m text some =
    some-dates (written_year (if_named y text)) (written_month (if_named m text))
    ∙ ap₂ (λ b c. b || c) (year y) (month-of m)
  where
    year : (y : Bool) → has_bytes (written_year (if_named y text)) ≡ y && not (has_slash text)
    year true = some-year text some
    year false = refl

    month-of : (m : Bool) → has_bytes (written_month (if_named m text)) ≡ m && is_some (month_digits text)
    month-of true = some-month text
    month-of false = refl

named-booktitle : (art e : Bool) (text : Text) → has_bytes text ≡ true → has_texts (single (if art then [] else if_named e text)) ≡ not art && e
named-booktitle true e text some = refl
named-booktitle false e text some = named-single e text some

-- ---- the table

-- a field of this name, if the rules leave a line of its text
abbrev has_line : Text → Bool → Text → Bool
has_line name w n = bytes_eq name n && w

-- the rules of one name, where it is the field's
by_name : (name text n : Text) (w : Bool) → is_written n text ≡ w → has_line name w n ≡ has_line name (is_written name text) n
by_name name text n w rule =
    ⊎_elim
    (λ h. ap (λ b. bytes_eq name n && b) (sym rule ∙ ap (λ (m : Text). is_written m text) (sym (eq-true name n h))))
    (λ h. ap (λ b. b && w) h ∙ sym (ap (λ b. b && is_written name text) h))
    (cases_Bool (bytes_eq name n))

and-true : (b : Bool) → b && true ≡ b
and-true true = refl
and-true false = refl

-- a name without rules
by_table : (name text n : Text) → is_written n text ≡ true → bytes_eq name n ≡ has_line name (is_written name text) n
by_table name text n rule = sym (and-true (bytes_eq name n)) ∙ by_name name text n true rule

publisher-rule : (kind : Kind) (text : Text) → is_written (publisher_field kind) text ≡ true
publisher-rule Article text = refl
publisher-rule Book text = refl
publisher-rule Incollection text = refl
publisher-rule Inproceedings text = refl
publisher-rule Phdthesis text = refl
publisher-rule Techreport text = refl
publisher-rule Unpublished text = refl
publisher-rule Misc text = refl

serial-rule : (kind : Kind) (text : Text) → is_written (serial_field kind) text ≡ true
serial-rule Article text = refl
serial-rule Book text = refl
serial-rule Incollection text = refl
serial-rule Inproceedings text = refl
serial-rule Phdthesis text = refl
serial-rule Techreport text = refl
serial-rule Unpublished text = refl
serial-rule Misc text = refl

or_both : (a a' b b' : Bool) → a ≡ a' → b ≡ b' → a || b ≡ a' || b'
or_both a a' b b' p q = ap₂ (λ x y. x || y) p q

any_and : (test : Text → Bool) (w : Bool) (names : List Text) → list_any (λ n. test n && w) names ≡ list_any test names && w
any_and test w [] = refl
any_and test w (n ∷ names) = ap (λ b. test n && w || b) (any_and test w names) ∙ go (test n) (list_any test names) w
  where
    go : (a b w : Bool) → a && w || b && w ≡ (a || b) && w
    go true b true = refl
    go true b false = and-false b
    go false b w = refl

after-title : (art : Bool) (test : Text → Bool) (name : Text) (names : List Text) → (not art && test name) || list_any test names ≡ list_any test ((if art then [] else name ∷ []) ++ names)
after-title true test name names = refl
after-title false test name names = refl

-- ---- a field and its lines

-- a field of one line that has no rules
abbrev single-line : Text → Text → Text → Bool
single-line name text n = has_texts (single (text_of ((name, text) ∷ []) n))

single-is : (name text n : Text) → has_bytes text ≡ true → is_written n text ≡ true → single-line name text n ≡ has_line name (is_written name text) n
single-is name text n some rule =
    ap (λ (t : Text). has_texts (single t)) (text-alone name text n some) ∙ named-single (bytes_eq name n) text some ∙ by_table name text n rule

people-is : (name text n : Text) → has_bytes text ≡ true → is_written n text ≡ are_written_people text → has_texts (written_people (text_of ((name, text) ∷ []) n)) ≡ has_line name (is_written name text) n
people-is name text n some rule =
    ap (λ (t : Text). has_texts (written_people t)) (text-alone name text n some)
    ∙ named-people (bytes_eq name n) text
    ∙ by_name name text n (are_written_people text) rule

booktitle-is : (art : Bool) (name text : Text) → has_bytes text ≡ true
    → has_texts (single (if art then [] else text_of ((name, text) ∷ []) (codes "booktitle"))) ≡ not art && has_line name (is_written name text) (codes "booktitle")
booktitle-is art name text some =
    ap (λ (t : Text). has_texts (single (if art then [] else t))) (text-alone name text (codes "booktitle") some)
    ∙ named-booktitle art (bytes_eq name (codes "booktitle")) text some
    ∙ ap (λ b. not art && b) (by_table name text (codes "booktitle") refl)

date-is : (name text : Text) (rest : Bool) → has_bytes text ≡ true
    → has_texts (written_date (text_of ((name, text) ∷ []) (codes "year")) (text_of ((name, text) ∷ []) (codes "month"))) || rest
    ≡ has_line name (is_written name text) (codes "year") || (has_line name (is_written name text) (codes "month") || rest)
date-is name text rest some =
    ap (λ b. b || rest)
    (ap₂ (λ (y m : Text). has_texts (written_date y m)) (text-alone name text (codes "year") some) (text-alone name text (codes "month") some)
    ∙ named-date (bytes_eq name (codes "year")) (bytes_eq name (codes "month")) text some
    ∙ ap₂ (λ b c. b || c) (by_name name text (codes "year") (not (has_slash text)) refl) (by_name name text (codes "month") (is_some (month_digits text)) refl))
    ∙ or-assoc (has_line name (is_written name text) (codes "year")) (has_line name (is_written name text) (codes "month")) rest

pages-is : (name text : Text) (rest : Bool) → has_bytes text ≡ true
    → has_texts (written_start (text_of ((name, text) ∷ []) (codes "pages"))) || (has_texts (written_end (text_of ((name, text) ∷ []) (codes "pages"))) || rest)
    ≡ has_line name (is_written name text) (codes "pages") || rest
pages-is name text rest some =
    ap (λ (t : Text). has_texts (written_start t) || (has_texts (written_end t) || rest)) (text-alone name text (codes "pages") some)
    ∙ named-pages (bytes_eq name (codes "pages")) text rest some
    ∙ ap (λ b. b || rest) (by_table name text (codes "pages") refl)

keywords-is : (name text : Text) → has_bytes text ≡ true → has_texts (written_keywords (text_of ((name, text) ∷ []) (codes "keywords"))) ≡ has_line name (is_written name text) (codes "keywords")
keywords-is name text some =
    ap (λ (t : Text). has_texts (written_keywords t)) (text-alone name text (codes "keywords") some)
    ∙ named-keywords (bytes_eq name (codes "keywords")) text
    ∙ by_name name text (codes "keywords") (has_keyword text) refl

-- a line comes from the field exactly if the rules say so
lines-by_rules : (kind : Kind) (name text : Text) → has_bytes text ≡ true → has_lines (lines_from kind (name, text)) ≡ is_carried kind name text
lines-by_rules kind name text some =
    some-lines (written_fields kind ((name, text) ∷ []))
    ∙ or_both _ _ _ _ (people-is name text (codes "author") some refl)
    (or_both _ _ _ _ (people-is name text (codes "editor") some refl)
    (or_both _ _ _ _ (one (codes "title") refl)
    (or_both _ _ _ _ (booktitle-is (is_article kind) name text some)
    (or_both _ _ _ _ (one (codes "series") refl)
    (or_both _ _ _ _ (one (codes "journal") refl)
    (date-is name text _ some
    ∙ ap (λ b. has_line name w (codes "year") || (has_line name w (codes "month") || b))
    (or_both _ _ _ _ (one (codes "volume") refl)
    (or_both _ _ _ _ (one (codes "number") refl)
    (pages-is name text _ some
    ∙ ap (λ b. has_line name w (codes "pages") || b)
    (or_both _ _ _ _ (one (publisher_field kind) (publisher-rule kind text))
    (or_both _ _ _ _ (one (codes "address") refl)
    (or_both _ _ _ _ (one (serial_field kind) (serial-rule kind text))
    (or_both _ _ _ _ (one (codes "url") refl)
    (or_both _ _ _ _ (one (codes "doi") refl)
    (or_both _ _ _ _ (one (codes "abstract") refl)
    (or_both _ _ _ _ (one (codes "note") refl)
    (ap (λ b. b || false) (keywords-is name text some))))))))))))))))))
    ∙ ap (λ b. has_line name w (codes "author") || (has_line name w (codes "editor") || (has_line name w (codes "title") || b)))
    (after-title (is_article kind) (has_line name w) (codes "booktitle") (later_names kind))
    ∙ any_and (bytes_eq name) w (field_names kind)
  where
    w : Bool
    w = is_written name text

    one : (n : Text) → is_written n text ≡ true → single-line name text n ≡ has_line name w n
    one n rule = single-is name text n some rule

-- a field with a text is dropped exactly if the rules leave no line of it
pub dropped_by_rules : (kind : Kind) (f : RecordField) → has_bytes f.1 ≡ true → is_dropped kind f ≡ not (is_carried kind f.0 f.1)
dropped_by_rules kind f some = ap (λ b. b && not (has_lines (lines_from kind f))) some ∙ ap not (lines-by_rules kind f.0 f.1 some)

-- a field without a text is not
pub empty_is_kept : (kind : Kind) (f : RecordField) → has_bytes f.1 ≡ false → is_dropped kind f ≡ false
empty_is_kept kind f none = ap (λ b. b && not (has_lines (lines_from kind f))) none

-- ---- the profile

-- what is read back was written
pub people_written : (text : Text) → has_bytes text ≡ true → read_people (written_people text) ≡ text → are_written_people text ≡ true
people_written text some kept = sym (some-people text) ∙ go (written_people text) kept
  where
    go : (values : List Text) → read_people values ≡ text → has_texts values ≡ true
    go [] e = absurd (let f = ap has_bytes e ∙ some in cc)
    go (v ∷ vs) e = refl

pub keywords_written : (text : Text) → has_bytes text ≡ true → read_keywords (written_keywords text) ≡ text → has_keyword text ≡ true
keywords_written text some kept = sym (some-keywords text) ∙ go (written_keywords text) kept
  where
    go : (values : List Text) → read_keywords values ≡ text → has_texts values ≡ true
    go [] e = absurd (let f = ap has_bytes e ∙ some in cc)
    go (v ∷ vs) e = refl
