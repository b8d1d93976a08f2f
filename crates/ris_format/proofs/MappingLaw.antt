-- A record of the profile is the same again after both mappings, and nothing of it is dropped.
use Rattle.ris_format.proofs.Words.{◌≡◌, Bool, true, false, cond, ◌&&◌, ◌||◌, [], ◌∷◌, ◌++◌, refl, sym, ap, subst, ◌∙◌, ⊎_elim, append-nil, find, if◌then◌else◌, flat_map, list_any, list_all, bytes_eq, cases_Bool, cond-true, cond-false, and_from, and_parts, not-true, Text, is_new_key, field_text}
use Rattle.ris_format.proofs.Words.{Record, RecordField, eq-true, RisLine, Kind, Article, Book, Incollection, Inproceedings, Phdthesis, Techreport, Unpublished, Misc, ris_type, publisher_field, serial_field, is_article, is_entry_type, kind_of_entry, kind_of_ris, neat, has_bytes, single, Tagged}
use Rattle.ris_format.proofs.Words.{tagged, lines_of, read_lines, values_at, value_at, written_people, read_people, has_slash, written_date, read_year, read_month, written_start, written_end, read_pages, written_keywords, read_keywords, Fields, field, text_of, booktitle_text, field_names}
use Rattle.ris_format.proofs.Words.{written_fields, is_dropped, record_in, are_in_order, is_plain_field, neat-word}
use Rattle.std.proofs.Common.{not, List, map}
use Rattle.std.specs.Prelude.{filter, codes, unwrap_or}
use Rattle.bib_spec.specs.Text.{is_new_key_byte}
use Rattle.bib_spec.proofs.NewKeyBytes.{new_key_byte-plain}
use Rattle.ris_format.specs.Kinds.{kinds, entry_type}
use Rattle.ris_format.specs.Lines.{or_else}
use Rattle.ris_format.specs.Mapping.{later_names, read_journal, read_fields}
use Rattle.ris_format.specs.Keywords.{are_plain_keywords}
use Rattle.ris_format.specs.Pages.{are_plain_pages}
use Rattle.ris_format.specs.Carried.{has_keyword, is_written, is_carried}
use Rattle.ris_format.specs.Profile.{has_form, ProfileIsKept}
use Rattle.ris_format.proofs.Neat.{neat-field_text}
use Rattle.ris_format.proofs.Values.{first, are_neat, single-neat, first-single}
use Rattle.ris_format.proofs.DateLaws.{DateIsKept, date_kept, month-written}
use Rattle.ris_format.proofs.PageLaws.{PagesAreKept, pages_kept}
use Rattle.ris_format.proofs.KeywordLaws.{keywords-neat, keywords_kept}
use Rattle.ris_format.proofs.PeopleLaws.{PeopleAreKept, people_kept}
use Rattle.ris_format.proofs.LeftOut.{dropped_by_rules, people_written, keywords_written}
use Rattle.ris_format.proofs.LineLaws.{is_neat_group, read-lines_of, picked, values-lines_of}
use Rattle.ris_format.proofs.OrderLaws.{are_distinct, found, is_filled_field, found-in_order, found-plain, all-named}

-- ---- fields of the profile

record IsPlain (name text : Text) : Type 0 where
  neat_is : neat true text ≡ true
  form : has_form name text ≡ true

plain-parts : (name text : Text) → is_plain_field (field name text) ≡ true → IsPlain name text
plain-parts name text h =
    let p = and_parts (has_bytes text && bytes_eq (field_text text) text) (has_form name text) h in
    let q = and_parts (has_bytes text) (bytes_eq (field_text text) text) p.0 in
    record { neat_is = neat-field_text text (eq-true (field_text text) text q.1) q.0; form = p.1 }

-- what is known of the text of each name of a table
abbrev ArePlain : Fields → Type 0
ArePlain fields = (name : Text) → has_bytes (text_of fields name) ≡ true → IsPlain name (text_of fields name)

plain-found : (fields : Fields) → list_all is_plain_field fields ≡ true → ArePlain fields
plain-found fields all name some = plain-parts name (text_of fields name) (found-plain name fields all some)

-- ---- each field by itself

text-neat : (fields : Fields) (name : Text) → ArePlain fields → are_neat (single (text_of fields name)) ≡ true
text-neat fields name are = single-neat (text_of fields name) (λ some. (are name some).neat_is)

people-of : (fields : Fields) → ArePlain fields → PeopleAreKept (text_of fields (codes "author"))
people-of fields are = people_kept (text_of fields (codes "author")) (λ some. let p = are (codes "author") some in (p.neat_is, p.form))

editors-of : (fields : Fields) → ArePlain fields → PeopleAreKept (text_of fields (codes "editor"))
editors-of fields are = people_kept (text_of fields (codes "editor")) (λ some. let p = are (codes "editor") some in (p.neat_is, p.form))

date-of : (fields : Fields) → ArePlain fields → DateIsKept (text_of fields (codes "year")) (text_of fields (codes "month"))
date-of fields are =
    date_kept (text_of fields (codes "year")) (text_of fields (codes "month"))
    (λ some. let p = are (codes "year") some in (p.neat_is, not-true (has_slash (text_of fields (codes "year"))) p.form))
    (λ some. (are (codes "month") some).form)

pages-of : (fields : Fields) → ArePlain fields → PagesAreKept (text_of fields (codes "pages"))
pages-of fields are = pages_kept (text_of fields (codes "pages")) (λ some. let p = are (codes "pages") some in (p.neat_is, p.form))

keywords-of : (fields : Fields) → ArePlain fields → read_keywords (written_keywords (text_of fields (codes "keywords"))) ≡ text_of fields (codes "keywords")
keywords-of fields are = keywords_kept (text_of fields (codes "keywords")) (λ some. (are (codes "keywords") some).form)

keywords-neat_of : (fields : Fields) → ArePlain fields → are_neat (written_keywords (text_of fields (codes "keywords"))) ≡ true
keywords-neat_of fields are = keywords-neat (text_of fields (codes "keywords")) (λ some. (are (codes "keywords") some).neat_is)

booktitle-neat : (art : Bool) (fields : Fields) → ArePlain fields → are_neat (single (if art then [] else text_of fields (codes "booktitle"))) ≡ true
booktitle-neat true fields are = refl
booktitle-neat false fields are = text-neat fields (codes "booktitle") are

key-bytes : (key : Text) → list_all is_new_key_byte key ≡ true → neat false key ≡ true
key-bytes [] all = refl
key-bytes (b ∷ key) all =
    let p = and_parts (is_new_key_byte b) (list_all is_new_key_byte key) all in
    neat-word false b key (new_key_byte-plain b p.0) ∙ key-bytes key p.1

key-neat : (key : Text) → is_new_key key ≡ true → neat true key ≡ true
unfolding is_new_key
key-neat [] is = absurd (cc)
key-neat (b ∷ key) is =
    let all = (and_parts _ (list_all is_new_key_byte (b ∷ key)) is).1 in
    let p = and_parts (is_new_key_byte b) (list_all is_new_key_byte key) all in
    neat-word true b key (new_key_byte-plain b p.0) ∙ key-bytes key p.1

-- ---- all fields

abbrev groups : Kind → Fields → Text → List Tagged
groups kind fields key = written_fields kind fields ++ (tagged (codes "ID") (single key) ∷ [])

groups-neat : (kind : Kind) (fields : Fields) (key : Text) → ArePlain fields → neat true key ≡ true → list_all is_neat_group (groups kind fields key) ≡ true
groups-neat kind fields key are key_neat =
    rw (
      (people-of fields are).neat_is,
      (editors-of fields are).neat_is,
      text-neat fields (codes "title") are,
      booktitle-neat (is_article kind) fields are,
      text-neat fields (codes "series") are,
      text-neat fields (codes "journal") are,
      (date-of fields are).neat_is,
      text-neat fields (codes "volume") are,
      text-neat fields (codes "number") are,
      (pages-of fields are).start_neat,
      (pages-of fields are).end_neat,
      text-neat fields (publisher_field kind) are,
      text-neat fields (codes "address") are,
      text-neat fields (serial_field kind) are,
      text-neat fields (codes "url") are,
      text-neat fields (codes "doi") are,
      text-neat fields (codes "abstract") are,
      text-neat fields (codes "note") are,
      keywords-neat_of fields are,
      single-neat key (λ _. key_neat),
    ) refl

-- what is found after these tags is what was written after them
values-are : (kind : Kind) (fields : Fields) (key : Text) (tags values : List Text) → flat_map (picked tags) (groups kind fields key) ≡ values ++ [] → values_at tags (lines_of (groups kind fields key)) ≡ values
values-are kind fields key tags values e = values-lines_of tags (groups kind fields key) ∙ e ∙ append-nil values

value-is : (kind : Kind) (fields : Fields) (key : Text) (tags : List Text) (text : Text) → flat_map (picked tags) (groups kind fields key) ≡ single text ++ [] → value_at tags (lines_of (groups kind fields key)) ≡ text
value-is kind fields key tags text e = ap first (values-are kind fields key tags (single text) e) ∙ first-single text

-- what is found in the lines after the tags of each field
record AreRead (kind : Kind) (fields : Fields) (key : Text) (lines : List RisLine) : Type 0 where
  author : values_at (codes "AU" ∷ codes "A1" ∷ []) lines ≡ written_people (text_of fields (codes "author"))
  editor : values_at (codes "A2" ∷ codes "ED" ∷ []) lines ≡ written_people (text_of fields (codes "editor"))
  title : value_at (codes "TI" ∷ codes "T1" ∷ []) lines ≡ text_of fields (codes "title")
  booktitle : value_at (codes "T2" ∷ []) lines ≡ booktitle_text kind fields
  series : value_at (codes "T3" ∷ []) lines ≡ text_of fields (codes "series")
  journal : value_at (codes "JF" ∷ []) lines ≡ text_of fields (codes "journal")
  short_journal : value_at (codes "JO" ∷ []) lines ≡ []
  date : value_at (codes "PY" ∷ codes "Y1" ∷ []) lines ≡ first (written_date (text_of fields (codes "year")) (text_of fields (codes "month")))
  volume : value_at (codes "VL" ∷ []) lines ≡ text_of fields (codes "volume")
  number : value_at (codes "IS" ∷ []) lines ≡ text_of fields (codes "number")
  start : value_at (codes "SP" ∷ []) lines ≡ first (written_start (text_of fields (codes "pages")))
  end : value_at (codes "EP" ∷ []) lines ≡ first (written_end (text_of fields (codes "pages")))
  publisher : value_at (codes "PB" ∷ []) lines ≡ text_of fields (publisher_field kind)
  address : value_at (codes "CY" ∷ []) lines ≡ text_of fields (codes "address")
  serial : value_at (codes "SN" ∷ []) lines ≡ text_of fields (serial_field kind)
  url : value_at (codes "UR" ∷ []) lines ≡ text_of fields (codes "url")
  doi : value_at (codes "DO" ∷ []) lines ≡ text_of fields (codes "doi")
  abstract_is : value_at (codes "AB" ∷ codes "N2" ∷ []) lines ≡ text_of fields (codes "abstract")
  note : value_at (codes "N1" ∷ []) lines ≡ text_of fields (codes "note")
  keywords : values_at (codes "KW" ∷ []) lines ≡ written_keywords (text_of fields (codes "keywords"))
  key_is : value_at (codes "ID" ∷ []) lines ≡ key

lines-read : (kind : Kind) (fields : Fields) (key : Text) → AreRead kind fields key (lines_of (groups kind fields key))
lines-read kind fields key = record {
  author = values-are kind fields key (codes "AU" ∷ codes "A1" ∷ []) (written_people (text_of fields (codes "author"))) refl;
  editor = values-are kind fields key (codes "A2" ∷ codes "ED" ∷ []) (written_people (text_of fields (codes "editor"))) refl;
  title = value-is kind fields key (codes "TI" ∷ codes "T1" ∷ []) (text_of fields (codes "title")) refl;
  booktitle = value-is kind fields key (codes "T2" ∷ []) (booktitle_text kind fields) refl;
  series = value-is kind fields key (codes "T3" ∷ []) (text_of fields (codes "series")) refl;
  journal = value-is kind fields key (codes "JF" ∷ []) (text_of fields (codes "journal")) refl;
  short_journal = value-is kind fields key (codes "JO" ∷ []) [] refl;
  date = ap first (values-are kind fields key (codes "PY" ∷ codes "Y1" ∷ []) (written_date (text_of fields (codes "year")) (text_of fields (codes "month"))) refl);
  volume = value-is kind fields key (codes "VL" ∷ []) (text_of fields (codes "volume")) refl;
  number = value-is kind fields key (codes "IS" ∷ []) (text_of fields (codes "number")) refl;
  start = ap first (values-are kind fields key (codes "SP" ∷ []) (written_start (text_of fields (codes "pages"))) refl);
  end = ap first (values-are kind fields key (codes "EP" ∷ []) (written_end (text_of fields (codes "pages"))) refl);
  publisher = value-is kind fields key (codes "PB" ∷ []) (text_of fields (publisher_field kind)) refl;
  address = value-is kind fields key (codes "CY" ∷ []) (text_of fields (codes "address")) refl;
  serial = value-is kind fields key (codes "SN" ∷ []) (text_of fields (serial_field kind)) refl;
  url = value-is kind fields key (codes "UR" ∷ []) (text_of fields (codes "url")) refl;
  doi = value-is kind fields key (codes "DO" ∷ []) (text_of fields (codes "doi")) refl;
  abstract_is = value-is kind fields key (codes "AB" ∷ codes "N2" ∷ []) (text_of fields (codes "abstract")) refl;
  note = value-is kind fields key (codes "N1" ∷ []) (text_of fields (codes "note")) refl;
  keywords = values-are kind fields key (codes "KW" ∷ []) (written_keywords (text_of fields (codes "keywords"))) refl;
  key_is = value-is kind fields key (codes "ID" ∷ []) key refl;
}

-- a journal after JF, and nothing after T2 of an article
one_journal : (art : Bool) (journal other : Text) → or_else journal (or_else [] (if art then (if art then [] else other) else [])) ≡ journal
one_journal true [] other = refl
one_journal false [] other = refl
one_journal art (b ∷ t) other = refl

journal-is : (kind : Kind) (fields : Fields) (key : Text) (lines : List RisLine) → AreRead kind fields key lines → read_journal kind lines ≡ text_of fields (codes "journal")
journal-is kind fields key lines r =
    ap (λ (j : Text). or_else j (or_else (value_at (codes "JO" ∷ []) lines) (if is_article kind then value_at (codes "T2" ∷ []) lines else []))) r.journal
    ∙ ap (λ (j : Text). or_else (text_of fields (codes "journal")) (or_else j (if is_article kind then value_at (codes "T2" ∷ []) lines else []))) r.short_journal
    ∙ ap (λ (j : Text). or_else (text_of fields (codes "journal")) (or_else [] (if is_article kind then j else []))) r.booktitle
    ∙ one_journal (is_article kind) (text_of fields (codes "journal")) (text_of fields (codes "booktitle"))

with_booktitle : (art : Bool) (value : Text) (fields rest : Fields) (names : List Text) → value ≡ (if art then [] else text_of fields (codes "booktitle")) → rest ≡ map (found fields) names
    → (if art then [] else field (codes "booktitle") value ∷ []) ++ rest ≡ map (found fields) ((if art then [] else codes "booktitle" ∷ []) ++ names)
with_booktitle true value fields rest names e f = f
with_booktitle false value fields rest names e f =
    ap (λ (t : Text). field (codes "booktitle") t ∷ rest) e ∙ ap (λ (fs : Fields). found fields (codes "booktitle") ∷ fs) f

-- a list of fields by its texts
abbrev later_fields : Kind → Text → Text → Text → Text → Text → Text → Text → Text → Text → Text → Text → Text → Text → Text → Text → Fields
later_fields kind a b c d e f g h i j k l m n o =
    field (codes "series") a ∷ field (codes "journal") b ∷ field (codes "year") c ∷ field (codes "month") d ∷ field (codes "volume") e ∷ field (codes "number") f
    ∷ field (codes "pages") g ∷ field (publisher_field kind) h ∷ field (codes "address") i ∷ field (serial_field kind) j ∷ field (codes "url") k ∷ field (codes "doi") l
    ∷ field (codes "abstract") m ∷ field (codes "note") n ∷ field (codes "keywords") o ∷ []

later-same : (kind : Kind) (a a' b b' c c' d d' e e' f f' g g' h h' i i' j j' k k' l l' m m' n n' o o' : Text)
    → a ≡ a' → b ≡ b' → c ≡ c' → d ≡ d' → e ≡ e' → f ≡ f' → g ≡ g' → h ≡ h' → i ≡ i' → j ≡ j' → k ≡ k' → l ≡ l' → m ≡ m' → n ≡ n' → o ≡ o'
    → later_fields kind a b c d e f g h i j k l m n o ≡ later_fields kind a' b' c' d' e' f' g' h' i' j' k' l' m' n' o'
later-same kind a a' b b' c c' d d' e e' f f' g g' h h' i i' j j' k k' l l' m m' n n' o o' pa pb pc pd pe pf pg ph pi pj pk pl pm pn po =
    rw (pa, pb, pc, pd, pe, pf, pg, ph, pi, pj, pk, pl, pm, pn, po) refl

four-same : (a a' b b' c c' : Text) (rest rest' : Fields) → a ≡ a' → b ≡ b' → c ≡ c' → rest ≡ rest'
    → field (codes "author") a ∷ field (codes "editor") b ∷ field (codes "title") c ∷ rest ≡ field (codes "author") a' ∷ field (codes "editor") b' ∷ field (codes "title") c' ∷ rest'
four-same a a' b b' c c' rest rest' pa pb pc pd = rw (pa, pb, pc, pd) refl

fields-are : (kind : Kind) (fields : Fields) (key : Text) (lines : List RisLine) → ArePlain fields → AreRead kind fields key lines → read_fields kind lines ≡ map (found fields) (field_names kind)
fields-are kind fields key lines are r =
    let author = ap read_people r.author ∙ (people-of fields are).is in
    let editor = ap read_people r.editor ∙ (editors-of fields are).is in
    let pages = ap (λ (t : Text). read_pages t (value_at (codes "EP" ∷ []) lines)) r.start ∙ ap (λ (t : Text). read_pages (first (written_start (text_of fields (codes "pages")))) t) r.end ∙ (pages-of fields are).is in
    let rest = later-same kind _ _ _ _ _ _ _ _ _ _ _ _ _ _ _ _ _ _ _ _ _ _ _ _ _ _ _ _ _ _
    r.series (journal-is kind fields key lines r) (ap read_year r.date ∙ (date-of fields are).year_is) (ap read_month r.date ∙ (date-of fields are).month_is)
    r.volume r.number pages r.publisher r.address r.serial r.url r.doi r.abstract_is r.note (ap read_keywords r.keywords ∙ keywords-of fields are) in
    four-same _ _ _ _ _ _ _ _ author editor r.title
    (with_booktitle (is_article kind) (value_at (codes "T2" ∷ []) lines) fields _ (later_names kind) r.booktitle rest)

-- ---- the tables

kind-back : (kind : Kind) → kind_of_ris (ris_type kind) ≡ kind
kind-back Article = refl
kind-back Book = refl
kind-back Incollection = refl
kind-back Inproceedings = refl
kind-back Phdthesis = refl
kind-back Techreport = refl
kind-back Unpublished = refl
kind-back Misc = refl

names-distinct : (kind : Kind) → are_distinct (field_names kind) ≡ true
names-distinct Article = refl
names-distinct Book = refl
names-distinct Incollection = refl
names-distinct Inproceedings = refl
names-distinct Phdthesis = refl
names-distinct Techreport = refl
names-distinct Unpublished = refl
names-distinct Misc = refl

found-kind : (name : Text) (ks : List Kind) → list_any (λ k. bytes_eq (entry_type k) name) ks ≡ true → entry_type (unwrap_or (find (λ k. bytes_eq (entry_type k) name) ks) Misc) ≡ name
found-kind name [] some = absurd (cc)
found-kind name (k ∷ ks) some =
    ⊎_elim
    (λ (h : bytes_eq (entry_type k) name ≡ true). ap (λ o. entry_type (unwrap_or o Misc)) (cond-true (bytes_eq (entry_type k) name) _ _ h) ∙ eq-true (entry_type k) name h)
    (λ (h : bytes_eq (entry_type k) name ≡ false).
    ap (λ o. entry_type (unwrap_or o Misc)) (cond-false (bytes_eq (entry_type k) name) _ _ h)
    ∙ found-kind name ks (sym (ap (λ c. c || list_any (λ k. bytes_eq (entry_type k) name) ks) h) ∙ some))
    (cases_Bool (bytes_eq (entry_type k) name))

-- ---- nothing is dropped

both_conds : (b : Bool) (x y u v : Bool) → (x ≡ true → u ≡ true) → (y ≡ true → v ≡ true) → cond b x y ≡ true → cond b u v ≡ true
both_conds true x y u v f g h = f h
both_conds false x y u v f g h = g h

form-of_keywords : (name text : Text) (kept : Bool) → (are_plain_keywords text ≡ true → kept ≡ true)
    → (if bytes_eq name (codes "pages") then are_plain_pages text else if bytes_eq name (codes "keywords") then are_plain_keywords text else true) ≡ true
    → (if bytes_eq name (codes "keywords") then kept else true) ≡ true
form-of_keywords name text kept f form =
    ⊎_elim
    (λ h.
    let is : name ≡ codes "keywords" = eq-true name (codes "keywords") h in
    cond-true (bytes_eq name (codes "keywords")) kept true h
    ∙ f (subst (λ (n : Text). (if bytes_eq n (codes "pages") then are_plain_pages text else if bytes_eq n (codes "keywords") then are_plain_keywords text else true) ≡ true) is form))
    (λ h. cond-false (bytes_eq name (codes "keywords")) kept true h)
    (cases_Bool (bytes_eq name (codes "keywords")))

carried : (kind : Kind) (name text : Text) → IsPlain name text → has_bytes text ≡ true → list_any (bytes_eq name) (field_names kind) ≡ true → is_carried kind name text ≡ true
carried kind name text plain some named =
    and_from (list_any (bytes_eq name) (field_names kind)) (is_written name text) named
    (both_conds (bytes_eq name (codes "author") || bytes_eq name (codes "editor")) _ _ _ _
    (λ h. people_written text some (people_kept text (λ _. (plain.neat_is, h))).is)
    (both_conds (bytes_eq name (codes "year")) _ _ _ _ (λ h. h)
    (both_conds (bytes_eq name (codes "month")) _ _ _ _ (month-written text)
    (form-of_keywords name text (has_keyword text) (λ h. keywords_written text some (keywords_kept text (λ _. h))))))
    plain.form)

none-dropped : (kind : Kind) (fields : Fields) → list_all is_plain_field fields ≡ true → list_all (λ (f : RecordField). list_any (bytes_eq f.0) (field_names kind)) fields ≡ true → filter (is_dropped kind) fields ≡ []
none-dropped kind [] plain named = refl
none-dropped kind (f ∷ fields) plain named =
    let p = and_parts (is_plain_field f) (list_all is_plain_field fields) plain in
    let q = and_parts (list_any (bytes_eq f.0) (field_names kind)) _ named in
    let some = (and_parts (has_bytes f.1) (bytes_eq (field_text f.1) f.1) (and_parts (has_bytes f.1 && bytes_eq (field_text f.1) f.1) (has_form f.0 f.1) p.0).0).0 in
    let kept : is_dropped kind f ≡ false = dropped_by_rules kind f some ∙ ap not (carried kind f.0 f.1 (plain-parts f.0 f.1 p.0) some q.0) in
    cond-false (is_dropped kind f) (f ∷ filter (is_dropped kind) fields) _ kept ∙ none-dropped kind fields p.1 q.1

all-filled : (fields : Fields) → list_all is_plain_field fields ≡ true → list_all is_filled_field fields ≡ true
all-filled [] plain = refl
all-filled (f ∷ fields) plain =
    let p = and_parts (is_plain_field f) (list_all is_plain_field fields) plain in
    let q = and_parts (has_bytes f.1 && bytes_eq (field_text f.1) f.1) (has_form f.0 f.1) p.0 in
    and_from (has_bytes f.1) (list_all is_filled_field fields) (and_parts (has_bytes f.1) (bytes_eq (field_text f.1) f.1) q.0).0 (all-filled fields p.1)

-- ---- the law

abbrev pub made : Text → Text → Fields → Record
made kind_name key fields = record { kind_name = kind_name; key = key; fields = fields }

kept : (kind : Kind) (entry : Record) → entry_type kind ≡ entry.kind_name → is_new_key entry.key ≡ true → are_in_order (field_names kind) entry.fields ≡ true → list_all is_plain_field entry.fields ≡ true
    → record_in (kind_of_ris (ris_type kind)) (read_lines (lines_of (groups kind entry.fields entry.key))) ≡ entry
kept kind entry type_is key_is order plain =
    let fields = entry.fields in
    let key = entry.key in
    let are = plain-found fields plain in
    let lines = lines_of (groups kind fields key) in
    let r = lines-read kind fields key in
    let fields_same : filter is_filled_field (read_fields kind lines) ≡ fields =
    ap (filter is_filled_field) (fields-are kind fields key lines are r) ∙ found-in_order (field_names kind) fields (names-distinct kind) order (all-filled fields plain) in
    ap (λ k. record_in k (read_lines lines)) (kind-back kind)
    ∙ ap (record_in kind) (read-lines_of (groups kind fields key) (groups-neat kind fields key are (key-neat key key_is)))
    ∙ ap (λ (n : Text). made n (value_at (codes "ID" ∷ []) lines) (filter is_filled_field (read_fields kind lines))) type_is
    ∙ ap (λ (t : Text). made entry.kind_name t (filter is_filled_field (read_fields kind lines))) r.key_is
    ∙ ap (made entry.kind_name key) fields_same

pub profile_is_kept : ProfileIsKept
profile_is_kept entry h =
    let p = and_parts (is_entry_type entry.kind_name && is_new_key entry.key && are_in_order (field_names (kind_of_entry entry.kind_name)) entry.fields) (list_all is_plain_field entry.fields) h in
    let q = and_parts (is_entry_type entry.kind_name && is_new_key entry.key) (are_in_order (field_names (kind_of_entry entry.kind_name)) entry.fields) p.0 in
    let t = and_parts (is_entry_type entry.kind_name) (is_new_key entry.key) q.0 in
    let kind = kind_of_entry entry.kind_name in (
      kept kind entry (found-kind entry.kind_name kinds t.0) t.1 q.1 p.1,
      ap (map (λ (f : RecordField). f.0)) (none-dropped kind entry.fields p.1 (all-named (field_names kind) entry.fields q.1)),
    )
