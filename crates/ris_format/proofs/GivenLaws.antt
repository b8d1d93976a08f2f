-- The records of a database have field texts, and keys without white space.
use Rattle.ris_format.proofs.Words.{◌≡◌, ℕ, zero, suc, Bool, true, false, [], ◌∷◌, ◌++◌, refl, sym, ap, ◌∙◌, ⊎_elim, Some, None, option_map, list_any, list_all, option_map_or, cases_Bool, cond-true, cond-false, and_parts, and_from, or_from, not_from_false, Text, is_space, field_text, RecordField}
use Rattle.ris_format.proofs.Words.{Record, true-eq, more_text, more_text-all, neat, has_bytes, has_own_text, field_text-neat}
use Rattle.std.proofs.Common.{not, List, map, All, slice_get}
use Rattle.std.specs.Prelude.{filter, Option}
use Rattle.std.specs.List.{AllPass}
use Rattle.std.proofs.lemmas.Option.{same_Some, none-some}
use Rattle.std.proofs.lemmas.List.Elements.{All-head, All-tail}
use Rattle.bib_spec.specs.Bytes.{name_limit}
use Rattle.bib_spec.specs.Tree.{Delimiter, goes_on_key, Tree, CommentTree, DefinitionTree, PreambleTree, EntryTree, IsTree}
use Rattle.bib_spec.specs.Reading.{Item, Reading, Reads, IsItem}
use Rattle.bib_spec.specs.Texts.{Macros, months, macros_after, gathered}
use Rattle.bib_spec.specs.Records.{Field, EntryTexts, texts_of, entry_in, entries_of, effective, has_name, crossref, record_field, own_fields, missing, fields_at, with_inherited, ancestors, record_of, expanded}
use Rattle.ris_format.specs.Fitting.{is_spaced, GivenRecordsFit}
use Rattle.ris_format.proofs.Neat.{neat-whole}
use Rattle.ris_format.proofs.FitLaws.{spaced_records_fit}
use Rattle.bib_scan.proofs.TreeAgainLaws.{key_no_space}

-- ---- field texts

-- the field text of a field text is that
field_text-again : (raw : Text) → field_text (field_text raw) ≡ field_text raw
unfolding field_text
field_text-again raw =
    let text : Text = more_text false false raw in
    let own : field_text text ≡ text = go text (λ some. neat-whole false raw some) in
    ap field_text (sym (more_text-all raw)) ∙ own ∙ more_text-all raw
  where
    go : (text : Text) → (has_bytes text ≡ true → neat true text ≡ true) → field_text text ≡ text
    go [] fit = refl
    go (b ∷ t) fit = field_text-neat (b ∷ t) (fit refl)

own-field : (f : Field) → has_own_text (record_field f) ≡ true
own-field f = true-eq (field_text (field_text f.raw)) (field_text f.raw) (field_text-again f.raw)

own-map : (fs : List Field) → list_all has_own_text (map record_field fs) ≡ true
own-map [] = refl
own-map (f ∷ fs) = and_from (has_own_text (record_field f)) _ (own-field f) (own-map fs)

own-append : (xs ys : List RecordField) → list_all has_own_text xs ≡ true → list_all has_own_text ys ≡ true → list_all has_own_text (xs ++ ys) ≡ true
own-append [] ys h k = k
own-append (x ∷ xs) ys h k =
    let p = and_parts (has_own_text x) (list_all has_own_text xs) h in
    and_from (has_own_text x) _ p.0 (own-append xs ys p.1 k)

own-filter : (test : RecordField → Bool) (xs : List RecordField) → list_all has_own_text xs ≡ true → list_all has_own_text (filter test xs) ≡ true
own-filter test [] h = refl
own-filter test (x ∷ xs) h =
    let p = and_parts (has_own_text x) (list_all has_own_text xs) h in
    ⊎_elim
    (λ (t : test x ≡ true). ap (list_all has_own_text) (cond-true (test x) (x ∷ filter test xs) (filter test xs) t) ∙ and_from (has_own_text x) _ p.0 (own-filter test xs p.1))
    (λ (t : test x ≡ false). ap (list_all has_own_text) (cond-false (test x) (x ∷ filter test xs) (filter test xs) t) ∙ own-filter test xs p.1)
    (cases_Bool (test x))

own-at : (entries : List EntryTexts) (n : ℕ) → list_all has_own_text (fields_at entries n) ≡ true
own-at entries n = go (slice_get entries n)
  where
    go : (o : Option EntryTexts) → list_all has_own_text (option_map_or own_fields o []) ≡ true
    go None = refl
    go (Some entry) = own-map (filter (λ field. not (has_name crossref field)) (effective entry.fields))

own-inherited : (entries : List EntryTexts) (own : List RecordField) (ns : List ℕ) → list_all has_own_text own ≡ true → list_all has_own_text (with_inherited entries own ns) ≡ true
own-inherited entries own [] h = h
own-inherited entries own (n ∷ ns) h =
    own-inherited entries (own ++ missing own (fields_at entries n)) ns
    (own-append own (missing own (fields_at entries n)) h (own-filter _ (fields_at entries n) (own-at entries n)))

-- ---- keys

plain-key : (d : Delimiter) (key : Text) → AllPass (goes_on_key d) key → list_any is_space key ≡ false
plain-key d [] all = refl
plain-key d (b ∷ key) all =
    or_from (is_space b) (list_any is_space key) (key_no_space d b (All-head (λ x. goes_on_key d x ≡ true) b key all)) (plain-key d key (All-tail (λ x. goes_on_key d x ≡ true) b key all))

abbrev is_bare : EntryTexts → Bool
is_bare entry = not (list_any is_space entry.key)

bare-tree : (macros : Macros) (tree : Tree) → IsTree name_limit tree → list_all is_bare (entry_in macros tree) ≡ true
bare-tree macros (EntryTree e) is = and_from (is_bare (texts_of macros e)) true (not_from_false (list_any is_space e.key) (plain-key e.opening.delimiter e.key is.key)) refl
bare-tree macros (CommentTree h) is = refl
bare-tree macros (DefinitionTree d) is = refl
bare-tree macros (PreambleTree p) is = refl

bare-append : (xs ys : List EntryTexts) → list_all is_bare xs ≡ true → list_all is_bare ys ≡ true → list_all is_bare (xs ++ ys) ≡ true
bare-append [] ys h k = k
bare-append (x ∷ xs) ys h k =
    let p = and_parts (is_bare x) (list_all is_bare xs) h in
    and_from (is_bare x) _ p.0 (bare-append xs ys p.1 k)

bare-items : (macros : Macros) (items : List Item) → All (IsItem name_limit) items → list_all is_bare (gathered entry_in macros items) ≡ true
bare-items macros [] all = refl
bare-items macros (item ∷ items) all =
    bare-append (entry_in macros item.tree) (gathered entry_in (macros_after macros item.tree) items)
    (bare-tree macros item.tree (All-head (IsItem name_limit) item items all).tree)
    (bare-items (macros_after macros item.tree) items (All-tail (IsItem name_limit) item items all))

bare-at : (entries : List EntryTexts) (n : ℕ) (entry : EntryTexts) → list_all is_bare entries ≡ true → slice_get entries n ≡ Some entry → is_bare entry ≡ true
bare-at [] n entry all e = absurd (none-some entry e)
bare-at (x ∷ entries) zero entry all e = ap is_bare (sym (same_Some x entry e)) ∙ (and_parts (is_bare x) (list_all is_bare entries) all).0
bare-at (x ∷ entries) (suc n) entry all e = bare-at entries n entry (and_parts (is_bare x) (list_all is_bare entries) all).1 e

-- ---- the law

pub given_records_are_spaced : (file : Text) (db : Reading) (depth n : ℕ) (r : Record) → Reads file db → expanded depth (entries_of db) n ≡ Some r → is_spaced r ≡ true
given_records_are_spaced file db depth n r reads e = go (slice_get (entries_of db) n) refl e
  where
    go : (o : Option EntryTexts) → slice_get (entries_of db) n ≡ o → option_map (record_of depth (entries_of db) n) o ≡ Some r → is_spaced r ≡ true
    go None is given = absurd (none-some r given)
    go (Some entry) is given =
        let entries = entries_of db in
        ap is_spaced (sym (same_Some (record_of depth entries n entry) r given))
        ∙ and_from (list_all has_own_text (record_of depth entries n entry).fields) (is_bare entry)
        (own-inherited entries (own_fields entry) (ancestors entries depth n) (own-map (filter (λ field. not (has_name crossref field)) (effective entry.fields))))
        (bare-at entries n entry (bare-items months db.items reads.items) is)

pub given_records_fit : GivenRecordsFit
given_records_fit file db depth n r reads e = spaced_records_fit r (given_records_are_spaced file db depth n r reads e)
