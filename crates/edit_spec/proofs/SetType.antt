-- SetType: the entry with another type is an entry, and all that the database says of it stays, except for the type.
use Rattle.edit_spec.proofs.Words.{◌≡◌, ◌==◌, ℕ, Bool, true, false, List, ◌∷◌, ◌++◌, Option, Some, None, unwrap_or, option_map, slice_get, ⊎_elim, refl, sym, ◌∙◌, ap, length, option_map_or, fun_ext, folded}
use Rattle.edit_spec.proofs.Words.{and_parts, All-cons, All-head, All-tail, name_limit, Text, is_type_name, Entry, is_type, IsEntry, Reading, bytes_of, IsItem, Reads, Macros, months}
use Rattle.edit_spec.proofs.Words.{EntryTexts, Record, RecordField, texts_of, entries_of, keys_of, entry_named, parent, own_fields, missing, ancestors, ancestors_from, fields_at, with_inherited, record_of, expanded, listed, unknown, option_cases, SetType}
use Rattle.edit_spec.proofs.Words.{is_entry, with_first_tree, of_entry, IsAccepted}
use Rattle.std.proofs.Common.{[], if◌then◌else◌}
use Rattle.bib_spec.specs.Tree.{is_no_keyword}
use Rattle.edit_spec.specs.Edits.{entry_with_type, set_type}
use Rattle.edit_spec.specs.Laws.{record_with_type, type_for, set_type_keeps}
use Rattle.edit_spec.proofs.Unrefuted.{given_types-are}
use Rattle.edit_spec.proofs.KeptEntries.{parent-kept, listed-kept, unknown-kept}
use Rattle.edit_spec.proofs.FirstEntries.{is_number, first_changed, entries-changed, preambles-kept, macros-kept, entry-changed, keys-kept, length-kept}
use Rattle.edit_spec.proofs.EditedItems.{made_reads, item_as, from_first-are, comment-of_entry, of_entry-is}

-- ---- an entry of the grammar

pub typed_entry : (kind_name : Text) → is_type kind_name ≡ true → (e : Entry) → IsEntry name_limit e → IsEntry name_limit (entry_with_type kind_name e)
typed_entry kind_name kind e is =
    let both = and_parts (is_type_name kind_name) (is_no_keyword kind_name) kind in
    record {
      opening = record {
        head = record { space_before_type = is.opening.head.space_before_type; type_name = both.0 };
        space_before_delimiter = is.opening.space_before_delimiter;
        space_after = is.opening.space_after;
      };
      type_name = both.1;
      key = is.key;
      key_len = is.key_len;
      key_ends = is.key_ends;
      space_after_key = is.space_after_key;
      empty_key = is.empty_key;
      rows = is.rows;
      last_comma = is.last_comma;
    }

pub set_type-reads : (key_base : Record → Text) (file : Text) (db : Reading) (key kind_name : Text) → Reads file db → IsAccepted key_base db (SetType key kind_name) →
    Reads (bytes_of (set_type key kind_name db)) (set_type key kind_name db)
set_type-reads key_base file db key kind_name reads accepted =
    made_reads (set_type key kind_name db) reads.front
    (from_first-are (is_entry key) (IsItem name_limit) (with_first_tree (of_entry change))
    (λ item items named are. All-cons (IsItem name_limit) (record item { tree = of_entry change item.tree }) items
    (item_as item (of_entry change item.tree) (All-head (IsItem name_limit) item items are)
    (of_entry-is key change (λ e _ is. typed_entry kind_name kind e is) item.tree named (All-head (IsItem name_limit) item items are).tree) (comment-of_entry key change item.tree))
    (All-tail (IsItem name_limit) item items are)) db.items reads.items)
  where
    change : Entry → Entry
    change e = entry_with_type kind_name e

    kind : is_type kind_name ≡ true
    kind = (and_parts (is_type kind_name) true (given_types-are key_base db (SetType key kind_name) accepted)).0

-- ---- the entries

-- an entry's texts, with its new type if it gets one
abbrev pub typed : Option Text → EntryTexts → EntryTexts
typed o entry = record entry { kind = unwrap_or o entry.kind }

-- the new type is that of the one entry
pub typed-one : (kind_name : Text) (found : Option ℕ) (n : ℕ) (o : Option EntryTexts) →
    option_map (λ entry. if is_number found n then typed (Some kind_name) entry else entry) o ≡ option_map (typed (type_for found kind_name n)) o
typed-one kind_name found n None = refl
typed-one kind_name None n (Some entry) = refl
typed-one kind_name (Some m) n (Some entry) = by_test (m == n)
  where
    by_test : (b : Bool) → Some (if b then typed (Some kind_name) entry else entry) ≡ Some (typed (if b then Some kind_name else None) entry)
    by_test true = refl
    by_test false = refl

-- ---- what entries say whose types alone differ

module _ (kinds : ℕ → Option Text) (entries new : List EntryTexts) (keys : keys_of new ≡ keys_of entries)
    (at : (n : ℕ) → slice_get new n ≡ option_map (typed (kinds n)) (slice_get entries n))
  where
    fields_at-kept : (n : ℕ) → fields_at new n ≡ fields_at entries n
    fields_at-kept n = ap (λ o. option_map_or own_fields o []) (at n) ∙ ⊎_elim
        (λ none. ap (λ o. option_map_or own_fields (option_map (typed (kinds n)) o) []) none ∙ sym (ap (λ o. option_map_or own_fields o []) none))
        (λ some. ap (λ o. option_map_or own_fields (option_map (typed (kinds n)) o) []) some.1 ∙ sym (ap (λ o. option_map_or own_fields o []) some.1))
        (option_cases (slice_get entries n))

    inherited-kept : (own : List RecordField) (ns : List ℕ) → with_inherited new own ns ≡ with_inherited entries own ns
    inherited-kept own [] = refl
    inherited-kept own (n ∷ ns) = ap (λ more. with_inherited new (own ++ missing own more) ns) (fields_at-kept n) ∙ inherited-kept (own ++ missing own (fields_at entries n)) ns

    with_type-record : (o : Option Text) (depth n : ℕ) (entry : EntryTexts) → record_of depth entries n (typed o entry) ≡ record_with_type o (record_of depth entries n entry)
    with_type-record None depth n entry = refl
    with_type-record (Some kind_name) depth n entry = refl

    record-kept : (depth n : ℕ) (entry : EntryTexts) → record_of depth new n (typed (kinds n) entry) ≡ record_with_type (kinds n) (record_of depth entries n entry)
    record-kept depth n entry =
        ap (λ fields. let it : Record = record { kind_name = folded (unwrap_or (kinds n) entry.kind); key = entry.key; fields = fields } in it)
        (ap (λ parents. with_inherited new (own_fields entry) (ancestors_from parents depth (n ∷ []) n)) (fun_ext (parent-kept (λ n. typed (kinds n)) entries new keys at (λ n entry. refl)))
        ∙ inherited-kept (own_fields entry) (ancestors entries depth n))
        ∙ with_type-record (kinds n) depth n entry

    pub expanded-kept : (depth n : ℕ) → expanded depth new n ≡ option_map (record_with_type (kinds n)) (expanded depth entries n)
    expanded-kept depth n = ap (option_map (record_of depth new n)) (at n) ∙ ⊎_elim
        (λ none. ap (λ o. option_map (record_of depth new n) (option_map (typed (kinds n)) o)) none
        ∙ sym (ap (λ o. option_map (record_with_type (kinds n)) (option_map (record_of depth entries n) o)) none))
        (λ some. ap (λ o. option_map (record_of depth new n) (option_map (typed (kinds n)) o)) some.1
        ∙ ap Some (record-kept depth n some.0)
        ∙ sym (ap (λ o. option_map (record_with_type (kinds n)) (option_map (record_of depth entries n) o)) some.1))
        (option_cases (slice_get entries n))

-- ---- the law

pub set-type-keeps : set_type_keeps
set-type-keeps key_base db key kind_name accepted = (
  record {
    count = ap length is ∙ length-kept key change become texts (entries_of db);
    records = λ depth n. ap (λ s. expanded depth s n) is ∙ expanded-kept kinds (entries_of db) after keys at depth n;
    parents = λ n. ap (λ s. parent s n) is ∙ parent-kept (λ n. typed (kinds n)) (entries_of db) after keys at (λ n entry. refl) n;
    preambles = preambles-kept key change become texts db.items months;
  },
  (λ n name. ap (λ m. m (folded name)) (macros-kept key change become texts db.items months n)),
  record {
    cited = λ cited min. ap (λ s. listed s cited min) is
        ∙ listed-kept (λ n. typed (kinds n)) (entries_of db) after keys at (λ n entry. refl) (length-kept key change become texts (entries_of db)) cited min;
    unknowns = λ cited. ap (λ s. unknown s cited) is ∙ unknown-kept (λ n. typed (kinds n)) (entries_of db) after keys at (λ n entry. refl) cited;
  },
)
  where
    change : Entry → Entry
    change e = entry_with_type kind_name e

    become : EntryTexts → EntryTexts
    become entry = typed (Some kind_name) entry

    texts : (m : Macros) (e : Entry) → texts_of m (change e) ≡ become (texts_of m e)
    texts m e = refl

    kinds : ℕ → Option Text
    kinds n = type_for (entry_named (entries_of db) key) kind_name n

    after : List EntryTexts
    after = first_changed key change become texts (entries_of db)

    is : entries_of (set_type key kind_name db) ≡ after
    is = entries-changed key change become texts db.items months

    keys : keys_of after ≡ keys_of (entries_of db)
    keys = keys-kept key change become texts (λ entry. refl) (entries_of db)

    at : (n : ℕ) → slice_get after n ≡ option_map (typed (kinds n)) (slice_get (entries_of db) n)
    at n = entry-changed key change become texts (entries_of db) n ∙ typed-one kind_name (entry_named (entries_of db) key) n (slice_get (entries_of db) n)
