-- The entries of a database in which some entries get new keys.
use Rattle.edit_spec.proofs.Words.{◌≡◌, ℕ, zero, suc, ◌+◌, false, List, ◌∷◌, ◌++◌, Option, Some, None, unwrap_or, option_map, option_and_then, slice_get, length, ⊎_elim, refl, sym, ◌∙◌, ap, ap₂, find, arith, add-zero, zero-add, option_map_or, fun_ext, Text, folded, same, Tree, CommentTree}
use Rattle.edit_spec.proofs.Words.{DefinitionTree, PreambleTree, EntryTree, Item, Macros, raw_text, macros_after, macros_at, gathered, field_text, Field, EntryTexts, Record, RecordField, entry_in, preamble_in, crossref, has_name, crossref_text, keys_of, first_named, target_of, target, other_than}
use Rattle.edit_spec.proofs.Words.{parent, own_fields, missing, ancestors, ancestors_from, fields_at, with_inherited, record_of, expanded, next_number, tree_with_keys, items_with_keys, record_with_key, option_cases, keys_with, first_kept, first_new}
use Rattle.std.proofs.Common.{[]}
use Rattle.bib_spec.proofs.Keys.{AreFresh, first_none}
use Rattle.edit_spec.proofs.Fields.{crossref_to, crossref_to-map, text-with_text, own_fields-crossref_to}

-- an entry's texts after the edit, and the texts of all entries after it
abbrev pub entry_with : List EntryTexts → (ℕ → Option Text) → ℕ → EntryTexts → EntryTexts
entry_with entries new n entry = record entry { key = unwrap_or (new n) entry.key; fields = crossref_to (option_and_then new (target entries n)) entry.fields }

abbrev pub entries_with : List EntryTexts → (ℕ → Option Text) → ℕ → List EntryTexts → List EntryTexts
entries_with entries new n [] = []
entries_with entries new n (entry ∷ rest) = entry_with entries new n entry ∷ entries_with entries new (suc n) rest

module _ (entries : List EntryTexts) (new : ℕ → Option Text) where
  -- the entries of items with new keys are the entries with new keys: one more item at the front, if it is so for the rest
  tree_entries : (m : Macros) (n : ℕ) (tree : Tree) (items : List Item)
      → ((m : Macros) (n : ℕ) → gathered entry_in m (items_with_keys new entries n items) ≡ entries_with entries new n (gathered entry_in m items))
      → entry_in m (tree_with_keys new entries n tree) ++ gathered entry_in (macros_after m (tree_with_keys new entries n tree)) (items_with_keys new entries (next_number n tree) items)
      ≡ entries_with entries new n (entry_in m tree ++ gathered entry_in (macros_after m tree) items)
  tree_entries m n (CommentTree h) items rest = rest m n
  tree_entries m n (PreambleTree p) items rest = rest m n
  tree_entries m n (DefinitionTree d) items rest = rest (macros_after m (DefinitionTree d)) n
  tree_entries m n (EntryTree e) items rest =
      ap₂ (λ fields more. let it : EntryTexts = record { kind = e.opening.head.type_name; key = unwrap_or (new n) e.key; fields = fields } in it ∷ more)
      (crossref_to-map m (option_and_then new (target entries n)) e.rows)
      (rest m (suc n))

  pub entries_rekeyed : (items : List Item) (m : Macros) (n : ℕ) → gathered entry_in m (items_with_keys new entries n items) ≡ entries_with entries new n (gathered entry_in m items)
  entries_rekeyed [] m n = refl
  entries_rekeyed (item ∷ items) m n = tree_entries m n item.tree items (entries_rekeyed items)

  tree_preambles : (m : Macros) (n : ℕ) (tree : Tree) (items : List Item)
      → ((m : Macros) (n : ℕ) → gathered preamble_in m (items_with_keys new entries n items) ≡ gathered preamble_in m items)
      → preamble_in m (tree_with_keys new entries n tree) ++ gathered preamble_in (macros_after m (tree_with_keys new entries n tree)) (items_with_keys new entries (next_number n tree) items)
      ≡ preamble_in m tree ++ gathered preamble_in (macros_after m tree) items
  tree_preambles m n (CommentTree h) items rest = rest m n
  tree_preambles m n (PreambleTree p) items rest = ap (λ more. raw_text m p.value ∷ more) (rest m n)
  tree_preambles m n (DefinitionTree d) items rest = rest (macros_after m (DefinitionTree d)) n
  tree_preambles m n (EntryTree e) items rest = rest m (suc n)

  pub preambles_rekeyed : (items : List Item) (m : Macros) (n : ℕ) → gathered preamble_in m (items_with_keys new entries n items) ≡ gathered preamble_in m items
  preambles_rekeyed [] m n = refl
  preambles_rekeyed (item ∷ items) m n = tree_preambles m n item.tree items (preambles_rekeyed items)

  macros_after-keys : (m : Macros) (n : ℕ) (tree : Tree) → macros_after m (tree_with_keys new entries n tree) ≡ macros_after m tree
  macros_after-keys m n (CommentTree h) = refl
  macros_after-keys m n (PreambleTree p) = refl
  macros_after-keys m n (DefinitionTree d) = refl
  macros_after-keys m n (EntryTree e) = refl

  pub macros_rekeyed : (items : List Item) (m : Macros) (n k : ℕ) → macros_at m (items_with_keys new entries n items) k ≡ macros_at m items k
  macros_rekeyed [] m n k = refl
  macros_rekeyed (item ∷ items) m n zero = refl
  macros_rekeyed (item ∷ items) m n (suc k) =
      macros_rekeyed items (macros_after m (tree_with_keys new entries n item.tree)) (next_number n item.tree) k ∙ ap (λ after. macros_at after items k) (macros_after-keys m n item.tree)

  pub keys-entries_with : (n : ℕ) (rest : List EntryTexts) → keys_of (entries_with entries new n rest) ≡ keys_with new n (keys_of rest)
  keys-entries_with n [] = refl
  keys-entries_with n (entry ∷ rest) = ap (λ l. unwrap_or (new n) entry.key ∷ l) (keys-entries_with (suc n) rest)

  pub length-entries_with : (n : ℕ) (rest : List EntryTexts) → length (entries_with entries new n rest) ≡ length rest
  length-entries_with n [] = refl
  length-entries_with n (entry ∷ rest) = ap suc (length-entries_with (suc n) rest)

  slice_get-entries_with : (n : ℕ) (rest : List EntryTexts) (j : ℕ) → slice_get (entries_with entries new n rest) j ≡ option_map (entry_with entries new (n + j)) (slice_get rest j)
  slice_get-entries_with n [] j = refl
  slice_get-entries_with n (entry ∷ rest) zero = ap (λ i. Some (entry_with entries new i entry)) (sym (add-zero n))
  slice_get-entries_with n (entry ∷ rest) (suc j) =
      slice_get-entries_with (suc n) rest j ∙ (let e : suc n + j ≡ n + suc j = omega arith in ap (λ i. option_map (entry_with entries new i) (slice_get rest j)) e)

-- new keys that are keys, no other entry's, and no dangling crossref's text
pub record CanRekey (new : ℕ → Option Text) (entries : List EntryTexts) : Type 0 where
  pub fresh : AreFresh new (keys_of entries)
  pub unspaced : (n : ℕ) (key : Text) → new n ≡ Some key → field_text key ≡ key
  pub undangled : (n : ℕ) (key : Text) → new n ≡ Some key → (j : ℕ) (entry : EntryTexts) (text : Text) → slice_get entries j ≡ Some entry → target_of entries entry ≡ None → crossref_text entry ≡ Some text → same key text ≡ false

module _ (new : ℕ → Option Text) (entries : List EntryTexts) (can : CanRekey new entries) where
  abbrev pub rekeyed : List EntryTexts
  rekeyed = entries_with entries new 0 entries

  pub entry_at : (n : ℕ) → slice_get rekeyed n ≡ option_map (entry_with entries new n) (slice_get entries n)
  entry_at n = slice_get-entries_with entries new 0 entries n ∙ ap (λ i. option_map (entry_with entries new i) (slice_get entries n)) (zero-add n)

  -- each entry's crossref names the entry that it named
  pub target_of_kept : (n : ℕ) (entry : EntryTexts) → slice_get entries n ≡ Some entry → target_of rekeyed (entry_with entries new n entry) ≡ target_of entries entry
  target_of_kept n entry at = ap (λ keys. option_and_then (λ t. first_named t keys) (crossref_text (entry_with entries new n entry))) (keys-entries_with entries new 0 entries)
      ∙ ap (λ o. named (said (crossref_to (option_and_then new o) entry.fields))) (ap (option_and_then (target_of entries)) at) ∙ ⊎_elim
      (λ none.
      let no_target : target_of entries entry ≡ None = ap (option_and_then (λ t. first_named t (keys_of entries))) none in
      ap (λ o. named (said (crossref_to (option_and_then new o) entry.fields))) no_target ∙ ap named none ∙ sym no_target)
      (λ some. ⊎_elim
      (λ dangles.
      let no_target : target_of entries entry ≡ None = ap (option_and_then (λ t. first_named t (keys_of entries))) some.1 ∙ dangles in
      ap (λ o. named (said (crossref_to (option_and_then new o) entry.fields))) no_target ∙ ap named some.1
      ∙ first_none new (keys_of entries) can.fresh some.0 dangles (λ m key gets. can.undangled m key gets n entry some.0 at no_target some.1) ∙ sym no_target)
      (λ names.
      let is : target_of entries entry ≡ Some names.0 = ap (option_and_then (λ t. first_named t (keys_of entries))) some.1 ∙ names.1 in
      ap (λ o. named (said (crossref_to (option_and_then new o) entry.fields))) is ∙ ⊎_elim
      (λ stays. ap (λ o. named (said (crossref_to o entry.fields))) stays ∙ ap named some.1 ∙ first_kept new (keys_of entries) can.fresh some.0 names.0 names.1 stays)
      (λ gets. ap (λ o. named (said (crossref_to o entry.fields))) gets.1 ∙ ap named (text-with_text gets.0 some.0 entry.fields some.1 ∙ ap Some (can.unspaced names.0 gets.0 gets.1))
      ∙ first_new new (keys_of entries) can.fresh some.0 names.0 gets.0 names.1 gets.1)
      (option_cases (new names.0))
      ∙ sym is)
      (option_cases (first_named some.0 (keys_of entries))))
      (option_cases (crossref_text entry))
    where
      said : List Field → Option Text
      said fields = option_map (λ field. field_text field.raw) (find (has_name crossref) fields)

      named : Option Text → Option ℕ
      named text = option_and_then (λ t. first_named t (keys_with new 0 (keys_of entries))) text

  pub target_kept : (n : ℕ) → target rekeyed n ≡ target entries n
  target_kept n = ap (option_and_then (target_of rekeyed)) (entry_at n) ∙ ⊎_elim
      (λ none. ap (λ o. option_and_then (target_of rekeyed) (option_map (entry_with entries new n) o)) none ∙ sym (ap (option_and_then (target_of entries)) none))
      (λ some. ap (λ o. option_and_then (target_of rekeyed) (option_map (entry_with entries new n) o)) some.1 ∙ target_of_kept n some.0 some.1
      ∙ sym (ap (option_and_then (target_of entries)) some.1))
      (option_cases (slice_get entries n))

  pub parent_kept : (n : ℕ) → parent rekeyed n ≡ parent entries n
  parent_kept n = ap (option_and_then (other_than n)) (target_kept n)

  own_kept : (n : ℕ) (entry : EntryTexts) → own_fields (entry_with entries new n entry) ≡ own_fields entry
  own_kept n entry = own_fields-crossref_to (option_and_then new (target entries n)) entry (unwrap_or (new n) entry.key)

  fields_at_kept : (n : ℕ) → fields_at rekeyed n ≡ fields_at entries n
  fields_at_kept n = ap (λ o. option_map_or own_fields o []) (entry_at n) ∙ ⊎_elim
      (λ none. ap (λ o. option_map_or own_fields (option_map (entry_with entries new n) o) []) none ∙ sym (ap (λ o. option_map_or own_fields o []) none))
      (λ some. ap (λ o. option_map_or own_fields (option_map (entry_with entries new n) o) []) some.1 ∙ own_kept n some.0 ∙ sym (ap (λ o. option_map_or own_fields o []) some.1))
      (option_cases (slice_get entries n))

  inherited_kept : (own : List RecordField) (ns : List ℕ) → with_inherited rekeyed own ns ≡ with_inherited entries own ns
  inherited_kept own [] = refl
  inherited_kept own (n ∷ ns) = ap (λ more. with_inherited rekeyed (own ++ missing own more) ns) (fields_at_kept n) ∙ inherited_kept (own ++ missing own (fields_at entries n)) ns

  with_key-record : (o : Option Text) (r : Record) → record_with_key o r ≡ record { kind_name = r.kind_name; key = unwrap_or o r.key; fields = r.fields }
  with_key-record None r = refl
  with_key-record (Some key) r = refl

  pub record_kept : (depth n : ℕ) (entry : EntryTexts) → record_of depth rekeyed n (entry_with entries new n entry) ≡ record_with_key (new n) (record_of depth entries n entry)
  record_kept depth n entry =
      ap (λ fields. let it : Record = record { kind_name = folded entry.kind; key = unwrap_or (new n) entry.key; fields = fields } in it)
      (ap (λ own. with_inherited rekeyed own (ancestors rekeyed depth n)) (own_kept n entry)
      ∙ ap (λ parents. with_inherited rekeyed (own_fields entry) (ancestors_from parents depth (n ∷ []) n)) (fun_ext parent_kept)
      ∙ inherited_kept (own_fields entry) (ancestors entries depth n))
      ∙ sym (with_key-record (new n) (record_of depth entries n entry))

  pub expanded_kept : (depth n : ℕ) → expanded depth rekeyed n ≡ option_map (record_with_key (new n)) (expanded depth entries n)
  expanded_kept depth n = ap (option_map (record_of depth rekeyed n)) (entry_at n) ∙ ⊎_elim
      (λ none. ap (λ o. option_map (record_of depth rekeyed n) (option_map (entry_with entries new n) o)) none
      ∙ sym (ap (λ o. option_map (record_with_key (new n)) (option_map (record_of depth entries n) o)) none))
      (λ some. ap (λ o. option_map (record_of depth rekeyed n) (option_map (entry_with entries new n) o)) some.1
      ∙ ap Some (record_kept depth n some.0)
      ∙ sym (ap (λ o. option_map (record_with_key (new n)) (option_map (record_of depth entries n) o)) some.1))
      (option_cases (slice_get entries n))
