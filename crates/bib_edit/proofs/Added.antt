-- Why an addition is refused, and that it is not.
use Rattle.bib_edit.proofs.Words.{◌≡◌, ◌↔◌, ℕ, ◌<◌, ◌≤◌, ◌+◌, Bool, true, false, ◌&&◌, ◌||◌, List, [], ◌∷◌, is_some, length, map, refl, sym, ◌∙◌, ap, ap₂, arith, subst, append-nil, All, or-false, list_any, list_all, flat_map, both_ways, and_parts, file_limit, name_limit, Text, same, is_name}
use Rattle.bib_edit.proofs.Words.{is_new_key, is_type, IsValue, Reading, Reads, item_bytes, months, too_long_at, entries_of, keys_of, Piece, Edit, BadKey, BadName, BadValue, BadPosition, NotFound, Ambiguous, KeyInUse, NameInUse, Referred, WouldMerge, FileTooLong, TextTooLong}
use Rattle.bib_edit.proofs.Words.{Refuses, IsPositionTooHigh, IsMissing, IsAmbiguous, IsKeyInUse, IsNameInUse, MergesText, given_keys, given_names, given_types, given_values, has_same, field_names, field_values, entry_of, item_of, edited, IsAccepted, IsFirstRefusal, pieces_of, any_mapped, NewEntry}
use Rattle.bib_edit.proofs.Words.{made_base, SpellsEntry, SpellEntries, OfEdit, olds_len, news_len, entry_text, insertion_of, keys_given, AllHaveValues, are_named, has_field_twice, is_any_held, AreAddable, AreAnyLong, entries_text, put_in, Adds, one, many}
use Rattle.edit_spec.specs.Edits as edits
use Rattle.edit_spec.specs.Edits.{leaves_crossref}
use Rattle.bib_data.specs.declared.edit.Edit.{Edit as Asked}
use Rattle.bib_edit.proofs.AskedEdits.{of-add_entry, of-add_many}
use Rattle.bib_edit.proofs.Ranks.{Passes, no_reason, more, is_first, all_clear}
use Rattle.bib_edit.proofs.PiecePlaces.{insertion-pieces, appending-pieces, no-pieces}
use Rattle.bib_edit.proofs.PieceLengths.{makes-long, makes-short}
use Rattle.bib_edit.proofs.LongTexts.{any_long, too_long-any}
use Rattle.bib_edit.proofs.PlacedTexts.{inserted-long, appended-long}
use Rattle.bib_edit.proofs.HeldKeys.{held-any}
use Rattle.bib_edit.proofs.SpelledEntries.{entry-written}
use Rattle.bib_edit.proofs.SpelledLists.{keys-spelled, types-spelled, all_names-spelled, twice-spelled, all_values-spelled, spelled-all_values, is_entry_long, any_entry-long, entries-written}

-- ---- keys

any-held : (keys : List Text) (db : Reading) → list_all is_new_key keys ≡ true → is_any_held keys db ≡ list_any (λ key. list_any (same key) (keys_of (entries_of db))) keys
any-held [] db good = refl
any-held (key ∷ keys) db good =
    let both = and_parts (is_new_key key) (list_all is_new_key keys) good in
    ap₂ ◌||◌ (held-any key db both.0) (any-held keys db both.1)

-- ---- pieces

pieces-many : (a : List NewEntry) (news : List edits.NewEntry) → SpellEntries a news → (db : Reading) → pieces_of made_base db (edits.AddMany news) ≡ put_in db (length db.items) (entries_text a)
pieces-many [] [] s db = no-pieces db
pieces-many [] (new ∷ news) s db = absurd s
pieces-many (first ∷ a) [] s db = absurd s
pieces-many (first ∷ a) (new ∷ news) s db =
    appending-pieces (flat_map item_bytes (map item_of (new ∷ news))) db
    ∙ ap (λ (t : Text). insertion_of db (length db.items) t ∷ []) (entries-written (first ∷ a) (new ∷ news) s)

pub olds-put_in : (db : Reading) (n : ℕ) (text : Text) → olds_len (put_in db n text) ≤ file_limit
olds-put_in db n [] = omega arith
olds-put_in db n (byte ∷ text) = omega arith

-- ---- one entry and many alike

-- one of these keys is an entry's
abbrev are_used : List edits.NewEntry → Reading → Bool
are_used news db = list_any (λ new. list_any (same new.key) (keys_of (entries_of db))) news

-- what refuses an edit that adds these entries before item n, and what it makes
pub record IsAddition (E : Edit) (n : ℕ) (a : List NewEntry) (news : List edits.NewEntry) (db : Reading) : Type 0 where
  pub spells : SpellEntries a news
  pub keys : given_keys E ≡ map (λ new. new.key) news
  pub leaves : leaves_crossref E ≡ true
  pub names : given_names E ≡ flat_map field_names news
  pub types : given_types E ≡ map (λ new. new.kind_name) news
  pub values : given_values E ≡ flat_map field_values news
  pub high : IsPositionTooHigh db E → length db.items < n
  pub too_high : length db.items < n → IsPositionTooHigh db E
  pub there : IsMissing db E → ⊥
  pub twice : IsAmbiguous db E ↔ (list_any (λ new. has_same (field_names new)) news ≡ true)
  pub used : IsKeyInUse db E ↔ ((has_same (map (λ new. new.key) news) || are_used news db) ≡ true)
  pub unnamed : IsNameInUse db E → ⊥
  pub unreferred : Refuses made_base Referred db E → ⊥
  pub unmerged : MergesText db E → ⊥
  pub pieces : pieces_of made_base db E ≡ put_in db n (entries_text a)
  pub longs : any_long months db.items ≡ false → any_long months (edited made_base db E).items ≡ list_any (is_entry_long db n) news

one-addition : (n : ℕ) (a : NewEntry) (new : edits.NewEntry) → SpellsEntry a new → (db : Reading) → IsAddition (edits.AddEntry n new) n (a ∷ []) (new ∷ []) db
one-addition n a new spells db = record {
  spells = (spells, tt);
  keys = refl;
  leaves = refl;
  names = sym (append-nil (field_names new));
  types = refl;
  values = sym (append-nil (field_values new));
  high = λ h. h;
  too_high = λ h. h;
  there = λ h. h;
  twice = (λ h. or-false (has_same (field_names new)) ∙ h, λ h. sym (or-false (has_same (field_names new))) ∙ h);
  used = (λ h. or-false (list_any (same new.key) (keys_of (entries_of db))) ∙ h, λ h. sym (or-false (list_any (same new.key) (keys_of (entries_of db)))) ∙ h);
  unnamed = λ h. h;
  unreferred = λ h. h;
  unmerged = λ h. h;
  pieces = insertion-pieces (item_bytes (item_of new)) db n ∙ ap (λ (t : Text). insertion_of db n t ∷ []) (entry-written a new spells ∙ sym (append-nil (entry_text a)));
  longs = λ none. inserted-long months db.items n (item_of new) (entry_of new) refl none ∙ sym (or-false (is_entry_long db n new));
}

many-addition : (a : List NewEntry) (news : List edits.NewEntry) → SpellEntries a news → (db : Reading) → IsAddition (edits.AddMany news) (length db.items) a news db
many-addition a news spells db = record {
  spells = spells;
  keys = refl;
  leaves = refl;
  names = refl;
  types = refl;
  values = refl;
  high = λ h. absurd h;
  too_high = λ h. absurd (omega (arith, h));
  there = λ h. h;
  twice = (λ h. h, λ h. h);
  used = (λ h. h, λ h. h);
  unnamed = λ h. h;
  unreferred = λ h. h;
  unmerged = λ h. h;
  pieces = pieces-many a news spells db;
  longs = appended-long months db.items news;
}

-- what holds of each addition of these entries holds of the edit that is asked for
pub of-addition : (file : Text) (asked : Asked) (n : ℕ) (a : List NewEntry) → Adds file asked n a → (db : Reading) → Reads file db → (P : Edit → Type 0) →
    ((E : Edit) (news : List edits.NewEntry) → IsAddition E n a news db → P E) → OfEdit asked P
of-addition file asked n a (one k new) db reads P h = of-add_entry k new P (λ it spells. h (edits.AddEntry k it) (it ∷ []) (one-addition k new it spells db))
of-addition file asked n a (many news k end) db reads P h = of-add_many news P
    (λ its spells. h (edits.AddMany its) its (subst (λ j. IsAddition (edits.AddMany its) j news its db) (sym (end db reads)) (many-addition news its spells db)))

-- ---- the reasons

module _ (E : Edit) (n : ℕ) (a : List NewEntry) (news : List edits.NewEntry) (db : Reading) (it : IsAddition E n a news db) where
  keys_tested : list_all is_new_key (given_keys E) ≡ list_all is_new_key (keys_given a)
  keys_tested = ap (list_all is_new_key) (it.keys ∙ keys-spelled a news it.spells)

  names_tested : (leaves_crossref E && (list_all is_name (given_names E) && list_all is_type (given_types E))) ≡ are_named a
  names_tested =
      ap (λ b. b && (list_all is_name (given_names E) && list_all is_type (given_types E))) it.leaves
      ∙ ap₂ (λ names types. list_all is_name names && list_all is_type types) (it.names ∙ all_names-spelled a news it.spells) (it.types ∙ types-spelled a news it.spells)

  pub add-bad_key : list_all is_new_key (keys_given a) ≡ false → IsFirstRefusal made_base db E BadKey
  add-bad_key h = is_first BadKey (keys_tested ∙ h) no_reason

  module _ (keys : list_all is_new_key (keys_given a) ≡ true) where
    passes_keys : Passes made_base db E 1
    passes_keys = more BadKey (λ e. both_ways (list_all is_new_key (keys_given a)) (sym keys_tested ∙ e) keys) no_reason

    pub add-bad_name : are_named a ≡ false → IsFirstRefusal made_base db E BadName
    add-bad_name h = is_first BadName (names_tested ∙ h) passes_keys

    module _ (names : are_named a ≡ true) where
      passes_names : Passes made_base db E 2
      passes_names = more BadName (λ e. both_ways (are_named a) (sym names_tested ∙ e) names) passes_keys

      pub add-bad_value : (AllHaveValues a → ⊥) → IsFirstRefusal made_base db E BadValue
      add-bad_value h = is_first BadValue (λ are. h (spelled-all_values a news it.spells (subst (All (IsValue name_limit)) it.values are))) passes_names

      module _ (values : AllHaveValues a) where
        values_are : All (IsValue name_limit) (flat_map field_values news)
        values_are = all_values-spelled a news it.spells values

        passes_given : Passes made_base db E 3
        passes_given = more BadValue (λ none. none (subst (All (IsValue name_limit)) (sym it.values) values_are)) passes_names

        pub add-high : length db.items < n → IsFirstRefusal made_base db E BadPosition
        add-high h = is_first BadPosition (it.too_high h) passes_given

        module _ (place : n ≤ length db.items) where
          passes_place : Passes made_base db E 5
          passes_place = more NotFound it.there (more BadPosition (λ h. let high = it.high h in omega (arith, high, place)) passes_given)

          pub add-twice : has_field_twice a ≡ true → IsFirstRefusal made_base db E Ambiguous
          add-twice h = is_first Ambiguous (it.twice.1 (twice-spelled a news it.spells ∙ h)) passes_place

          module _ (fields : has_field_twice a ≡ false) where
            passes_fields : Passes made_base db E 6
            passes_fields = more Ambiguous (λ h. both_ways (has_field_twice a) fields (sym (twice-spelled a news it.spells) ∙ it.twice.0 h)) passes_place

            keys_used : (has_same (map (λ new. new.key) news) || are_used news db) ≡ (has_same (keys_given a) || is_any_held (keys_given a) db)
            keys_used =
                let used : Text → Bool = λ key. list_any (same key) (keys_of (entries_of db)) in
                ap₂ ◌||◌ (ap has_same (keys-spelled a news it.spells))
                (any_mapped used (λ (new : edits.NewEntry). new.key) news ∙ ap (list_any used) (keys-spelled a news it.spells) ∙ sym (any-held (keys_given a) db keys))

            pub add-in_use : (has_same (keys_given a) || is_any_held (keys_given a) db) ≡ true → IsFirstRefusal made_base db E KeyInUse
            add-in_use h = is_first KeyInUse (it.used.1 (keys_used ∙ h)) passes_fields

            passes_free : (has_same (keys_given a) || is_any_held (keys_given a) db) ≡ false → Passes made_base db E 10
            passes_free free = more WouldMerge it.unmerged (more Referred it.unreferred (more NameInUse it.unnamed
                (more KeyInUse (λ h. both_ways (has_same (keys_given a) || is_any_held (keys_given a) db) free (sym keys_used ∙ it.used.0 h)) passes_fields)))

  module _ (good : AreAddable a n db) (file : Text) (reads : Reads file db) (ps : List Piece) (made : ps ≡ put_in db n (entries_text a)) where
    passes_good : Passes made_base db E 10
    passes_good = passes_free good.keys good.names good.values good.place good.fields good.free

    pub add-pieces : ps ≡ pieces_of made_base db E
    add-pieces = made ∙ sym it.pieces

    pub add-long_file : file_limit + olds_len ps < length file + news_len ps → IsFirstRefusal made_base db E FileTooLong
    add-long_file over = is_first FileTooLong (makes-long E file db reads ps add-pieces over) passes_good

    module _ (short : length file + news_len ps ≤ file_limit + olds_len ps) (none : any_long months db.items ≡ false) where
      passes_length : Passes made_base db E 11
      passes_length = more FileTooLong (makes-short E file db reads ps add-pieces short) passes_good

      texts_long : (long : Bool) → AreAnyLong long db n a → is_some (too_long_at (edited made_base db E)) ≡ long
      texts_long long h = too_long-any (edited made_base db E) ∙ it.longs none ∙ any_entry-long db n long a news it.spells (all_values-spelled a news it.spells good.values) h

      pub add-long_text : AreAnyLong true db n a → IsFirstRefusal made_base db E TextTooLong
      add-long_text h = is_first TextTooLong (texts_long true h) passes_length

      pub add-accepted : AreAnyLong false db n a → IsAccepted made_base db E
      add-accepted h = all_clear (more TextTooLong (λ long. both_ways (is_some (too_long_at (edited made_base db E))) (texts_long false h) long) passes_length)
