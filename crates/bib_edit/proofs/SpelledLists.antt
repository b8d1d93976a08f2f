-- Many entries as they are asked for: what they are given, their raw texts, and what is written.
use Rattle.bib_edit.proofs.Words.{◌≡◌, ℕ, Bool, true, false, ◌||◌, List, [], ◌∷◌, map, ⊎_elim, refl, sym, ◌∙◌, ap, ap₂, All, or-true, list_any, flat_map, flat_map-map, All-nil, All-append, name_limit, IsValue, EntryTree, Reading, item_bytes, months, macros_at, raw_text, has_same, field_names}
use Rattle.bib_edit.proofs.Words.{field_values, entry_of, item_of, any_mapped, NewEntry, SpellsEntry, SpellEntries, names_of, IsAnyLong, entry_text, keys_given, types_given, names_given, AllHaveValues, has_field_twice, AreAnyLong, entries_text}
use Rattle.edit_spec.specs.Edits as edits
use Rattle.edit_spec.proofs.AddedEntries.{all_split}
use Rattle.bib_edit.proofs.LongTexts.{is_long}
use Rattle.bib_edit.proofs.PlacedTexts.{is_long_in}
use Rattle.bib_edit.proofs.SpelledEntries.{names-spelled, values-spelled, spelled-values, any-long, rows-values, entry-written}

-- what each is given is what it is asked for with
map-spelled : {Y : Type 0} (f : edits.NewEntry → Y) (g : NewEntry → Y) → ((a : NewEntry) (new : edits.NewEntry) → SpellsEntry a new → f new ≡ g a) →
    (asked : List NewEntry) (news : List edits.NewEntry) → SpellEntries asked news → map f news ≡ map g asked
map-spelled f g same [] [] s = refl
map-spelled f g same [] (new ∷ news) s = absurd s
map-spelled f g same (a ∷ asked) [] s = absurd s
map-spelled f g same (a ∷ asked) (new ∷ news) s = ap₂ ◌∷◌ (same a new s.0) (map-spelled f g same asked news s.1)

joined-spelled : {Y : Type 0} (f : edits.NewEntry → List Y) (g : NewEntry → List Y) → ((a : NewEntry) (new : edits.NewEntry) → SpellsEntry a new → f new ≡ g a) →
    (asked : List NewEntry) (news : List edits.NewEntry) → SpellEntries asked news → flat_map f news ≡ flat_map g asked
joined-spelled f g same asked news s =
    sym (flat_map-map (λ ys. ys) f news) ∙ ap (flat_map (λ ys. ys)) (map-spelled f g same asked news s) ∙ flat_map-map (λ ys. ys) g asked

any-spelled : (f : edits.NewEntry → Bool) (g : NewEntry → Bool) → ((a : NewEntry) (new : edits.NewEntry) → SpellsEntry a new → f new ≡ g a) →
    (asked : List NewEntry) (news : List edits.NewEntry) → SpellEntries asked news → list_any f news ≡ list_any g asked
any-spelled f g same asked news s =
    any_mapped (λ b. b) f news ∙ ap (list_any (λ b. b)) (map-spelled f g same asked news s) ∙ sym (any_mapped (λ b. b) g asked)

entry-names : (a : NewEntry) (new : edits.NewEntry) → SpellsEntry a new → field_names new ≡ names_of a.fields
entry-names a new s = names-spelled a.fields new.fields s.fields

module _ (asked : List NewEntry) (news : List edits.NewEntry) (spells : SpellEntries asked news) where
  pub keys-spelled : map (λ new. new.key) news ≡ keys_given asked
  keys-spelled = map-spelled (λ new. new.key) (λ a. a.key) (λ a new s. s.key) asked news spells

  pub types-spelled : map (λ new. new.kind_name) news ≡ types_given asked
  types-spelled = map-spelled (λ new. new.kind_name) (λ a. a.kind_name) (λ a new s. s.kind_name) asked news spells

  pub all_names-spelled : flat_map field_names news ≡ names_given asked
  all_names-spelled = joined-spelled field_names (λ a. names_of a.fields) entry-names asked news spells

  pub twice-spelled : list_any (λ new. has_same (field_names new)) news ≡ has_field_twice asked
  twice-spelled = any-spelled (λ new. has_same (field_names new)) (λ a. has_same (names_of a.fields)) (λ a new s. ap has_same (entry-names a new s)) asked news spells

-- ---- values

pub all_values-spelled : (asked : List NewEntry) (news : List edits.NewEntry) → SpellEntries asked news → AllHaveValues asked → All (IsValue name_limit) (flat_map field_values news)
all_values-spelled [] [] s have = All-nil (IsValue name_limit)
all_values-spelled [] (new ∷ news) s have = absurd s
all_values-spelled (a ∷ asked) [] s have = absurd s
all_values-spelled (a ∷ asked) (new ∷ news) s have =
    All-append (IsValue name_limit) (field_values new) (flat_map field_values news) (values-spelled a.fields new.fields s.0.fields have.0) (all_values-spelled asked news s.1 have.1)

pub spelled-all_values : (asked : List NewEntry) (news : List edits.NewEntry) → SpellEntries asked news → All (IsValue name_limit) (flat_map field_values news) → AllHaveValues asked
spelled-all_values [] [] s are = tt
spelled-all_values [] (new ∷ news) s are = absurd s
spelled-all_values (a ∷ asked) [] s are = absurd s
spelled-all_values (a ∷ asked) (new ∷ news) s are =
    let both = all_split (IsValue name_limit) (field_values new) (flat_map field_values news) are in
    (λ k field lt e. spelled-values a.fields new.fields s.0.fields both.0 k field e, spelled-all_values asked news s.1 both.1)

-- ---- raw texts

module _ (db : Reading) (n : ℕ) where
  abbrev pub is_entry_long : edits.NewEntry → Bool
  is_entry_long new = is_long_in (macros_at months db.items n) (EntryTree (entry_of new))

  entry-long : (a : NewEntry) (new : edits.NewEntry) → SpellsEntry a new → All (IsValue name_limit) (field_values new) → (long : Bool) → IsAnyLong long db n a.fields → is_entry_long new ≡ long
  entry-long a new s are long h =
      ap (λ vs. list_any is_long (map (raw_text (macros_at months db.items n)) vs)) (rows-values new.fields) ∙ any-long db n long a.fields new.fields s.fields are h

  pub any_entry-long : (long : Bool) (asked : List NewEntry) (news : List edits.NewEntry) → SpellEntries asked news → All (IsValue name_limit) (flat_map field_values news) →
      AreAnyLong long db n asked → list_any is_entry_long news ≡ long
  any_entry-long long [] [] s are h = h
  any_entry-long long [] (new ∷ news) s are h = absurd s
  any_entry-long long (a ∷ asked) [] s are h = absurd s
  any_entry-long false (a ∷ asked) (new ∷ news) s are h =
      let both = all_split (IsValue name_limit) (field_values new) (flat_map field_values news) are in
      ap₂ ◌||◌ (entry-long a new s.0 both.0 false h.0) (any_entry-long false asked news s.1 both.1 h.1)
  any_entry-long true (a ∷ asked) (new ∷ news) s are h =
      let both = all_split (IsValue name_limit) (field_values new) (flat_map field_values news) are in
      ⊎_elim
      (λ here. ap (λ b. b || list_any is_entry_long news) (entry-long a new s.0 both.0 true here))
      (λ later. ap (λ b. is_entry_long new || b) (any_entry-long true asked news s.1 both.1 later) ∙ or-true (is_entry_long new))
      h

-- ---- what is written

pub entries-written : (asked : List NewEntry) (news : List edits.NewEntry) → SpellEntries asked news → flat_map item_bytes (map item_of news) ≡ entries_text asked
entries-written asked news s =
    flat_map-map item_bytes item_of news ∙ joined-spelled (λ new. item_bytes (item_of new)) entry_text entry-written asked news s
