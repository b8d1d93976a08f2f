-- Entries that are added together: what they are given, how they are judged, what is written, and which edits ask for it.
use Rattle.std.specs.Prelude.{ℕ, ◌≡◌, ◌≤◌, ◌⊎◌, nat_lt, Bool, true, false, ◌&&◌, ◌||◌, List, [], ◌∷◌, length, map}
use Rattle.std.specs.List.{AllByRecursion, flat_map, list_any, list_all}
use Rattle.bib_spec.specs.Text.{Text, is_name, is_new_key}
use Rattle.bib_spec.specs.Tree.{is_type}
use Rattle.bib_spec.specs.Reading.{Reading}
use Rattle.bib_spec.specs.Pieces.{Piece}
use Rattle.edit_spec.specs.Edits.{has_same, holders}
use Rattle.bib_store.specs.Readings.{OfReading}
use Rattle.bib_data.specs.declared.edit.NewEntry.{NewEntry}
use Rattle.bib_data.specs.declared.edit.Edit.{Edit}
use Rattle.bib_data.specs.declared.edit.Edit.TheVariants.{AddEntry, AddMany}
use Rattle.bib_edit.specs.NewEntries.{names_of, HaveValues, IsAnyLong, entry_text, insertion_of}

-- ---- what they are given

-- their keys
abbrev pub keys_given : List NewEntry → List Text
keys_given news = map (λ new. new.key) news

-- their types
abbrev pub types_given : List NewEntry → List Text
types_given news = map (λ new. new.kind_name) news

-- the names of their fields
abbrev pub names_given : List NewEntry → List Text
names_given news = flat_map (λ new. names_of new.fields) news

-- ---- how they are judged

-- each field of each has a value
abbrev pub AllHaveValues : List NewEntry → Type 0
AllHaveValues news = AllByRecursion (λ new. HaveValues new.fields) news

-- the names of their fields and their types are valid
abbrev pub are_named : List NewEntry → Bool
are_named news = list_all is_name (names_given news) && list_all is_type (types_given news)

-- one of them has a field twice
abbrev pub has_field_twice : List NewEntry → Bool
has_field_twice news = list_any (λ new. has_same (names_of new.fields)) news

-- one of these keys is an entry's
abbrev pub is_any_held : List Text → Reading → Bool
is_any_held keys db = list_any (λ key. nat_lt 0 (holders key db)) keys

-- they are valid, none has a field twice, or the key of another one or of an entry of the file, and there is an item n, or it is the end
pub record AreAddable (news : List NewEntry) (n : ℕ) (db : Reading) : Type 0 where
  pub keys : list_all is_new_key (keys_given news) ≡ true
  pub names : are_named news ≡ true
  pub values : AllHaveValues news
  pub place : n ≤ length db.items
  pub fields : has_field_twice news ≡ false
  pub free : (has_same (keys_given news) || is_any_held (keys_given news) db) ≡ false

-- none of the fields has a raw text that is too long before item n, or one has
abbrev pub AreAnyLong : Bool → Reading → ℕ → List NewEntry → Type 0
AreAnyLong long db n [] = false ≡ long
AreAnyLong false db n (new ∷ news) = IsAnyLong false db n new.fields × AreAnyLong false db n news
AreAnyLong true db n (new ∷ news) = IsAnyLong true db n new.fields ⊎ AreAnyLong true db n news

-- ---- what is written

-- the entries as they are written, one after another
abbrev pub entries_text : List NewEntry → Text
entries_text news = flat_map entry_text news

-- the text is put before item n, or after the last, if there is any text
abbrev pub put_in : Reading → ℕ → Text → List Piece
put_in db n [] = []
put_in db n (byte ∷ text) = insertion_of db n (byte ∷ text) ∷ []

-- ---- who asks for it

-- the edit adds these entries before item n: one entry anywhere, or many after the last item
pub data Adds (file : Text) : Edit → ℕ → List NewEntry → Type 0 where
  one : (n : ℕ) (new : NewEntry) → Adds file (AddEntry n new) n (new ∷ [])
  many : (news : List NewEntry) (n : ℕ) → OfReading file (λ db. n ≡ length db.items) → Adds file (AddMany news) n news
