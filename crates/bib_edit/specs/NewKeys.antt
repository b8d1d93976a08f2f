-- Entries that get new keys: which key an entry gets, and the pieces that make it so.
use Rattle.std.specs.Prelude.{ℕ, ◌≡◌, ◌+◌, ◌-◌, ◌≤◌, ◌<◌, nat_lt, List, [], ◌∷◌, ◌++◌, Option, Some, None, if◌then◌else◌, option_and_then, find, slice_get, length}
use Rattle.std.specs.List.{flat_map, range_with_len}
use Rattle.std.specs.Option.{option_map_or}
use Rattle.bib_spec.specs.Bytes.{file_limit}
use Rattle.bib_spec.specs.Text.{Text}
use Rattle.bib_spec.specs.Tree.{Entry, EntryTree}
use Rattle.bib_spec.specs.Reading.{Item, Reading, item_bytes}
use Rattle.bib_spec.specs.Records.{entries_of, crossref, target}
use Rattle.bib_spec.specs.Pieces.{Piece, Kept, pieces_of_chunks}
use Rattle.edit_spec.specs.EditChunks.{key_chunks}
use Rattle.bib_scan.specs.View.{Field, View, view_of}
use Rattle.bib_scan.specs.Layout.{start_of}
use Rattle.bib_entries.specs.EntryTable.{referrers}
use Rattle.bib_store.specs.Readings.{entry_numbers}
use Rattle.bib_store.specs.Tables.{crossrefs_of}
use Rattle.bib_edit.specs.Addressing.{is_field}
use Rattle.bib_edit.specs.Definitions.{braced}
use Rattle.bib_edit.specs.declared.new_keys.NewKeys.{NewKeys}

-- the key that entry n gets
abbrev pub key_of : NewKeys → ℕ → Option Text
key_of new n = if nat_lt n new.first then None else slice_get new.keys (n - new.first)

-- the new key of the target of entry n
abbrev pub new_target : NewKeys → Reading → ℕ → Option Text
new_target new db n = option_and_then (key_of new) (target (entries_of db) n)

-- the piece that gives the entry this key, in an item that begins at this place
abbrev pub key_piece : ℕ → View → Option Text → List Piece
key_piece start view None = []
key_piece start view (Some key) = record { place = start + view.key_at; old = view.key; new = key } ∷ []

-- the piece that puts the key in the place of this field's value
abbrev pub value_piece : ℕ → Text → Option Field → List Piece
value_piece start key None = []
value_piece start key (Some field) = record { place = start + field.value_at; old = field.value; new = braced key } ∷ []

-- the piece that names the target by this key
abbrev pub crossref_piece : ℕ → View → Option Text → List Piece
crossref_piece start view None = []
crossref_piece start view (Some key) = value_piece start key (find (is_field crossref) view.fields)

-- an item that is this entry, with this trail
abbrev pub entry_item : Entry → Text → Item
entry_item e trail = record { tree = EntryTree e; trail = trail }

-- an entry is seen that lies in a file, where it begins at this place
pub record IsEntrySeen (start : ℕ) (view : View) : Type 0 where
  pub entry : Entry
  pub trail : Text
  pub is : view ≡ view_of (entry_item entry trail)
  pub within : start + length (item_bytes (entry_item entry trail)) ≤ file_limit

-- the pieces that give the entries their new keys, and name them by these in crossrefs
abbrev pub rekeying : NewKeys → Reading → List Piece
rekeying new db = pieces_of_chunks (Kept db.front ∷ key_chunks (key_of new) db)

-- ---- entry by entry

-- the item that is entry n begins at this place
abbrev pub IsEntryPlace : Reading → ℕ → ℕ → Type 0
IsEntryPlace db n start = (i : ℕ) → slice_get (entry_numbers db.items) n ≡ Some i → start ≡ start_of db i

-- the pieces of an item that is entry n, and begins at this place
abbrev pub entry_pieces : NewKeys → Reading → ℕ → ℕ → Item → List Piece
entry_pieces new db n start item = key_piece start (view_of item) (key_of new n) ++ crossref_piece start (view_of item) (new_target new db n)

-- the pieces of entry n
abbrev pub pieces_at : NewKeys → Reading → ℕ → List Piece
pieces_at new db n =
    option_map_or (λ i. option_map_or (entry_pieces new db n (start_of db i)) (slice_get db.items i) []) (slice_get (entry_numbers db.items) n) []

-- the pieces of the entries from number n on
abbrev pub pieces_after : NewKeys → Reading → ℕ → List Piece
pieces_after new db n = flat_map (pieces_at new db) (range_with_len n (length (entries_of db) - n))

-- entry m is number j of those that refer to the key
abbrev pub RefersAt : Reading → Text → ℕ → ℕ → Type 0
RefersAt db key j m = slice_get (referrers key (crossrefs_of db)) j ≡ Some m

-- of the entries that refer to the key, k are before entry n
pub record ArePassed (db : Reading) (key : Text) (k n : ℕ) : Type 0 where
  pub before : (j m : ℕ) → j < k → RefersAt db key j m → m < n
  pub after : (j m : ℕ) → k ≤ j → RefersAt db key j m → n ≤ m

-- of these entries, only those that refer to the key get pieces
abbrev pub AreQuiet : NewKeys → Reading → Text → ℕ → ℕ → Type 0
AreQuiet new db key from to = (n : ℕ) → from ≤ n → n < to → ((j : ℕ) → RefersAt db key j n → ⊥) → pieces_at new db n ≡ []

-- the pieces of the entries before entry n are there; k of these entries refer to the key
pub record HavePieces (new : NewKeys) (db : Reading) (key : Text) (k n : ℕ) (done : List Piece) : Type 0 where
  pub pieces : done ++ pieces_after new db n ≡ rekeying new db
  pub passed : ArePassed db key k n
