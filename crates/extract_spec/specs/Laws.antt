-- Laws of extracts. Each is proved.
use Rattle.std.specs.Prelude.{ℕ, ◌≡◌, ◌≤◌, true, false, Bool, List, map, Some, option_map, All, ◌<◌, length, Option, ◌+◌, ◌∷◌, []}
use Rattle.bib_spec.specs.Bytes.{file_limit}
use Rattle.bib_spec.specs.Text.{Text, folded}
use Rattle.bib_spec.specs.Tree.{Tree}
use Rattle.bib_spec.specs.Reading.{Item, Reading, Reads, bytes_of}
use Rattle.bib_spec.specs.Texts.{Macros, Opens, months, macros_after, raw_texts_in}
use Rattle.bib_spec.specs.Records.{EntryTexts, entries_of, preambles_of, target, parent, expanded, cites_all, listed, unknown}
use Rattle.extract_spec.specs.Extract.{found, is_kept_entry, keeps_for, kept, marked, picked, number_in, extract_from, extract_of, used_by}

-- the trees of the extract are those of the kept items, in order
abbrev pub trees_are_kept : Type 0
trees_are_kept = (db : Reading) (keys : List Text) →
    map (λ item. item.tree) (extract_of db keys).items ≡ map (λ item. item.tree) (marked (kept db keys) db.items)

-- the extract is a reading of its bytes
abbrev pub extract_reads : Type 0
extract_reads = (file : Text) (db : Reading) (keys : List Text) → Reads file db → Reads (bytes_of (extract_of db keys)) (extract_of db keys)

-- the extract of an extract that keeps all its entries is the extract itself
abbrev pub extract_is_closed : Type 0
extract_is_closed = (keeps : ℕ → Bool) (n m : ℕ) (items : List Item) → extract_from (λ k. true) m (extract_from keeps n items) ≡ extract_from keeps n items

-- the entries of the extract are the kept entries of the file, with the texts that they have in the file
abbrev pub entries_are_picked : Type 0
entries_are_picked = (db : Reading) (keys : List Text) → entries_of (extract_of db keys) ≡ picked (keeps_for db keys) 0 (entries_of db)

-- the preambles of the extract say what the preambles of the file say
abbrev pub preambles_stay : Type 0
preambles_stay = (db : Reading) (keys : List Text) → preambles_of (extract_of db keys) ≡ preambles_of db

-- the target of each entry that is kept is kept
abbrev pub IsClosed : (ℕ → Bool) → List EntryTexts → Type 0
IsClosed keeps entries = (n t : ℕ) → keeps n ≡ true → target entries n ≡ Some t → keeps t ≡ true

-- Each entry that is kept has, among the kept entries, the record that it has among all, at every depth; and the target and
-- the parent that it has there, under their new numbers.
pub record MeansAlike (keeps : ℕ → Bool) (entries : List EntryTexts) : Type 0 where
  pub records : (depth n : ℕ) → keeps n ≡ true → expanded depth (picked keeps 0 entries) (number_in keeps 0 n) ≡ expanded depth entries n
  pub targets : (n : ℕ) → keeps n ≡ true → target (picked keeps 0 entries) (number_in keeps 0 n) ≡ option_map (number_in keeps 0) (target entries n)
  pub parents : (n : ℕ) → keeps n ≡ true → parent (picked keeps 0 entries) (number_in keeps 0 n) ≡ option_map (number_in keeps 0) (parent entries n)

-- entries with all their targets mean among themselves what they mean among all
abbrev pub closed_entries_mean_alike : Type 0
closed_entries_mean_alike = (keeps : ℕ → Bool) (entries : List EntryTexts) → IsClosed keeps entries → MeansAlike keeps entries

-- the entries that are kept for a list of keys are closed: every chain of parents is followed to its end
abbrev pub kept_entries_are_closed : Type 0
kept_entries_are_closed = (db : Reading) (keys : List Text) → IsClosed (keeps_for db keys) (entries_of db)

-- The extract of a file keeps what its entries mean: entry n of the file is entry `number_in .. n` of the extract, with the same
-- record at every depth, and with the same target and parent under their new numbers.
pub record ExtractMeans (db : Reading) (keys : List Text) : Type 0 where
  pub records : (depth n : ℕ) → keeps_for db keys n ≡ true → expanded depth (entries_of (extract_of db keys)) (number_in (keeps_for db keys) 0 n) ≡ expanded depth (entries_of db) n
  pub targets : (n : ℕ) → keeps_for db keys n ≡ true → target (entries_of (extract_of db keys)) (number_in (keeps_for db keys) 0 n) ≡ option_map (number_in (keeps_for db keys) 0) (target (entries_of db) n)
  pub parents : (n : ℕ) → keeps_for db keys n ≡ true → parent (entries_of (extract_of db keys)) (number_in (keeps_for db keys) 0 n) ≡ option_map (number_in (keeps_for db keys) 0) (parent (entries_of db) n)

-- the extract of a file means what the file means
abbrev pub extract_means_alike : Type 0
extract_means_alike = (db : Reading) (keys : List Text) → ExtractMeans db keys

-- The entries that the keys cite are cited in the extract, too, in the same order, under their new numbers; and the same keys are
-- unknown.
pub record CitesAlike (db : Reading) (keys : List Text) (min : ℕ) : Type 0 where
  pub listed_is : listed (entries_of (extract_of db keys)) keys min ≡ map (number_in (keeps_for db keys) 0) (listed (entries_of db) keys min)
  pub unknown_is : unknown (entries_of (extract_of db keys)) keys ≡ unknown (entries_of db) keys

-- the cited list of the keys of an extract stays, unless the one key is `*` (if `min` were 0, all entries would be cited)
abbrev pub cited_lists_stay : Type 0
cited_lists_stay = (db : Reading) (keys : List Text) (min : ℕ) → cites_all keys ≡ false → 1 ≤ min → CitesAlike db keys min

-- the extract of the extract, for the same keys, is the extract
abbrev pub extract_once : Type 0
extract_once = (db : Reading) (keys : List Text) → extract_of (extract_of db keys) keys ≡ extract_of db keys

-- The same entries are kept for the cited list of the keys, parents that it adds among them, as for what the keys find. Each
-- number of the list is that of an entry.
pub record ListedAreKept (entries : List EntryTexts) (keys : List Text) (min : ℕ) : Type 0 where
  pub kept : (n : ℕ) → is_kept_entry entries (listed entries keys min) n ≡ is_kept_entry entries (found entries keys) n
  pub within : All (λ n. n < length entries) (listed entries keys min)

-- what is cited is kept
abbrev pub listed_are_kept : Type 0
listed_are_kept = (entries : List EntryTexts) (keys : List Text) (min : ℕ) → 1 ≤ min → ListedAreKept entries keys min

-- what each item says under the macros before it
abbrev pub said_from : {X : Type 0} → (Macros → Tree → X) → Macros → List Item → List X
said_from say macros [] = []
said_from say macros (item ∷ items) = say macros item.tree ∷ said_from say (macros_after macros item.tree) items

-- what the names that an item uses stand for
abbrev pub uses_of : Macros → Tree → List (Option Text)
uses_of macros tree = map (λ name. macros (folded name)) (used_by tree)

-- each use of a macro in a kept item means what it meant
abbrev pub uses_stay : Type 0
uses_stay = (db : Reading) (keys : List Text) → said_from uses_of months (extract_of db keys).items ≡ marked (kept db keys) (said_from uses_of months db.items)

-- each value of a kept item, that of a definition too, has the raw text that it had
abbrev pub raw_texts_stay : Type 0
raw_texts_stay = (db : Reading) (keys : List Text) → said_from raw_texts_in months (extract_of db keys).items ≡ marked (kept db keys) (said_from raw_texts_in months db.items)

-- the extract of a file that can be opened can be opened, if it is not longer than a file may be
abbrev pub extract_opens : Type 0
extract_opens = (file : Text) (db : Reading) (keys : List Text) → Opens file db → length (bytes_of (extract_of db keys)) ≤ file_limit →
    Opens (bytes_of (extract_of db keys)) (extract_of db keys)

-- the extract is longer than the file by at most one byte for each item
abbrev pub extract_length : Type 0
extract_length = (db : Reading) (keys : List Text) → length (bytes_of (extract_of db keys)) ≤ length (bytes_of db) + length db.items
