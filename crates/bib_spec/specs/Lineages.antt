-- The parent of an entry, its parent and so on, one after another, even if one of them was met before.
use Rattle.std.specs.Prelude.{ℕ, zero, suc, ◌≡◌, ◌≤◌, List, [], ◌∷◌, Option, length, take}
use Rattle.std.specs.Option.{option_map_or}
use Rattle.bib_spec.specs.Records.{EntryTexts, Record, parent, default_depth, ancestors, fields_at, with_inherited, record_of}

-- the parent, its parent and so on, at most `depth` of them; if the parents form a ring, the list goes round it
abbrev pub lineage : (ℕ → Option ℕ) → ℕ → ℕ → List ℕ
lineage parents zero n = []
lineage parents (suc depth) n = option_map_or (λ m. m ∷ lineage parents depth m) (parents n) []

-- An entry inherits the same from its lineage as from its ancestors: an entry that is met again has already given all its
-- fields.
abbrev pub rings_give_nothing_more : Type 0
rings_give_nothing_more = (entries : List EntryTexts) (depth n : ℕ) →
    with_inherited entries (fields_at entries n) (lineage (parent entries) depth n) ≡ with_inherited entries (fields_at entries n) (ancestors entries depth n)

-- At depth 1 an entry inherits from its parent, if it has one, and from no other entry.
abbrev pub parent_alone_at_depth_1 : Type 0
parent_alone_at_depth_1 = (entries : List EntryTexts) (n : ℕ) → ancestors entries default_depth n ≡ option_map_or (λ m. m ∷ []) (parent entries n) []

-- The new record has the type and the key of the old one, and its first fields are those of the old one.
pub record OnlyGainsFields (old new : Record) : Type 0 where
  pub kind_name : new.kind_name ≡ old.kind_name
  pub key : new.key ≡ old.key
  pub first : take (length old.fields) new.fields ≡ old.fields

-- At a greater depth the record of an entry only gains fields, which come after those that it has at a smaller depth.
abbrev pub deeper_records_only_gain : Type 0
deeper_records_only_gain = (entries : List EntryTexts) (depth deeper n : ℕ) (entry : EntryTexts) → depth ≤ deeper →
    OnlyGainsFields (record_of depth entries n entry) (record_of deeper entries n entry)
