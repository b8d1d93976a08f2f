-- No promise rests on this page: it says which names an item may have twice, as the code tells by a hash filter.
use Rattle.std.specs.Prelude.{ℕ, ◌≡◌, ◌==◌, ◌+◌, ◌*◌, ◌%◌, ◌^◌, Bool, true, List, [], ◌∷◌, length, map, Option, None, Some, if◌then◌else◌, slice_index_or, set}
use Rattle.std.specs.List.{list_any}
use Rattle.bib_spec.specs.Text.{Text, folded, same}
use Rattle.bib_scan.specs.View.{Field}
use Rattle.bib_answers.specs.declared.name_filter.NameFilter.{NameFilter}

-- ---- buckets

-- the hash, a number of 32 bits, of a text that goes on with these bytes, where `hash` is that of the bytes before them
abbrev pub hash_from : ℕ → Text → ℕ
hash_from hash [] = hash
hash_from hash (b ∷ text) = hash_from ((hash * 16777619 % 2 ^ 32 + b) % 2 ^ 32) text

-- the hash of a name: names that differ in case alone have the same
abbrev pub hash_of : Text → ℕ
hash_of name = hash_from 0 (folded name)

-- the bucket that a name falls into, by its number below `buckets`
abbrev pub bucket_of : ℕ → Text → ℕ
bucket_of buckets name = hash_of name % buckets

-- a count with one more name: 1 after 0, and else 2, for more than one
abbrev pub one_more : ℕ → ℕ
one_more count = if count == 0 then 1 else 2

-- the counts of all buckets, with one more name in its bucket
abbrev pub with_one_more : List ℕ → Text → List ℕ
with_one_more [] name = []
with_one_more (n ∷ counts) name =
    set (n ∷ counts) (bucket_of (length (n ∷ counts)) name) (one_more (slice_index_or (n ∷ counts) (bucket_of (length (n ∷ counts)) name) 0))

-- another name may be in this name's bucket; with no buckets any may
abbrev pub is_shared : List ℕ → Text → Bool
is_shared [] name = true
is_shared (n ∷ counts) name = slice_index_or (n ∷ counts) (bucket_of (length (n ∷ counts)) name) 0 == 2

-- ---- names

-- the names of fields, in order
abbrev pub names_of : List Field → List Text
names_of fields = map (λ (f : Field). f.name) fields

-- another field of the item may have the name; without a filter any may
abbrev pub may_recur : Option NameFilter → Text → Bool
may_recur None name = true
may_recur (Some filter) name = is_shared filter.counts.items name

-- each of the names that is the same as a name before it, among them or in `earlier`, may recur
abbrev pub AreTold : Option NameFilter → List Text → List Text → Type 0
AreTold filter earlier [] = Unit
AreTold filter earlier (name ∷ names) = (list_any (same name) earlier ≡ true → may_recur filter name ≡ true) × AreTold filter (name ∷ earlier) names

-- all names in order: those of `earlier`, which lists the last first, and then these
abbrev pub unrolled : List Text → List Text → List Text
unrolled [] names = names
unrolled (name ∷ earlier) names = unrolled earlier (name ∷ names)
