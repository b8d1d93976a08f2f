-- Fields as they are written, gathered one after another.
use Rattle.bib_answers.proofs.Words.{◌≡◌, ◌∙◌, ℕ, ◌+◌, ◌-◌, ◌<◌, ◌≤◌, Bool, true, false, cond, not, List, [], ◌∷◌, ◌++◌, length, map, filter, slice_get, Option, None, Some, refl, sym, ap, subst, append-nil, append_assoc, same_Some, slice_get_within, flat_map, list_any, option_map_or, Text, folded, same, Item, Reading, View, Field, view_of, entries_of, parent, entry_items, key_at, AreSound}
use Rattle.std.proofs.Common.{◌||◌, is_some, arith}
use Rattle.std.specs.Str.{bytes_eq}
use Rattle.std.proofs.lemmas.List.{map-append}
use Rattle.std.proofs.lemmas.List.Elements.{filter-append}
use Rattle.std.proofs.lemmas.List.Folds.{list_any-append}
use Rattle.bib_spec.specs.Reading.{Reads}
use Rattle.bib_spec.specs.Records.{crossref}
use Rattle.bib_spec.specs.Lineages.{lineage}
use Rattle.bib_spec.proofs.Lineages.{lineage_more, lineage_none, lineage_done}
use Rattle.bib_store.proofs.EntryItems.{entry_at}
use Rattle.folded_map.specs.FoldedMap.{value_at, IsWith}
use Rattle.entry_json.specs.RawJson.{Written, written_seen}
use Rattle.entry_json.specs.declared.raw.WrittenField.{WrittenField}
use Rattle.bib_answers.specs.Raw.{AreGathered, AreTaken, all_written, counted, entry_written, first_of_each, given_by, item_written, written_from}
use Rattle.bib_answers.proofs.ItemFields.{viewed, viewed_sound}

-- ---- the first of each name

-- one of the fields has this name
abbrev bears : List Written → Text → Bool
bears fields name = list_any (λ field. same name field.name) fields

-- one more field
first_more : (fields : List Written) (field : Written) → first_of_each (fields ++ field ∷ []) ≡ cond (bears fields field.name) (first_of_each fields) (first_of_each fields ++ field ∷ [])
first_more [] field = refl
first_more (x ∷ xs) field = ap (λ (l : List Written). x ∷ filter other l) (first_more xs field) ∙ at (same field.name x.name) (bears xs field.name) refl
  where
    other : Written → Bool
    other f = not (same f.name x.name)

    at : (s b : Bool) → same field.name x.name ≡ s
        → x ∷ filter other (cond b (first_of_each xs) (first_of_each xs ++ field ∷ [])) ≡ cond (s || b) (x ∷ filter other (first_of_each xs)) (x ∷ filter other (first_of_each xs) ++ field ∷ [])
    at true true e = refl
    at false true e = refl
    at true false e = ap (λ (l : List Written). x ∷ l)
        (filter-append other (first_of_each xs) (field ∷ [])
        ∙ ap (λ (c : Bool). filter other (first_of_each xs) ++ cond (not c) (field ∷ []) []) e
        ∙ append-nil (filter other (first_of_each xs)))
    at false false e = ap (λ (l : List Written). x ∷ l)
        (filter-append other (first_of_each xs) (field ∷ [])
        ∙ ap (λ (c : Bool). filter other (first_of_each xs) ++ cond (not c) (field ∷ []) []) e)

-- whether a field of this name is taken
abbrev is_taken : List Written → Text → Bool
is_taken fields name = same name crossref || bears fields name

counted_more : (fields : List Written) (field : Written) → counted (fields ++ field ∷ []) ≡ cond (is_taken fields field.name) (counted fields) (counted fields ++ field ∷ [])
counted_more fields field = ap (filter counts) (first_more fields field) ∙ at (same field.name crossref) (bears fields field.name) refl
  where
    counts : Written → Bool
    counts f = not (same f.name crossref)

    at : (s b : Bool) → same field.name crossref ≡ s
        → filter counts (cond b (first_of_each fields) (first_of_each fields ++ field ∷ [])) ≡ cond (s || b) (counted fields) (counted fields ++ field ∷ [])
    at true true e = refl
    at false true e = refl
    at true false e =
        filter-append counts (first_of_each fields) (field ∷ [])
        ∙ ap (λ (c : Bool). filter counts (first_of_each fields) ++ cond (not c) (field ∷ []) []) e
        ∙ append-nil (filter counts (first_of_each fields))
    at false false e =
        filter-append counts (first_of_each fields) (field ∷ [])
        ∙ ap (λ (c : Bool). filter counts (first_of_each fields) ++ cond (not c) (field ∷ []) []) e

-- ---- names

-- the table of names, with one more
joined : {V : Type 0} (b p q : Bool) (o : Option V) (v : V) → is_some o ≡ (p || q) → is_some (cond b (Some v) o) ≡ (p || (q || (b || false)))
joined true true q o v e = refl
joined true false true o v e = refl
joined true false false o v e = refl
joined false true q o v e = e
joined false false true o v e = e
joined false false false o v e = e

taken_more : (old new : List (Text × Unit {0})) (unit : Unit {0}) (seen : List Written) (field : Written) → AreTaken old seen → IsWith old field.name unit new → AreTaken new (seen ++ field ∷ [])
taken_more old new unit seen field h w name =
    ap is_some (w (folded name))
    ∙ joined (bytes_eq (folded name) (folded field.name)) (same name crossref) (bears seen name) (value_at old (folded name)) unit (h name)
    ∙ sym (ap (λ c. same name crossref || c) (list_any-append (λ (f : Written). same name f.name) seen (field ∷ [])))

pub gathered_none : (old new : List (Text × Unit {0})) (unit : Unit {0}) → ((name : Text) → value_at old name ≡ None) → IsWith old crossref unit new → AreGathered [] new []
gathered_none old new unit none w = record {
  taken = λ name. ap is_some (w (folded name) ∙ ap (cond (bytes_eq (folded name) (folded crossref)) (Some unit)) (none (folded name))) ∙ alone (bytes_eq (folded name) (folded crossref));
  fields = refl;
}
  where
    alone : (b : Bool) → is_some (cond b (Some unit) None) ≡ (b || false)
    alone true = refl
    alone false = refl

-- ---- one more field

module _ (old new : List (Text × Unit {0})) (unit : Unit {0}) (seen : List Written) (fields : List WrittenField) (field : WrittenField) (before : AreGathered seen old fields) (joins : IsWith old field.name.now unit new) where
  -- its name is taken
  pub gathered_kept : is_some (value_at old (folded field.name.now)) ≡ true → AreGathered (seen ++ written_seen field ∷ []) new fields
  gathered_kept taken = record {
    taken = taken_more old new unit seen (written_seen field) before.taken joins;
    fields = before.fields ∙ sym (counted_more seen (written_seen field) ∙ ap (λ b. cond b (counted seen) (counted seen ++ written_seen field ∷ [])) (sym (before.taken field.name.now) ∙ taken));
  }

  -- its name is new
  pub gathered_more : is_some (value_at old (folded field.name.now)) ≡ false → AreGathered (seen ++ written_seen field ∷ []) new (fields ++ field ∷ [])
  gathered_more free = record {
    taken = taken_more old new unit seen (written_seen field) before.taken joins;
    fields =
        map-append written_seen fields (field ∷ [])
        ∙ ap (λ (l : List Written). l ++ written_seen field ∷ []) before.fields
        ∙ sym (counted_more seen (written_seen field) ∙ ap (λ b. cond b (counted seen) (counted seen ++ written_seen field ∷ [])) (sym (before.taken field.name.now) ∙ free));
  }

-- ---- the fields of an item

-- The fields read so far are gathered; `rest` is still to be read.
pub record IsGathering (from : Option Text) (old_names : List (Text × Unit {0})) (old : List WrittenField) (all rest : List Field) (names : List (Text × Unit {0})) (fields : List WrittenField) : Type 0 where
  pub sound : AreSound rest
  pub gathered : (seen : List Written) → AreGathered seen old_names old → (so : List Written) × AreGathered so names fields × (so ++ map (written_from from) rest ≡ seen ++ map (written_from from) all)

module _ (from : Option Text) (old_names : List (Text × Unit {0})) (old : List WrittenField) (all : List Field) where
  pub gathering_start : AreSound all → IsGathering from old_names old all all old_names old
  gathering_start sound = record { sound = sound; gathered = λ seen before. (seen, before, refl) }

  pub gathering_more : (field : Field) (rest : List Field) (names more_names : List (Text × Unit {0})) (fields more : List WrittenField)
      → ((seen : List Written) → AreGathered seen names fields → AreGathered (seen ++ written_from from field ∷ []) more_names more)
      → IsGathering from old_names old all (field ∷ rest) names fields → IsGathering from old_names old all rest more_names more
  gathering_more field rest names more_names fields more step now = record {
    sound = now.sound.1;
    gathered = λ seen before.
        let so = now.gathered seen before in (
          so.0 ++ written_from from field ∷ [],
          step so.0 so.1,
          append_assoc so.0 (written_from from field ∷ []) (map (written_from from) rest) ∙ so.2,
        );
  }

  pub gathering_all : (names : List (Text × Unit {0})) (fields : List WrittenField) (seen : List Written) → AreGathered seen old_names old
      → IsGathering from old_names old all [] names fields → AreGathered (seen ++ map (written_from from) all) names fields
  gathering_all names fields seen before now =
      let so = now.gathered seen before in subst (λ (s : List Written). AreGathered s names fields) (sym (append-nil so.0) ∙ so.2) so.1

-- ---- the fields of an entry

abbrev pub IsSeen : Reading → ℕ → View → Type 0
IsSeen r n view = (item : Item) → slice_get (entry_items r.items) n ≡ Some item → view ≡ view_of item

pub entry_sound : (file : Text) (r : Reading) (n : ℕ) (view : View) → Reads file r → n < length (entries_of r) → IsSeen r n view → AreSound view.fields
entry_sound file r n view reads within seen =
    let e = entry_at r n within in
    let m = e.1.number in
    let item_seen : (item : Item) → slice_get r.items m ≡ Some item → view ≡ view_of item = λ item at. seen e.0 e.1.listed ∙ ap view_of (same_Some e.0 item (sym e.1.stands ∙ at)) in
    viewed_sound r m view (viewed file r m view reads (slice_get_within r.items m e.0 e.1.stands) item_seen)

pub entry_fields : (from : Option Text) (r : Reading) (n : ℕ) (view : View) → n < length (entries_of r) → IsSeen r n view → map (written_from from) view.fields ≡ entry_written from r n
entry_fields from r n view within seen =
    let e = entry_at r n within in
    ap (λ (v : View). map (written_from from) v.fields) (seen e.0 e.1.listed)
    ∙ sym (ap (λ (o : Option Item). option_map_or (item_written from) o []) e.1.listed)

-- ---- one parent after another

-- what comes from the rest of a lineage
abbrev pub rest_written : Reading → ℕ → ℕ → List Written
rest_written r depth heir = flat_map (given_by r) (lineage (parent (entries_of r)) depth heir)

-- The fields of some of the entries are gathered, and those along the rest of the lineage are still to be read.
abbrev pub AreGatheredTo : Reading → ℕ → ℕ → ℕ → ℕ → List (Text × Unit {0}) → List WrittenField → Type 0
AreGatheredTo r depth n k heir names fields = (so : List Written) × AreGathered so names fields × (so ++ rest_written r (depth - k) heir ≡ all_written depth r n)

pub along_start : (r : Reading) (depth n : ℕ) (names : List (Text × Unit {0})) (fields : List WrittenField) → AreGathered ([] ++ entry_written None r n) names fields → AreGatheredTo r depth n 0 n names fields
along_start r depth n names fields own =
    let all : depth - 0 ≡ depth = omega arith in
    (entry_written None r n, own, ap (λ (d : ℕ). entry_written None r n ++ rest_written r d n) all)

pub along_more : (r : Reading) (depth n k heir m : ℕ) (names more_names : List (Text × Unit {0})) (fields more : List WrittenField) (key : Text) → k < depth → parent (entries_of r) heir ≡ Some m → key ≡ key_at (entries_of r) m
    → ((seen : List Written) → AreGathered seen names fields → AreGathered (seen ++ entry_written (Some key) r m) more_names more)
    → AreGatheredTo r depth n k heir names fields → AreGatheredTo r depth n (k + 1) m more_names more
along_more r depth n k heir m names more_names fields more key lt is named step now = (
  now.0 ++ given_by r m,
  subst (λ (t : Text). AreGathered (now.0 ++ entry_written (Some t) r m) more_names more) named (step now.0 now.1),
  append_assoc now.0 (given_by r m) (rest_written r (depth - (k + 1)) m)
      ∙ ap (λ (ms : List ℕ). now.0 ++ flat_map (given_by r) ms) (sym (lineage_more (parent (entries_of r)) depth k heir m lt is))
      ∙ now.2,
)

-- the rest of the lineage is empty
ended : (r : Reading) (depth n k heir : ℕ) (names : List (Text × Unit {0})) (fields : List WrittenField) → lineage (parent (entries_of r)) (depth - k) heir ≡ [] → AreGatheredTo r depth n k heir names fields
    → map written_seen fields ≡ counted (all_written depth r n)
ended r depth n k heir names fields none now =
    now.1.fields
    ∙ ap counted (sym (append-nil now.0) ∙ ap (λ (ms : List ℕ). now.0 ++ flat_map (given_by r) ms) (sym none) ∙ now.2)

pub along_none : (r : Reading) (depth n k heir : ℕ) (names : List (Text × Unit {0})) (fields : List WrittenField) → parent (entries_of r) heir ≡ None → AreGatheredTo r depth n k heir names fields
    → map written_seen fields ≡ counted (all_written depth r n)
along_none r depth n k heir names fields none = ended r depth n k heir names fields (lineage_none (parent (entries_of r)) (depth - k) heir none)

pub along_all : (r : Reading) (depth n k heir : ℕ) (names : List (Text × Unit {0})) (fields : List WrittenField) → depth ≤ k → AreGatheredTo r depth n k heir names fields
    → map written_seen fields ≡ counted (all_written depth r n)
along_all r depth n k heir names fields le = ended r depth n k heir names fields (lineage_done (parent (entries_of r)) depth k heir le)
