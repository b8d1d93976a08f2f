-- RenameField in every entry: each record has at every depth the new name in place of the old one.
use Rattle.edit_spec.proofs.Words.{◌≡◌, ◌+◌, ◌≤◌, ◌||◌, ℕ, zero, suc, Bool, true, false, not, nat_lt, List, ◌∷◌, ◌++◌, Option, Some, None, option_map, slice_get, ⊎_elim, refl, sym, ◌∙◌, ap, ap₂, map, filter, count_by, list_any, option_map_or, fun_ext, arith, cases_Bool, cond-true, cond-false, or_parts, or_from, or_cases, and_cases, both_ways, none-some, same_Some, not_from_false, ltb-false, count-yes, count-no, false_from_ne_true}
use Rattle.edit_spec.proofs.Words.{Text, folded, same, Reading, Field, EntryTexts, Record, RecordField, entries_of, crossref, has_name, own_fields, missing, parent, ancestors, ancestors_from, fields_at, with_inherited, record_of, expanded, Ambiguous, option_cases, same_comm, true-same}
use Rattle.std.proofs.Common.{[], if◌then◌else◌}
use Rattle.std.proofs.lemmas.Bool.{or_left, or_right, not_from_true}
use Rattle.std.proofs.lemmas.Str.Ascii.{lowercase-lowercase}
use Rattle.std.proofs.lemmas.Map.Views.{any-filter_same}
use Rattle.bib_spec.specs.Records.{record_field, effective}
use Rattle.bib_spec.proofs.Names.{same_of, same-true}
use Rattle.edit_spec.specs.Edits.{would_repeat, has_field, fields_then, rename_field}
use Rattle.edit_spec.specs.Laws.{field_renamed, record_field_renamed, record_renamed, first_of_each, renamed_fields_are_inherited}
use Rattle.edit_spec.proofs.RenameField.{renamed-yes, renamed-no, become, crossref-left, crossref-stays, parents-renamed, each-at, each-keys, each-long}

-- ---- lists

module _ {X : Type 0} where
  any-less : (p q : X → Bool) (xs : List X) → list_any p xs ≡ false → list_any p (filter q xs) ≡ false
  any-less p q [] h = refl
  any-less p q (x ∷ xs) h =
      let both = or_parts (p x) (list_any p xs) h in
      let rest = any-less p q xs both.1 in
      ⊎_elim
      (λ e. ap (list_any p) (cond-true (q x) (x ∷ filter q xs) (filter q xs) e) ∙ or_from (p x) (list_any p (filter q xs)) both.0 rest)
      (λ e. ap (list_any p) (cond-false (q x) (x ∷ filter q xs) (filter q xs) e) ∙ rest)
      (cases_Bool (q x))

  any-none : (p : X → Bool) (xs : List X) → list_any p (filter (λ x. not (p x)) xs) ≡ false
  any-none p [] = refl
  any-none p (x ∷ xs) = ⊎_elim
      (λ e. ap (list_any p) (cond-false (not (p x)) (x ∷ filter (λ x. not (p x)) xs) (filter (λ x. not (p x)) xs) (not_from_true (p x) e)) ∙ any-none p xs)
      (λ e. ap (list_any p) (cond-true (not (p x)) (x ∷ filter (λ x. not (p x)) xs) (filter (λ x. not (p x)) xs) (not_from_false (p x) e)) ∙ or_from (p x) (list_any p (filter (λ x. not (p x)) xs)) e (any-none p xs))
      (cases_Bool (p x))

  any-never : (xs : List X) → list_any (λ x. false) xs ≡ false
  any-never [] = refl
  any-never (x ∷ xs) = any-never xs

  none-any : (p : X → Bool) (xs : List X) → count_by p xs ≡ 0 → list_any p xs ≡ false
  none-any p [] h = refl
  none-any p (x ∷ xs) h =
      let this : p x ≡ false = false_from_ne_true (p x) (λ e. let c = count-yes p x xs e in absurd (omega (arith, c, h))) in
      or_from (p x) (list_any p xs) this (none-any p xs (sym (count-no p x xs this) ∙ h))

  any-at : (p : X → Bool) (xs : List X) (n : ℕ) (x : X) → list_any p xs ≡ false → slice_get xs n ≡ Some x → p x ≡ false
  any-at p [] n x h at = absurd (none-some x at)
  any-at p (y ∷ ys) zero x h at = ap p (sym (same_Some y x at)) ∙ (or_parts (p y) (list_any p ys) h).0
  any-at p (y ∷ ys) (suc n) x h at = any-at p ys n x (or_parts (p y) (list_any p ys) h).1 at

  filter-none : (p : X → Bool) (xs : List X) → list_any p xs ≡ false → filter (λ x. not (p x)) xs ≡ xs
  filter-none p [] h = refl
  filter-none p (x ∷ xs) h =
      let both = or_parts (p x) (list_any p xs) h in
      cond-true (not (p x)) (x ∷ filter (λ x. not (p x)) xs) (filter (λ x. not (p x)) xs) (not_from_false (p x) both.0) ∙ ap (λ l. x ∷ l) (filter-none p xs both.1)

  filter-all : (xs : List X) → filter (λ x. true) xs ≡ xs
  filter-all [] = refl
  filter-all (x ∷ xs) = ap (λ l. x ∷ l) (filter-all xs)

  filter_append : (p : X → Bool) (xs ys : List X) → filter p (xs ++ ys) ≡ filter p xs ++ filter p ys
  filter_append p [] ys = refl
  filter_append p (x ∷ xs) ys = ⊎_elim
      (λ e. cond-true (p x) (x ∷ filter p (xs ++ ys)) (filter p (xs ++ ys)) e ∙ ap (λ l. x ∷ l) (filter_append p xs ys)
      ∙ sym (ap (λ l. l ++ filter p ys) (cond-true (p x) (x ∷ filter p xs) (filter p xs) e)))
      (λ e. cond-false (p x) (x ∷ filter p (xs ++ ys)) (filter p (xs ++ ys)) e ∙ filter_append p xs ys
      ∙ sym (ap (λ l. l ++ filter p ys) (cond-false (p x) (x ∷ filter p xs) (filter p xs) e)))
      (cases_Bool (p x))

  -- neither of two tests
  filter-neither : (a b : X → Bool) (xs : List X) → filter (λ x. not (a x)) (filter (λ x. not (b x)) xs) ≡ filter (λ x. not (a x || b x)) xs
  filter-neither a b [] = refl
  filter-neither a b (x ∷ xs) = by_tests (a x) (b x) refl (filter-neither a b xs)
    where
      by_tests : (s t : Bool) → a x ≡ s → filter (λ x. not (a x)) (filter (λ x. not (b x)) xs) ≡ filter (λ x. not (a x || b x)) xs →
          filter (λ x. not (a x)) (if not t then x ∷ filter (λ x. not (b x)) xs else filter (λ x. not (b x)) xs) ≡ (if not (s || t) then x ∷ filter (λ x. not (a x || b x)) xs else filter (λ x. not (a x || b x)) xs)
      by_tests true true is rest = rest
      by_tests false true is rest = rest
      by_tests true false is rest = cond-false (not (a x)) (x ∷ filter (λ x. not (a x)) (filter (λ x. not (b x)) xs)) (filter (λ x. not (a x)) (filter (λ x. not (b x)) xs)) (ap not is) ∙ rest
      by_tests false false is rest = cond-true (not (a x)) (x ∷ filter (λ x. not (a x)) (filter (λ x. not (b x)) xs)) (filter (λ x. not (a x)) (filter (λ x. not (b x)) xs)) (ap not is) ∙ ap (λ l. x ∷ l) rest

  map-left : (f : X → X) (p : X → Bool) → ((x : X) → p x ≡ false → f x ≡ x) → (xs : List X) → list_any p xs ≡ false → map f xs ≡ xs
  map-left f p leaves [] h = refl
  map-left f p leaves (x ∷ xs) h = let both = or_parts (p x) (list_any p xs) h in ap₂ ◌∷◌ (leaves x both.0) (map-left f p leaves xs both.1)

  -- a filter before a change and one after it
  filter-map : {Y : Type 0} (f : X → Y) (p : X → Bool) (q : Y → Bool) (bad : X → Bool) → ((x : X) → bad x ≡ false → q (f x) ≡ p x) → (xs : List X) → list_any bad xs ≡ false →
      filter q (map f xs) ≡ map f (filter p xs)
  filter-map f p q bad alike [] h = refl
  filter-map f p q bad alike (x ∷ xs) h =
      let both = or_parts (bad x) (list_any bad xs) h in
      let rest = filter-map f p q bad alike xs both.1 in
      ⊎_elim
      (λ e. cond-true (q (f x)) (f x ∷ filter q (map f xs)) (filter q (map f xs)) (alike x both.0 ∙ e) ∙ ap (λ l. f x ∷ l) rest ∙ sym (ap (map f) (cond-true (p x) (x ∷ filter p xs) (filter p xs) e)))
      (λ e. cond-false (q (f x)) (f x ∷ filter q (map f xs)) (filter q (map f xs)) (alike x both.0 ∙ e) ∙ rest ∙ sym (ap (map f) (cond-false (p x) (x ∷ filter p xs) (filter p xs) e)))
      (cases_Bool (p x))

  -- what a filter leaves out before the change, another leaves out after it
  filter-sooner : {Y : Type 0} (f : X → Y) (p : X → Bool) (q : Y → Bool) → ((x : X) → p x ≡ false → q (f x) ≡ false) → (xs : List X) → filter q (map f (filter p xs)) ≡ filter q (map f xs)
  filter-sooner f p q out [] = refl
  filter-sooner f p q out (x ∷ xs) =
      let rest = filter-sooner f p q out xs in
      ⊎_elim
      (λ e. ap (λ l. filter q (map f l)) (cond-true (p x) (x ∷ filter p xs) (filter p xs) e) ∙ ap (λ l. if q (f x) then f x ∷ l else l) rest)
      (λ e. ap (λ l. filter q (map f l)) (cond-false (p x) (x ∷ filter p xs) (filter p xs) e) ∙ rest ∙ sym (cond-false (q (f x)) (f x ∷ filter q (map f xs)) (filter q (map f xs)) (out x e)))
      (cases_Bool (p x))

-- ---- lists without two that are alike

module _ {X : Type 0} (alike : X → X → Bool) where
  abbrev Distinct : List X → Type 0
  Distinct [] = Unit {0}
  Distinct (x ∷ xs) = (list_any (alike x) xs ≡ false) × Distinct xs

  distinct-filter : (q : X → Bool) (xs : List X) → Distinct xs → Distinct (filter q xs)
  distinct-filter q [] d = tt
  distinct-filter q (x ∷ xs) d = by_test (q x) (any-less (alike x) q xs d.0) (distinct-filter q xs d.1)
    where
      by_test : (b : Bool) → list_any (alike x) (filter q xs) ≡ false → Distinct (filter q xs) → Distinct (if b then x ∷ filter q xs else filter q xs)
      by_test true none rest = (none, rest)
      by_test false none rest = rest

module _ {X Y : Type 0} (alike : X → X → Bool) (same_now : Y → Y → Bool) (f : X → Y) (differs : (x y : X) → alike x y ≡ false → same_now (f x) (f y) ≡ false) where
  any-map : (x : X) (xs : List X) → list_any (alike x) xs ≡ false → list_any (same_now (f x)) (map f xs) ≡ false
  any-map x [] h = refl
  any-map x (y ∷ ys) h = let both = or_parts (alike x y) (list_any (alike x) ys) h in or_from (same_now (f x) (f y)) (list_any (same_now (f x)) (map f ys)) (differs x y both.0) (any-map x ys both.1)

  distinct-map : (xs : List X) → Distinct alike xs → Distinct same_now (map f xs)
  distinct-map [] d = tt
  distinct-map (x ∷ xs) d = (any-map x xs d.0, distinct-map xs d.1)

module _ {X Y : Type 0} (alike : Y → Y → Bool) (f : X → Y) (q : X → Bool) where
  any-mapped : (y : Y) (xs : List X) → list_any (alike y) (map f xs) ≡ false → list_any (alike y) (map f (filter q xs)) ≡ false
  any-mapped y [] h = refl
  any-mapped y (x ∷ xs) h = let both = or_parts (alike y (f x)) (list_any (alike y) (map f xs)) h in by_test (q x) both.0 (any-mapped y xs both.1)
    where
      by_test : (b : Bool) → alike y (f x) ≡ false → list_any (alike y) (map f (filter q xs)) ≡ false → list_any (alike y) (map f (if b then x ∷ filter q xs else filter q xs)) ≡ false
      by_test true this rest = or_from (alike y (f x)) (list_any (alike y) (map f (filter q xs))) this rest
      by_test false this rest = rest

  distinct-mapped : (xs : List X) → Distinct alike (map f xs) → Distinct alike (map f (filter q xs))
  distinct-mapped [] d = tt
  distinct-mapped (x ∷ xs) d = by_test (q x) (any-mapped (f x) xs d.0) (distinct-mapped xs d.1)
    where
      by_test : (b : Bool) → list_any (alike (f x)) (map f (filter q xs)) ≡ false → Distinct alike (map f (filter q xs)) → Distinct alike (map f (if b then x ∷ filter q xs else filter q xs))
      by_test true none rest = (none, rest)
      by_test false none rest = rest

-- ---- the first field of each name

abbrev alike : RecordField → RecordField → Bool
alike a b = same a.0 b.0

first-distinct : (xs : List RecordField) → Distinct alike xs → first_of_each xs ≡ xs
first-distinct [] d = refl
first-distinct (x ∷ xs) d = ap (λ l. x ∷ filter (λ other. not (alike x other)) l) (first-distinct xs d.1) ∙ ap (λ l. x ∷ l) (filter-none (alike x) xs d.0)

-- a field whose name is among these
abbrev among : List RecordField → RecordField → Bool
among own field = list_any (λ other. same other.0 field.0) own

first-append : (xs ys : List RecordField) → first_of_each (xs ++ ys) ≡ first_of_each xs ++ missing xs (first_of_each ys)
first-append [] ys = sym (filter-all (first_of_each ys))
first-append (x ∷ xs) ys = ap (λ l. x ∷ l)
    (ap (filter (λ other. not (alike x other))) (first-append xs ys)
    ∙ filter_append (λ other. not (alike x other)) (first_of_each xs) (missing xs (first_of_each ys))
    ∙ ap (λ l. filter (λ other. not (alike x other)) (first_of_each xs) ++ l) (filter-neither (alike x) (among xs) (first_of_each ys)))

among-first : (xs : List RecordField) (field : RecordField) → among (first_of_each xs) field ≡ among xs field
among-first [] field = refl
among-first (x ∷ xs) field = ⊎_elim
    (λ e. ap (λ b. b || list_any (λ other. same other.0 field.0) (filter (λ other. not (alike x other)) (first_of_each xs))) e ∙ sym (ap (λ b. b || among xs field) e))
    (λ e. ap (λ b. same x.0 field.0 || b)
    (any-filter_same (λ other. same other.0 field.0) (λ other. not (alike x other)) true
    (λ other is. not_from_false (alike x other) (false_from_ne_true (alike x other) (λ both. both_ways (same x.0 field.0) e (true-same x.0 field.0 (same-true x.0 other.0 both ∙ same-true other.0 field.0 is)))))
    (first_of_each xs) ∙ among-first xs field))
    (cases_Bool (same x.0 field.0))

missing-first : (xs more : List RecordField) → missing (first_of_each xs) more ≡ missing xs more
missing-first xs more = ap (λ (test : RecordField → Bool). filter (λ field. not (test field)) more) (fun_ext (among-first xs))

-- ---- own fields differ in their names

folded-folded : (t : Text) → folded (folded t) ≡ folded t
folded-folded [] = refl
folded-folded (b ∷ t) = ap₂ ◌∷◌ (lowercase-lowercase b) (folded-folded t)

abbrev named_alike : Field → Field → Bool
named_alike a b = has_name a.name b

effective-distinct : (fields : List Field) → Distinct named_alike (effective fields)
effective-distinct [] = tt
effective-distinct (field ∷ fields) = (
  any-none (has_name field.name) (effective fields),
  distinct-filter named_alike (λ other. not (has_name field.name other)) (effective fields) (effective-distinct fields),
)

own-distinct : (entry : EntryTexts) → Distinct alike (own_fields entry)
own-distinct entry =
    distinct-map named_alike alike record_field
    (λ a b h. same_of (folded a.name) (folded b.name) a.name b.name (folded-folded a.name) (folded-folded b.name) ∙ same_comm a.name b.name ∙ h)
    (filter (λ field. not (has_name crossref field)) (effective entry.fields))
    (distinct-filter named_alike (λ field. not (has_name crossref field)) (effective entry.fields) (effective-distinct entry.fields))

effective-none : (p : Field → Bool) (fields : List Field) → list_any p fields ≡ false → list_any p (effective fields) ≡ false
effective-none p [] h = refl
effective-none p (field ∷ fields) h =
    let both = or_parts (p field) (list_any p fields) h in
    or_from (p field) (list_any p (filter (λ other. not (has_name field.name other)) (effective fields))) both.0
    (any-less p (λ other. not (has_name field.name other)) (effective fields) (effective-none p fields both.1))

module _ (from to : Text) where
  abbrev ren : Field → Field
  ren field = field_renamed from to field

  abbrev now : RecordField → RecordField
  now field = record_field_renamed from to field

  abbrev hit : Field → Bool
  hit field = has_name from field || has_name to field

  ren-left : (field : Field) → has_name from field ≡ false → ren field ≡ field
  ren-left field e = ap (λ name. let it : Field = record field { name = name } in it) (renamed-no from to field.name e)

  -- ---- one entry

  -- other names stay apart, if the field is neither `from` nor `to`
  apart : (field other : Field) → hit field ≡ false → has_name field.name other ≡ has_name (ren field).name (ren other)
  apart field other h =
      let both = or_parts (has_name from field) (has_name to field) h in
      ⊎_elim
      (λ e. same_of other.name field.name from field.name (same-true other.name from e) refl ∙ same_comm from field.name ∙ both.0
      ∙ sym (ap₂ same (renamed-yes from to other.name e) (renamed-no from to field.name both.0) ∙ same_comm to field.name ∙ both.1))
      (λ e. sym (ap₂ same (renamed-no from to other.name e) (renamed-no from to field.name both.0)))
      (cases_Bool (has_name from other))

  -- and if no other field is one of the two
  alone : (field other : Field) → hit field ≡ true → hit other ≡ false → has_name field.name other ≡ has_name (ren field).name (ren other)
  alone field other h none =
      let both = or_parts (has_name from other) (has_name to other) none in
      ⊎_elim
      (λ e. same_of other.name field.name other.name from refl (same-true field.name from e) ∙ both.0
      ∙ sym (ap₂ same (renamed-no from to other.name both.0) (renamed-yes from to field.name e) ∙ both.1))
      (λ e. sym (ap₂ same (renamed-no from to other.name both.0) (renamed-no from to field.name e)))
      (cases_Bool (has_name from field))

  effective-few : (fields : List Field) → count_by hit fields ≤ 1 → effective (map ren fields) ≡ map ren (effective fields)
  effective-few [] few = refl
  effective-few (field ∷ fields) few =
      ⊎_elim
      (λ e. let c = count-yes hit field fields e in
      let none : count_by hit fields ≡ 0 = omega (arith, c, few) in
      ap (λ l. ren field ∷ filter (λ other. not (has_name (ren field).name other)) l) (effective-few fields (omega (arith, none)))
      ∙ ap (λ l. ren field ∷ l)
      (filter-map ren (λ other. not (has_name field.name other)) (λ other. not (has_name (ren field).name other)) hit (λ other h. ap not (sym (alone field other e h))) (effective fields)
      (effective-none hit fields (none-any hit fields none))))
      (λ e. let c = count-no hit field fields e in
      ap (λ l. ren field ∷ filter (λ other. not (has_name (ren field).name other)) l) (effective-few fields (omega (arith, c, few)))
      ∙ ap (λ l. ren field ∷ l)
      (filter-map ren (λ other. not (has_name field.name other)) (λ other. not (has_name (ren field).name other)) (λ other. false) (λ other h. ap not (sym (apart field other e))) (effective fields)
      (any-never (effective fields))))
      (cases_Bool (hit field))

  effective-renamed : (entry : EntryTexts) → would_repeat from to entry ≡ false → effective (map ren entry.fields) ≡ map ren (effective entry.fields)
  effective-renamed entry h = ⊎_elim
      (λ none. ap effective (map-left ren (has_name from) ren-left entry.fields none) ∙ sym (map-left ren (has_name from) ren-left (effective entry.fields) (effective-none (has_name from) entry.fields none)))
      (λ few. effective-few entry.fields (ltb-false 1 (count_by hit entry.fields) few))
      (and_cases (has_field from entry) (nat_lt 1 (fields_then from to entry)) h)

  record-field : (field : Field) → record_field (ren field) ≡ now (record_field field)
  record-field field =
      let is : same (folded field.name) from ≡ same field.name from = same_of (folded field.name) from field.name from (folded-folded field.name) refl in
      ⊎_elim
      (λ e. ap (λ (name : Text). (name, (record_field field).1)) (ap folded (renamed-yes from to field.name e) ∙ sym (cond-true (same (folded field.name) from) (folded to) (folded field.name) (is ∙ e))))
      (λ e. ap (λ (name : Text). (name, (record_field field).1)) (ap folded (renamed-no from to field.name e) ∙ sym (cond-false (same (folded field.name) from) (folded to) (folded field.name) (is ∙ e))))
      (cases_Bool (same field.name from))

  record-fields : (fields : List Field) → map record_field (map ren fields) ≡ map now (map record_field fields)
  record-fields [] = refl
  record-fields (field ∷ fields) = ap₂ ◌∷◌ (record-field field) (record-fields fields)

  module _ (left : (same from crossref ≡ false) × (same to crossref ≡ false)) where
    own-renamed : (entry : EntryTexts) → would_repeat from to entry ≡ false → own_fields (become from to entry) ≡ map now (own_fields entry)
    own-renamed entry h =
        ap (λ fields. map record_field (filter (λ field. not (has_name crossref field)) fields)) (effective-renamed entry h)
        ∙ ap (map record_field)
        (filter-map ren (λ field. not (has_name crossref field)) (λ field. not (has_name crossref field)) (λ field. false) (λ field none. ap not (crossref-left from to left field)) (effective entry.fields) (any-never (effective entry.fields)))
        ∙ record-fields (filter (λ field. not (has_name crossref field)) (effective entry.fields))

  -- ---- inherited fields

  -- names that are the same are renamed to names that are the same
  now-alike : (a b : RecordField) → same a.0 b.0 ≡ true → same (now a).0 (now b).0 ≡ true
  now-alike a b h =
      let is : same a.0 from ≡ same b.0 from = same_of a.0 from b.0 from (same-true a.0 b.0 h) refl in
      ⊎_elim
      (λ e. true-same (now a).0 (now b).0 (ap folded (cond-true (same a.0 from) (folded to) a.0 e ∙ sym (cond-true (same b.0 from) (folded to) b.0 (sym is ∙ e)))))
      (λ e. ap₂ same (cond-false (same a.0 from) (folded to) a.0 e) (cond-false (same b.0 from) (folded to) b.0 (sym is ∙ e)) ∙ h)
      (cases_Bool (same a.0 from))

  among-now : (own : List RecordField) (field : RecordField) → among own field ≡ true → among (map now own) (now field) ≡ true
  among-now [] field h = h
  among-now (x ∷ xs) field h = ⊎_elim
      (λ e. or_left (same (now x).0 (now field).0) (among (map now xs) (now field)) (now-alike x field e))
      (λ e. or_right (same (now x).0 (now field).0) (among (map now xs) (now field)) (among-now xs field e))
      (or_cases (same x.0 field.0) (among xs field) h)

  map_append : (xs ys : List RecordField) → map now (xs ++ ys) ≡ map now xs ++ map now ys
  map_append [] ys = refl
  map_append (x ∷ xs) ys = ap (λ l. now x ∷ l) (map_append xs ys)

  one_more : (own more : List RecordField) → Distinct alike (map now more) →
      first_of_each (map now own) ++ missing (first_of_each (map now own)) (map now more) ≡ first_of_each (map now (own ++ missing own more))
  one_more own more d =
      ap (λ l. first_of_each (map now own) ++ l)
      (missing-first (map now own) (map now more)
      ∙ sym (filter-sooner now (λ field. not (among own field)) (λ field. not (among (map now own) field))
      (λ field h. not_from_true (among (map now own) (now field)) (among-now own field (true_of (among own field) h))) more)
      ∙ ap (missing (map now own)) (sym (first-distinct (map now (missing own more)) (distinct-mapped alike now (λ field. not (among own field)) more d))))
      ∙ sym (ap first_of_each (map_append own (missing own more)) ∙ first-append (map now own) (map now (missing own more)))
    where
      true_of : (b : Bool) → not b ≡ false → b ≡ true
      true_of true h = refl
      true_of false h = sym h

  -- ---- records

  module _ (entries new : List EntryTexts) (at : (n : ℕ) → slice_get new n ≡ option_map (become from to) (slice_get entries n))
      (parents : (n : ℕ) → parent new n ≡ parent entries n)
      (owns : (n : ℕ) (entry : EntryTexts) → slice_get entries n ≡ Some entry → own_fields (become from to entry) ≡ map now (own_fields entry))
    where
      fields-at : (n : ℕ) → fields_at new n ≡ map now (fields_at entries n)
      fields-at n = ap (λ o. option_map_or own_fields o []) (at n) ∙ ⊎_elim
          (λ none. ap (λ o. option_map_or own_fields (option_map (become from to) o) []) none ∙ sym (ap (λ o. map now (option_map_or own_fields o [])) none))
          (λ some. ap (λ o. option_map_or own_fields (option_map (become from to) o) []) some.1 ∙ owns n some.0 some.1 ∙ sym (ap (λ o. map now (option_map_or own_fields o [])) some.1))
          (option_cases (slice_get entries n))

      distinct-at : (o : Option EntryTexts) → Distinct alike (option_map_or own_fields o [])
      distinct-at None = tt
      distinct-at (Some entry) = own-distinct entry

      distinct-now : (n : ℕ) → Distinct alike (map now (fields_at entries n))
      distinct-now n = subst_distinct (fields_at new n) (map now (fields_at entries n)) (fields-at n) (distinct-at (slice_get new n))
        where
          subst_distinct : (xs ys : List RecordField) → xs ≡ ys → Distinct alike xs → Distinct alike ys
          subst_distinct xs ys e d = rw (sym e) d

      inherited : (own : List RecordField) (ns : List ℕ) → with_inherited new (first_of_each (map now own)) ns ≡ first_of_each (map now (with_inherited entries own ns))
      inherited own [] = refl
      inherited own (n ∷ ns) =
          ap (λ more. with_inherited new (first_of_each (map now own) ++ missing (first_of_each (map now own)) more) ns) (fields-at n)
          ∙ ap (λ own. with_inherited new own ns) (one_more own (fields_at entries n) (distinct-now n))
          ∙ inherited (own ++ missing own (fields_at entries n)) ns

      record-now : (depth n : ℕ) (entry : EntryTexts) → slice_get entries n ≡ Some entry → record_of depth new n (become from to entry) ≡ record_renamed from to (record_of depth entries n entry)
      record-now depth n entry is =
          ap (λ fields. let it : Record = record { kind_name = folded entry.kind; key = entry.key; fields = fields } in it)
          (ap (λ parents. with_inherited new (own_fields (become from to entry)) (ancestors_from parents depth (n ∷ []) n)) (fun_ext parents)
          ∙ ap (λ own. with_inherited new own (ancestors entries depth n))
          (sym (first-distinct (own_fields (become from to entry)) (own-distinct (become from to entry))) ∙ ap first_of_each (owns n entry is))
          ∙ inherited (own_fields entry) (ancestors entries depth n))

      expanded-now : (depth n : ℕ) → expanded depth new n ≡ option_map (record_renamed from to) (expanded depth entries n)
      expanded-now depth n = ap (option_map (record_of depth new n)) (at n) ∙ ⊎_elim
          (λ none. ap (λ o. option_map (record_of depth new n) (option_map (become from to) o)) none
          ∙ sym (ap (λ o. option_map (record_renamed from to) (option_map (record_of depth entries n) o)) none))
          (λ some. ap (λ o. option_map (record_of depth new n) (option_map (become from to) o)) some.1
          ∙ ap Some (record-now depth n some.0 some.1)
          ∙ sym (ap (λ o. option_map (record_renamed from to) (option_map (record_of depth entries n) o)) some.1))
          (option_cases (slice_get entries n))

-- ---- the law

pub renamed-fields-are-inherited : renamed_fields_are_inherited
renamed-fields-are-inherited key_base db from to accepted depth n =
    let left = crossref-stays key_base db from to None accepted in
    let once : list_any (would_repeat from to) (entries_of db) ≡ false = false_from_ne_true (list_any (would_repeat from to) (entries_of db)) (accepted Ambiguous) in
    let new : Reading = rename_field from to None db in
    expanded-now from to (entries_of db) (entries_of new) (each-at from to left db)
    (parents-renamed from to left db new (λ n. true) (each-at from to left db) (each-keys from to left db) (each-long from to left db))
    (λ n entry is. own-renamed from to left entry (any-at (would_repeat from to) (entries_of db) n entry once is)) depth n
