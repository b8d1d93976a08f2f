-- Fields gathered one after another are an entry's own fields, and those of its parent that are missing.
use Rattle.bib_store.proofs.Words.{◌≡◌, Bool, true, false, cond, not, ◌&&◌, ◌||◌, List, [], ◌∷◌, ◌++◌, Option, Some, None, refl, sym, ◌∙◌, ap, map, filter, append_assoc, list_any, AllZip, AllByRecursion, list_any-append, Text, folded, same, Row, Macros, raw_text, field_text, RecordField}
use Rattle.bib_store.proofs.Words.{record_field, field_of, crossref, has_name, missing, same_of, same-true, OfValue, is_taken, AreTaken, with_field, with_fields, IsReadable, IsFieldOf}
use Rattle.std.proofs.Common.{is_some}
use Rattle.std.specs.Str.{bytes_eq}
use Rattle.std.specs.Char.{to_ascii_lowercase}
use Rattle.std.proofs.lemmas.Str.Ascii.{lowercase-lowercase}
use Rattle.std.proofs.lemmas.List.{append-nil}
use Rattle.bib_spec.specs.Records.{Field, effective}
use Rattle.bib_spec.proofs.Names.{same_comm}
use Rattle.bib_scan.specs.View as view
use Rattle.folded_map.specs.FoldedMap.{value_at, IsWith}
use Rattle.bib_store.proofs.Filters.{filter_twice, filter_all}

-- ---- names

pub folded_twice : (t : Text) → folded (folded t) ≡ folded t
folded_twice [] = refl
folded_twice (b ∷ t) = ap (λ c. c ∷ folded (folded t)) (lowercase-lowercase b) ∙ ap (λ l. to_ascii_lowercase b ∷ l) (folded_twice t)

pub same-folded_left : (a b : Text) → same (folded a) b ≡ same a b
same-folded_left a b = same_of (folded a) b a b (folded_twice a) refl

same-folded_right : (a b : Text) → same a (folded b) ≡ same a b
same-folded_right a b = same_of a (folded b) a b refl (folded_twice b)

-- two names that are the same are taken alike
taken_alike : (fields : List RecordField) (a b : Text) → same a b ≡ true → is_taken fields a ≡ is_taken fields b
taken_alike fields a b h =
    ap (λ c. c || list_any (λ other. same other.0 a) fields) (same_of a crossref b crossref (same-true a b h) refl)
    ∙ ap (λ c. same b crossref || c) (alike fields)
  where
    alike : (fields : List RecordField) → list_any (λ other. same other.0 a) fields ≡ list_any (λ other. same other.0 b) fields
    alike [] = refl
    alike (field ∷ fields) =
        ap (λ c. c || list_any (λ other. same other.0 a) fields) (same_of field.0 a field.0 b refl (same-true a b h))
        ∙ ap (λ c. same field.0 b || c) (alike fields)

any_folded : (fields : List RecordField) (name : Text) → list_any (λ other. same other.0 (folded name)) fields ≡ list_any (λ other. same other.0 name) fields
any_folded [] name = refl
any_folded (field ∷ fields) name =
    ap (λ c. c || list_any (λ other. same other.0 (folded name)) fields) (same-folded_right field.0 name)
    ∙ ap (λ c. same field.0 name || c) (any_folded fields name)

-- one more field takes its name
taken_after : (fields : List RecordField) (taken text name : Text) → is_taken (fields ++ (folded taken, text) ∷ []) name ≡ (same name crossref || (list_any (λ other. same other.0 name) fields || (same name taken || false)))
taken_after fields taken text name =
    ap (λ c. same name crossref || c) (list_any-append (λ other. same other.0 name) fields ((folded taken, text) ∷ []))
    ∙ ap (λ c. same name crossref || (list_any (λ other. same other.0 name) fields || (c || false))) (same-folded_left taken name ∙ same_comm taken name)

-- the table of names, with one more
joined : {V : Type 0} (b p q : Bool) (o : Option V) (v : V) → is_some o ≡ (p || q) → is_some (cond b (Some v) o) ≡ (p || (q || (b || false)))
joined true true q o v e = refl
joined true false true o v e = refl
joined true false false o v e = refl
joined false true q o v e = e
joined false false true o v e = e
joined false false false o v e = e

pub taken_more : (old new : List (Text × Unit {0})) (unit : Unit {0}) (fields : List RecordField) (taken text : Text) → AreTaken old fields → IsWith old taken unit new → AreTaken new (fields ++ (folded taken, text) ∷ [])
taken_more old new unit fields taken text h w name =
    ap is_some (w (folded name))
    ∙ joined (bytes_eq (folded name) (folded taken)) (same name crossref) (list_any (λ other. same other.0 name) fields) (value_at old (folded name)) unit (h name)
    ∙ sym (taken_after fields taken text name)

pub taken_none : (old new : List (Text × Unit {0})) (unit : Unit {0}) → ((name : Text) → value_at old name ≡ None) → IsWith old crossref unit new → AreTaken new []
taken_none old new unit none w name =
    ap is_some (w (folded name) ∙ ap (cond (bytes_eq (folded name) (folded crossref)) (Some unit)) (none (folded name)))
    ∙ alone (bytes_eq (folded name) (folded crossref))
  where
    alone : (b : Bool) → is_some (cond b (Some unit) None) ≡ (b || false)
    alone true = refl
    alone false = refl

-- ---- fields

-- the fields whose names are not taken
abbrev free : List RecordField → Field → Bool
free fields field = not (is_taken fields field.name)

abbrev other_name : Field → Field → Bool
other_name field other = not (has_name field.name other)

-- what is missing of an entry's own fields
missing_is : (fields : List RecordField) (xs : List Field) → missing fields (map record_field (filter (λ field. not (has_name crossref field)) xs)) ≡ map record_field (filter (free fields) xs)
missing_is fields [] = refl
missing_is fields (x ∷ xs) = at (same x.name crossref) refl (missing_is fields xs)
  where
    rest : List RecordField
    rest = map record_field (filter (free fields) xs)

    own : List Field
    own = filter (λ field. not (has_name crossref field)) xs

    moved : (c : Bool) → cond c (record_field x ∷ rest) rest ≡ map record_field (cond c (x ∷ filter (free fields) xs) (filter (free fields) xs))
    moved true = refl
    moved false = refl

    at : (b : Bool) → same x.name crossref ≡ b → missing fields (map record_field own) ≡ rest →
        missing fields (map record_field (cond (not b) (x ∷ own) own)) ≡ map record_field (cond (not (b || list_any (λ other. same other.0 x.name) fields)) (x ∷ filter (free fields) xs) (filter (free fields) xs))
    at true e later = later
    at false e later =
        ap (λ c. cond (not c) (record_field x ∷ missing fields (map record_field own)) (missing fields (map record_field own))) (any_folded fields x.name)
        ∙ ap (λ (l : List RecordField). cond (not (list_any (λ other. same other.0 x.name) fields)) (record_field x ∷ l) l) later
        ∙ moved (not (list_any (λ other. same other.0 x.name) fields))

-- a free field has another name than one that is taken
free_other : (fields : List RecordField) (field other : Field) → is_taken fields field.name ≡ true → free fields other ≡ (other_name field other && free fields other)
free_other fields field other taken = at (same other.name field.name) refl
  where
    at : (b : Bool) → same other.name field.name ≡ b → free fields other ≡ (not b && free fields other)
    at true e = ap not (taken_alike fields other.name field.name e ∙ taken)
    at false e = refl

-- free after a field is free, and of another name
free_after : (fields : List RecordField) (field other : Field) → free (fields ++ record_field field ∷ []) other ≡ (other_name field other && free fields other)
free_after fields field other =
    ap not (taken_after fields field.name (field_text field.raw) other.name)
    ∙ at (same other.name crossref) (list_any (λ o. same o.0 other.name) fields) (same other.name field.name)
  where
    at : (p q b : Bool) → not (p || (q || (b || false))) ≡ (not b && not (p || q))
    at true q true = refl
    at true q false = refl
    at false true true = refl
    at false true false = refl
    at false false true = refl
    at false false false = refl

gathered_is : (fields : List RecordField) (xs : List Field) → with_fields fields xs ≡ fields ++ map record_field (filter (free fields) (effective xs))
gathered_is fields [] = sym (append-nil fields)
gathered_is fields (x ∷ xs) = at (is_taken fields x.name) refl (λ own. gathered_is own xs)
  where
    others : List Field
    others = filter (other_name x) (effective xs)

    at : (b : Bool) → is_taken fields x.name ≡ b → ((own : List RecordField) → with_fields own xs ≡ own ++ map record_field (filter (free own) (effective xs))) →
        with_fields (cond b fields (fields ++ record_field x ∷ [])) xs ≡ fields ++ map record_field (cond (not b) (x ∷ filter (free fields) others) (filter (free fields) others))
    at true e later =
        later fields
        ∙ ap (λ l. fields ++ map record_field l) (sym (filter_twice (free fields) (other_name x) (free fields) (λ other. free_other fields x other e) (effective xs)))
    at false e later =
        later (fields ++ record_field x ∷ [])
        ∙ append_assoc fields (record_field x ∷ []) (map record_field (filter (free (fields ++ record_field x ∷ [])) (effective xs)))
        ∙ ap (λ l. fields ++ record_field x ∷ map record_field l) (sym (filter_twice (free fields) (other_name x) (free (fields ++ record_field x ∷ [])) (free_after fields x) (effective xs)))

-- gathered fields are those that there were, and the own fields of the entry that they lack
pub gathered_missing : (fields : List RecordField) (xs : List Field) → with_fields fields xs ≡ fields ++ missing fields (map record_field (filter (λ field. not (has_name crossref field)) (effective xs)))
gathered_missing fields xs = gathered_is fields xs ∙ ap (λ l. fields ++ l) (sym (missing_is fields (effective xs)))

pub missing_all : (fields : List RecordField) → missing [] fields ≡ fields
missing_all fields = filter_all (λ _. true) (λ _. refl) fields

-- ---- a loop that gathers

-- `fields` has the fields gathered from the rows read so far; `rest` is still to be read
pub record IsGathering (macros : Macros) (old fields : List RecordField) (names : List (Text × Unit {0})) (all rest : List view.Field) : Type 0 where
  pub taken : AreTaken names fields
  pub readable : AllByRecursion (IsReadable macros) rest
  pub added : (rows : List Row) → AllZip IsFieldOf all rows →
      (later : List Row) × AllZip IsFieldOf rest later × (with_fields fields (map (field_of macros) later) ≡ with_fields old (map (field_of macros) rows))

pub gathering_more : (macros : Macros) (old fields more : List RecordField) (names others : List (Text × Unit {0})) (all rest : List view.Field) (f : view.Field)
    → IsGathering macros old fields names all (f ∷ rest) → AreTaken others more → OfValue f.value (λ v. more ≡ with_field fields (record { name = f.name; raw = raw_text macros v }))
    → IsGathering macros old more others all rest
gathering_more macros old fields more names others all rest f h taken is = record {
  taken = taken;
  readable = h.readable.1;
  added = λ rows zip. let w = h.added rows zip in step rows w.0 w.1 w.2;
}
  where
    step : (rows later : List Row) → AllZip IsFieldOf (f ∷ rest) later → with_fields fields (map (field_of macros) later) ≡ with_fields old (map (field_of macros) rows) →
        (further : List Row) × AllZip IsFieldOf rest further × (with_fields more (map (field_of macros) further) ≡ with_fields old (map (field_of macros) rows))
    step rows [] zip e = elim zip [ ]
    step rows (row ∷ further) zip e = (
      further,
      zip.1,
      ap (λ l. with_fields l (map (field_of macros) further)) (is row.assignment.value zip.0.is zip.0.value ∙ ap (λ (name : Text). with_field fields (record { name = name; raw = raw_text macros row.assignment.value })) zip.0.name) ∙ e,
    )

pub gathering_all : (macros : Macros) (old fields : List RecordField) (names : List (Text × Unit {0})) (all : List view.Field) → IsGathering macros old fields names all []
    → (rows : List Row) → AllZip IsFieldOf all rows → fields ≡ with_fields old (map (field_of macros) rows)
gathering_all macros old fields names all h rows zip = let w = h.added rows zip in done w.0 w.1 w.2
  where
    done : (later : List Row) → AllZip IsFieldOf [] later → with_fields fields (map (field_of macros) later) ≡ with_fields old (map (field_of macros) rows) → fields ≡ with_fields old (map (field_of macros) rows)
    done [] z e = e
    done (_ ∷ _) z e = elim z [ ]
