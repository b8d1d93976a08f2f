-- Fields of the code and the rows that they are of.
use Rattle.std.proofs.Common.{◌≡◌, ℕ, zero, suc, ◌+◌, ◌<◌, ◌≤◌, Bool, true, false, ◌||◌, ◌&&◌, List, [], ◌∷◌, ◌++◌, map, Option, Some, slice_get, get_or, drop, length, bytes_eq, refl, sym, ◌∙◌, ap, subst}
use Rattle.std.specs.Prelude.{IfSome}
use Rattle.std.specs.List.{AllZip, list_all}
use Rattle.std.specs.Borrow.{Bor}
use Rattle.std.proofs.lemmas.Bool.{and_from, and_parts}
use Rattle.std.proofs.lemmas.List.{drop_more, drop_all}
use Rattle.std.proofs.lemmas.List.Folds.{list_any-append}
use Rattle.bib_spec.proofs.Names.{true-eq}
use Rattle.bib_spec.specs.Bytes.{name_limit}
use Rattle.bib_spec.specs.Text.{Text, is_space}
use Rattle.bib_spec.specs.Tree.{Row, Entry, EntryTree, IsEntry}
use Rattle.bib_spec.specs.Texts.{row_start}
use Rattle.bib_scan.specs.declared.fields.FieldView.{FieldView}
use Rattle.bib_scan.specs.View.{Field, field_seen, fields_of}
use Rattle.bib_store.specs.Gathering.{IsFieldOf}
use Rattle.merge_spec.specs.ThreeWay as three
use Rattle.merge_spec.specs.ThreeWay.{begin_as, end_in_space}
use Rattle.bib_sayings.specs.FieldTables.{names_of, IsTableFound, IsTableOfRows}
use Rattle.bib_sayings.proofs.Tables.{Table, IsTabling, tabling-all}
use Rattle.bib_sayings.proofs.EntriesAgree.{fields-rows, names-rows, named-row, values-of}
use Rattle.bib_fields.specs.declared.mix.Side.{Side}
use Rattle.bib_fields.specs.declared.mix.Side.TheVariants as side
use Rattle.bib_fields.specs.declared.mix.RowOf.{RowOf}
use Rattle.bib_fields.specs.declared.mix.MixedRow.{MixedRow}
use Rattle.bib_fields.specs.MixSeen.{of_side, row_at, row_of, row_seen}
use Rattle.bib_fields.specs.Fields.{IsField, AreFields, IsFieldAt, begins_as, IsMixedField}

-- what holds of something that is there
pub some-of : {X : Type 0} (o : Option X) (x : X) (P : X → Type 0) → o ≡ Some x → IfSome o P → P x
some-of o x P is holds = subst (λ p. IfSome p P) is holds

-- the same fields, as the definitions have them
pub seen-zip : (fields : List FieldView) (rows : List Row) → AreFields fields rows → AllZip IsFieldOf (map field_seen fields) rows
seen-zip [] [] are = tt
seen-zip [] (row ∷ rows) are = absurd are
seen-zip (f ∷ fields) [] are = absurd are
seen-zip (f ∷ fields) (row ∷ rows) are = (are.0, seen-zip fields rows are.1)

zip-seen : (fields : List FieldView) (rows : List Row) → AllZip IsFieldOf (map field_seen fields) rows → AreFields fields rows
zip-seen [] [] are = tt
zip-seen [] (row ∷ rows) are = absurd are
zip-seen (f ∷ fields) [] are = absurd are
zip-seen (f ∷ fields) (row ∷ rows) are = (are.0, zip-seen fields rows are.1)

-- the fields of an entry are those of its rows
pub entry-fields : (fields : List FieldView) (e : Entry) → IsEntry name_limit e → map field_seen fields ≡ fields_of (EntryTree e) → AreFields fields e.rows
entry-fields fields e is are = zip-seen fields e.rows (subst (λ (l : List Field). AllZip IsFieldOf l e.rows) (sym are) (fields-rows e is))

-- the names of fields are those of the rows
pub names-seen : (fields : List FieldView) (rows : List Row) → AreFields fields rows → names_of (map field_seen fields) ≡ three.names_of rows
names-seen fields rows are = names-rows (map field_seen fields) rows (seen-zip fields rows are)

-- the table of fields is one of the rows
pub table-seen : (table : List (Text × Bor Text)) (fields : List FieldView) (rows : List Row) → AreFields fields rows → IsTableFound (Some table) (map field_seen fields) → IsTableOfRows table rows
table-seen table fields rows are found =
    let zip = seen-zip fields rows are in
    record { named = λ name. found.1 name ∙ named-row name (map field_seen fields) rows zip; values = values-of (map field_seen fields) rows zip }

-- ---- a row by its number

-- the field with this number is that of the row
pub field-at : (fields : List FieldView) (rows : List Row) (n : ℕ) (f : FieldView) → AreFields fields rows → slice_get fields n ≡ Some f → (slice_get rows n ≡ Some (row_at rows n)) × IsField f (row_at rows n)
field-at [] rows n f are at = cc
field-at (x ∷ fields) [] n f are at = absurd are
field-at (x ∷ fields) (r ∷ rows) zero f are at = let same : x ≡ f = cc in (refl, subst (λ g. IsField g r) same are.0)
field-at (x ∷ fields) (r ∷ rows) (suc n) f are at = field-at fields rows n f are.1 at

-- a row that is there begins as one that is there
begins-there : (rows : List Row) (n : ℕ) (row : Row) → slice_get rows n ≡ Some row → begins_as rows row ≡ true
begins-there [] n row at = cc
begins-there (r ∷ rows) zero row at =
    let same : r ≡ row = cc in ap (λ b. b || begins_as rows row) (ap (λ s. bytes_eq (row_start row) (row_start s)) same ∙ true-eq (row_start row) (row_start row) refl)
begins-there (r ∷ rows) (suc n) row at = ap (λ b. bytes_eq (row_start row) (row_start r) || b) (begins-there rows n row at) ∙ or_true (bytes_eq (row_start row) (row_start r))
  where
    or_true : (b : Bool) → (b || true) ≡ true
    or_true true = refl
    or_true false = refl

-- a row of a side begins as one of the two sides
pub begins-either : (o t : List Row) (which : Side) (n : ℕ) (row : Row) → slice_get (of_side which o t) n ≡ Some row → begins_as (o ++ t) row ≡ true
begins-either o t which n row at = list_any-append (λ other. bytes_eq (row_start row) (row_start other)) o t ∙ on which at
  where
    or_true : (b : Bool) → (b || true) ≡ true
    or_true true = refl
    or_true false = refl

    on : (s : Side) → slice_get (of_side s o t) n ≡ Some row → (begins_as o row || begins_as t row) ≡ true
    on side.Ours there = ap (λ b. b || begins_as t row) (begins-there o n row there)
    on side.Theirs there = ap (λ b. begins_as o row || b) (begins-there t n row there) ∙ or_true (begins_as o row)

-- the field of a row of a side
pub field-there : (ours theirs fields : List FieldView) (o t : List Row) (r : RowOf) (f : FieldView) → AreFields ours o → AreFields theirs t → fields ≡ of_side r.side ours theirs → slice_get fields r.n ≡ Some f → IsFieldAt o t f r
field-there ours theirs fields o t r f are_o are_t which at =
    let got = field-at (of_side r.side ours theirs) (of_side r.side o t) r.n f (on r.side) (ap (λ (l : List FieldView). slice_get l r.n) (sym which) ∙ at) in
    record { there = got.0; of = got.1 }
  where
    on : (s : Side) → AreFields (of_side s ours theirs) (of_side s o t)
    on side.Ours = are_o
    on side.Theirs = are_t

-- the field of a merged row
pub mixed-field : (o t : List Row) (m : MixedRow) (start value field : FieldView) → IsFieldAt o t start m.start → IsFieldAt o t value m.value → field.name.now ≡ start.name.now → field.value.now ≡ value.value.now → IsMixedField o t field m
mixed-field o t m start value field is_start is_value name_is value_is = record {
  of = record { name = name_is ∙ is_start.of.name; is = is_value.of.is; value = is_value.of.value ∙ sym value_is };
  begins = begins-either o t m.start.side m.start.n (row_of o t m.start) is_start.there;
}

-- ---- merged rows

pub mixed-fields : (o t : List Row) (fields : List FieldView) (rows : List MixedRow) → AllZip (IsMixedField o t) fields rows → AreFields fields (map (row_seen o t) rows)
mixed-fields o t [] [] all = tt
mixed-fields o t [] (row ∷ rows) all = absurd all
mixed-fields o t (f ∷ fields) [] all = absurd all
mixed-fields o t (f ∷ fields) (row ∷ rows) all = (all.0.of, mixed-fields o t fields rows all.1)

pub mixed-begin : (o t : List Row) (fields : List FieldView) (rows : List MixedRow) → AllZip (IsMixedField o t) fields rows → begin_as (map (row_seen o t) rows) (o ++ t) ≡ true
mixed-begin o t [] [] all = refl
mixed-begin o t [] (row ∷ rows) all = absurd all
mixed-begin o t (f ∷ fields) [] all = absurd all
mixed-begin o t (f ∷ fields) (row ∷ rows) all = and_from _ _ all.0.begins (mixed-begin o t fields rows all.1)

-- the white space after merged rows
pub spaces-seen : (o t : List Row) (rows : List MixedRow) → list_all (λ (row : MixedRow). list_all is_space row.space) rows ≡ true → end_in_space (map (row_seen o t) rows) ≡ true
spaces-seen o t [] all = refl
spaces-seen o t (row ∷ rows) all = let parts = and_parts _ _ all in and_from _ _ parts.0 (spaces-seen o t rows parts.1)

-- a test of the names of fields
pub names-all : (test : Text → Bool) (fields : List FieldView) → list_all test (names_of (map field_seen fields)) ≡ list_all (λ (f : FieldView). test f.name.now) fields
names-all test [] = refl
names-all test (f ∷ fields) = ap (λ b. test f.name.now && b) (names-all test fields)

-- ---- tables

pub next-field : (all : List Field) (fields : List FieldView) (k : ℕ) (f : FieldView) (table : Table) → k < length fields → IsTabling all (map field_seen (drop k fields)) table →
    IsTabling all (field_seen (get_or fields k f) ∷ map field_seen (drop (k + 1) fields)) table
next-field all fields k f table lt tabling = subst (λ (l : List FieldView). IsTabling all (map field_seen l) table) (drop_more fields k f lt) tabling

pub tabled : (fields : List FieldView) (k : ℕ) (table : Table) → length fields ≤ k → IsTabling (map field_seen fields) (map field_seen (drop k fields)) table → IsTableFound (Some table) (map field_seen fields)
tabled fields k table past tabling = tabling-all (map field_seen fields) table (subst (λ (l : List FieldView). IsTabling (map field_seen fields) (map field_seen l) table) (drop_all k fields past) tabling)
