-- A merged entry that passes each check is a merge of three entries.
use Rattle.std.proofs.Common.{◌≡◌, Bool, true, false, ◌&&◌, ◌||◌, List, [], ◌∷◌, ◌++◌, map, None, Some, bytes_eq, if◌then◌else◌, refl, sym, ◌∙◌, ap, subst}
use Rattle.std.specs.List.{AllZip, list_all}
use Rattle.std.proofs.lemmas.Bool.{and_from, true≢false}
use Rattle.std.proofs.lemmas.List.Folds.{list_all-append}
use Rattle.bib_spec.specs.Text.{Text, is_space}
use Rattle.bib_spec.specs.Tree.{Row, Entry, Tree, CommentTree, DefinitionTree, PreambleTree, EntryTree}
use Rattle.bib_spec.specs.Texts.{Macros}
use Rattle.bib_spec.proofs.Names.{true-eq}
use Rattle.bib_scan.specs.declared.fields.FieldView.{FieldView}
use Rattle.bib_scan.specs.View.{field_seen, fields_of}
use Rattle.merge_spec.specs.ThreeWay as three
use Rattle.merge_spec.specs.ThreeWay.{is_type_of_three, is_row_of_three, end_in_space, entry_with}
use Rattle.merge_spec.specs.Conflicts.{is_single, parts_of_entries, parts_in_conflict, ChangedPart, Whole}
use Rattle.bib_sayings.specs.FieldTables.{names_of, IsTableFound, IsTableOfRows}
use Rattle.bib_sayings.proofs.Tables.{Table}
use Rattle.bib_sayings.proofs.EntriesAgree.{names-of_entry}
use Rattle.bib_fields.specs.declared.version.Version.{Version}
use Rattle.bib_fields.specs.declared.mix.Side.{Side}
use Rattle.bib_fields.specs.declared.mix.Side.TheVariants as side
use Rattle.bib_fields.specs.declared.mix.Mix.{Mix}
use Rattle.bib_fields.specs.Versions.{IsVersion, MayBeVersion}
use Rattle.bib_fields.specs.MixSeen.{of_side, type_in, key_in, row_seen, Mixes}
use Rattle.bib_fields.specs.Fields.{AreFields, IsMixedField}
use Rattle.bib_fields.proofs.RowFields.{entry-fields, names-seen, table-seen, mixed-fields, mixed-begin}

-- ---- types

pub type-ours : (b o t : Text) (same_bt same_ot same_bo : Bool) → (same_bt || same_ot) ≡ true → ((bytes_eq o o && (same_bt || same_ot)) || (bytes_eq o t && same_bo)) ≡ true
type-ours b o t same_bt same_ot same_bo is = ap (λ x. x || (bytes_eq o t && same_bo)) (and_from _ _ (true-eq o o refl) is)

pub type-theirs : (b o t : Text) (ours same_bo : Bool) → same_bo ≡ true → (ours || (bytes_eq t t && same_bo)) ≡ true
type-theirs b o t true same_bo is = refl
type-theirs b o t false same_bo is = and_from _ _ (true-eq t t refl) is

-- ---- names

names-append : (a b : List Row) → three.names_of (a ++ b) ≡ three.names_of a ++ three.names_of b
names-append [] b = refl
names-append (row ∷ a) b = ap (λ l. row.assignment.name ∷ l) (names-append a b)

all-both : (test : Text → Bool) (a b : List Row) → list_all test (three.names_of a) ≡ true → list_all test (three.names_of b) ≡ true → list_all test (three.names_of (a ++ b)) ≡ true
all-both test a b one other = ap (list_all test) (names-append a b) ∙ list_all-append test (three.names_of a) (three.names_of b) ∙ and_from _ _ one other

-- a test of the names of four lists of rows
pub all-four : (test : Text → Bool) (b o t rows : List Row) (nb ne nt nr : List Text) → nb ≡ three.names_of b → ne ≡ three.names_of o → nt ≡ three.names_of t → nr ≡ three.names_of rows →
    list_all test nb ≡ true → list_all test ne ≡ true → list_all test nt ≡ true → list_all test nr ≡ true → list_all test (three.names_of (b ++ o ++ t ++ rows)) ≡ true
all-four test b o t rows nb ne nt nr is_b is_o is_t is_r all_b all_o all_t all_r =
    all-both test ((b ++ o) ++ t) rows (all-both test (b ++ o) t (all-both test b o (sym (ap (list_all test) is_b) ∙ all_b) (sym (ap (list_all test) is_o) ∙ all_o)) (sym (ap (list_all test) is_t) ∙ all_t))
    (sym (ap (list_all test) is_r) ∙ all_r)

-- the names of a version
pub version-names : (v : Version) (macros : Macros) (e : Entry) → IsVersion v macros e → names_of (map field_seen v.fields.items) ≡ three.names_of e.rows
version-names v macros e is = ap names_of is.fields ∙ names-of_entry e (fields_of (EntryTree e)) is.is refl

pub version-fields : (v : Version) (macros : Macros) (e : Entry) → IsVersion v macros e → AreFields v.fields.items e.rows
version-fields v macros e is = entry-fields v.fields.items e is.is is.fields

-- ---- the whole

module _ (mb mo mt : Macros) (eb eo et : Entry) where
  -- the key is one of the two
  key-of : (s : Side) → (bytes_eq (key_in (of_side s (Some (mo, eo)) (Some (mt, et)))) eo.key || bytes_eq (key_in (of_side s (Some (mo, eo)) (Some (mt, et)))) et.key) ≡ true
  key-of side.Ours = ap (λ x. x || bytes_eq eo.key et.key) (true-eq eo.key eo.key refl)
  key-of side.Theirs = or_true (bytes_eq et.key eo.key) (bytes_eq et.key et.key) (true-eq et.key et.key refl)
    where
      or_true : (a b : Bool) → b ≡ true → (a || b) ≡ true
      or_true true b is = refl
      or_true false b is = is

  type-of : (s : Side) → is_type_of_three eb.opening.head.type_name eo.opening.head.type_name et.opening.head.type_name (of_side s eo.opening.head.type_name et.opening.head.type_name) ≡ true →
      is_type_of_three eb.opening.head.type_name eo.opening.head.type_name et.opening.head.type_name (type_in (of_side s (Some (mo, eo)) (Some (mt, et)))) ≡ true
  type-of side.Ours is = is
  type-of side.Theirs is = is

  pub mixed-is : (mix : Mix) (fields : List FieldView) (table : Table) (tb to tt' : Text) → is_single eb ≡ true → is_single eo ≡ true → is_single et ≡ true → tb ≡ eb.opening.head.type_name → to ≡ eo.opening.head.type_name →
      tt' ≡ et.opening.head.type_name → is_type_of_three tb to tt' (of_side mix.kind to tt') ≡ true → list_all is_space mix.space.now ≡ true → end_in_space (map (row_seen eo.rows et.rows) mix.rows.now) ≡ true →
      AllZip (IsMixedField eo.rows et.rows) fields mix.rows.now → IsTableFound (Some table) (map field_seen fields) →
      ((rows : List Row) → IsTableOfRows table rows → names_of (map field_seen fields) ≡ three.names_of rows → list_all (is_row_of_three mb eb mo eo mt et rows) (three.names_of (eb.rows ++ eo.rows ++ et.rows ++ rows)) ≡ true) →
      Mixes (Some (mb, eb)) (Some (mo, eo)) (Some (mt, et)) mix
  mixed-is mix fields table tb to tt' single_b single_o single_t is_tb is_to is_tt type_is white ends zip found all =
      let rows : List Row = map (row_seen eo.rows et.rows) mix.rows.now in
      let are : AreFields fields rows = mixed-fields eo.rows et.rows fields mix.rows.now zip in
      let names = names-seen fields rows are in
      let types = subst (λ (x : Text). is_type_of_three x eo.opening.head.type_name et.opening.head.type_name (of_side mix.kind eo.opening.head.type_name et.opening.head.type_name) ≡ true) is_tb
      (subst (λ (x : Text). is_type_of_three tb x et.opening.head.type_name (of_side mix.kind x et.opening.head.type_name) ≡ true) is_to
      (subst (λ (x : Text). is_type_of_three tb to x (of_side mix.kind to x) ≡ true) is_tt type_is)) in
      and_from _ _ (and_from _ _ (and_from _ _ (and_from _ _ (and_from _ _ (and_from _ _ (and_from _ _ (and_from _ _ (and_from _ _ single_b single_o) single_t)
      (sym (ap three.are_single names) ∙ found.0)) (type-of mix.kind types)) (key-of mix.key)) white) ends) (mixed-begin eo.rows et.rows fields mix.rows.now zip)) (all rows (table-seen table fields rows are found) names)

-- ---- items

-- what is said of three versions, said of their items
pub three-items : (mb mo mt : Macros) (b o t : Tree) (vb vo vt : Version) (mix : Mix) → MayBeVersion (Some vb) mb b → MayBeVersion (Some vo) mo o → MayBeVersion (Some vt) mt t →
    ((nb ne nt : Macros) (eb eo et : Entry) → IsVersion vb nb eb → IsVersion vo ne eo → IsVersion vt nt et → Mixes (Some (nb, eb)) (Some (ne, eo)) (Some (nt, et)) mix) →
    Mixes (entry_with mb (Some b)) (entry_with mo (Some o)) (entry_with mt (Some t)) mix
three-items mb mo mt b o t vb vo vt mix is_b is_o is_t says =
    subst (λ (x : Tree). Mixes (entry_with mb (Some x)) (entry_with mo (Some o)) (entry_with mt (Some t)) mix) (sym is_b.1)
    (subst (λ (x : Tree). Mixes (Some (mb, is_b.0)) (entry_with mo (Some x)) (entry_with mt (Some t)) mix) (sym is_o.1)
    (subst (λ (x : Tree). Mixes (Some (mb, is_b.0)) (Some (mo, is_o.0)) (entry_with mt (Some x)) mix) (sym is_t.1) (says mb mo mt is_b.0 is_o.0 is_t.0 is_b.2 is_o.2 is_t.2)))

-- the parts in conflict of three versions are those of their items
pub three-parts : (mb mo mt : Macros) (b o t : Tree) (vb vo vt : Version) (parts : List ChangedPart) → MayBeVersion (Some vb) mb b → MayBeVersion (Some vo) mo o → MayBeVersion (Some vt) mt t →
    ((nb ne nt : Macros) (eb eo et : Entry) → IsVersion vb nb eb → IsVersion vo ne eo → IsVersion vt nt et → parts ≡ parts_of_entries nb eb ne eo nt et) →
    parts ≡ parts_in_conflict (entry_with mb (Some b)) (entry_with mo (Some o)) (entry_with mt (Some t))
three-parts mb mo mt b o t vb vo vt parts is_b is_o is_t says =
    subst (λ (x : Tree). parts ≡ parts_in_conflict (entry_with mb (Some x)) (entry_with mo (Some o)) (entry_with mt (Some t))) (sym is_b.1)
    (subst (λ (x : Tree). parts ≡ parts_in_conflict (Some (mb, is_b.0)) (entry_with mo (Some x)) (entry_with mt (Some t))) (sym is_o.1)
    (subst (λ (x : Tree). parts ≡ parts_in_conflict (Some (mb, is_b.0)) (Some (mo, is_o.0)) (entry_with mt (Some x))) (sym is_t.1) (says mb mo mt is_b.0 is_o.0 is_t.0 is_b.2 is_o.2 is_t.2)))

-- if one of the three has no version, the whole is in conflict
module _ (mb mo mt : Macros) where
  whole-of : (single : Bool) (parts : List ChangedPart) → single ≡ false → Whole ∷ [] ≡ (if single then parts else Whole ∷ [])
  whole-of single parts is = sym (ap (λ x. if x then parts else Whole ∷ []) is)

  first-false : (b o t : Bool) → b ≡ false → (b && o && t) ≡ false
  first-false true o t is = absurd (true≢false is)
  first-false false o t is = refl

  second-false : (b o t : Bool) → o ≡ false → (b && o && t) ≡ false
  second-false true true t is = absurd (true≢false is)
  second-false true false t is = refl
  second-false false o t is = refl

  third-false : (b o t : Bool) → t ≡ false → (b && o && t) ≡ false
  third-false true true t is = is
  third-false true false t is = refl
  third-false false o t is = refl

  pub no-first : (b o t : Tree) → MayBeVersion None mb b → Whole ∷ [] ≡ parts_in_conflict (entry_with mb (Some b)) (entry_with mo (Some o)) (entry_with mt (Some t))
  no-first (CommentTree h) o t is = refl
  no-first (DefinitionTree d) o t is = refl
  no-first (PreambleTree p) o t is = refl
  no-first (EntryTree eb) (CommentTree h) t is = refl
  no-first (EntryTree eb) (DefinitionTree d) t is = refl
  no-first (EntryTree eb) (PreambleTree p) t is = refl
  no-first (EntryTree eb) (EntryTree eo) (CommentTree h) is = refl
  no-first (EntryTree eb) (EntryTree eo) (DefinitionTree d) is = refl
  no-first (EntryTree eb) (EntryTree eo) (PreambleTree p) is = refl
  no-first (EntryTree eb) (EntryTree eo) (EntryTree et) is = whole-of _ _ (first-false (is_single eb) (is_single eo) (is_single et) (is eb refl))

  pub no-second : (b o t : Tree) → MayBeVersion None mo o → Whole ∷ [] ≡ parts_in_conflict (entry_with mb (Some b)) (entry_with mo (Some o)) (entry_with mt (Some t))
  no-second (CommentTree h) o t is = refl
  no-second (DefinitionTree d) o t is = refl
  no-second (PreambleTree p) o t is = refl
  no-second (EntryTree eb) (CommentTree h) t is = refl
  no-second (EntryTree eb) (DefinitionTree d) t is = refl
  no-second (EntryTree eb) (PreambleTree p) t is = refl
  no-second (EntryTree eb) (EntryTree eo) (CommentTree h) is = refl
  no-second (EntryTree eb) (EntryTree eo) (DefinitionTree d) is = refl
  no-second (EntryTree eb) (EntryTree eo) (PreambleTree p) is = refl
  no-second (EntryTree eb) (EntryTree eo) (EntryTree et) is = whole-of _ _ (second-false (is_single eb) (is_single eo) (is_single et) (is eo refl))

  pub no-third : (b o t : Tree) → MayBeVersion None mt t → Whole ∷ [] ≡ parts_in_conflict (entry_with mb (Some b)) (entry_with mo (Some o)) (entry_with mt (Some t))
  no-third (CommentTree h) o t is = refl
  no-third (DefinitionTree d) o t is = refl
  no-third (PreambleTree p) o t is = refl
  no-third (EntryTree eb) (CommentTree h) t is = refl
  no-third (EntryTree eb) (DefinitionTree d) t is = refl
  no-third (EntryTree eb) (PreambleTree p) t is = refl
  no-third (EntryTree eb) (EntryTree eo) (CommentTree h) is = refl
  no-third (EntryTree eb) (EntryTree eo) (DefinitionTree d) is = refl
  no-third (EntryTree eb) (EntryTree eo) (PreambleTree p) is = refl
  no-third (EntryTree eb) (EntryTree eo) (EntryTree et) is = whole-of _ _ (third-false (is_single eb) (is_single eo) (is_single et) (is et refl))
