-- The parts in conflict, one after another.
use Rattle.std.proofs.Common.{◌≡◌, ℕ, ◌+◌, ◌<◌, Bool, true, false, not, ◌&&◌, cond, if◌then◌else◌, List, [], ◌∷◌, ◌++◌, length, take, get_or, map, filter, Option, None, Some, is_some, is_none, find, option_map, refl, sym, ◌∙◌, ap, ap₂, append_assoc, append-nil}
use Rattle.std.specs.Borrow.{Bor}
use Rattle.std.specs.Option.{option_copied}
use Rattle.std.proofs.lemmas.Bool.{true≢false}
use Rattle.std.proofs.lemmas.List.{take_more}
use Rattle.std.proofs.lemmas.List.Elements.{filter-append}
use Rattle.bib_spec.specs.Text.{Text, folded}
use Rattle.bib_spec.specs.Tree.{Row, Entry, value_bytes}
use Rattle.bib_spec.specs.Texts.{Macros}
use Rattle.bib_scan.specs.declared.fields.FieldView.{FieldView}
use Rattle.bib_scan.specs.View.{field_seen}
use Rattle.folded_map.specs.FoldedMap.{value_at}
use Rattle.merge_spec.specs.ThreeWay as three
use Rattle.merge_spec.specs.ThreeWay.{is_row}
use Rattle.merge_spec.specs.Conflicts.{ChangedPart, Whole, TheType, TheField, is_in_conflict, is_lacking, is_single, is_type_in_conflict, type_in_conflict, fields_in_conflict, or_whole, parts_of_entries}
use Rattle.bib_sayings.specs.FieldTables.{names_of}
use Rattle.bib_fields.specs.declared.version.Version.{Version}
use Rattle.bib_fields.specs.Versions.{IsVersion}
use Rattle.bib_fields.specs.PartsSeen.{told}

map-append : {A B : Type 0} (f : A → B) (xs ys : List A) → map f (xs ++ ys) ≡ map f xs ++ map f ys
map-append f [] ys = refl
map-append f (x ∷ xs) ys = ap (λ l. f x ∷ l) (map-append f xs ys)

-- one name more
pub names-more : (fields : List FieldView) (k : ℕ) (f : FieldView) → k < length fields → names_of (map field_seen (take (k + 1) fields)) ≡ names_of (map field_seen (take k fields)) ++ (get_or fields k f).name.now ∷ []
names-more fields k f lt =
    ap (λ (l : List FieldView). names_of (map field_seen l)) (take_more fields k f lt) ∙ ap names_of (map-append field_seen (take k fields) (get_or fields k f ∷ []))
    ∙ map-append (λ field. field.name) (map field_seen (take k fields)) (field_seen (get_or fields k f) ∷ [])

module _ (mb : Macros) (eb : Entry) (mo : Macros) (eo : Entry) (mt : Macros) (et : Entry) where
  abbrev tells : List Text → List ChangedPart
  tells names = told mb eb mo eo mt et names

  told-append : (a b : List Text) → tells (a ++ b) ≡ tells a ++ tells b
  told-append a b = ap (map (λ name. TheField (folded name))) (filter-append (is_in_conflict mb eb mo eo mt et) a b) ∙ map-append (λ name. TheField (folded name)) (filter (is_in_conflict mb eb mo eo mt et) a) (filter (is_in_conflict mb eb mo eo mt et) b)

  -- a field in conflict, and another
  pub told-one : (old new : List ChangedPart) (name lower : Text) (is : Bool) → is ≡ is_in_conflict mb eb mo eo mt et name → is ≡ true → lower ≡ folded name → new ≡ old ++ TheField lower ∷ [] → new ≡ old ++ tells (name ∷ [])
  told-one old new name lower is same yes' folds added = added ∙ ap (λ l. old ++ l) (ap (λ t. TheField t ∷ []) folds ∙ sym (kept (is_in_conflict mb eb mo eo mt et name) (sym same ∙ yes')))
    where
      kept : (b : Bool) → b ≡ true → map (λ n. TheField (folded n)) (cond b (name ∷ []) []) ≡ TheField (folded name) ∷ []
      kept true e = refl
      kept false e = cc

  pub told-none : (old : List ChangedPart) (name : Text) (is : Bool) → is ≡ is_in_conflict mb eb mo eo mt et name → is ≡ false → old ≡ old ++ tells (name ∷ [])
  told-none old name is same none = sym (ap (λ l. old ++ l) (left (is_in_conflict mb eb mo eo mt et name) (sym same ∙ none)) ∙ append-nil old)
    where
      left : (b : Bool) → b ≡ false → map (λ n. TheField (folded n)) (cond b (name ∷ []) []) ≡ []
      left true e = cc
      left false e = refl

  -- one name more of those that are told
  pub told-more : (first old new : List ChangedPart) (names more next : List Text) → more ≡ names ++ next → new ≡ old ++ tells next → old ≡ first ++ tells names → new ≡ first ++ tells more
  told-more first old new names more next is added so_far =
      added ∙ ap (λ l. l ++ tells next) so_far ∙ append_assoc first (tells names) (tells next) ∙ ap (λ l. first ++ l) (sym (told-append names next) ∙ ap tells (sym is))

  -- a field that we lack, and another
  pub told-lacking : (old new : List ChangedPart) (name : Text) (lacks : Bool) → lacks ≡ is_lacking eo.rows name → lacks ≡ true → new ≡ old ++ tells (name ∷ []) → new ≡ old ++ tells (filter (is_lacking eo.rows) (name ∷ []))
  told-lacking old new name lacks is yes' added = added ∙ ap (λ l. old ++ tells l) (sym (kept (is_lacking eo.rows name) (sym is ∙ yes')))
    where
      kept : (b : Bool) → b ≡ true → (cond b (name ∷ []) []) ≡ name ∷ []
      kept true e = refl
      kept false e = cc

  pub told-having : (old : List ChangedPart) (name : Text) (lacks : Bool) → lacks ≡ is_lacking eo.rows name → lacks ≡ false → old ≡ old ++ tells (filter (is_lacking eo.rows) (name ∷ []))
  told-having old name lacks is none = sym (ap (λ l. old ++ tells l) (left (is_lacking eo.rows name) (sym is ∙ none)) ∙ append-nil old)
    where
      left : (b : Bool) → b ≡ false → (cond b (name ∷ []) []) ≡ []
      left true e = cc
      left false e = refl

-- the answer to whether something is absent
pub none-of : {X : Type 0} (o : Option X) (b : Bool) → is_some o ≡ not b → b ≡ is_none o
none-of None true is = refl
none-of None false is = absurd (true≢false (sym is))
none-of (Some x) true is = absurd (true≢false is)
none-of (Some x) false is = refl

-- whether the table has a value is whether the entry has the field
pub lacks : (v : Version) (macros : Macros) (e : Entry) (name : Text) (x : Option (Bor (Bor Text))) → IsVersion v macros e → option_copied x ≡ value_at v.table (folded name) → is_none x ≡ is_lacking e.rows name
lacks v macros e name x is x_is =
    sym (copied x) ∙ ap is_none x_is ∙ sym (copied (value_at v.table (folded name))) ∙ ap is_none (is.table.named name) ∙ mapped (find (is_row name) e.rows)
  where
    copied : {A : Type 0} (o : Option (Bor A)) → is_none (option_copied o) ≡ is_none o
    copied None = refl
    copied (Some b) = refl

    mapped : (o : Option Row) → is_none (option_map (λ row. value_bytes row.assignment.value) o) ≡ is_none o
    mapped None = refl
    mapped (Some row) = refl

-- the names of fields that a side lacks, one more
pub lacking-more : (rows : List Row) (fields : List FieldView) (k : ℕ) (f : FieldView) → k < length fields →
    filter (is_lacking rows) (names_of (map field_seen (take (k + 1) fields))) ≡ filter (is_lacking rows) (names_of (map field_seen (take k fields))) ++ filter (is_lacking rows) ((get_or fields k f).name.now ∷ [])
lacking-more rows fields k f lt = ap (filter (is_lacking rows)) (names-more fields k f lt) ∙ filter-append (is_lacking rows) (names_of (map field_seen (take k fields))) ((get_or fields k f).name.now ∷ [])

-- ---- the whole

pub types-told : (eb eo et : Entry) (b o t : Text) (parts : List ChangedPart) → b ≡ eb.opening.head.type_name → o ≡ eo.opening.head.type_name → t ≡ et.opening.head.type_name →
    parts ≡ (if is_type_in_conflict b o t then TheType ∷ [] else []) → parts ≡ type_in_conflict eb eo et
types-told eb eo et b o t parts is_b is_o is_t is =
    is ∙ ap₂ (λ (x y : Text). if is_type_in_conflict x y t then TheType ∷ [] else []) is_b is_o
    ∙ ap (λ (x : Text). if is_type_in_conflict eb.opening.head.type_name eo.opening.head.type_name x then TheType ∷ [] else []) is_t

pub parts-told : (mb : Macros) (eb : Entry) (mo : Macros) (eo : Entry) (mt : Macros) (et : Entry) (start ours theirs parts : List ChangedPart) (ne nt : List Text) → is_single eb ≡ true → is_single eo ≡ true → is_single et ≡ true →
    start ≡ type_in_conflict eb eo et → ne ≡ three.names_of eo.rows → nt ≡ three.names_of et.rows → ours ≡ start ++ told mb eb mo eo mt et ne → theirs ≡ ours ++ told mb eb mo eo mt et (filter (is_lacking eo.rows) nt) →
    parts ≡ or_whole theirs → parts ≡ parts_of_entries mb eb mo eo mt et
parts-told mb eb mo eo mt et start ours theirs parts ne nt single_b single_o single_t starts is_o is_t add_o add_t whole =
    whole ∙ ap or_whole
    (add_t ∙ ap (λ l. l ++ told mb eb mo eo mt et (filter (is_lacking eo.rows) nt)) (add_o ∙ ap (λ l. l ++ told mb eb mo eo mt et ne) starts)
    ∙ append_assoc (type_in_conflict eb eo et) (told mb eb mo eo mt et ne) (told mb eb mo eo mt et (filter (is_lacking eo.rows) nt))
    ∙ ap (λ l. type_in_conflict eb eo et ++ l)
    (ap₂ (λ a b. told mb eb mo eo mt et a ++ told mb eb mo eo mt et (filter (is_lacking eo.rows) b)) is_o is_t ∙ sym (told-append mb eb mo eo mt et (three.names_of eo.rows) (filter (is_lacking eo.rows) (three.names_of et.rows)))))
    ∙ sym (ap₂ (λ x y. if x && y && is_single et then or_whole (type_in_conflict eb eo et ++ fields_in_conflict mb eb mo eo mt et) else Whole ∷ []) single_b single_o
    ∙ ap (λ x. if true && true && x then or_whole (type_in_conflict eb eo et ++ fields_in_conflict mb eb mo eo mt et) else Whole ∷ []) single_t)
