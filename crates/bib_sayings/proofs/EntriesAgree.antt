-- Entries that agree, by their tables.
use Rattle.std.proofs.Common.{◌≡◌, Bool, true, false, cond, ◌&&◌, List, [], ◌∷◌, ◌++◌, Option, None, Some, find, option_map, refl, sym, ◌∙◌, ap, ap₂, subst}
use Rattle.std.specs.Borrow.{Bor}
use Rattle.std.specs.List.{AllByRecursion, AllZip}
use Rattle.std.proofs.lemmas.List.Folds.{list_all-append}
use Rattle.std.proofs.lemmas.List.Elements.{recursion_from_All}
use Rattle.bib_spec.specs.Bytes.{name_limit}
use Rattle.bib_spec.specs.Text.{Text, same}
use Rattle.bib_spec.specs.Tree.{Row, Entry, IsValue, IsEntry, IsRow, IsTree, IsDefinition, Definition, Tree, CommentTree, DefinitionTree, PreambleTree, EntryTree, value_bytes, opening_bytes}
use Rattle.bib_spec.specs.Reading.{Item}
use Rattle.bib_spec.specs.Texts.{Macros}
use Rattle.bib_scan.specs.declared.view.Kind.TheVariants as kind
use Rattle.bib_scan.specs.View.{Field, View, view_of, kind_of, fields_of}
use Rattle.bib_store.specs.Gathering.{IsFieldOf}
use Rattle.bib_store.proofs.ReadableFields.{zip_rows}
use Rattle.merge_spec.specs.ThreeWay as three
use Rattle.merge_spec.specs.ThreeWay.{is_row, are_single, agree_on, entries_agree, definitions_agree, trees_agree}
use Rattle.bib_sayings.specs.FieldTables.{names_of, value_named, IsTableFound, IsTableOfRows}

-- the fields of an entry are those of its rows
pub fields-rows : (e : Entry) → IsEntry name_limit e → AllZip IsFieldOf (fields_of (EntryTree e)) e.rows
fields-rows e is = zip_rows (opening_bytes e.opening ++ e.key ++ e.space_after_key) e.rows (recursion_from_All (IsRow name_limit) e.rows is.rows)

pub names-rows : (fields : List Field) (rows : List Row) → AllZip IsFieldOf fields rows → names_of fields ≡ three.names_of rows
names-rows [] [] zip = refl
names-rows [] (row ∷ rows) zip = absurd zip
names-rows (f ∷ fields) [] zip = absurd zip
names-rows (f ∷ fields) (row ∷ rows) zip = ap₂ (λ (n : Text) (l : List Text). n ∷ l) zip.0.name (names-rows fields rows zip.1)

pub named-row : (name : Text) (fields : List Field) (rows : List Row) → AllZip IsFieldOf fields rows → value_named fields name ≡ option_map (λ row. value_bytes row.assignment.value) (find (is_row name) rows)
named-row name [] [] zip = refl
named-row name [] (row ∷ rows) zip = absurd zip
named-row name (f ∷ fields) [] zip = absurd zip
named-row name (f ∷ fields) (row ∷ rows) zip =
    ap (λ (n : Text). option_map (λ field. field.value) (cond (same n name) (Some f) (find (λ field. same field.name name) fields))) zip.0.name
    ∙ at (same row.assignment.name name) (named-row name fields rows zip.1)
  where
    at : (b : Bool) → value_named fields name ≡ option_map (λ r. value_bytes r.assignment.value) (find (is_row name) rows) →
        option_map (λ field. field.value) (cond b (Some f) (find (λ field. same field.name name) fields)) ≡ option_map (λ r. value_bytes r.assignment.value) (cond b (Some row) (find (is_row name) rows))
    at true later = ap Some (sym zip.0.value)
    at false later = later

pub values-of : (fields : List Field) (rows : List Row) → AllZip IsFieldOf fields rows → AllByRecursion (λ row. IsValue name_limit row.assignment.value) rows
values-of [] [] zip = tt
values-of [] (row ∷ rows) zip = absurd zip
values-of (f ∷ fields) [] zip = absurd zip
values-of (f ∷ fields) (row ∷ rows) zip = (zip.0.is, values-of fields rows zip.1)

pub rows-table : (table : List (Text × Bor Text)) (e : Entry) (fields : List Field) → IsEntry name_limit e → fields ≡ fields_of (EntryTree e) → IsTableFound (Some table) fields → IsTableOfRows table e.rows
rows-table table e fields is fields_are found =
    let zip = subst (λ fs. AllZip IsFieldOf fs e.rows) (sym fields_are) (fields-rows e is) in
    record { named = λ name. found.1 name ∙ named-row name fields e.rows zip; values = values-of fields e.rows zip }

pub names-of_entry : (e : Entry) (fields : List Field) → IsEntry name_limit e → fields ≡ fields_of (EntryTree e) → names_of fields ≡ three.names_of e.rows
names-of_entry e fields is fields_are = ap names_of fields_are ∙ names-rows (fields_of (EntryTree e)) e.rows (fields-rows e is)

module _ (ma mb : Macros) (ea eb : Entry) (is_a : IsEntry name_limit ea) (is_b : IsEntry name_limit eb) (fa fb : List Field)
    (a_are : fa ≡ fields_of (EntryTree ea)) (b_are : fb ≡ fields_of (EntryTree eb)) where
  -- the answer, from that about each condition
  abbrev whole : Bool → Bool → Bool → Bool → Bool
  whole types single_a single_b agree = types && single_a && single_b && agree

  pub twice-first : (found : Option (List (Text × Bor Text))) → found ≡ None → IsTableFound found fa → false ≡ entries_agree ma ea mb eb
  twice-first found none is =
      let twice : are_single (names_of fa) ≡ false = subst (λ o. IsTableFound o fa) none is in
      sym (ap (λ b. whole (same ea.opening.head.type_name eb.opening.head.type_name) b (are_single (three.names_of eb.rows)) (agree_on (three.names_of ea.rows ++ three.names_of eb.rows) ma ea.rows mb eb.rows))
      (sym (ap are_single (names-of_entry ea fa is_a a_are)) ∙ twice)
      ∙ false_first (same ea.opening.head.type_name eb.opening.head.type_name))
    where
      false_first : (b : Bool) → whole b false (are_single (three.names_of eb.rows)) (agree_on (three.names_of ea.rows ++ three.names_of eb.rows) ma ea.rows mb eb.rows) ≡ false
      false_first true = refl
      false_first false = refl

  pub twice-second : (found : Option (List (Text × Bor Text))) → found ≡ None → IsTableFound found fb → false ≡ entries_agree ma ea mb eb
  twice-second found none is =
      let twice : are_single (names_of fb) ≡ false = subst (λ o. IsTableFound o fb) none is in
      sym (ap (λ b. whole (same ea.opening.head.type_name eb.opening.head.type_name) (are_single (three.names_of ea.rows)) b (agree_on (three.names_of ea.rows ++ three.names_of eb.rows) ma ea.rows mb eb.rows))
      (sym (ap are_single (names-of_entry eb fb is_b b_are)) ∙ twice)
      ∙ false_second (same ea.opening.head.type_name eb.opening.head.type_name && are_single (three.names_of ea.rows)))
    where
      false_second : (b : Bool) → (b && false && agree_on (three.names_of ea.rows ++ three.names_of eb.rows) ma ea.rows mb eb.rows) ≡ false
      false_second true = refl
      false_second false = refl

  module _ (types : same ea.opening.head.type_name eb.opening.head.type_name ≡ true) (ta tb : List (Text × Bor Text)) (table_a : IsTableFound (Some ta) fa) (table_b : IsTableFound (Some tb) fb) (first : Bool)
      (first_is : (ra rb : List Row) → IsTableOfRows ta ra → IsTableOfRows tb rb → first ≡ agree_on (names_of fa) ma ra mb rb) where
    is_first : first ≡ agree_on (three.names_of ea.rows) ma ea.rows mb eb.rows
    is_first = first_is ea.rows eb.rows (rows-table ta ea fa is_a a_are table_a) (rows-table tb eb fb is_b b_are table_b) ∙ ap (λ names. agree_on names ma ea.rows mb eb.rows) (names-of_entry ea fa is_a a_are)

    -- the answer is that about the names
    by-names : entries_agree ma ea mb eb ≡ (first && agree_on (three.names_of eb.rows) ma ea.rows mb eb.rows)
    by-names =
        ap (λ b. whole b (are_single (three.names_of ea.rows)) (are_single (three.names_of eb.rows)) all) types
        ∙ ap₂ (λ b c. whole true b c all) (sym (ap are_single (names-of_entry ea fa is_a a_are)) ∙ table_a.0) (sym (ap are_single (names-of_entry eb fb is_b b_are)) ∙ table_b.0)
        ∙ list_all-append _ (three.names_of ea.rows) (three.names_of eb.rows)
        ∙ ap (λ b. b && agree_on (three.names_of eb.rows) ma ea.rows mb eb.rows) (sym is_first)
      where
        all : Bool
        all = agree_on (three.names_of ea.rows ++ three.names_of eb.rows) ma ea.rows mb eb.rows

    pub fields-differ : first ≡ false → false ≡ entries_agree ma ea mb eb
    fields-differ e = sym (by-names ∙ ap (λ b. b && agree_on (three.names_of eb.rows) ma ea.rows mb eb.rows) e)

    pub fields-agree : (rest : Bool) → first ≡ true → ((ra rb : List Row) → IsTableOfRows ta ra → IsTableOfRows tb rb → rest ≡ agree_on (names_of fb) ma ra mb rb) → rest ≡ entries_agree ma ea mb eb
    fields-agree rest e rest_is =
        rest_is ea.rows eb.rows (rows-table ta ea fa is_a a_are table_a) (rows-table tb eb fb is_b b_are table_b)
        ∙ ap (λ names. agree_on names ma ea.rows mb eb.rows) (names-of_entry eb fb is_b b_are)
        ∙ sym (by-names ∙ ap (λ b. b && agree_on (three.names_of eb.rows) ma ea.rows mb eb.rows) e)

-- ---- items

-- the answer about two entries is that about the items
pub entry-items : (ma mb : Macros) (ia ib : Item) (va vb : View) (answer : Bool) → IsTree name_limit ia.tree → IsTree name_limit ib.tree → va ≡ view_of ia → vb ≡ view_of ib → kind_of ia.tree ≡ kind.Entry → kind_of ib.tree ≡ kind.Entry →
    ((ea eb : Entry) (ta tb : Text) → IsEntry name_limit ea → IsEntry name_limit eb → va ≡ view_of (record { tree = EntryTree ea; trail = ta }) → vb ≡ view_of (record { tree = EntryTree eb; trail = tb }) → answer ≡ entries_agree ma ea mb eb) →
    answer ≡ trees_agree ma ia.tree mb ib.tree
entry-items ma mb ia ib va vb answer is_a is_b seen_a seen_b kind_a kind_b says = at ia.tree ib.tree refl refl is_a is_b kind_a kind_b
  where
    at : (a b : Tree) → ia.tree ≡ a → ib.tree ≡ b → IsTree name_limit a → IsTree name_limit b → kind_of a ≡ kind.Entry → kind_of b ≡ kind.Entry → answer ≡ trees_agree ma a mb b
    at (CommentTree h) b ea eb ta tb ka kb = cc
    at (DefinitionTree d) b ea eb ta tb ka kb = cc
    at (PreambleTree p) b ea eb ta tb ka kb = cc
    at (EntryTree e) (CommentTree h) ea eb ta tb ka kb = cc
    at (EntryTree e) (DefinitionTree d) ea eb ta tb ka kb = cc
    at (EntryTree e) (PreambleTree p) ea eb ta tb ka kb = cc
    at (EntryTree e) (EntryTree f) ea eb ta tb ka kb =
        says e f ia.trail ib.trail ta tb (seen_a ∙ ap (λ (t : Tree). view_of (record { tree = t; trail = ia.trail })) ea) (seen_b ∙ ap (λ (t : Tree). view_of (record { tree = t; trail = ib.trail })) eb)

pub definition-items : (ma mb : Macros) (ia ib : Item) (va vb : View) (answer : Bool) → IsTree name_limit ia.tree → IsTree name_limit ib.tree → va ≡ view_of ia → vb ≡ view_of ib → kind_of ia.tree ≡ kind.Macro → kind_of ib.tree ≡ kind.Macro →
    ((da db : Definition) (ta tb : Text) → IsDefinition name_limit da → IsDefinition name_limit db → va ≡ view_of (record { tree = DefinitionTree da; trail = ta }) → vb ≡ view_of (record { tree = DefinitionTree db; trail = tb }) → answer ≡ definitions_agree ma da mb db) →
    answer ≡ trees_agree ma ia.tree mb ib.tree
definition-items ma mb ia ib va vb answer is_a is_b seen_a seen_b kind_a kind_b says = at ia.tree ib.tree refl refl is_a is_b kind_a kind_b
  where
    at : (a b : Tree) → ia.tree ≡ a → ib.tree ≡ b → IsTree name_limit a → IsTree name_limit b → kind_of a ≡ kind.Macro → kind_of b ≡ kind.Macro → answer ≡ trees_agree ma a mb b
    at (CommentTree h) b ea eb ta tb ka kb = cc
    at (EntryTree e) b ea eb ta tb ka kb = cc
    at (PreambleTree p) b ea eb ta tb ka kb = cc
    at (DefinitionTree d) (CommentTree h) ea eb ta tb ka kb = cc
    at (DefinitionTree d) (EntryTree e) ea eb ta tb ka kb = cc
    at (DefinitionTree d) (PreambleTree p) ea eb ta tb ka kb = cc
    at (DefinitionTree d) (DefinitionTree f) ea eb ta tb ka kb =
        says d f ia.trail ib.trail ta tb (seen_a ∙ ap (λ (t : Tree). view_of (record { tree = t; trail = ia.trail })) ea) (seen_b ∙ ap (λ (t : Tree). view_of (record { tree = t; trail = ib.trail })) eb)
