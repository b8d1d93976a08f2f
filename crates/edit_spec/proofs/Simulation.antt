-- Two tables of macros that give the same to each part, as an edit writes it, give the same texts all along the items.
use Rattle.edit_spec.proofs.Words.{◌≡◌, ℕ, zero, suc, false, cond, List, ◌∷◌, ◌++◌, Option, Some, None, refl, sym, ◌∙◌, ap, ap₂, subst, map, AllByRecursion, bytes_eq, cond-false, Text, folded, same, Part, Link, Value, Row, Definition, Tree, CommentTree, DefinitionTree, PreambleTree, EntryTree, Item}
use Rattle.edit_spec.proofs.Words.{Macros, updated, parts_of, part_text, raw_text, macros_in, macros_after, macros_at, gathered, Field, EntryTexts, field_of, entry_in, preamble_in, same-is, same_comm, changed, link_with, value_with, row_with, tree_with, items_with, flat_map}
use Rattle.std.proofs.Common.{[]}
use Rattle.bib_spec.specs.Texts.{values_of}

-- P of each part, and Q of each defined name
abbrev pub Parts : (Part → Type 0) → Value → Type 0
Parts P v = AllByRecursion P (parts_of v)

abbrev pub InValues : (Part → Type 0) → Tree → Type 0
InValues P tree = AllByRecursion (Parts P) (values_of tree)

abbrev pub Rows : (Part → Type 0) → List Row → Type 0
Rows P rows = AllByRecursion (Parts P) (map (λ row. row.assignment.value) rows)

abbrev pub InTree : (Part → Type 0) → (Text → Type 0) → Tree → Type 0
InTree P Q (CommentTree h) = Unit {0}
InTree P Q (DefinitionTree d) = Q d.assignment.name × Parts P d.assignment.value
InTree P Q (PreambleTree p) = Parts P p.value
InTree P Q (EntryTree e) = Rows P e.rows

abbrev pub InItems : (Part → Type 0) → (Text → Type 0) → List Item → Type 0
InItems P Q items = AllByRecursion (λ item. InTree P Q item.tree) items

-- for some names: the new table gives to the name, as the edit writes it, what the old table gives to the name
abbrev pub AgreeOn : (Text → Type 0) → (Text → Text) → Macros → Macros → Type 0
AgreeOn P new m n = (x : Text) → P x → n (folded (new x)) ≡ m (folded x)

-- the tables still agree after both set the same name
pub names_stay : (P : Text → Type 0) (new : Text → Text) (m n : Macros) (defined : Text) (o : Option Text) →
    ((x : Text) → P x → bytes_eq (folded (new x)) (folded (new defined)) ≡ bytes_eq (folded x) (folded defined)) →
    AgreeOn P new m n → AgreeOn P new (updated m defined o) (updated n (new defined) o)
names_stay P new m n defined o apart agree x p = ap₂ (λ b v. cond b o v) (apart x p) (agree x p)

-- setting another name does not change what a name stands for
pub name_stays : (m : Macros) (name defined : Text) (given o : Option Text) → same defined name ≡ false → m (folded name) ≡ given → updated m defined o (folded name) ≡ given
name_stays m name defined given o other is =
    cond-false (bytes_eq (folded name) (folded defined)) o (m (folded name)) (sym (same-is name defined) ∙ same_comm name defined ∙ other) ∙ is

module _ (g : Text → Option Text) (f : Part → Option Part) (P : Part → Type 0) (Q : Text → Type 0) (Agree : Macros → Macros → Type 0)
    (gives : (m n : Macros) → Agree m n → (part : Part) → P part → part_text n (changed f part) ≡ part_text m part)
    (stays : (m n : Macros) → Agree m n → (name : Text) → Q name → (o : Option Text) → Agree (updated m name o) (updated n (changed g name) o))
  where
    links_same : (m n : Macros) → Agree m n → (links : List Link) → AllByRecursion P (map (λ l. l.part) links) →
        flat_map (part_text n) (map (λ l. l.part) (map (link_with f) links)) ≡ flat_map (part_text m) (map (λ l. l.part) links)
    links_same m n agree [] h = refl
    links_same m n agree (link ∷ links) h = ap₂ ◌++◌ (gives m n agree link.part h.0) (links_same m n agree links h.1)

    pub text_same : (m n : Macros) → Agree m n → (v : Value) → Parts P v → raw_text n (value_with f v) ≡ raw_text m v
    text_same m n agree v h = ap₂ ◌++◌ (gives m n agree v.first h.0) (links_same m n agree v.links h.1)

    pub fields_same : (m n : Macros) → Agree m n → (rows : List Row) → Rows P rows → map (field_of n) (map (row_with f) rows) ≡ map (field_of m) rows
    fields_same m n agree [] h = refl
    fields_same m n agree (row ∷ rows) h =
        ap₂ ◌∷◌ (ap (λ t. let it : Field = record { name = row.assignment.name; raw = t } in it) (text_same m n agree row.assignment.value h.0)) (fields_same m n agree rows h.1)

    -- at a definition, if `Agree` holds with its name unset and with it set
    pub define_same : (m n : Macros) (d : Definition) → ((o : Option Text) → Agree (updated m d.assignment.name o) (updated n (changed g d.assignment.name) o)) →
        Parts P d.assignment.value → Agree (macros_after m (DefinitionTree d)) (macros_after n (tree_with g f (DefinitionTree d)))
    define_same m n d agree h =
        let e = text_same (updated m d.assignment.name None) (updated n (changed g d.assignment.name) None) (agree None) d.assignment.value h in
        let said : Text = raw_text (macros_in m (DefinitionTree d)) d.assignment.value in
        let A : Text → Type 0 = λ t. Agree (updated m d.assignment.name (Some said)) (updated n (changed g d.assignment.name) (Some t)) in
        subst A (sym e) (agree (Some said))

    pub after_same : (m n : Macros) → Agree m n → (tree : Tree) → InTree P Q tree → Agree (macros_after m tree) (macros_after n (tree_with g f tree))
    after_same m n agree (CommentTree c) h = agree
    after_same m n agree (PreambleTree p) h = agree
    after_same m n agree (EntryTree e) h = agree
    after_same m n agree (DefinitionTree d) h = define_same m n d (stays m n agree d.assignment.name h.0) h.1

    pub at_same : (m n : Macros) → Agree m n → (items : List Item) → InItems P Q items → (k : ℕ) → Agree (macros_at m items k) (macros_at n (items_with g f items) k)
    at_same m n agree items h zero = agree
    at_same m n agree [] h (suc k) = agree
    at_same m n agree (item ∷ items) h (suc k) = at_same (macros_after m item.tree) (macros_after n (tree_with g f item.tree)) (after_same m n agree item.tree h.0) items h.1 k

    pub entry_same : (m n : Macros) → Agree m n → (tree : Tree) → InTree P Q tree → entry_in n (tree_with g f tree) ≡ entry_in m tree
    entry_same m n agree (CommentTree c) h = refl
    entry_same m n agree (DefinitionTree d) h = refl
    entry_same m n agree (PreambleTree p) h = refl
    entry_same m n agree (EntryTree e) h =
        ap (λ fields. let it : EntryTexts = record { kind = e.opening.head.type_name; key = e.key; fields = fields } in it ∷ []) (fields_same m n agree e.rows h)

    pub preamble_same : (m n : Macros) → Agree m n → (tree : Tree) → InTree P Q tree → preamble_in n (tree_with g f tree) ≡ preamble_in m tree
    preamble_same m n agree (CommentTree c) h = refl
    preamble_same m n agree (DefinitionTree d) h = refl
    preamble_same m n agree (PreambleTree p) h = ap (λ t. t ∷ []) (text_same m n agree p.value h)
    preamble_same m n agree (EntryTree e) h = refl

    module _ {X : Type 0} (say : Macros → Tree → List X)
        (says : (m n : Macros) → Agree m n → (tree : Tree) → InTree P Q tree → say n (tree_with g f tree) ≡ say m tree) where
      pub gathered_same : (m n : Macros) → Agree m n → (items : List Item) → InItems P Q items → gathered say n (items_with g f items) ≡ gathered say m items
      gathered_same m n agree [] h = refl
      gathered_same m n agree (item ∷ items) h =
          ap₂ ◌++◌ (says m n agree item.tree h.0) (gathered_same (macros_after m item.tree) (macros_after n (tree_with g f item.tree)) (after_same m n agree item.tree h.0) items h.1)
