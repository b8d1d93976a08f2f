-- Two tables of macros that agree on all names except some: items that use none of these say the same under both.
use Rattle.edit_spec.proofs.Words.{◌≡◌, Bool, false, cond, List, ◌∷◌, ◌++◌, Option, Some, None, unwrap_or, refl, sym, ◌∙◌, ap, ap₂, map, flat_map, list_any, bytes_eq, ⊎_elim, cases_Bool, cond-true, cond-false, or_parts, or_from, Text, folded, same, Part, Braced, Quoted, Digits, Macro, Value, Row, Definition, Tree}
use Rattle.edit_spec.proofs.Words.{CommentTree, DefinitionTree, PreambleTree, EntryTree, Item, Macros, updated, parts_of, part_text, raw_text, macros_in, macros_after, Field, EntryTexts, field_of, entry_in, preamble_in, any_part, same-is}
use Rattle.std.proofs.Common.{[]}
use Rattle.bib_spec.specs.Texts.{values_of}
use Rattle.edit_spec.specs.Laws.{is_use_of, with_dependent, dependents}

-- ---- tests of lists

pub never : {X : Type 0} (xs : List X) → list_any (λ _. false) xs ≡ false
never [] = refl
never (x ∷ xs) = never xs

pub none_too : {X : Type 0} (p q : X → Bool) → ((x : X) → q x ≡ false → p x ≡ false) → (xs : List X) → list_any q xs ≡ false → list_any p xs ≡ false
none_too p q fewer [] h = refl
none_too p q fewer (x ∷ xs) h =
    let both = or_parts (q x) (list_any q xs) h in
    or_from (p x) (list_any p xs) (fewer x both.0) (none_too p q fewer xs both.1)

pub unused_too : (p q : Part → Bool) → ((part : Part) → q part ≡ false → p part ≡ false) → (tree : Tree) → any_part q tree ≡ false → any_part p tree ≡ false
unused_too p q fewer tree h = none_too (λ v. list_any p (parts_of v)) (λ v. list_any q (parts_of v)) (λ v none. none_too p q fewer (parts_of v) none) (values_of tree) h

-- ---- names that depend on others

-- the name is none of these
abbrev pub IsNone : List Text → Text → Type 0
IsNone names x = list_any (same x) names ≡ false

pub none_of_with : (names : List Text) (tree : Tree) (x : Text) → IsNone (with_dependent names tree) x → IsNone names x
none_of_with names (CommentTree c) x h = h
none_of_with names (PreambleTree p) x h = h
none_of_with names (EntryTree e) x h = h
none_of_with names (DefinitionTree d) x h = ⊎_elim
    (λ e. (or_parts (same x d.assignment.name) (list_any (same x) names) (sym (ap (list_any (same x)) (cond-true (any_part (is_use_of names) (DefinitionTree d)) (d.assignment.name ∷ names) names e)) ∙ h)).1)
    (λ e. sym (ap (list_any (same x)) (cond-false (any_part (is_use_of names) (DefinitionTree d)) (d.assignment.name ∷ names) names e)) ∙ h)
    (cases_Bool (any_part (is_use_of names) (DefinitionTree d)))

pub none_of_all : (names : List Text) (items : List Item) (x : Text) → IsNone (dependents names items) x → IsNone names x
none_of_all names [] x h = h
none_of_all names (item ∷ items) x h = none_of_with names item.tree x (none_of_all (with_dependent names item.tree) items x h)

part_of_all : (names : List Text) (items : List Item) (part : Part) → is_use_of (dependents names items) part ≡ false → is_use_of names part ≡ false
part_of_all names items (Macro x) h = none_of_all names items x h
part_of_all names items (Braced t) h = never names
part_of_all names items (Quoted t) h = never names
part_of_all names items (Digits t) h = never names

-- an item that uses none of the dependent names uses none of the names
pub unused_of_all : (names : List Text) (items : List Item) (tree : Tree) → any_part (is_use_of (dependents names items)) tree ≡ false → any_part (is_use_of names) tree ≡ false
unused_of_all names items tree h = unused_too (is_use_of names) (is_use_of (dependents names items)) (part_of_all names items) tree h

-- ---- tables that agree

-- all names except these stand for the same
abbrev pub AgreeBut : List Text → Macros → Macros → Type 0
AgreeBut names m n = (x : Text) → IsNone names x → n (folded x) ≡ m (folded x)

pub updated-agree : (names : List Text) (m n : Macros) (defined : Text) (o : Option Text) → AgreeBut names m n → AgreeBut names (updated m defined o) (updated n defined o)
updated-agree names m n defined o agree x p = ap (λ v. cond (bytes_eq (folded x) (folded defined)) o v) (agree x p)

-- only the defined name differs then
pub defined-agree : (names : List Text) (m n : Macros) (defined : Text) (o p : Option Text) → ((x : Text) → IsNone names x → same x defined ≡ false) →
    AgreeBut names m n → AgreeBut names (updated m defined o) (updated n defined p)
defined-agree names m n defined o p other agree x none =
    let e : bytes_eq (folded x) (folded defined) ≡ false = sym (same-is x defined) ∙ other x none in
    cond-false (bytes_eq (folded x) (folded defined)) p (n (folded x)) e ∙ agree x none ∙ sym (cond-false (bytes_eq (folded x) (folded defined)) o (m (folded x)) e)

module _ (names : List Text) (m n : Macros) (agree : AgreeBut names m n) where
  part-alike : (part : Part) → is_use_of names part ≡ false → part_text n part ≡ part_text m part
  part-alike (Macro x) h = ap (λ o. unwrap_or o []) (agree x h)
  part-alike (Braced t) h = refl
  part-alike (Quoted t) h = refl
  part-alike (Digits t) h = refl

  parts-alike : (parts : List Part) → list_any (is_use_of names) parts ≡ false → flat_map (part_text n) parts ≡ flat_map (part_text m) parts
  parts-alike [] h = refl
  parts-alike (part ∷ parts) h =
      let both = or_parts (is_use_of names part) (list_any (is_use_of names) parts) h in
      ap₂ ◌++◌ (part-alike part both.0) (parts-alike parts both.1)

  pub value-alike : (v : Value) → list_any (is_use_of names) (parts_of v) ≡ false → raw_text n v ≡ raw_text m v
  value-alike v h = parts-alike (parts_of v) h

  fields-alike : (rows : List Row) → list_any (λ v. list_any (is_use_of names) (parts_of v)) (map (λ row. row.assignment.value) rows) ≡ false → map (field_of n) rows ≡ map (field_of m) rows
  fields-alike [] h = refl
  fields-alike (row ∷ rows) h =
      let both = or_parts (list_any (is_use_of names) (parts_of row.assignment.value)) (list_any (λ v. list_any (is_use_of names) (parts_of v)) (map (λ row. row.assignment.value) rows)) h in
      ap₂ ◌∷◌ (ap (λ t. let it : Field = record { name = row.assignment.name; raw = t } in it) (value-alike row.assignment.value both.0)) (fields-alike rows both.1)

  pub entry-alike : (tree : Tree) → any_part (is_use_of names) tree ≡ false → entry_in n tree ≡ entry_in m tree
  entry-alike (CommentTree c) h = refl
  entry-alike (DefinitionTree d) h = refl
  entry-alike (PreambleTree p) h = refl
  entry-alike (EntryTree e) h = ap (λ fields. let it : EntryTexts = record { kind = e.opening.head.type_name; key = e.key; fields = fields } in it ∷ []) (fields-alike e.rows h)

  pub preamble-alike : (tree : Tree) → any_part (is_use_of names) tree ≡ false → preamble_in n tree ≡ preamble_in m tree
  preamble-alike (CommentTree c) h = refl
  preamble-alike (DefinitionTree d) h = refl
  preamble-alike (PreambleTree p) h = ap (λ t. t ∷ []) (value-alike p.value (or_parts (list_any (is_use_of names) (parts_of p.value)) false h).0)
  preamble-alike (EntryTree e) h = refl

-- a definition whose value uses none of the names gives the same under both
text-alike : (names : List Text) (m n : Macros) → AgreeBut names m n → (d : Definition) → any_part (is_use_of names) (DefinitionTree d) ≡ false →
    AgreeBut names (macros_after m (DefinitionTree d)) (macros_after n (DefinitionTree d))
text-alike names m n agree d h x p =
    let e = value-alike names (macros_in m (DefinitionTree d)) (macros_in n (DefinitionTree d)) (updated-agree names m n d.assignment.name None agree) d.assignment.value
    (or_parts (list_any (is_use_of names) (parts_of d.assignment.value)) false h).0 in
    ap₂ (λ t v. cond (bytes_eq (folded x) (folded d.assignment.name)) (Some t) v) e (agree x p)

-- after an item that uses none of the names
pub after-alike : (names : List Text) (m n : Macros) → AgreeBut names m n → (tree : Tree) → any_part (is_use_of names) tree ≡ false → AgreeBut names (macros_after m tree) (macros_after n tree)
after-alike names m n agree (CommentTree c) h = agree
after-alike names m n agree (PreambleTree p) h = agree
after-alike names m n agree (EntryTree e) h = agree
after-alike names m n agree (DefinitionTree d) h = text-alike names m n agree d h

-- after any item they agree on all names that do not depend on these
pub after-apart : (names : List Text) (m n : Macros) → AgreeBut names m n → (tree : Tree) → AgreeBut (with_dependent names tree) (macros_after m tree) (macros_after n tree)
after-apart names m n agree (CommentTree c) x p = agree x p
after-apart names m n agree (PreambleTree t) x p = agree x p
after-apart names m n agree (EntryTree e) x p = agree x p
after-apart names m n agree (DefinitionTree d) x p = ⊎_elim
    (λ e.
    let both = or_parts (same x d.assignment.name) (list_any (same x) names) (sym (ap (list_any (same x)) (cond-true (any_part (is_use_of names) (DefinitionTree d)) (d.assignment.name ∷ names) names e)) ∙ p) in
    let b : bytes_eq (folded x) (folded d.assignment.name) ≡ false = sym (same-is x d.assignment.name) ∙ both.0 in
    cond-false (bytes_eq (folded x) (folded d.assignment.name)) (Some (raw_text (macros_in n (DefinitionTree d)) d.assignment.value)) (n (folded x)) b
    ∙ agree x both.1
    ∙ sym (cond-false (bytes_eq (folded x) (folded d.assignment.name)) (Some (raw_text (macros_in m (DefinitionTree d)) d.assignment.value)) (m (folded x)) b))
    (λ e. text-alike names m n agree d e x (none_of_with names (DefinitionTree d) x p))
    (cases_Bool (any_part (is_use_of names) (DefinitionTree d)))
