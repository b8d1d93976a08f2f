-- What a moved entry says where it then stands.
use Rattle.bib_edit.proofs.Words.{◌≡◌, ℕ, zero, suc, ◌+◌, ◌<◌, ◌≤◌, nat_lt, Bool, true, false, ◌||◌, List, [], ◌∷◌, ◌++◌, map, ⊎_elim, inr, refl, sym, ◌∙◌, ap, ap₂, subst, arith, All, le_of_suc-le-suc, not-suc-le-zero, or-true, list_any, cases_Bool, cond-true, cond-false, false≢true, ltb-true}
use Rattle.bib_edit.proofs.Words.{ltb-false, All-head, All-tail, name_limit, Text, Row, Entry, Tree, CommentTree, DefinitionTree, PreambleTree, EntryTree, IsTree, IsRow, row_bytes, Item, Reading, Macros, months, macros_at, macros_after, raw_text, is_entry, without_first, Field, fields_after}
use Rattle.bib_edit.proofs.Words.{slice_get, Some, none-some, same_Some, fields_of, IsFirstAt, IsLong, next_item, FieldsHaveValues, IsFieldLong}
use Rattle.edit_spec.specs.Edits.{without_item}
use Rattle.bib_edit.proofs.LongTexts.{is_long}
use Rattle.bib_edit.proofs.MovedPieces.{first-item}
use Rattle.bib_edit.proofs.PlacedTexts.{is_long_in}

-- ---- macros

entry_defines_none : (key : Text) (m : Macros) (tree : Tree) → is_entry key tree ≡ true → macros_after m tree ≡ m
entry_defines_none key m (EntryTree e) h = refl
entry_defines_none key m (CommentTree c) h = absurd (false≢true h)
entry_defines_none key m (DefinitionTree d) h = absurd (false≢true h)
entry_defines_none key m (PreambleTree p) h = absurd (false≢true h)

-- item n, which is an entry, is taken out
module _ (key : Text) where
  macros_before : (m : Macros) (front : Text) (items : List Item) (n place : ℕ) → place < n → macros_at m (without_item n front items).items place ≡ macros_at m items place
  macros_before m front [] n place lt = refl
  macros_before m front (item ∷ items) zero place lt = absurd (not-suc-le-zero lt)
  macros_before m front (item ∷ items) (suc n) zero lt = refl
  macros_before m front (item ∷ items) (suc n) (suc place) lt = macros_before (macros_after m item.tree) item.trail items n place (le_of_suc-le-suc lt)

  macros_beyond : (m : Macros) (front : Text) (items : List Item) (n place : ℕ) (it : Item) → slice_get items n ≡ Some it → is_entry key it.tree ≡ true → n ≤ place →
      macros_at m (without_item n front items).items place ≡ macros_at m items (suc place)
  macros_beyond m front [] n place it at is le = absurd (none-some it at)
  macros_beyond m front (item ∷ items) zero place it at is le =
      ap (λ (a : Macros). macros_at a items place) (sym (entry_defines_none key m item.tree (ap (λ (i : Item). is_entry key i.tree) (same_Some item it at) ∙ is)))
  macros_beyond m front (item ∷ items) (suc n) zero it at is le = absurd (not-suc-le-zero le)
  macros_beyond m front (item ∷ items) (suc n) (suc place) it at is le = macros_beyond (macros_after m item.tree) item.trail items n place it at is (le_of_suc-le-suc le)

  -- the macros before the place among what remains
  pub macros-next_item_at : (m : Macros) (front : Text) (items : List Item) (n place : ℕ) (it : Item) → slice_get items n ≡ Some it → is_entry key it.tree ≡ true →
      macros_at m (without_item n front items).items place ≡ macros_at m items (next_item n place)
  macros-next_item_at m front items n place it at is = ⊎_elim
      (λ t. macros_before m front items n place (ltb-true place n t) ∙ ap (macros_at m items) (sym (cond-true (nat_lt place n) place (place + 1) t)))
      (λ t. macros_beyond m front items n place it at is (ltb-false place n t)
      ∙ (let more : suc place ≡ place + 1 = omega arith in ap (macros_at m items) (more ∙ sym (cond-false (nat_lt place n) place (place + 1) t))))
      (cases_Bool (nat_lt place n))

-- the first that passes a test is taken out
module _ (test : Tree → Bool) where
  abbrev gone : Text → Item → List Item → Reading
  gone front item items = record { front = front ++ item.trail; items = items }

  abbrev stays : Text → Item → Reading → Reading
  stays front item rest = record { front = front; items = record item { trail = rest.front } ∷ rest.items }

  without-first : (front : Text) (items : List Item) (n : ℕ) → IsFirstAt test items n → without_first test front items ≡ without_item n front items
  without-first front [] n f = absurd f
  without-first front (item ∷ items) zero f = cond-true (test item.tree) (gone front item items) (stays front item (without_first test item.trail items)) f
  without-first front (item ∷ items) (suc n) f =
      cond-false (test item.tree) (gone front item items) (stays front item (without_first test item.trail items)) f.0 ∙ ap (stays front item) (without-first item.trail items n f.1)

pub macros-next_item : (key : Text) (m : Macros) (front : Text) (items : List Item) (n place : ℕ) → IsFirstAt (is_entry key) items n →
    macros_at m (without_first (is_entry key) front items).items place ≡ macros_at m items (next_item n place)
macros-next_item key m front items n place f =
    let it = first-item (is_entry key) items n f in
    ap (λ (db : Reading). macros_at m db.items place) (without-first (is_entry key) front items n f) ∙ macros-next_item_at key m front items n place it.0 it.2 it.3

-- ---- fields that are seen

rows-have_values : (before : Text) (rows : List Row) → All (IsRow name_limit) rows → FieldsHaveValues (fields_after before rows)
rows-have_values before [] are = tt
rows-have_values before (row ∷ rows) are = (
  (row.assignment.value, (All-head (IsRow name_limit) row rows are).assignment.value, refl),
  rows-have_values (before ++ row_bytes row) rows (All-tail (IsRow name_limit) row rows are),
)

module _ (db : Reading) (n : ℕ) where
  abbrev m : Macros
  m = macros_at months db.items n

  abbrev rows_long : List Row → Bool
  rows_long rows = list_any is_long (map (raw_text m) (map (λ row. row.assignment.value) rows))

  rows-long : (long : Bool) (before : Text) (rows : List Row) → All (IsRow name_limit) rows → IsFieldLong long db n (fields_after before rows) → rows_long rows ≡ long
  rows-long long before [] are h = h
  rows-long false before (row ∷ rows) are h =
      ap₂ ◌||◌ (h.0 row.assignment.value (All-head (IsRow name_limit) row rows are).assignment.value refl) (rows-long false (before ++ row_bytes row) rows (All-tail (IsRow name_limit) row rows are) h.1)
  rows-long true before (row ∷ rows) are h = ⊎_elim
      (λ this. ap (λ b. b || rows_long rows) (this row.assignment.value (All-head (IsRow name_limit) row rows are).assignment.value refl))
      (λ other. ap (λ b. is_long (raw_text m row.assignment.value) || b) (rows-long true (before ++ row_bytes row) rows (All-tail (IsRow name_limit) row rows are) other)
      ∙ or-true (is_long (raw_text m row.assignment.value)))
      h

module _ (key : Text) where
  pub entry-values : (tree : Tree) → is_entry key tree ≡ true → IsTree name_limit tree → FieldsHaveValues (fields_of tree)
  entry-values (EntryTree e) h is = rows-have_values _ e.rows is.rows
  entry-values (CommentTree c) h is = absurd (false≢true h)
  entry-values (DefinitionTree d) h is = absurd (false≢true h)
  entry-values (PreambleTree p) h is = absurd (false≢true h)

  pub entry-long : (db : Reading) (n : ℕ) (long : Bool) (tree : Tree) → is_entry key tree ≡ true → IsTree name_limit tree → IsFieldLong long db n (fields_of tree) → is_long_in (macros_at months db.items n) tree ≡ long
  entry-long db n long (EntryTree e) h is fields = rows-long db n long _ e.rows is.rows fields
  entry-long db n long (CommentTree c) h is fields = absurd (false≢true h)
  entry-long db n long (DefinitionTree d) h is fields = absurd (false≢true h)
  entry-long db n long (PreambleTree p) h is fields = absurd (false≢true h)

  pub entry-is : (tree : Tree) → is_entry key tree ≡ true → (e : Entry) × (tree ≡ EntryTree e)
  entry-is (EntryTree e) h = (e, refl)
  entry-is (CommentTree c) h = absurd (false≢true h)
  entry-is (DefinitionTree d) h = absurd (false≢true h)
  entry-is (PreambleTree p) h = absurd (false≢true h)

-- ---- one field after another

pub no-field-long : (db : Reading) (n : ℕ) (fields : List Field) → fields ≡ [] → IsFieldLong false db n fields
no-field-long db n fields e = subst (IsFieldLong false db n) (sym e) refl

-- what is found of the rest is found of all, after fields that are short
pub field-short : (db : Reading) (n : ℕ) (field : Field) (fields : List Field) → IsLong false db n field.value → (long : Bool) → IsFieldLong long db n fields → IsFieldLong long db n (field ∷ fields)
field-short db n field fields short false h = (short, h)
field-short db n field fields short true h = inr h

-- ---- the item before which it will stand

pub next_item-within : (n place count : ℕ) → place < count → next_item n place ≤ count
next_item-within n place count lt = ⊎_elim
    (λ t. let is = cond-true (nat_lt place n) place (place + 1) t in omega (arith, lt, is))
    (λ t. let is = cond-false (nat_lt place n) place (place + 1) t in omega (arith, lt, is))
    (cases_Bool (nat_lt place n))
