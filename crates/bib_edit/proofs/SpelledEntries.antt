-- Entries as they are asked for: their fields, their raw texts, and what is written.
use Rattle.bib_edit.proofs.Words.{◌≡◌, ℕ, zero, suc, ◌<◌, Bool, true, false, ◌||◌, List, [], ◌∷◌, ◌++◌, Some, codes, length, map, slice_get, refl, sym, ◌∙◌, ap, ap₂, All, append_assoc, append-nil, suc-le-suc, zero-lt-suc, or-true, list_any, flat_map, same_Some, none-some, All-nil, All-cons}
use Rattle.bib_edit.proofs.Words.{All-head, All-tail, name_limit, comma, equals_sign, Text, Value, IsValue, value_bytes, row_bytes, Reading, item_bytes, IsValueWithin, Macros, months, macros_at, raw_text}
use Rattle.bib_edit.proofs.Words.{new_row, new_rows, line_end, item_of, SpellFields, SpellsEntry, NewEntry, names_of, HaveValues, IsLong}
use Rattle.bib_edit.proofs.Words.{IsAnyLong, field_line, lines_of, line_before_close, entry_text}
use Rattle.edit_spec.specs.Edits as edits
use Rattle.bib_edit.proofs.LongTexts.{is_long}

-- ---- fields that are spelled

abbrev pub Fields : Type 0
Fields = List (Text × Value)

pub names-spelled : (asked : List (Text × Text)) (fields : Fields) → SpellFields asked fields → map (λ field. field.0) fields ≡ names_of asked
names-spelled [] [] s = refl
names-spelled [] (field ∷ fields) s = absurd s
names-spelled (a ∷ asked) [] s = absurd s
names-spelled (a ∷ asked) (field ∷ fields) s = ap₂ ◌∷◌ s.0 (names-spelled asked fields s.2)

later : (asked : List (Text × Text)) (a : Text × Text) → HaveValues (a ∷ asked) → HaveValues asked
later asked a h k field lt e = h (suc k) field (suc-le-suc lt) e

pub values-spelled : (asked : List (Text × Text)) (fields : Fields) → SpellFields asked fields → HaveValues asked → All (IsValue name_limit) (map (λ field. field.1) fields)
values-spelled [] [] s h = All-nil (IsValue name_limit)
values-spelled [] (field ∷ fields) s h = absurd s
values-spelled (a ∷ asked) [] s h = absurd s
values-spelled (a ∷ asked) (field ∷ fields) s h =
    All-cons (IsValue name_limit) field.1 (map (λ field. field.1) fields) (s.1.value (h 0 a (zero-lt-suc (length asked)) refl)) (values-spelled asked fields s.2 (later asked a h))

pub spelled-values : (asked : List (Text × Text)) (fields : Fields) → SpellFields asked fields → All (IsValue name_limit) (map (λ field. field.1) fields) →
    (k : ℕ) (field : Text × Text) → slice_get asked k ≡ Some field → IsValueWithin name_limit field.1
spelled-values [] fields s are k f e = absurd (none-some f e)
spelled-values (a ∷ asked) [] s are k f e = absurd s
spelled-values (a ∷ asked) (field ∷ fields) s are zero f e =
    (field.1, All-head (IsValue name_limit) field.1 (map (λ field. field.1) fields) are, s.1.bytes ∙ ap (λ (p : Text × Text). p.1) (same_Some a f e))
spelled-values (a ∷ asked) (field ∷ fields) s are (suc k) f e = spelled-values asked fields s.2 (All-tail (IsValue name_limit) field.1 (map (λ field. field.1) fields) are) k f e

-- ---- raw texts

module _ (db : Reading) (n : ℕ) where
  abbrev m : Macros
  m = macros_at months db.items n

  abbrev some_long : Fields → Bool
  some_long fields = list_any is_long (map (raw_text m) (map (λ field. field.1) fields))

  all-short : (asked : List (Text × Text)) (fields : Fields) → SpellFields asked fields → All (IsValue name_limit) (map (λ field. field.1) fields) →
      ((j : ℕ) (field : Text × Text) → j < length asked → slice_get asked j ≡ Some field → IsLong false db n field.1) → some_long fields ≡ false
  all-short [] [] s are h = refl
  all-short [] (field ∷ fields) s are h = absurd s
  all-short (a ∷ asked) [] s are h = absurd s
  all-short (a ∷ asked) (field ∷ fields) s are h =
      ap₂ ◌||◌ (h 0 a (zero-lt-suc (length asked)) refl field.1 (All-head (IsValue name_limit) field.1 (map (λ field. field.1) fields) are) s.1.bytes)
      (all-short asked fields s.2 (All-tail (IsValue name_limit) field.1 (map (λ field. field.1) fields) are) (λ j f lt e. h (suc j) f (suc-le-suc lt) e))

  one-long : (asked : List (Text × Text)) (fields : Fields) → SpellFields asked fields → All (IsValue name_limit) (map (λ field. field.1) fields) →
      (j : ℕ) (field : Text × Text) → slice_get asked j ≡ Some field → IsLong true db n field.1 → some_long fields ≡ true
  one-long [] fields s are j f e long = absurd (none-some f e)
  one-long (a ∷ asked) [] s are j f e long = absurd s
  one-long (a ∷ asked) (field ∷ fields) s are zero f e long =
      ap (λ b. b || some_long fields) (long field.1 (All-head (IsValue name_limit) field.1 (map (λ field. field.1) fields) are) (s.1.bytes ∙ ap (λ (p : Text × Text). p.1) (same_Some a f e)))
  one-long (a ∷ asked) (field ∷ fields) s are (suc j) f e long =
      ap (λ b. is_long (raw_text m field.1) || b) (one-long asked fields s.2 (All-tail (IsValue name_limit) field.1 (map (λ field. field.1) fields) are) j f e long)
      ∙ or-true (is_long (raw_text m field.1))

  pub any-long : (long : Bool) (asked : List (Text × Text)) (fields : Fields) → SpellFields asked fields → All (IsValue name_limit) (map (λ field. field.1) fields) → IsAnyLong long db n asked → some_long fields ≡ long
  any-long false asked fields s are h = all-short asked fields s are h
  any-long true asked fields s are h = one-long asked fields s are h.0 h.1 h.2 h.3

pub rows-values : (fields : Fields) → map (λ row. row.assignment.value) (new_rows fields) ≡ map (λ field. field.1) fields
rows-values [] = refl
rows-values (field ∷ []) = refl
rows-values (field ∷ next ∷ fields) = ap (λ l. field.1 ∷ l) (rows-values (next ∷ fields))

-- ---- what is written

row-line : (name : Text) (value : Value) (after : Text) → row_bytes (new_row name value after) ≡ field_line (name, value_bytes value) ++ after
row-line name value after = regroup (comma ∷ codes "\n  ") name (codes " ") (equals_sign ∷ codes " ") (value_bytes value) after
  where
    regroup : (c n x y v s : Text) → c ++ (n ++ x ++ y ++ v ++ s) ≡ (c ++ n ++ (x ++ y) ++ v) ++ s
    regroup c n x y v s = simp append_assoc

line-last : (a b : Text) → a ++ b ≡ (a ++ []) ++ b
line-last a b = ap (λ t. t ++ b) (sym (append-nil a))

rows-lines : (asked : List (Text × Text)) (fields : Fields) → SpellFields asked fields → flat_map row_bytes (new_rows fields) ≡ lines_of asked ++ line_before_close asked
rows-lines [] [] s = refl
rows-lines [] (field ∷ fields) s = absurd s
rows-lines (a ∷ asked) [] s = absurd s
rows-lines (a ∷ []) (field ∷ []) s =
    append-nil (row_bytes (new_row field.0 field.1 line_end)) ∙ row-line field.0 field.1 line_end
    ∙ ap₂ (λ n v. field_line (n, v) ++ line_end) s.0 s.1.bytes ∙ line-last (field_line a) line_end
rows-lines (a ∷ b ∷ asked) (field ∷ []) s = absurd s.2
rows-lines (a ∷ []) (field ∷ next ∷ fields) s = absurd s.2
rows-lines (a ∷ b ∷ asked) (field ∷ next ∷ fields) s =
    ap₂ ◌++◌ (row-line field.0 field.1 [] ∙ append-nil (field_line (field.0, value_bytes field.1)) ∙ ap₂ (λ n v. field_line (n, v)) s.0 s.1.bytes) (rows-lines (b ∷ asked) (next ∷ fields) s.2)
    ∙ sym (append_assoc (field_line a) (lines_of (b ∷ asked)) (codes "\n"))

entry-parts : (head opening key rows close end : Text) → (((head ++ []) ++ opening) ++ key ++ ((rows ++ []) ++ close)) ++ end ≡ head ++ opening ++ key ++ rows ++ (close ++ end)
entry-parts head opening key rows close end = simp (append_assoc, append-nil)

-- an entry as it is written
pub entry-written : (a : NewEntry) (new : edits.NewEntry) → SpellsEntry a new → item_bytes (item_of new) ≡ entry_text a
entry-written a new spells =
    ap₂ (λ (kind key : Text). item_bytes (item_of (record new { kind_name = kind; key = key }))) spells.kind_name spells.key
    ∙ entry-parts (codes "@" ++ a.kind_name) (codes "{") a.key (flat_map row_bytes (new_rows new.fields)) (codes "}") (codes "\n")
    ∙ ap (λ (rows : Text). codes "@" ++ a.kind_name ++ codes "{" ++ a.key ++ rows ++ codes "}\n") (rows-lines a.fields new.fields spells.fields)
    ∙ last (codes "@" ++ a.kind_name ++ codes "{" ++ a.key) (lines_of a.fields) (line_before_close a.fields) (codes "}\n")
  where
    last : (x y z w : Text) → x ++ (y ++ z) ++ w ≡ x ++ y ++ z ++ w
    last x y z w = simp append_assoc
