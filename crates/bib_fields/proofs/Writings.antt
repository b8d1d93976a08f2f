-- The bytes of rows, and what comes after them.
use Rattle.std.proofs.Common.{◌≡◌, ℕ, zero, suc, ◌+◌, ◌<◌, ◌≤◌, true, List, [], ◌∷◌, ◌++◌, length, take, drop, map, get_or, Option, None, Some, slice_get, refl, sym, ◌∙◌, ap, ap₂, subst, append_assoc, append-nil}
use Rattle.std.specs.List.{AllZip, AllByRecursion, flat_map}
use Rattle.std.proofs.Math.Seq.{take-append_seam, drop-append_seam, drop-append-add}
use Rattle.std.proofs.lemmas.List.{drop_more, drop_all, take_more, take_all}
use Rattle.std.proofs.lemmas.List.Elements.{recursion_from_All}
use Rattle.bib_spec.specs.Bytes.{comma, equals_sign, name_limit}
use Rattle.bib_spec.specs.Text.{Text, does_not_begin_with, after_run}
unfoldable use Rattle.bib_spec.specs.Text.{is_space}
use Rattle.bib_spec.specs.Tree.{Delimiter, Brace, Paren, Row, Entry, IsRow, IsSpace, IsEntry, EntryTree, tree_bytes, row_bytes, value_bytes, opening_bytes, close_byte, last_comma_bytes}
use Rattle.bib_spec.specs.Texts.{row_start}
use Rattle.bib_scan.specs.declared.fields.FieldView.{FieldView}
use Rattle.bib_scan.specs.View.{Field, View, field_seen, fields_after, fields_of, view_of}
use Rattle.bib_scan.proofs.RunLaws.{run_rest}
use Rattle.merge_spec.specs.ThreeWay.{entry_like}
use Rattle.bib_fields.specs.MixSeen.{row_at}
use Rattle.bib_fields.specs.Slices.{between, last_value, after_last}

-- the field has the places of the row in the body
pub record IsPlaced (body : Text) (field : Field) (row : Row) : Type 0 where
  pub start : between body field.start field.value_at ≡ row_start row
  pub value : field.value ≡ value_bytes row.assignment.value

-- ---- one row

-- a part of a text
part : (a s rest : Text) → between (a ++ (s ++ rest)) (length a) (length (a ++ s)) ≡ s
part a s rest =
    ap (drop (length a)) (ap (take (length (a ++ s))) (sym (append_assoc a s rest)) ∙ take-append_seam (a ++ s) rest)
    ∙ drop-append_seam a s

row-parts : (row : Row) → row_bytes row ≡ row_start row ++ (value_bytes row.assignment.value ++ row.assignment.space_after)
row-parts row = go (comma ∷ row.space_before_name) row.assignment.name row.assignment.space_before_equals (equals_sign ∷ row.assignment.space_before_value) (value_bytes row.assignment.value) row.assignment.space_after
  where
    go : (c n b s v a : Text) → c ++ ((((n ++ b) ++ s) ++ v) ++ a) ≡ (c ++ (n ++ (b ++ s))) ++ (v ++ a)
    go c n b s v a = simp append_assoc

value-place : (before : Text) (row : Row) → (((before ++ comma ∷ row.space_before_name) ++ row.assignment.name) ++ row.assignment.space_before_equals) ++ equals_sign ∷ row.assignment.space_before_value ≡ before ++ row_start row
value-place before row = go before (comma ∷ row.space_before_name) row.assignment.name row.assignment.space_before_equals (equals_sign ∷ row.assignment.space_before_value)
  where
    go : (b c n x y : Text) → (((b ++ c) ++ n) ++ x) ++ y ≡ b ++ (c ++ (n ++ (x ++ y)))
    go b c n x y = simp append_assoc

first-row : (before : Text) (row : Row) (rest : Text) → before ++ (row_bytes row ++ rest) ≡ before ++ (row_start row ++ ((value_bytes row.assignment.value ++ row.assignment.space_after) ++ rest))
first-row before row rest = ap (λ t. before ++ t) (ap (λ t. t ++ rest) (row-parts row) ∙ append_assoc (row_start row) (value_bytes row.assignment.value ++ row.assignment.space_after) rest)

-- the places of the rows of a body
pub rows-placed : (body before rest : Text) (rows : List Row) → body ≡ before ++ (flat_map row_bytes rows ++ rest) → AllZip (IsPlaced body) (fields_after before rows) rows
rows-placed body before rest [] is = tt
rows-placed body before rest (row ∷ rows) is =
    let more : Text = flat_map row_bytes rows ++ rest in
    let whole : body ≡ before ++ (row_bytes row ++ more) = is ∙ ap (λ t. before ++ t) (append_assoc (row_bytes row) (flat_map row_bytes rows) rest) in (
      record {
        start = ap₂ (λ (b v : Text). between b (length before) (length v)) (whole ∙ first-row before row more) (value-place before row) ∙ part before (row_start row) ((value_bytes row.assignment.value ++ row.assignment.space_after) ++ more);
        value = refl;
      },
      rows-placed body (before ++ row_bytes row) rest rows (whole ∙ sym (append_assoc before (row_bytes row) more)),
    )

-- the row with this number
pub placed-at : (body : Text) (fields : List FieldView) (rows : List Row) (n : ℕ) (f : FieldView) → AllZip (IsPlaced body) (map field_seen fields) rows → slice_get fields n ≡ Some f → IsPlaced body (field_seen f) (row_at rows n)
placed-at body [] rows n f are at = cc
placed-at body (x ∷ fields) [] n f are at = absurd are
placed-at body (x ∷ fields) (r ∷ rows) zero f are at = let same : x ≡ f = cc in subst (λ g. IsPlaced body (field_seen g) r) same are.0
placed-at body (x ∷ fields) (r ∷ rows) (suc n) f are at = placed-at body fields rows n f are.1 at

-- ---- after the rows

-- the place of the last value, from a number on
pub last-more : (p q : ℕ × ℕ) (fields : List FieldView) (k : ℕ) (f : FieldView) → k < length fields → last_value q (drop k fields) ≡ last_value p fields →
    last_value (let g : FieldView = get_or fields k f in (g.value_at, length g.value.now)) (drop (k + 1) fields) ≡ last_value p fields
last-more p q fields k f lt so_far = sym (ap (last_value q) (drop_more fields k f lt)) ∙ so_far

pub last-all : (p q : ℕ × ℕ) (fields : List FieldView) (k : ℕ) → length fields ≤ k → last_value q (drop k fields) ≡ last_value p fields → q ≡ last_value p fields
last-all p q fields k past so_far = sym (ap (last_value q) (drop_all k fields past)) ∙ so_far

-- the text after this place is white space and this
abbrev IsAfter : Text → ℕ × ℕ → Text → Type 0
IsAfter body p rest = (space : Text) × IsSpace space × (drop (p.0 + p.1) body ≡ space ++ rest)

after-rows : (body before tail : Text) (p : ℕ × ℕ) (rows : List Row) (fields : List FieldView) → map field_seen fields ≡ fields_after before rows → AllByRecursion (IsRow name_limit) rows → body ≡ before ++ (flat_map row_bytes rows ++ tail) →
    IsAfter body p (flat_map row_bytes rows ++ tail) → IsAfter body (last_value p fields) tail
after-rows body before tail p [] [] are is whole after = after
after-rows body before tail p [] (f ∷ fields) are is whole after = cc
after-rows body before tail p (row ∷ rows) [] are is whole after = cc
after-rows body before tail p (row ∷ rows) (f ∷ fields) are is whole after =
    let more : Text = flat_map row_bytes rows ++ tail in
    let value : Text = value_bytes row.assignment.value in
    let space : Text = row.assignment.space_after in
    let here : body ≡ before ++ (row_bytes row ++ more) = whole ∙ ap (λ t. before ++ t) (append_assoc (row_bytes row) (flat_map row_bytes rows) tail) in
    let place : f.value_at ≡ length (before ++ row_start row) = ap (λ (l : List Field). head_at l) are ∙ ap length (value-place before row) in
    let len : f.value.now ≡ value = ap (λ (l : List Field). head_value l) are in
    let cut : body ≡ (before ++ row_start row) ++ (value ++ (space ++ more)) = here ∙ first-row before row more ∙ regroup before (row_start row) value space more in
    after-rows body (before ++ row_bytes row) tail (f.value_at, length f.value.now) rows fields (ap (λ (l : List Field). tail_of l) are) is.1 (here ∙ sym (append_assoc before (row_bytes row) more)) (
      space,
      is.0.assignment.space_after,
      ap₂ (λ (n : ℕ) (v : Text). drop (n + length v) body) place len ∙ ap (drop (length (before ++ row_start row) + length value)) cut
          ∙ drop-append-add (before ++ row_start row) (value ++ (space ++ more)) (length value) ∙ drop-append_seam value (space ++ more),
    )
  where
    head_at : List Field → ℕ
    head_at [] = 0
    head_at (g ∷ l) = g.value_at

    head_value : List Field → Text
    head_value [] = []
    head_value (g ∷ l) = g.value

    tail_of : List Field → List Field
    tail_of [] = []
    tail_of (g ∷ l) = l

    regroup : (a b v s m : Text) → a ++ (b ++ ((v ++ s) ++ m)) ≡ (a ++ b) ++ (v ++ (s ++ m))
    regroup a b v s m = simp append_assoc

-- an entry, cut before its rows and after them
entry-cut : (o k s r c d : Text) → (o ++ k) ++ (((s ++ r) ++ c) ++ d) ≡ (o ++ k ++ s) ++ (r ++ (c ++ d))
entry-cut o k s r c d = simp append_assoc

-- the end of an entry is no white space
end-begins : (comma_bytes : Option Text) (d : Delimiter) → does_not_begin_with is_space (last_comma_bytes comma_bytes ++ close_byte d ∷ []) ≡ true
unfolding is_space
end-begins None Brace = refl
end-begins None Paren = refl
end-begins (Some space) d = refl

-- what comes after the rows of an entry
pub end-of : (e : Entry) (trail : Text) (v : View) (fields : List FieldView) → IsEntry name_limit e → v ≡ view_of (record { tree = EntryTree e; trail = trail }) → map field_seen fields ≡ fields_of (EntryTree e) →
    after_run is_space (after_last v fields) ≡ last_comma_bytes e.last_comma ++ close_byte e.opening.delimiter ∷ []
end-of e trail v fields is seen are =
    let tail : Text = last_comma_bytes e.last_comma ++ close_byte e.opening.delimiter ∷ [] in
    let before : Text = opening_bytes e.opening ++ e.key ++ e.space_after_key in
    let whole : tree_bytes (EntryTree e) ≡ before ++ (flat_map row_bytes e.rows ++ tail) = entry-cut (opening_bytes e.opening) e.key e.space_after_key (flat_map row_bytes e.rows) (last_comma_bytes e.last_comma) (close_byte e.opening.delimiter ∷ []) in
    let after = after-rows (tree_bytes (EntryTree e)) before tail (length (opening_bytes e.opening), length e.key) e.rows fields are (recursion_from_All (IsRow name_limit) e.rows is.rows) whole
    (e.space_after_key, is.space_after_key, key_cut (opening_bytes e.opening) e.key e.space_after_key (flat_map row_bytes e.rows ++ tail) (tree_bytes (EntryTree e)) whole) in
    ap (λ (w : View). after_run is_space (after_last w fields)) seen ∙ ap (after_run is_space) after.2 ∙ run_rest is_space after.0 tail after.1 (end-begins e.last_comma e.opening.delimiter)
  where
    regroup : (o k s r : Text) → (o ++ k ++ s) ++ r ≡ o ++ (k ++ (s ++ r))
    regroup o k s r = simp append_assoc

    key_cut : (o k s r body : Text) → body ≡ (o ++ k ++ s) ++ r → drop (length o + length k) body ≡ s ++ r
    key_cut o k s r body is = ap (drop (length o + length k)) (is ∙ regroup o k s r) ∙ drop-append-add o (k ++ (s ++ r)) (length k) ∙ drop-append_seam k (s ++ r)

-- the places of an entry's rows
pub entry-placed : (e : Entry) (fields : List FieldView) → map field_seen fields ≡ fields_of (EntryTree e) → AllZip (IsPlaced (tree_bytes (EntryTree e))) (map field_seen fields) e.rows
entry-placed e fields are =
    let before : Text = opening_bytes e.opening ++ e.key ++ e.space_after_key in
    subst (λ (l : List Field). AllZip (IsPlaced (tree_bytes (EntryTree e))) l e.rows) (sym are)
    (rows-placed (tree_bytes (EntryTree e)) before (last_comma_bytes e.last_comma ++ close_byte e.opening.delimiter ∷ []) e.rows
    (entry-cut (opening_bytes e.opening) e.key e.space_after_key (flat_map row_bytes e.rows) (last_comma_bytes e.last_comma) (close_byte e.opening.delimiter ∷ [])))

-- ---- a merged entry

-- the parts of a merged entry, one after another
pub entry-written : (e : Entry) (kind key space : Text) (rows : List Row) (old one two three four new opening end : Text) → opening ≡ opening_bytes (let h = e.opening.head in let o = e.opening in record o { head = record h { type_name = kind } }) →
    end ≡ last_comma_bytes e.last_comma ++ close_byte e.opening.delimiter ∷ [] → one ≡ old ++ opening → two ≡ one ++ key → three ≡ two ++ space → four ≡ three ++ flat_map row_bytes rows → new ≡ four ++ end →
    new ≡ old ++ tree_bytes (EntryTree (entry_like e kind key space rows))
entry-written e kind key space rows old one two three four new opening end opening_is end_is e1 e2 e3 e4 e5 =
    e5 ∙ ap₂ (λ (x y : Text). x ++ y) (e4 ∙ ap (λ x. x ++ flat_map row_bytes rows) (e3 ∙ ap (λ x. x ++ space) (e2 ∙ ap (λ x. x ++ key) (e1 ∙ ap (λ x. old ++ x) opening_is)))) end_is
    ∙ joined old (opening_bytes (let h = e.opening.head in let o = e.opening in record o { head = record h { type_name = kind } })) key space (flat_map row_bytes rows) (last_comma_bytes e.last_comma) (close_byte e.opening.delimiter ∷ [])
  where
    joined : (w o k s r c d : Text) → ((((w ++ o) ++ k) ++ s) ++ r) ++ (c ++ d) ≡ w ++ ((o ++ k) ++ (((s ++ r) ++ c) ++ d))
    joined w o k s r c d = simp append_assoc

-- ---- a merged row

pub row-written : (start_row value_row : Row) (space old one two new start value : Text) → start ≡ row_start start_row → value ≡ value_bytes value_row.assignment.value → one ≡ old ++ start → two ≡ one ++ value → new ≡ two ++ space →
    new ≡ old ++ row_bytes (let a = start_row.assignment in record start_row { assignment = record a { value = value_row.assignment.value; space_after = space } })
row-written start_row value_row space old one two new start value start_is value_is e1 e2 e3 =
    e3 ∙ ap (λ x. x ++ space) (e2 ∙ ap₂ (λ (x y : Text). x ++ y) (e1 ∙ ap (λ x. old ++ x) start_is) value_is)
    ∙ joined old (comma ∷ start_row.space_before_name) start_row.assignment.name start_row.assignment.space_before_equals (equals_sign ∷ start_row.assignment.space_before_value) (value_bytes value_row.assignment.value) space
  where
    joined : (w c n b s v a : Text) → ((w ++ (c ++ (n ++ (b ++ s)))) ++ v) ++ a ≡ w ++ (c ++ ((((n ++ b) ++ s) ++ v) ++ a))
    joined w c n b s v a = simp append_assoc

-- ---- merged rows

one-more : {X : Type 0} (seen : X → Row) (xs : List X) (x : X) → flat_map row_bytes (map seen xs) ++ row_bytes (seen x) ≡ flat_map row_bytes (map seen (xs ++ x ∷ []))
one-more seen [] x = sym (append-nil (row_bytes (seen x)))
one-more seen (y ∷ xs) x = append_assoc (row_bytes (seen y)) (flat_map row_bytes (map seen xs)) (row_bytes (seen x)) ∙ ap (λ (t : Text). row_bytes (seen y) ++ t) (one-more seen xs x)

pub rows-more : {X : Type 0} (seen : X → Row) (xs : List X) (k : ℕ) (x : X) (old out new : Text) → k < length xs → x ≡ get_or xs k x → new ≡ out ++ row_bytes (seen x) → out ≡ old ++ flat_map row_bytes (map seen (take k xs)) →
    new ≡ old ++ flat_map row_bytes (map seen (take (k + 1) xs))
rows-more seen xs k x old out new lt is added so_far =
    added ∙ ap (λ y. out ++ row_bytes (seen y)) is ∙ ap (λ (t : Text). t ++ row_bytes (seen (get_or xs k x))) so_far
    ∙ append_assoc old (flat_map row_bytes (map seen (take k xs))) (row_bytes (seen (get_or xs k x)))
    ∙ ap (λ (t : Text). old ++ t) (one-more seen (take k xs) (get_or xs k x) ∙ ap (λ l. flat_map row_bytes (map seen l)) (sym (take_more xs k x lt)))

pub rows-all : {X : Type 0} (seen : X → Row) (xs : List X) (k : ℕ) (old out : Text) → length xs ≤ k → out ≡ old ++ flat_map row_bytes (map seen (take k xs)) → out ≡ old ++ flat_map row_bytes (map seen xs)
rows-all seen xs k old out past so_far = so_far ∙ ap (λ l. old ++ flat_map row_bytes (map seen l)) (take_all k xs past)
