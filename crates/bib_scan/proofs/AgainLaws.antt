-- Bytes that the grammar gives are read again: values and rows.
use Rattle.bib_scan.proofs.Words.{◌≡◌, ℕ, zero, suc, ◌-◌, ◌<◌, ◌≤◌, true, false, eqb, List, [], ◌∷◌, ◌++◌, length, take, refl, sym, ap, subst, ◌∙◌, arith, append_assoc, inl, inr, Option, None, Some, Result, Ok, eqb-true, eq-eqb, ne_eqb, or_cases, not_from_false, both_ways, cond-true, cond-false}
use Rattle.bib_scan.proofs.Words.{false_from_ne_true, length-append, take_at, All-head, All-tail, flat_map, All, is_ascii_digit, Text, is_space, is_name_within, is_name_byte, after_run, Part, Braced, Quoted, Macro, Link, Value, Assignment, Row, part_bytes, link_bytes, value_bytes, row_bytes}
use Rattle.bib_scan.proofs.Words.{last_comma_bytes, IsSpace, IsPart, IsLink, IsValue, IsAssignment, IsRow, IsLastComma, Read, Halt, Assigned, read_name, read_assignment, past_hash, read_links, read_value_rest, read_value, read_row, past_byte, read_rows, ◌>>=◌}
use Rattle.bib_spec.specs.Tree.{Digits}
use Rattle.bib_scan.proofs.PartLaws.{AfterPart, part_again, name_parts, name_again}
use Rattle.bib_scan.proofs.ValueLemmas.{links_more, links_end}
use Rattle.bib_scan.proofs.ValueLaws.{Stands, skip_space}
use Rattle.bib_scan.proofs.RowLaws.{assignment_inside, row_inside, row_shape}

-- a byte that ends a name and a run of digits
pub record Breaks (b : ℕ) : Type 0 where
  pub name : is_name_byte b ≡ false
  pub digit : is_ascii_digit b ≡ false

hash_breaks : Breaks 35
unfolding is_name_byte
hash_breaks = record { name = refl; digit = refl }

pub comma_breaks : Breaks 44
unfolding is_name_byte
comma_breaks = record { name = refl; digit = refl }

pub equals_breaks : Breaks 61
unfolding is_name_byte
equals_breaks = record { name = refl; digit = refl }

pub space_breaks : (b : ℕ) → is_space b ≡ true → Breaks b
unfolding is_space is_name_byte
space_breaks b is =
    elim (or_cases _ _ is) [
      | inl three ↦ elim (or_cases _ _ three) [
        | inl two ↦ elim (or_cases _ _ two) [
          | inl e ↦ by 32 (eqb-true b 32 e) (record { name = refl; digit = refl })
          | inr e ↦ by 9 (eqb-true b 9 e) (record { name = refl; digit = refl })
        ]
        | inr e ↦ by 10 (eqb-true b 10 e) (record { name = refl; digit = refl })
      ]
      | inr e ↦ by 13 (eqb-true b 13 e) (record { name = refl; digit = refl })
    ]
  where
    by : (c : ℕ) → b ≡ c → Breaks c → Breaks b
    by c same breaks = subst Breaks (sym same) breaks

pub after_space : (s : Text) (b : ℕ) (x : Text) → IsSpace s → Breaks b → AfterPart (s ++ b ∷ x)
after_space [] b x space breaks = record { name = not_from_false _ breaks.name; digit = not_from_false _ breaks.digit }
after_space (a ∷ s) b x space breaks =
    let first = space_breaks a (All-head (λ (y : ℕ). is_space y ≡ true) a s space) in
    record { name = not_from_false _ first.name; digit = not_from_false _ first.digit }

-- a name byte and a digit are no white space
name_no_space : (b : ℕ) → is_name_byte b ≡ true → is_space b ≡ false
name_no_space b is = false_from_ne_true _ (λ space. both_ways (is_name_byte b) (space_breaks b space).name is)

digit_no_space : (b : ℕ) → is_ascii_digit b ≡ true → is_space b ≡ false
digit_no_space b is = false_from_ne_true _ (λ space. both_ways (is_ascii_digit b) (space_breaks b space).digit is)

pub name_stands : (limit : ℕ) (u r : Text) → is_name_within limit u ≡ true → Stands (u ++ r)
name_stands limit [] r is = let n = name_parts limit [] is in absurd (omega (arith, n.some))
name_stands limit (b ∷ u) r is =
    let n = name_parts limit (b ∷ u) is in
    not_from_false _ (name_no_space b (All-head (λ (y : ℕ). is_name_byte y ≡ true) b u n.bytes))

pub part_stands : (limit : ℕ) (p : Part) (r : Text) → IsPart limit p → Stands (part_bytes p ++ r)
unfolding is_space
part_stands limit (Braced c) r is = refl
part_stands limit (Quoted c) r is = refl
part_stands limit (Digits []) r is = absurd (omega arith)
part_stands limit (Digits (b ∷ c)) r is = not_from_false _ (digit_no_space b (All-head (λ (y : ℕ). is_ascii_digit y ≡ true) b c is.1))
part_stands limit (Macro m) r is = name_stands limit m r is

-- ---- values

pub hash_stands : (x : Text) → Stands (35 ∷ x)
unfolding is_space
hash_stands x = refl

pub links_after : (limit : ℕ) (ls : List Link) (r : Text) → All (IsLink limit) ls → AfterPart r → AfterPart (flat_map link_bytes ls ++ r)
links_after limit [] r all after = after
links_after limit (l ∷ ls) r all after =
    let ok = All-head (IsLink limit) l ls all in
    let shape : (flat_map link_bytes (l ∷ ls)) ++ r ≡ l.space_before_hash ++ (35 ∷ (l.space_after_hash ++ (part_bytes l.part ++ (flat_map link_bytes ls ++ r)))) = simp append_assoc in
    subst AfterPart (sym shape) (after_space l.space_before_hash 35 _ ok.space_before_hash hash_breaks)

links_len : (ls : List Link) → length ls ≤ length (flat_map link_bytes ls)
links_len [] = omega arith
links_len (l ∷ ls) =
    let some = length-append l.space_before_hash (35 ∷ l.space_after_hash) in
    let more = length-append (l.space_before_hash ++ 35 ∷ l.space_after_hash) (part_bytes l.part) in
    let all = length-append (link_bytes l) (flat_map link_bytes ls) in
    omega (arith, links_len ls)

pub links_again : (limit : ℕ) (ls : List Link) (n : ℕ) (r : Text) → All (IsLink limit) ls → length ls ≤ n → AfterPart r → past_hash (after_run is_space r) ≡ None → read_links limit n (flat_map link_bytes ls ++ r) ≡ Ok r
links_again limit [] n r all room after end = links_end limit n r (sym end)
links_again limit (l ∷ ls) n r all room after end =
    let ok = All-head (IsLink limit) l ls all in
    let later : Text = flat_map link_bytes ls ++ r in
    let next : Text = part_bytes l.part ++ later in
    let shape : (flat_map link_bytes (l ∷ ls)) ++ r ≡ l.space_before_hash ++ (35 ∷ (l.space_after_hash ++ next)) = simp append_assoc in
    let skipped : after_run is_space (l.space_before_hash ++ (35 ∷ (l.space_after_hash ++ next))) ≡ 35 ∷ (l.space_after_hash ++ next) = skip_space l.space_before_hash (35 ∷ (l.space_after_hash ++ next)) ok.space_before_hash (hash_stands (l.space_after_hash ++ next)) in
    let inner : after_run is_space (l.space_after_hash ++ next) ≡ next = skip_space l.space_after_hash next ok.space_after_hash (part_stands limit l.part later ok.part) in
    let found : Some next ≡ past_hash (after_run is_space (flat_map link_bytes (l ∷ ls) ++ r)) = sym (ap (λ (u : Text). past_hash (after_run is_space u)) shape ∙ ap past_hash skipped ∙ ap Some inner) in
    let read = part_again limit l.part later ok.part (links_after limit ls r (All-tail (IsLink limit) l ls all) after) in
    links_more limit n _ next (l.part, later) (omega arith) found read ∙ links_again limit ls (n - 1) r (All-tail (IsLink limit) l ls all) (omega arith) after end

pub value_stands : (limit : ℕ) (v : Value) (r : Text) → IsValue limit v → Stands (value_bytes v ++ r)
value_stands limit v r is = subst Stands (sym (append_assoc (part_bytes v.first) (flat_map link_bytes v.links) r)) (part_stands limit v.first _ is.first)

pub value_again : (limit : ℕ) (v : Value) (r : Text) → IsValue limit v → AfterPart r → past_hash (after_run is_space r) ≡ None → read_value limit (value_bytes v ++ r) ≡ Ok (value_bytes v, r)
value_again limit v r is after end =
    let later : Text = flat_map link_bytes v.links ++ r in
    let shape : value_bytes v ++ r ≡ part_bytes v.first ++ later = append_assoc (part_bytes v.first) (flat_map link_bytes v.links) r in
    let read = part_again limit v.first later is.first (links_after limit v.links r is.links after) in
    let room : length v.links ≤ length later = omega (arith, links_len v.links, length-append (flat_map link_bytes v.links) r) in
    let rest = links_again limit v.links (length later) r is.links room after end in
    let whole : read_value_rest limit (value_bytes v ++ r) ≡ Ok r = ap (read_value_rest limit) shape ∙ ap (λ (m : Read Part). m >>= λ first. read_links limit (length first.1) first.1) read ∙ rest in
    let len : length (value_bytes v ++ r) - length r ≡ length (value_bytes v) = omega (arith, length-append (value_bytes v) r) in
    ap (λ (m : Result Text Halt). m >>= λ x. Ok (take (length (value_bytes v ++ r) - length x) (value_bytes v ++ r), x)) whole
    ∙ ap (λ (u : Text). Ok (u, r)) (take_at (value_bytes v) r _ (sym len))

-- ---- rows

-- a byte that ends a row
pub record EndsRow (b : ℕ) : Type 0 where
  pub breaks : Breaks b
  pub no_space : is_space b ≡ false
  pub no_hash : eqb b 35 ≡ false

pub comma_ends : EndsRow 44
unfolding is_space
comma_ends = record { breaks = comma_breaks; no_space = refl; no_hash = refl }

pub no_link : (s : Text) (b : ℕ) (x : Text) → IsSpace s → EndsRow b → past_hash (after_run is_space (s ++ b ∷ x)) ≡ None
no_link s b x space ends = ap past_hash (skip_space s (b ∷ x) space (not_from_false _ ends.no_space)) ∙ cond-false (eqb b 35) _ _ ends.no_hash

pub equals_stands : (x : Text) → Stands (61 ∷ x)
unfolding is_space
equals_stands x = refl

-- reading an assignment with this text after it
abbrev pub assigned_of : Assignment → Text → Assigned
assigned_of a u = record { name = a.name; value = value_bytes a.value; value_left = length (value_bytes a.value ++ (a.space_after ++ u)) }

pub assignment_again : (limit : ℕ) (a : Assignment) (b : ℕ) (x : Text) → IsAssignment limit a → EndsRow b → read_assignment limit (assignment_inside a (b ∷ x)) ≡ Ok (assigned_of a (b ∷ x), b ∷ x)
unfolding read_assignment
assignment_again limit a b x is ends =
    let t6 : Text = a.space_after ++ (b ∷ x) in
    let t5 : Text = value_bytes a.value ++ t6 in
    let t3 : Text = 61 ∷ (a.space_before_value ++ t5) in
    let t1 : Text = a.name ++ (a.space_before_equals ++ t3) in
    let e2 : read_name limit t1 ≡ Ok (a.name, a.space_before_equals ++ t3) = name_again limit a.name (a.space_before_equals ++ t3) is.name (after_space a.space_before_equals 61 (a.space_before_value ++ t5) is.space_before_equals equals_breaks).name in
    let e3 : after_run is_space (a.space_before_equals ++ t3) ≡ t3 = skip_space a.space_before_equals t3 is.space_before_equals (equals_stands (a.space_before_value ++ t5)) in
    let e4 : after_run is_space (a.space_before_value ++ t5) ≡ t5 = skip_space a.space_before_value t5 is.space_before_value (value_stands limit a.value t6 is.value) in
    let e5 : read_value limit t5 ≡ Ok (value_bytes a.value, t6) = value_again limit a.value t6 is.value (after_space a.space_after b x is.space_after ends.breaks) (no_link a.space_after b x is.space_after ends) in
    let e6 : after_run is_space t6 ≡ b ∷ x = skip_space a.space_after (b ∷ x) is.space_after (not_from_false _ ends.no_space) in
    rw (e2, e3, e4, e5, e6) refl

pub row_again : (limit : ℕ) (r : Row) (b : ℕ) (x : Text) → IsRow limit r → EndsRow b → read_row limit (row_inside r (b ∷ x)) ≡ Ok (b ∷ x)
unfolding read_row
row_again limit r b x is ends =
    let named : Text = assignment_inside r.assignment (b ∷ x) in
    let skipped : after_run is_space (r.space_before_name ++ named) ≡ named = skip_space r.space_before_name named is.space_before_name (name_stands limit r.assignment.name _ is.assignment.name) in
    rw (skipped, assignment_again limit r.assignment b x is.assignment ends) refl

pub closed_here : (c : ℕ) (x : Text) → past_byte c (c ∷ x) ≡ Some x
closed_here c x = cond-true (eqb c c) _ _ (eq-eqb c c refl)

pub not_closed : (c b : ℕ) (x : Text) → eqb b c ≡ false → past_byte c (b ∷ x) ≡ None
not_closed c b x other = cond-false (eqb b c) _ _ other

-- a closing delimiter: it ends a row, and is no comma and no name byte
pub record Close (c : ℕ) : Type 0 where
  pub ends : EndsRow c
  pub no_comma : eqb 44 c ≡ false

pub name_not_closed : (limit c : ℕ) (u x : Text) → Close c → is_name_within limit u ≡ true → past_byte c (u ++ x) ≡ None
name_not_closed limit c [] x close is = let n = name_parts limit [] is in absurd (omega (arith, n.some))
name_not_closed limit c (b ∷ u) x close is =
    let n = name_parts limit (b ∷ u) is in
    let first : is_name_byte b ≡ true = All-head (λ (y : ℕ). is_name_byte y ≡ true) b u n.bytes in
    not_closed c b (u ++ x) (ne_eqb b c (λ e. both_ways (is_name_byte b) (ap is_name_byte e ∙ close.ends.breaks.name) first))

-- the bytes after some rows
abbrev pub rows_inside : ℕ → List Row → Option Text → Text → Text
rows_inside c rs tail x = flat_map row_bytes rs ++ (last_comma_bytes tail ++ c ∷ x)

-- they begin with a byte that ends a row
pub rows_begin : (c : ℕ) (rs : List Row) (tail : Option Text) (x : Text) → Close c → (b : ℕ) × (u : Text) × EndsRow b × (rows_inside c rs tail x ≡ b ∷ u)
rows_begin c [] None x close = (c, x, close.ends, refl)
rows_begin c [] (Some s) x close = (44, s ++ c ∷ x, comma_ends, refl)
rows_begin c (r ∷ rs) tail x close = (44, row_inside r (rows_inside c rs tail x), comma_ends, append_assoc (row_bytes r) (flat_map row_bytes rs) _ ∙ row_shape r _)

pub rows_again : (limit : ℕ) (rs : List Row) (n c : ℕ) (tail : Option Text) (x : Text) → All (IsRow limit) rs → IsLastComma tail → Close c → length rs < n → read_rows limit n c (rows_inside c rs tail x) ≡ Ok x
unfolding read_rows
rows_again limit [] zero c tail x all space close room = absurd (omega arith)
rows_again limit [] (suc n) c None x all space close room = rw (closed_here c x) refl
rows_again limit [] (suc n) c (Some s) x all space close room =
    let none = not_closed c 44 (s ++ c ∷ x) close.no_comma in
    let skipped : after_run is_space (s ++ c ∷ x) ≡ c ∷ x = skip_space s (c ∷ x) space (not_from_false _ close.ends.no_space) in
    let found : past_byte c (after_run is_space (s ++ c ∷ x)) ≡ Some x = ap (past_byte c) skipped ∙ closed_here c x in
    rw (none, found) refl
rows_again limit (r ∷ rs) zero c tail x all space close room = absurd (omega arith)
rows_again limit (r ∷ rs) (suc n) c tail x all space close room =
    let ok = All-head (IsRow limit) r rs all in
    let later = rows_again limit rs n c tail x (All-tail (IsRow limit) r rs all) space close (omega arith) in
    let begin = rows_begin c rs tail x close in
    let inside : Text = row_inside r (rows_inside c rs tail x) in
    let shape : rows_inside c (r ∷ rs) tail x ≡ 44 ∷ inside = append_assoc (row_bytes r) (flat_map row_bytes rs) _ ∙ row_shape r _ in
    let none : past_byte c (44 ∷ inside) ≡ None = not_closed c 44 inside close.no_comma in
    let named : Text = assignment_inside r.assignment (rows_inside c rs tail x) in
    let skipped : after_run is_space inside ≡ named = skip_space r.space_before_name named ok.space_before_name (name_stands limit r.assignment.name _ ok.assignment.name) in
    let open_still : past_byte c (after_run is_space inside) ≡ None = ap (past_byte c) skipped ∙ name_not_closed limit c r.assignment.name _ close ok.assignment.name in
    let read : read_row limit inside ≡ Ok (rows_inside c rs tail x) = subst (λ (u : Text). read_row limit (row_inside r u) ≡ Ok u) (sym begin.3) (row_again limit r begin.0 begin.1 ok begin.2) in
    ap (read_rows limit (suc n) c) shape ∙ rw (none, open_still, read) later
