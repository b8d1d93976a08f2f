-- Rows and entries: what is read is a row or an entry.
use Rattle.bib_scan.proofs.Words.{◌≡◌, ◌≤◌, ℕ, zero, suc, Bool, true, false, cond, eqb, List, [], ◌∷◌, ◌++◌, length, refl, sym, ap, subst, ◌∙◌, arith, append_assoc, inl, inr, Option, None, Some, Ok, Err, eqb-true, length-append, All-nil, All-cons, take_while, flat_map, All, ExpectedCommaOrClose}
use Rattle.bib_scan.proofs.Words.{Text, is_space, after_run, Assignment, Row, value_bytes, assignment_bytes, row_bytes, last_comma_bytes, IsAssignment, IsRow, IsLastComma, expected, Assigned, read_equals, read_assignment, read_row, past_byte, read_comma, read_close, go_on, read_rows, ◌>>=◌}
use Rattle.bib_scan.proofs.RunLaws.{bind_ok, chosen, ok_same, not_ok, run_passes, run_stops}
use Rattle.bib_scan.proofs.PartLaws.{name_ok}
use Rattle.bib_scan.proofs.ValueLaws.{Stands, space_split, value_ok}

pub equals_ok : (t u : Text) → read_equals t ≡ Ok u → t ≡ 61 ∷ u
equals_ok [] u is = absurd (not_ok u _ _ refl is)
equals_ok (b ∷ t) u is =
    elim (chosen (eqb b 61) _ _ _ is) [
      | inl sign ↦ ap (λ (c : ℕ). c ∷ t) (eqb-true b 61 sign.0) ∙ ap (λ (v : Text). 61 ∷ v) (ok_same t u _ refl sign.1)
      | inr other ↦ absurd (not_ok u _ _ refl other.1)
    ]

pub comma_ok : (t u : Text) → read_comma t ≡ Ok u → t ≡ 44 ∷ u
comma_ok [] u is = absurd (not_ok u _ _ refl is)
comma_ok (b ∷ t) u is =
    elim (chosen (eqb b 44) _ _ _ is) [
      | inl sign ↦ ap (λ (c : ℕ). c ∷ t) (eqb-true b 44 sign.0) ∙ ap (λ (v : Text). 44 ∷ v) (ok_same t u _ refl sign.1)
      | inr other ↦ absurd (not_ok u _ _ refl other.1)
    ]

pub closed_ok : (c : ℕ) (t u : Text) → past_byte c t ≡ Some u → t ≡ c ∷ u
closed_ok c [] u is = cc
closed_ok c (b ∷ t) u is = go (eqb b c) refl is
  where
    go : (x : Bool) → eqb b c ≡ x → cond x (Some t) None ≡ Some u → b ∷ t ≡ c ∷ u
    go true same e = let head = eqb-true b c same in cc
    go false same e = cc

pub closing_ok : (c : ℕ) (t rest : Text) → read_close c t ≡ Ok rest → t ≡ c ∷ rest
closing_ok c t rest is = go (past_byte c t) refl is
  where
    go : (o : Option Text) → past_byte c t ≡ o → go_on (Err (expected ExpectedCommaOrClose t)) Ok o ≡ Ok rest → t ≡ c ∷ rest
    go None o_is e = absurd (not_ok rest _ _ refl e)
    go (Some u) o_is e = closed_ok c t u o_is ∙ ap (λ (v : Text). c ∷ v) (ok_same u rest _ refl e)

-- ---- the bytes of rows, with others after them

abbrev pub assignment_inside : Assignment → Text → Text
assignment_inside a u = a.name ++ (a.space_before_equals ++ (61 ∷ (a.space_before_value ++ (value_bytes a.value ++ (a.space_after ++ u)))))

-- the bytes of a row without its comma
abbrev pub row_inside : Row → Text → Text
row_inside r u = r.space_before_name ++ assignment_inside r.assignment u

pub assignment_shape : (a : Assignment) (u : Text) → assignment_bytes a ++ u ≡ assignment_inside a u
assignment_shape a u =
    append_assoc (a.name ++ a.space_before_equals ++ 61 ∷ a.space_before_value ++ value_bytes a.value) a.space_after u
    ∙ append_assoc (a.name ++ a.space_before_equals ++ 61 ∷ a.space_before_value) (value_bytes a.value) (a.space_after ++ u)
    ∙ append_assoc (a.name ++ a.space_before_equals) (61 ∷ a.space_before_value) (value_bytes a.value ++ (a.space_after ++ u))
    ∙ append_assoc a.name a.space_before_equals _

pub row_shape : (r : Row) (u : Text) → row_bytes r ++ u ≡ 44 ∷ row_inside r u
row_shape r u =
    append_assoc (44 ∷ r.space_before_name) (assignment_bytes r.assignment) u
    ∙ ap (λ (v : Text). 44 ∷ (r.space_before_name ++ v)) (assignment_shape r.assignment u)

-- ---- rows

-- `t` is the row without its comma, and then `rest`
abbrev pub IsRowOf : ℕ → Text → Text → Type 0
IsRowOf limit t rest = (r : Row) × IsRow limit r × Stands rest × (t ≡ row_inside r rest)

pub row_ok : (limit : ℕ) (t rest : Text) → read_row limit t ≡ Ok rest → IsRowOf limit t rest
unfolding read_row read_assignment
row_ok limit t rest is =
    let whole = bind_ok _ _ _ is in
    let named = bind_ok _ _ _ whole.1 in
    let sign = bind_ok _ _ _ named.2 in
    let valued = bind_ok _ _ _ sign.2 in
    let n = name_ok limit _ _ named.1 in
    let e = equals_ok _ _ sign.1 in
    let v = value_ok limit _ _ valued.1 in
    let end : after_run is_space valued.0.1 ≡ rest = ap (λ (x : Assigned × Text). x.1) (ok_same _ whole.0 _ refl valued.2) ∙ ok_same _ rest _ refl whole.2 in
    let a : Assignment = record {
      name = named.0.0;
      space_before_equals = take_while is_space named.0.1;
      space_before_value = take_while is_space sign.0;
      value = v.0;
      space_after = take_while is_space valued.0.1;
    } in
    let good : IsAssignment limit a = record {
      name = n.name;
      space_before_equals = run_passes is_space named.0.1;
      space_before_value = run_passes is_space sign.0;
      value = v.1;
      space_after = run_passes is_space valued.0.1;
    } in
    let r : Row = record { space_before_name = take_while is_space t; assignment = a } in
    let ok : IsRow limit r = record { space_before_name = run_passes is_space t; assignment = good } in
    let last : valued.0.1 ≡ a.space_after ++ rest = space_split valued.0.1 ∙ ap (λ (u : Text). a.space_after ++ u) end in
    let value_part : after_run is_space sign.0 ≡ value_bytes v.0 ++ (a.space_after ++ rest) = v.3 ∙ ap (λ (u : Text). u ++ valued.0.1) v.2 ∙ ap (λ (u : Text). value_bytes v.0 ++ u) last in
    let sign_part : after_run is_space named.0.1 ≡ 61 ∷ (a.space_before_value ++ (value_bytes v.0 ++ (a.space_after ++ rest))) = e ∙ ap (λ (u : Text). 61 ∷ u) (space_split sign.0 ∙ ap (λ (u : Text). a.space_before_value ++ u) value_part) in
    let name_part : after_run is_space t ≡ assignment_inside a rest = n.split ∙ ap (λ (u : Text). a.name ++ u) (space_split named.0.1 ∙ ap (λ (u : Text). a.space_before_equals ++ u) sign_part) in
    (r, ok, subst Stands end (run_stops is_space valued.0.1), space_split t ∙ ap (λ (u : Text). r.space_before_name ++ u) name_part)

pub row_shorter : (limit : ℕ) (t rest : Text) → read_row limit t ≡ Ok rest → length rest ≤ length t
row_shorter limit t rest is =
    let r = row_ok limit t rest is in
    let shape : 44 ∷ t ≡ row_bytes r.0 ++ rest = ap (λ (x : Text). 44 ∷ x) r.3 ∙ sym (row_shape r.0 rest) in
    omega (arith, ap (length {A = ℕ}) shape, length-append (row_bytes r.0) rest)

abbrev pub AreRows : ℕ → ℕ → Text → Text → Type 0
AreRows limit c t rest =
    (rs : List Row) × (last : Option Text) × All (IsRow limit) rs × IsLastComma last × (t ≡ flat_map row_bytes rs ++ (last_comma_bytes last ++ c ∷ rest))

rows_cons : (limit c : ℕ) (t u next rest : Text) → t ≡ 44 ∷ u → IsRowOf limit u next → AreRows limit c next rest → AreRows limit c t rest
rows_cons limit c t u next rest is r later = (
  r.0 ∷ later.0,
  later.1,
  All-cons (IsRow limit) r.0 later.0 r.1 later.2,
  later.3,
  is ∙ ap (λ (v : Text). 44 ∷ v) r.3 ∙ sym (row_shape r.0 next) ∙ ap (λ (v : Text). row_bytes r.0 ++ v) later.4 ∙ sym (append_assoc (row_bytes r.0) (flat_map row_bytes later.0) _),
)

rows_step : (limit n c : ℕ) (t rest : Text) (o : Option Text) → past_byte c t ≡ o → ((u v : Text) → read_rows limit n c u ≡ Ok v → AreRows limit c u v) → go_on (read_comma t >>= λ u. go_on (read_row limit u >>= λ v. read_rows limit n c v) Ok (past_byte c (after_run is_space u))) Ok o ≡ Ok rest → AreRows limit c t rest
rows_step limit n c t rest (Some u) o_is later read = ([], None, All-nil (IsRow limit), tt, closed_ok c t u o_is ∙ ap (λ (v : Text). c ∷ v) (ok_same u rest _ refl read))
rows_step limit n c t rest None o_is later read =
    let x = bind_ok (read_comma t) _ rest read in
    go x.0 (comma_ok t x.0 x.1) (past_byte c (after_run is_space x.0)) refl x.2
  where
    go : (u : Text) → t ≡ 44 ∷ u → (o : Option Text) → past_byte c (after_run is_space u) ≡ o → go_on (read_row limit u >>= λ v. read_rows limit n c v) Ok o ≡ Ok rest → AreRows limit c t rest
    go u is None o_is read =
        let x = bind_ok (read_row limit u) _ rest read in
        rows_cons limit c t u x.0 rest is (row_ok limit u x.0 x.1) (later x.0 rest x.2)
    go u is (Some w) o_is read =
        let space : Text = take_while is_space u in (
          [],
          Some space,
          All-nil (IsRow limit),
          run_passes is_space u,
          is ∙ ap (λ (v : Text). 44 ∷ v) (space_split u ∙ ap (λ (v : Text). space ++ v) (closed_ok c _ w o_is ∙ ap (λ (v : Text). c ∷ v) (ok_same w rest _ refl read))),
        )

pub rows_ok : (limit n c : ℕ) (t rest : Text) → read_rows limit n c t ≡ Ok rest → AreRows limit c t rest
unfolding read_rows
rows_ok limit zero c t rest is = absurd (not_ok rest _ _ refl is)
rows_ok limit (suc n) c t rest is = rows_step limit n c t rest (past_byte c t) refl (λ u v e. rows_ok limit n c u v e) is
