-- One field after another: what is left after the first.
use Rattle.bib_scan.proofs.Words.{◌≡◌, ℕ, zero, suc, ◌<◌, ◌≤◌, List, [], ◌∷◌, length, refl, sym, ap, ◌∙◌, arith, Option, None, Some, Result, Ok, Err, result_ok, name_limit, Text, is_space, after_run, Halt, read_assignment, read_row, read_comma, Field, first_field, first_and_others, kind_after}
use Rattle.bib_scan.proofs.Words.{fields_left, all_fields_left, Kind}
use Rattle.bib_scan.specs.declared.view.Kind.TheVariants as kind
use Rattle.bib_scan.proofs.RunLaws.{bind_ok, ok_same}
use Rattle.bib_scan.proofs.RowLaws.{comma_ok, row_shorter as read_row_shorter}
use Rattle.bib_scan.proofs.FieldLaws.{none_left}

ok_some : {A : Type 0} (r : Result A Halt) (x : A) → result_ok r ≡ Some x → r ≡ Ok x
ok_some (Ok y) x is = cc
ok_some (Err h) x is = cc

-- ---- what is read is no longer there

row_shorter : (total : ℕ) (t : Text) (x : Field × Text) → first_field kind.Entry total t ≡ Some x → length x.1 < length t
unfolding read_row
row_shorter total t x is =
    let read = bind_ok (read_comma t) _ x (ok_some _ x is) in
    let inside = bind_ok (read_assignment name_limit (after_run is_space read.0)) _ x read.2 in
    let last : inside.0.1 ≡ x.1 = ap (λ (y : Field × Text). y.1) (ok_same _ x _ refl inside.2) in
    let row : read_row name_limit read.0 ≡ Ok x.1 = rw (inside.1, last) refl in
    let short = read_row_shorter name_limit read.0 x.1 row in
    omega (arith, ap (length {A = ℕ}) (comma_ok t read.0 read.1))

-- ---- how many turns do not matter

no_rows : (n total : ℕ) → fields_left n kind.Entry total [] ≡ []
unfolding fields_left
no_rows zero total = refl
no_rows (suc n) total = refl

others_same : (o : Option (Field × Text)) (f g : Text → List Field) → ((x : Field × Text) → o ≡ Some x → f x.1 ≡ g x.1) → first_and_others o f ≡ first_and_others o g
others_same None f g same = refl
others_same (Some x) f g same = ap (λ (fs : List Field). x.0 ∷ fs) (same x refl)

rows_turns : (n m total : ℕ) (t : Text) → length t ≤ n → length t ≤ m → fields_left n kind.Entry total t ≡ fields_left m kind.Entry total t
unfolding fields_left
rows_turns n m total [] ln lm = no_rows n total ∙ sym (no_rows m total)
rows_turns zero m total (b ∷ t) ln lm = absurd (omega arith)
rows_turns (suc n) zero total (b ∷ t) ln lm = absurd (omega arith)
rows_turns (suc n) (suc m) total (b ∷ t) ln lm =
    others_same (first_field kind.Entry total (b ∷ t)) (fields_left n kind.Entry total) (fields_left m kind.Entry total) (λ x is.
    let short = row_shorter total (b ∷ t) x is in
    rows_turns n m total x.1 (omega arith) (omega arith))

-- ---- one step

pub field_last : (k : Kind) (total : ℕ) (t : Text) → first_field k total t ≡ None → all_fields_left k total t ≡ []
unfolding fields_left
field_last kind.Entry total [] is = refl
field_last kind.Macro total [] is = refl
field_last kind.Preamble total [] is = refl
field_last kind.Comment total [] is = refl
field_last k total (b ∷ t) is = ap (λ (o : Option (Field × Text)). first_and_others o (fields_left (length t) (kind_after k) total)) is

turns_after : (k : Kind) (n total : ℕ) (t : Text) → length t ≤ n → fields_left n (kind_after k) total t ≡ all_fields_left (kind_after k) total t
turns_after kind.Entry n total t le = rows_turns n (length t) total t le (omega arith)
turns_after kind.Macro n total t le = none_left n total t ∙ sym (none_left (length t) total t)
turns_after kind.Preamble n total t le = none_left n total t ∙ sym (none_left (length t) total t)
turns_after kind.Comment n total t le = none_left n total t ∙ sym (none_left (length t) total t)

pub field_step : (k : Kind) (total : ℕ) (t : Text) (x : Field × Text) → first_field k total t ≡ Some x → length x.1 < length t → all_fields_left k total t ≡ x.0 ∷ all_fields_left (kind_after k) total x.1
unfolding fields_left
field_step k total [] x is short = absurd (omega arith)
field_step k total (b ∷ t) x is short =
    ap (λ (o : Option (Field × Text)). first_and_others o (fields_left (length t) (kind_after k) total)) is
    ∙ ap (λ (fs : List Field). x.0 ∷ fs) (turns_after k (length t) total x.1 (omega arith))

-- ---- how many there are

others_few : (o : Option (Field × Text)) (f : Text → List Field) (n : ℕ) → ((t : Text) → length (f t) ≤ n) → length (first_and_others o f) ≤ suc n
others_few None f n few = omega arith
others_few (Some x) f n few = omega (arith, few x.1)

pub fields_few : (n : ℕ) (k : Kind) (total : ℕ) (t : Text) → length (fields_left n k total t) ≤ n
unfolding fields_left
fields_few zero k total t = omega arith
fields_few (suc n) k total t = others_few (first_field k total t) (fields_left n (kind_after k) total) n (fields_few n (kind_after k) total)
