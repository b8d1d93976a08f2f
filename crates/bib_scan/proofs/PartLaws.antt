-- Names and parts: what is read is a name or a part, and a name or part that is written is read again.
use Rattle.bib_scan.proofs.Words.{◌≡◌, ℕ, suc, ◌<◌, ◌≤◌, true, false, eqb, [], ◌∷◌, ◌++◌, length, take, refl, sym, ap, subst, ◌∙◌, arith, append_assoc, inl, inr, Ok, eqb-true, ne_eqb, and_parts, and_from, ltb-true, lt-ltb, not-true, not_from_false, both_ways, cond-true, length-append}
use Rattle.bib_scan.proofs.Words.{list_all-from_AllPass, All-head, prefix_len, take_while, AllPass, is_ascii_digit, name_limit, Text, is_name_within, is_name_byte, is_type_byte, does_not_begin_with, after_run, Part, Braced, Quoted, Macro, part_bytes, IsPart, Read, read_braced, read_quoted, read_run}
use Rattle.bib_scan.proofs.Words.{begins_name, read_name, read_part, ◌>>=◌}
use Rattle.std.proofs.lemmas.Bool.{leb-true, le-leb}
use Rattle.std.proofs.lemmas.List.Sums.{AllPass-from_list_all}
use Rattle.bib_spec.specs.Text.{is_type_name}
use Rattle.bib_spec.specs.Tree.{Digits}
use Rattle.bib_scan.proofs.RunLaws.{bind_ok, chosen, ok_same, not_ok, limited_ok, limited_again, run_split, run_passes, run_front, run_rest}
use Rattle.bib_scan.proofs.BraceLaws.{braced_ok, braced_again, quoted_ok, quoted_again, balanced_closes, closes_balanced, quotes_inside, quotes_braced}

-- ---- names

pub record Name (limit : ℕ) (t : Text) : Type 0 where
  pub some : 0 < length t
  pub short : length t ≤ limit
  pub first : does_not_begin_with is_ascii_digit t ≡ true
  pub bytes : AllPass is_name_byte t

pub name_parts : (limit : ℕ) (t : Text) → is_name_within limit t ≡ true → Name limit t
unfolding is_name_within
name_parts limit t is =
    let last = and_parts _ _ is in
    let third = and_parts _ _ last.0 in
    let two = and_parts _ _ third.0 in
    record {
      some = ltb-true _ _ two.0;
      short = leb-true _ _ two.1;
      first = third.1;
      bytes = AllPass-from_list_all is_name_byte t last.1;
    }

pub name_from : (limit : ℕ) (t : Text) → Name limit t → is_name_within limit t ≡ true
unfolding is_name_within
name_from limit t n = and_from _ _ (and_from _ _ (and_from _ _ (lt-ltb _ _ n.some) (le-leb _ _ n.short)) n.first) (list_all-from_AllPass is_name_byte t n.bytes)

-- a type name is a name in which all bytes are bytes of type names
pub type_name_parts : (t : Text) → is_type_name t ≡ true → (is_name_within name_limit t ≡ true) × AllPass is_type_byte t
type_name_parts t is = let parts = and_parts _ _ is in (parts.0, AllPass-from_list_all is_type_byte t parts.1)

pub type_name_from : (t : Text) → is_name_within name_limit t ≡ true → AllPass is_type_byte t → is_type_name t ≡ true
type_name_from t named all = and_from _ _ named (list_all-from_AllPass is_type_byte t all)

-- a text that begins with a name has a run of name bytes, and the run begins with no digit
pub begins_parts : (t u r : Text) → begins_name t ≡ true → t ≡ u ++ r → does_not_begin_with is_name_byte r ≡ true → (0 < length u) × (does_not_begin_with is_ascii_digit u ≡ true)
begins_parts t [] r is split ends =
    let begins : begins_name r ≡ true = ap begins_name (sym split) ∙ is in
    absurd (no_name r begins ends)
  where
    no_name : (r : Text) → begins_name r ≡ true → does_not_begin_with is_name_byte r ≡ true → ⊥
    no_name [] begins ends = cc
    no_name (b ∷ r) begins ends =
        let parts = and_parts _ _ begins in both_ways (is_name_byte b) (not-true _ ends) parts.0
begins_parts t (b ∷ u) r is split ends =
    let begins : begins_name (b ∷ (u ++ r)) ≡ true = ap begins_name (sym split) ∙ is in
    (omega arith, (and_parts _ _ begins).1)

pub record Named (limit : ℕ) (t : Text) (x : Text × Text) : Type 0 where
  pub split : t ≡ x.0 ++ x.1
  pub name : is_name_within limit x.0 ≡ true
  pub ends : does_not_begin_with is_name_byte x.1 ≡ true

limited_name_ok : (limit : ℕ) (t : Text) (x : Text × Text) → begins_name t ≡ true → read_run limit is_name_byte t ≡ Ok x → Named limit t x
limited_name_ok limit t x begins is =
    let l = limited_ok limit is_name_byte t x is in
    let b = begins_parts t x.0 x.1 begins l.split l.ends in
    record {
      split = l.split;
      name = name_from limit x.0 (record { some = b.0; short = l.len; first = b.1; bytes = l.pass });
      ends = l.ends;
    }

pub name_ok : (limit : ℕ) (t : Text) (x : Text × Text) → read_name limit t ≡ Ok x → Named limit t x
name_ok limit t x is =
    elim (chosen (begins_name t) _ _ _ is) [
      | inl yes_it ↦ limited_name_ok limit t x yes_it.0 yes_it.1
      | inr no_it ↦ absurd (not_ok x _ _ refl no_it.1)
    ]

pub begins_from : (limit : ℕ) (u r : Text) → is_name_within limit u ≡ true → begins_name (u ++ r) ≡ true
begins_from limit [] r is = let n = name_parts limit [] is in absurd (omega (arith, n.some))
begins_from limit (b ∷ u) r is =
    let n = name_parts limit (b ∷ u) is in
    and_from _ _ (All-head (λ (x : ℕ). is_name_byte x ≡ true) b u n.bytes) n.first

pub limited_name_again : (limit : ℕ) (u r : Text) → is_name_within limit u ≡ true → does_not_begin_with is_name_byte r ≡ true → read_run limit is_name_byte (u ++ r) ≡ Ok (u, r)
limited_name_again limit u r is ends =
    let n = name_parts limit u is in limited_again limit is_name_byte u r n.bytes n.short ends

pub name_again : (limit : ℕ) (u r : Text) → is_name_within limit u ≡ true → does_not_begin_with is_name_byte r ≡ true → read_name limit (u ++ r) ≡ Ok (u, r)
name_again limit u r is ends = rw (begins_from limit u r is) (limited_name_again limit u r is ends)

-- ---- parts

-- the texts that may follow a part
pub record AfterPart (r : Text) : Type 0 where
  pub name : does_not_begin_with is_name_byte r ≡ true
  pub digit : does_not_begin_with is_ascii_digit r ≡ true

abbrev pub IsPartOf : ℕ → Text → Part × Text → Type 0
IsPartOf limit t x = (t ≡ part_bytes x.0 ++ x.1) × IsPart limit x.0

pub digit_run : (b : ℕ) (t : Text) → is_ascii_digit b ≡ true → 0 < length (take_while is_ascii_digit (b ∷ t))
digit_run b t is = let P : ℕ → Type 0 = λ n. 0 < length (take n (b ∷ t)) in subst P (sym one) (omega arith)
  where
    one : prefix_len is_ascii_digit (b ∷ t) ≡ suc (prefix_len is_ascii_digit t)
    one = rw is (omega arith)

pub part_ok : (limit : ℕ) (t : Text) (x : Part × Text) → read_part limit t ≡ Ok x → IsPartOf limit t x
unfolding read_part
part_ok limit [] x is = absurd (not_ok x _ _ refl is)
part_ok limit (b ∷ t) x is =
    elim (chosen (eqb b 123) _ _ _ is) [
      | inl brace ↦
          let y = bind_ok _ _ _ brace.1 in
          let h = braced_ok 0 t y.0 y.1 in
          subst (IsPartOf limit (b ∷ t)) (ok_same _ x _ refl y.2) (ap (λ (c : ℕ). c ∷ t) (eqb-true b 123 brace.0) ∙ ap (λ (u : Text). 123 ∷ u) (h.0 ∙ sym (append_assoc y.0.0 (125 ∷ []) y.0.1)), closes_balanced _ h.1)
      | inr other ↦ elim (chosen (eqb b 34) _ _ _ other.1) [
        | inl mark ↦
            let y = bind_ok _ _ _ mark.1 in
            let h = quoted_ok 0 t y.0 y.1 in
            subst (IsPartOf limit (b ∷ t)) (ok_same _ x _ refl y.2) (ap (λ (c : ℕ). c ∷ t) (eqb-true b 34 mark.0) ∙ ap (λ (u : Text). 34 ∷ u) (h.0 ∙ sym (append_assoc y.0.0 (34 ∷ []) y.0.1)), (closes_balanced _ h.1, quotes_braced _ h.2))
        | inr plain ↦ elim (chosen (is_ascii_digit b) _ _ _ plain.1) [
          | inl digit ↦ subst (IsPartOf limit (b ∷ t)) (ok_same _ x _ refl digit.1) (sym (run_split is_ascii_digit (b ∷ t)), (digit_run b t digit.0, run_passes is_ascii_digit (b ∷ t)))
          | inr letter ↦ elim (chosen (is_name_byte b) _ _ _ letter.1) [
            | inl named ↦
                let y = bind_ok _ _ _ named.1 in
                let h = limited_name_ok limit (b ∷ t) y.0 (and_from _ _ named.0 (not_from_false _ letter.0)) y.1 in
                subst (IsPartOf limit (b ∷ t)) (ok_same _ x _ refl y.2) (h.split, h.name)
            | inr wrong ↦ absurd (not_ok x _ _ refl wrong.1)
          ]
        ]
      ]
    ]

-- the text after a part is not longer than the text from which the part was read
pub part_len : (limit : ℕ) (t : Text) (p : Part × Text) → read_part limit t ≡ Ok p → length p.1 ≤ length t
part_len limit t p is = omega (arith, ap (length {A = ℕ}) (part_ok limit t p is).0, length-append (part_bytes p.0) p.1)

pub name_byte_no : (b c : ℕ) → is_name_byte b ≡ true → is_name_byte c ≡ false → eqb b c ≡ false
name_byte_no b c is fails = ne_eqb b c (λ e. both_ways (is_name_byte b) (ap is_name_byte e ∙ fails) is)

digit_no : (b c : ℕ) → is_ascii_digit b ≡ true → is_ascii_digit c ≡ false → eqb b c ≡ false
digit_no b c is fails = ne_eqb b c (λ e. both_ways (is_ascii_digit b) (ap is_ascii_digit e ∙ fails) is)

pub part_again : (limit : ℕ) (p : Part) (r : Text) → IsPart limit p → AfterPart r → read_part limit (part_bytes p ++ r) ≡ Ok (p, r)
unfolding read_part is_name_byte
part_again limit (Braced c) r is after =
    let read = ap (read_braced 0) (append_assoc c (125 ∷ []) r) ∙ braced_again 0 c r (balanced_closes c is) in
    rw read refl
part_again limit (Quoted c) r is after =
    let read = ap (read_quoted 0) (append_assoc c (34 ∷ []) r) ∙ quoted_again 0 c r (balanced_closes c is.0) (quotes_inside c is.1) in
    rw read refl
part_again limit (Digits []) r is after = absurd (omega arith)
part_again limit (Digits (b ∷ c)) r is after =
    let first : is_ascii_digit b ≡ true = All-head (λ (x : ℕ). is_ascii_digit x ≡ true) b c is.1 in
    let front = run_front is_ascii_digit (b ∷ c) r is.1 after.digit in
    let rest = run_rest is_ascii_digit (b ∷ c) r is.1 after.digit in
    rw (digit_no b 123 first refl, digit_no b 34 first refl) (cond-true (is_ascii_digit b) _ _ first ∙ ap (λ (u : Text). Ok (Digits u, after_run is_ascii_digit (b ∷ c ++ r))) front ∙ ap (λ (u : Text). Ok (Digits (b ∷ c), u)) rest)
part_again limit (Macro []) r is after = let n = name_parts limit [] is in absurd (omega (arith, n.some))
part_again limit (Macro (b ∷ c)) r is after =
    let n = name_parts limit (b ∷ c) is in
    let first : is_name_byte b ≡ true = All-head (λ (x : ℕ). is_name_byte x ≡ true) b c n.bytes in
    let read = limited_name_again limit (b ∷ c) r is after.name in
    rw (name_byte_no b 123 first refl, name_byte_no b 34 first refl, not-true _ n.first) (cond-true (is_name_byte b) _ _ first ∙ ap (λ (m : Read Text). m >>= λ x. Ok (Macro x.0, x.1)) read)
