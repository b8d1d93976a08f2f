-- Bytes that can follow where the reading of a value or a row stops.
use Rattle.bib_scan.proofs.Words.{◌≡◌, ℕ, zero, suc, ◌<◌, Bool, true, false, cond, eqb, ltb, [], ◌∷◌, ◌++◌, length, get_or, take, drop, refl, sym, ap, subst, ◌∙◌, arith, append_assoc, inl, inr, Ok, Err, append_cancel_right, length-append, get_or-drop, take-append-drop, take-take, length-take-le}
use Rattle.bib_scan.proofs.Words.{prefix_len_passes, prefix_len-le-length, All-nil, All-cons, All-take, ltb-true, and_parts, eqb-true, cond-false, not_from_false, and_from, prefix_len, take_while, flat_map, AllPass, is_ascii_digit, Unended, ExpectedName, ExpectedEquals, ExpectedValue, KeyTooLong}
use Rattle.bib_scan.proofs.Words.{Text, is_space, is_name_within, is_name_byte, does_not_begin_with, after_run, Part, Braced, Quoted, Macro, part_bytes, Value, link_bytes, value_bytes, IsPart, IsValue, Read, Halt, stop, expected, read_run, read_braced, read_quoted, begins_name, read_name}
use Rattle.bib_scan.proofs.Words.{read_equals, read_part, read_links, read_value, read_row, ◌>>=◌}
use Rattle.bib_spec.specs.Tree.{Digits}
use Rattle.bib_scan.proofs.RunLaws.{bind_ok, ok_same, not_ok, chosen, run_split, run_passes, run_front, run_rest, limited_ok, limited_again, cons_nil}
use Rattle.bib_scan.proofs.PartLaws.{AfterPart, part_ok, part_again, name_parts, name_from, name_ok, name_again}
use Rattle.bib_scan.proofs.ValueLaws.{Stands, space_split, skip_space, links_ok}
use Rattle.bib_scan.proofs.RowLaws.{equals_ok}
use Rattle.bib_scan.proofs.AgainLaws.{value_again, equals_stands}
use Rattle.bib_scan.proofs.UniqueLaws.{AfterRow, AfterValue, after_value, after_row_stands}
use Rattle.bib_scan.proofs.LocalLaws.{after_first, run, local_run}
use Rattle.bib_scan.proofs.LocalParts.{first_is, local_part, local_name}
use Rattle.bib_scan.proofs.LocalRows.{plain, ready, skip, links_gap, links_by_first, links_gap_is, value_gap, value_family, value_is, row_pieces, row_is, local_equals}
use Rattle.bib_scan.proofs.MendLaws.{MendAt, Mends, Resumes, Default, mend_bind, mend_bind_some, mend_same, mend_cond, mend_never, mend_after, mend_braced, mend_quoted, err_is, Always}

-- ---- pieces

pub mend_run : (test : ℕ → Bool) (P F : Text → Type 0) → Mends (run test) P F
mend_run test P F = mend_never (run test) P F (λ t. ((take_while test t, after_run test t), refl))

pub resumes_run : (test : ℕ → Bool) → Resumes (run test) (λ s. does_not_begin_with test s ≡ true)
resumes_run test t a r is u s split ends =
    let same : (take_while test t, after_run test t) ≡ (a, r) = ok_same (take_while test t, after_run test t) (a, r) (run test t) refl is in
    let front : take_while test t ≡ a = ap (λ (x : Text × Text). x.0) same in
    let rest : after_run test t ≡ r = ap (λ (x : Text × Text). x.1) same in
    let u_is : u ≡ a = append_cancel_right u a r (sym split ∙ sym (run_split test t) ∙ ap (λ (x : Text). x ++ after_run test t) front ∙ ap (λ (x : Text). a ++ x) rest) in
    let passes : AllPass test u = subst (AllPass test) (front ∙ sym u_is) (run_passes test t) in
    ap (λ (x : Text). Ok (x, after_run test (u ++ s))) (run_front test u s passes ends ∙ u_is) ∙ ap (λ (x : Text). Ok (a, x)) (run_rest test u s passes ends)

-- a run that is too long, and its front of `limit` bytes, which is not
pub record TooLong (limit : ℕ) (test : ℕ → Bool) (t : Text) (h : Halt) : Type 0 where
  pub front : Text
  pub split : t ≡ front ++ h.rest
  pub passes : AllPass test front
  pub len : length front ≡ limit
  pub next : (c : ℕ) (v : Text) → h.rest ≡ c ∷ v → test c ≡ true
  pub fault : KeyTooLong ≡ h.fault

pub too_long : (limit : ℕ) (test : ℕ → Bool) (t : Text) (h : Halt) → read_run limit test t ≡ Err h → TooLong limit test t h
too_long limit test t h is =
    elim (chosen (ltb limit (prefix_len test t)) _ _ _ is) [
      | inl long ↦
          let e : stop KeyTooLong (drop limit t) ≡ h = err_is {A = Text × Text} (stop KeyTooLong (drop limit t)) h _ refl long.1 in
          let more : limit < prefix_len test t = ltb-true _ _ long.0 in
          let whole = prefix_len-le-length test t in
          record {
            front = take limit t;
            split = sym (take-append-drop limit t) ∙ ap (λ (k : Halt). take limit t ++ k.rest) e;
            passes = subst (AllPass test) (take-take limit (prefix_len test t) t (omega arith)) (All-take (λ (x : ℕ). test x ≡ true) limit (take_while test t) (run_passes test t));
            len = length-take-le limit t (omega arith);
            fault = ap (λ (k : Halt). k.fault) e;
            next = λ c v rest. subst (λ (b : ℕ). test b ≡ true) (here (ap (λ (k : Halt). k.rest) e ∙ rest)) (prefix_len_passes test t limit 0 more);
          }
      | inr short ↦ absurd (not_ok _ h _ short.1 refl)
    ]
  where
    here : {c : ℕ} {v : Text} → drop limit t ≡ c ∷ v → get_or t limit 0 ≡ c
    here {c} {v} e = ap (λ (n : ℕ). get_or t n 0) (omega arith) ∙ sym (get_or-drop limit t 0 0) ∙ ap (λ (s : Text). get_or s 0 0) e

not_empty : (limit : ℕ) (some : 0 < limit) (u : Text) → length u ≡ limit → u ≡ [] → ⊥
not_empty limit some u len none = omega (arith, ap (length {A = ℕ}) none)

pub mend_limited : (limit : ℕ) (some : 0 < limit) (test : ℕ → Bool) (F : Text → Type 0) → Mends (read_run limit test) (λ s. does_not_begin_with test s ≡ true) F
mend_limited limit some test F t h is =
    let l = too_long limit test t h is in
    record {
      front = l.front;
      split = l.split;
      end = [];
      works = λ r ok. (l.front, limited_again limit test l.front r l.passes (omega (arith, l.len)) ok);
      starts = λ none. absurd (not_empty limit some l.front l.len none);
    }

pub resumes_limited : (limit : ℕ) (test : ℕ → Bool) → Resumes (read_run limit test) (λ s. does_not_begin_with test s ≡ true)
resumes_limited limit test t a r is u s split ends =
    let l = limited_ok limit test t (a, r) is in
    let u_is : u ≡ a = append_cancel_right u a r (sym split ∙ l.split) in
    ap (λ (x : Text). read_run limit test (x ++ s)) u_is ∙ limited_again limit test a s l.pass l.len ends

-- as many name bytes as the limit allows are a name, if a name begins with the first of them
long_name : (limit : ℕ) (some : 0 < limit) (t u r : Text) → t ≡ u ++ r → AllPass is_name_byte u → length u ≡ limit → begins_name t ≡ true → is_name_within limit u ≡ true
long_name limit some t [] r split passes len begins = absurd (omega arith)
long_name limit some t (b ∷ u) r split passes len begins =
    let first : does_not_begin_with is_ascii_digit (b ∷ u) ≡ true = (and_parts _ _ (ap begins_name (sym split) ∙ begins)).1 in
    name_from limit (b ∷ u) (record { some = omega arith; short = omega arith; first = first; bytes = passes })

x_byte : is_name_byte 120 ≡ true
unfolding is_name_byte
x_byte = refl

pub x_name : (limit : ℕ) (some : 0 < limit) → is_name_within limit (120 ∷ []) ≡ true
x_name limit some = name_from limit (120 ∷ []) (record { some = omega arith; short = omega arith; first = refl; bytes = All-cons (λ (x : ℕ). is_name_byte x ≡ true) 120 [] x_byte (All-nil (λ (x : ℕ). is_name_byte x ≡ true)) })

pub mend_name : (limit : ℕ) (some : 0 < limit) (F : Text → Type 0) → ((s : Text) → F (120 ∷ s)) → Mends (read_name limit) (λ s. does_not_begin_with is_name_byte s ≡ true) F
mend_name limit some F start t h is =
    elim (chosen (begins_name t) _ _ _ is) [
      | inl begins ↦
          let l = too_long limit is_name_byte t h begins.1 in
          let u_is = long_name limit some t l.front h.rest l.split l.passes l.len begins.0 in
          record { front = l.front; split = l.split; end = []; works = λ r ok. (l.front, name_again limit l.front r u_is ok); starts = λ none. absurd (not_empty limit some l.front l.len none) }
      | inr none ↦
          record { front = []; split = expected_rest t h none.1; end = 120 ∷ []; works = λ r ok. (120 ∷ [], name_again limit (120 ∷ []) r (x_name limit some) ok); starts = λ e r ok. start r }
    ]
  where
    expected_rest : (t : Text) (h : Halt) → (let r : Read Text = Err (expected ExpectedName t) in r ≡ Err h) → t ≡ h.rest
    expected_rest [] h e = ap (λ (k : Halt). k.rest) (err_is {A = Text × Text} (stop Unended []) h _ refl e)
    expected_rest (b ∷ t) h e = ap (λ (k : Halt). k.rest) (err_is {A = Text × Text} (stop ExpectedName (b ∷ t)) h _ refl e)

pub resumes_name : (limit : ℕ) → Resumes (read_name limit) (λ s. does_not_begin_with is_name_byte s ≡ true)
resumes_name limit t a r is u s split ends =
    let n = name_ok limit t (a, r) is in
    let u_is : u ≡ a = append_cancel_right u a r (sym split ∙ n.split) in
    ap (λ (x : Text). read_name limit (x ++ s)) u_is ∙ name_again limit a s n.name ends

pub resumes_part : (limit : ℕ) → Resumes (read_part limit) AfterPart
resumes_part limit t a r is u s split after =
    let p = part_ok limit t (a, r) is in
    let u_is : u ≡ part_bytes a = append_cancel_right u (part_bytes a) r (sym split ∙ p.0) in
    ap (λ (x : Text). read_part limit (x ++ s)) u_is ∙ part_again limit a s p.1 after

-- ---- parts

pub one_part : (limit : ℕ) → IsPart limit (Digits (49 ∷ []))
one_part limit = (omega arith, All-cons (λ (x : ℕ). is_ascii_digit x ≡ true) 49 [] refl (All-nil (λ (x : ℕ). is_ascii_digit x ≡ true)))

-- `1` is a part
pub default_part : (limit : ℕ) → Default (read_part limit) (49 ∷ []) AfterPart
default_part limit r after = (Digits (49 ∷ []), part_again limit (Digits (49 ∷ [])) r (one_part limit) after)

abbrev pub as_part : (Text → Part) → Text × Text → Read Part
as_part make x = Ok (make x.0, x.1)

pub inner_err : (make : Text → Part) (c : Read Text) (h : Halt) → (c >>= as_part make) ≡ Err h → c ≡ Err h
inner_err make (Ok x) h e = absurd (not_ok (make x.0, x.1) h _ e refl)
inner_err make (Err k) h e = ap (λ (j : Halt). Err j) (err_is {A = Part × Text} k h _ refl e)

braced_part : (limit : ℕ) (u r x : Text) → read_braced 0 u ≡ Ok (x, r) → read_part limit (123 ∷ u) ≡ Ok (Braced x, r)
unfolding read_part
braced_part limit u r x is = rw is refl

quoted_part : (limit : ℕ) (u r x : Text) → read_quoted 0 u ≡ Ok (x, r) → read_part limit (34 ∷ u) ≡ Ok (Quoted x, r)
unfolding read_part
quoted_part limit u r x is = rw is refl

one_end : (limit : ℕ) (F : Text → Type 0) (t : Text) (h : Halt) → ((s : Text) → F (49 ∷ s)) → t ≡ h.rest → MendAt (read_part limit) AfterPart F t h
one_end limit F t h start split = record { front = []; split = split; end = 49 ∷ []; works = default_part limit; starts = λ none r ok. start r }

pub mend_part : (limit : ℕ) (some : 0 < limit) (F : Text → Type 0) → ((s : Text) → F (49 ∷ s)) → Mends (read_part limit) AfterPart F
unfolding read_part
mend_part limit some F start [] h is = one_end limit F [] h start (ap (λ (k : Halt). k.rest) (err_is {A = Part × Text} (stop Unended []) h _ refl is))
mend_part limit some F start (b ∷ t) h is =
    elim (chosen (eqb b 123) _ _ _ is) [
      | inl brace ↦
          let m = mend_braced 0 t h (inner_err (λ u. Braced u) (read_braced 0 t) h brace.1) in
          record {
            front = 123 ∷ m.front;
            split = ap (λ (c : ℕ). c ∷ t) (eqb-true b 123 brace.0) ∙ ap (λ (u : Text). 123 ∷ u) m.split;
            end = m.end;
            works = λ r ok. let w = m.works r tt in (Braced w.0, braced_part limit _ r w.0 w.1);
            starts = λ none. absurd (cons_nil 123 m.front none);
          }
      | inr other ↦ elim (chosen (eqb b 34) _ _ _ other.1) [
        | inl mark ↦
            let m = mend_quoted 0 t h (inner_err (λ u. Quoted u) (read_quoted 0 t) h mark.1) in
            record {
              front = 34 ∷ m.front;
              split = ap (λ (c : ℕ). c ∷ t) (eqb-true b 34 mark.0) ∙ ap (λ (u : Text). 34 ∷ u) m.split;
              end = m.end;
              works = λ r ok. let w = m.works r tt in (Quoted w.0, quoted_part limit _ r w.0 w.1);
              starts = λ none. absurd (cons_nil 34 m.front none);
            }
        | inr plain_byte ↦ elim (chosen (is_ascii_digit b) _ _ _ plain_byte.1) [
          | inl digit ↦ absurd (not_ok (Digits (take_while is_ascii_digit (b ∷ t)), after_run is_ascii_digit (b ∷ t)) h _ digit.1 refl)
          | inr letter ↦ elim (chosen (is_name_byte b) _ _ _ letter.1) [
            | inl named ↦
                let l = too_long limit is_name_byte (b ∷ t) h (inner_err (λ u. Macro u) (read_run limit is_name_byte (b ∷ t)) h named.1) in
                let u_is = long_name limit some (b ∷ t) l.front h.rest l.split l.passes l.len (and_from _ _ named.0 (not_from_false _ letter.0)) in
                record {
                  front = l.front;
                  split = l.split;
                  end = [];
                  works = λ r ok. (Macro l.front, part_again limit (Macro l.front) r u_is ok);
                  starts = λ none. absurd (not_empty limit some l.front l.len none);
                }
            | inr wrong ↦ one_end limit F (b ∷ t) h start (ap (λ (k : Halt). k.rest) (err_is {A = Part × Text} (stop ExpectedValue (b ∷ t)) h _ refl wrong.1))
          ]
        ]
      ]
    ]

-- ---- values

-- a value ends where a row may end
after_row_part : (r : Text) → AfterRow r → AfterPart r
after_row_part r a = (after_value [] r (All-nil (λ (x : ℕ). is_space x ≡ true)) a).part

no_hash_first : (r : Text) → AfterRow r → first_is (λ b. eqb b 35) r ≡ false
no_hash_first r a = ap (first_is (λ b. eqb b 35)) a.is ∙ a.ends.no_hash

after_row_skip : (r : Text) → AfterRow r → after_run is_space r ≡ r
after_row_skip r a = skip_space [] r (All-nil (λ (x : ℕ). is_space x ≡ true)) (after_row_stands r a)

default_links : (limit : ℕ) (n : ℕ) → Default (links_gap limit n) [] AfterRow
unfolding read_links
default_links limit zero r a = (tt, ap (λ (u : Text). Ok (tt, u)) (after_row_skip r a))
default_links limit (suc n) r a = (
  tt,
  links_gap_is limit n r ∙ ap (λ (u : Text). cond (first_is (λ b. eqb b 35) u) (after_first (λ v. run is_space v >>= λ y. read_part limit y.1 >>= λ p. links_gap limit n p.1) u) (Ok (tt, u))) (after_row_skip r a)
      ∙ cond-false (first_is (λ b. eqb b 35) r) _ _ (no_hash_first r a),
)

pub one_stands : (s : Text) → Stands (49 ∷ s)
unfolding is_space
one_stands s = refl

pub mend_links : (limit : ℕ) (some : 0 < limit) (n : ℕ) (G : Text → Type 0) → Mends (links_gap limit n) AfterRow G
unfolding read_links
mend_links limit some zero G = mend_never (links_gap limit zero) AfterRow G (λ t. ((tt, after_run is_space t), refl))
mend_links limit some (suc n) G =
    let inner : Text → Read (Unit {0}) = λ v. run is_space v >>= λ y. read_part limit y.1 >>= λ p. links_gap limit n p.1 in
    let more : Mends inner AfterRow Always =
    mend_bind (run is_space) (λ y u. read_part limit u >>= λ p. links_gap limit n p.1) Always AfterRow Stands Always (49 ∷ []) (local_run is_space) (resumes_run is_space) (mend_run is_space Always Always)
    (λ y. mend_bind (read_part limit) (λ p u. links_gap limit n u) AfterPart AfterRow AfterPart (λ s. Stands s × Always s) [] (local_part limit) (resumes_part limit) (mend_part limit some (λ s. Stands s × Always s) (λ s. (one_stands s, tt))) (λ p. mend_links limit some n (λ s. AfterPart s × (Stands s × Always s))) (λ p. default_links limit n) after_row_part)
    (λ y r a. let w = default_part limit r (after_row_part r a) in let l = default_links limit n r a in (l.0, ap (λ (m : Read Part). m >>= λ p. links_gap limit n p.1) w.1 ∙ l.1))
    (λ r a. tt) in
    mend_same (links_gap limit (suc n)) (links_by_first limit n) AfterRow G (links_gap_is limit n)
    (mend_bind (run is_space) (λ s u. cond (first_is (λ b. eqb b 35) u) (after_first inner u) (Ok (tt, u))) Always AfterRow Stands G [] (local_run is_space) (resumes_run is_space) (mend_run is_space Always G)
    (λ s. mend_cond (first_is (λ b. eqb b 35)) (after_first inner) ready AfterRow (λ u. Stands u × G u) (λ b t u. refl)
    (mend_after inner AfterRow (λ u. (first_is (λ b. eqb b 35) u ≡ true) × (Stands u × G u)) (first_is (λ b. eqb b 35)) refl more)
    (mend_never ready AfterRow (λ u. (first_is (λ b. eqb b 35) u ≡ false) × (Stands u × G u)) (λ t. ((tt, t), refl))))
    (λ s r a. (tt, cond-false (first_is (λ b. eqb b 35) r) _ _ (no_hash_first r a)))
    (λ r a. tt))

-- a text that is read as a value in some number of turns is read as a value
value_more : (limit : ℕ) (n : ℕ) (u r : Text) (x : Unit {0}) → AfterRow r → value_family limit n u ≡ Ok (x, r) → value_gap limit u ≡ Ok (x, r)
value_more limit n u r x a is =
    let one = bind_ok (read_part limit u) _ (x, r) is in
    let two = bind_ok (read_links limit n one.0.1) skip (x, r) one.2 in
    let p = part_ok limit u one.0 one.1 in
    let ls = links_ok limit n one.0.1 two.0 two.1 in
    let rest : after_run is_space two.0 ≡ r = ap (λ (y : Unit {0} × Text). y.1) (ok_same {A = Unit {0} × Text} (tt, after_run is_space two.0) (x, r) _ refl two.2) in
    let v : Value = record { first = one.0.0; links = ls.0 } in
    let ok : IsValue limit v = record { first = p.1; links = ls.1 } in
    let space = take_while is_space two.0 in
    let shape : two.0 ≡ space ++ r = space_split two.0 ∙ ap (λ (s : Text). space ++ s) rest in
    let after : AfterValue two.0 = subst AfterValue (sym shape) (after_value space r (run_passes is_space two.0) a) in
    let whole : u ≡ value_bytes v ++ two.0 = p.0 ∙ ap (λ (s : Text). part_bytes one.0.0 ++ s) ls.2 ∙ sym (append_assoc (part_bytes one.0.0) (flat_map link_bytes ls.0) two.0) in
    ap (λ (s : Text). read_value limit s >>= λ y. skip y.1) whole ∙ ap (λ (m : Read Text). m >>= λ y. skip y.1) (value_again limit v two.0 ok after.part after.no_hash) ∙ ap (λ (s : Text). Ok (x, s)) rest

pub default_value : (limit : ℕ) → Default (value_gap limit) (49 ∷ []) AfterRow
default_value limit r a =
    let w = default_part limit r (after_row_part r a) in
    let l = default_links limit 0 r a in
    (l.0, value_more limit 0 (49 ∷ r) r l.0 a (ap (λ (m : Read Part). m >>= λ p. links_gap limit 0 p.1) w.1 ∙ l.1))

pub mend_value : (limit : ℕ) (some : 0 < limit) (G : Text → Type 0) → ((s : Text) → G (49 ∷ s)) → Mends (value_gap limit) AfterRow G
mend_value limit some G start t h is =
    let n = length t in
    let at = mend_bind (read_part limit) (λ p u. links_gap limit n u) AfterPart AfterRow AfterPart G [] (local_part limit) (resumes_part limit) (mend_part limit some G start) (λ p. mend_links limit some n (λ s. AfterPart s × G s)) (λ p. default_links limit n) after_row_part t h (sym (value_is limit n t (omega arith)) ∙ is) in
    record {
      front = at.front;
      split = at.split;
      end = at.end;
      works = λ r a. let w = at.works r a in (w.0, value_more limit n _ r w.0 a w.1);
      starts = at.starts;
    }

-- ---- rows

equals_one : (r : Text) → plain read_equals (61 ∷ r) ≡ Ok (tt, r)
equals_one r = refl

equals_err : (t : Text) (h : Halt) → plain read_equals t ≡ Err h → t ≡ h.rest
equals_err [] h is = ap (λ (k : Halt). k.rest) (err_is {A = Unit {0} × Text} (stop Unended []) h _ refl is)
equals_err (b ∷ t) h is = go (eqb b 61) is
  where
    go : (x : Bool) → (cond x (Ok t) (Err (stop ExpectedEquals (b ∷ t))) >>= ready) ≡ Err h → b ∷ t ≡ h.rest
    go true e = absurd (not_ok (tt, t) h _ e refl)
    go false e = ap (λ (k : Halt). k.rest) (err_is {A = Unit {0} × Text} (stop ExpectedEquals (b ∷ t)) h _ refl e)

mend_equals : (G : Text → Type 0) → ((s : Text) → G (61 ∷ s)) → Mends (plain read_equals) Always G
mend_equals G start t h is = record { front = []; split = equals_err t h is; end = 61 ∷ []; works = λ r ok. (tt, equals_one r); starts = λ none r ok. start r }

pub resumes_equals : Resumes (plain read_equals) Always
resumes_equals t a r is u s split ok =
    let one = bind_ok (read_equals t) ready (a, r) is in
    let shape = equals_ok t one.0 one.1 in
    let rest : one.0 ≡ r = ap (λ (y : Unit {0} × Text). y.1) (ok_same {A = Unit {0} × Text} (tt, one.0) (a, r) _ refl one.2) in
    let u_is : u ≡ 61 ∷ [] = append_cancel_right u (61 ∷ []) r (sym split ∙ shape ∙ ap (λ (x : Text). 61 ∷ x) rest) in
    ap (λ (x : Text). plain read_equals (x ++ s)) u_is ∙ equals_one s

equals_no_name : (s : Text) → does_not_begin_with is_name_byte (61 ∷ s) ≡ true
unfolding is_name_byte
equals_no_name s = refl

x_stands : (s : Text) → Stands (120 ∷ s)
unfolding is_space
x_stands s = refl

abbrev pub row_value : ℕ → Text → Read (Unit {0})
row_value limit t = run is_space t >>= λ d. value_gap limit d.1

abbrev pub row_sign : ℕ → Text → Read (Unit {0})
row_sign limit t = run is_space t >>= λ b. plain read_equals b.1 >>= λ e. row_value limit e.1

default_row_value : (limit : ℕ) → Default (row_value limit) (49 ∷ []) AfterRow
unfolding is_space
default_row_value limit r a = default_value limit r a

mend_row_value : (limit : ℕ) (some : 0 < limit) (G : Text → Type 0) → ((s : Text) → G (49 ∷ s)) → Mends (row_value limit) AfterRow G
mend_row_value limit some G start = mend_bind (run is_space) (λ d u. value_gap limit u) Always AfterRow Stands G (49 ∷ []) (local_run is_space) (resumes_run is_space) (mend_run is_space Always G) (λ d. mend_value limit some (λ s. Stands s × G s) (λ s. (one_stands s, start s))) (λ d. default_value limit) (λ r a. tt)

abbrev pub sign_value : ℕ → Text → Read (Unit {0})
sign_value limit t = plain read_equals t >>= λ e. row_value limit e.1

default_sign_value : (limit : ℕ) → Default (sign_value limit) (61 ∷ 49 ∷ []) AfterRow
default_sign_value limit r a = default_row_value limit r a

pub equals_takes : (t : Text) (a : Unit {0}) (r : Text) → plain read_equals t ≡ Ok (a, r) → length r < length t
equals_takes t a r is =
    let one = bind_ok (read_equals t) ready (a, r) is in
    let rest : one.0 ≡ r = ap (λ (y : Unit {0} × Text). y.1) (ok_same {A = Unit {0} × Text} (tt, one.0) (a, r) _ refl one.2) in
    omega (arith, ap (length {A = ℕ}) (equals_ok t one.0 one.1), ap (length {A = ℕ}) rest)

mend_sign_value : (limit : ℕ) (some : 0 < limit) (G : Text → Type 0) → ((s : Text) → G (61 ∷ s)) → Mends (sign_value limit) AfterRow G
mend_sign_value limit some G start = mend_bind_some (plain read_equals) (λ e u. row_value limit u) Always AfterRow Always G (49 ∷ []) equals_takes local_equals resumes_equals (mend_equals G start) (λ e. mend_row_value limit some Always (λ s. tt)) (λ e. default_row_value limit) (λ r a. tt)

default_row_sign : (limit : ℕ) → Default (row_sign limit) (61 ∷ 49 ∷ []) AfterRow
unfolding is_space
default_row_sign limit r a = default_sign_value limit r a

mend_row_sign : (limit : ℕ) (some : 0 < limit) (G : Text → Type 0) → ((s : Text) → G (61 ∷ s)) → Mends (row_sign limit) AfterRow G
mend_row_sign limit some G start = mend_bind (run is_space) (λ b u. sign_value limit u) Always AfterRow Stands G (61 ∷ 49 ∷ []) (local_run is_space) (resumes_run is_space) (mend_run is_space Always G) (λ b. mend_sign_value limit some (λ s. Stands s × G s) (λ s. (equals_stands s, start s))) (λ b. default_sign_value limit) (λ r a. tt)

abbrev pub named_row : ℕ → Text → Read (Unit {0})
named_row limit t = read_name limit t >>= λ n. row_sign limit n.1

default_named_row : (limit : ℕ) (some : 0 < limit) → Default (named_row limit) (120 ∷ 61 ∷ 49 ∷ []) AfterRow
default_named_row limit some r a =
    let d = default_row_sign limit r a in
    (d.0, ap (λ (m : Read Text). m >>= λ n. row_sign limit n.1) (name_again limit (120 ∷ []) (61 ∷ 49 ∷ r) (x_name limit some) (equals_no_name (49 ∷ r))) ∙ d.1)

pub name_takes : (limit : ℕ) (t a r : Text) → read_name limit t ≡ Ok (a, r) → length r < length t
name_takes limit t a r is =
    let n = name_ok limit t (a, r) is in
    let some = name_parts limit a n.name in
    omega (arith, some.some, ap (length {A = ℕ}) n.split, length-append a r)

mend_named_row : (limit : ℕ) (some : 0 < limit) (G : Text → Type 0) → ((s : Text) → G (120 ∷ s)) → Mends (named_row limit) AfterRow G
mend_named_row limit some G start = mend_bind_some (read_name limit) (λ n u. row_sign limit u) (λ s. does_not_begin_with is_name_byte s ≡ true) AfterRow (λ s. does_not_begin_with is_name_byte s ≡ true) G (61 ∷ 49 ∷ []) (name_takes limit) (local_name limit) (resumes_name limit) (mend_name limit some G start) (λ n. mend_row_sign limit some (λ s. does_not_begin_with is_name_byte s ≡ true) equals_no_name) (λ n. default_row_sign limit) (λ r a. equals_no_name (49 ∷ r))

pub default_row : (limit : ℕ) (some : 0 < limit) → Default (plain (read_row limit)) (120 ∷ 61 ∷ 49 ∷ []) AfterRow
unfolding is_space
default_row limit some r a = let d = default_named_row limit some r a in (d.0, row_is limit (120 ∷ 61 ∷ 49 ∷ r) ∙ d.1)

pub mend_row : (limit : ℕ) (some : 0 < limit) (G : Text → Type 0) → ((s : Text) → G (120 ∷ s)) → Mends (plain (read_row limit)) AfterRow G
mend_row limit some G start = mend_same (plain (read_row limit)) (row_pieces limit) AfterRow G (row_is limit)
    (mend_bind (run is_space) (λ a u. named_row limit u) Always AfterRow Stands G (120 ∷ 61 ∷ 49 ∷ []) (local_run is_space) (resumes_run is_space) (mend_run is_space Always G) (λ a. mend_named_row limit some (λ s. Stands s × G s) (λ s. (x_stands s, start s))) (λ a. default_named_row limit some) (λ r a. tt))
