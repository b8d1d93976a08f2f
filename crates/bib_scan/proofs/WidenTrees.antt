-- Each reader, if names and keys may be one byte longer.
use Rattle.bib_scan.proofs.Words.{◌≡◌, ℕ, zero, suc, ◌+◌, ◌-◌, Bool, true, false, cond, eqb, [], ◌∷◌, ◌++◌, refl, sym, ap, subst, ◌∙◌, arith, append-nil, inl, inr, None, Some, Ok, Err, cases_eq, length-append, append_cancel_right, All-push, take_while, AllPass, is_ascii_digit, ReadingFault, Unended}
use Rattle.bib_scan.proofs.Words.{ExpectedName, ExpectedEquals, ExpectedCommaOrClose, ExpectedValue, UnbalancedBrace, Text, is_space, is_name_byte, after_run, Part, Braced, Quoted, Macro, Delimiter, close_byte, goes_on_key, Read, Halt, stop, expected, read_run, read_braced, read_quoted, begins_name}
use Rattle.bib_scan.proofs.Words.{read_name, read_equals, read_part, read_links, read_row, read_comma, read_close, read_rows, read_all_rows, read_entry, read_definition, read_preamble, go_on, ◌>>=◌}
use Rattle.bib_spec.specs.Tree.{Digits}
use Rattle.bib_scan.proofs.RunLaws.{not_ok, limited_ok, limited_again}
use Rattle.bib_scan.proofs.BraceLemmas.{quoted_takes, quoted_opens, quoted_closes, quoted_ends, quoted_inside, quoted_unbalanced, quoted_nil}
use Rattle.bib_scan.proofs.BraceLaws.{plain_byte}
use Rattle.bib_scan.proofs.LocalLaws.{rest_of, Local, after_first, local_beyond, local_bind, local_cond, local_ok, run, local_run, local_limited}
use Rattle.bib_scan.proofs.LocalParts.{first_is, local_braced, local_quoted, local_name, local_part, part_by_first, part_is}
use Rattle.bib_scan.proofs.LocalRows.{plain, ready, skip, links_gap, links_by_first, links_gap_is, local_links, value_gap, value_family, value_is, local_value, local_equals, row_pieces, row_is, local_row, local_closing, local_comma, rows_read, after_comma, rows_by_first, rows_is, local_rows, all_rows_is, local_all_rows, definition_is, value_close, preamble_is}
use Rattle.bib_scan.proofs.MendLaws.{err_is}
use Rattle.bib_scan.proofs.MendRows.{too_long, row_value, sign_value, row_sign, named_row}
use Rattle.bib_scan.proofs.MendTrees.{space_rows, key_rows, entry_bind}
use Rattle.bib_scan.proofs.TellLaws.{Past}
use Rattle.bib_scan.proofs.TellParts.{braced_err, front_err}
use Rattle.bib_scan.proofs.TellRows.{part_links, link_inside, local_part_links, local_link, local_row_value, local_sign_value, local_row_sign, local_named_row}
use Rattle.bib_scan.proofs.TellTrees.{row_rows, local_after, local_gap, local_space_rows}
use Rattle.bib_scan.proofs.WidenLaws.{IsLong, IsShort, Widens, widen_fixed, widen_never, widen_same, widen_family, widen_bind, widen_cond, widen_after}

-- ---- faults that no limit makes

short_of : (f : ReadingFault) (r : Text) (h : Halt) → IsShort f → stop f r ≡ h → IsShort h.fault
short_of f r h short e = subst (λ (k : Halt). IsShort k.fault) e short

expected_short : (f : ReadingFault) (t : Text) (h : Halt) → IsShort f → expected f t ≡ h → IsShort h.fault
expected_short f [] h short e = short_of Unended [] h (λ long. long) e
expected_short f (b ∷ t) h short e = short_of f (b ∷ t) h short e

widen_expected : {A : Type 0} (f : ReadingFault) → IsShort f → Widens {A = A} (λ t. Err (expected f t)) (λ t. Err (expected f t))
widen_expected {A} f short = widen_fixed (λ t. Err (expected f t)) (λ t h is. expected_short f t h short (err_is {A = A × Text} (expected f t) h _ refl is))

widen_run : (test : ℕ → Bool) → Widens (run test) (run test)
widen_run test = widen_never (run test) (λ t. ((take_while test t, after_run test t), refl))

widen_ok : {A : Type 0} (a : A) → Widens (λ t. Ok (a, t)) (λ t. Ok (a, t))
widen_ok {A} a = widen_never (λ t. Ok (a, t)) (λ t. ((a, t), refl))

braced_short : (d : ℕ) (t : Text) (h : Halt) → read_braced d t ≡ Err h → IsShort h.fault
braced_short d t h is = short_of Unended [] h (λ long. long) (braced_err d t h is)

quoted_short : (d : ℕ) (t : Text) (h : Halt) → read_quoted d t ≡ Err h → IsShort h.fault
quoted_short d [] h is = short_of Unended [] h (λ long. long) (err_is (stop Unended []) h _ (quoted_nil d) is)
quoted_short d (b ∷ t) h is =
    elim (cases_eq b 123) [
      | inl opens ↦ quoted_short (d + 1) t h (front_err b _ h (sym (quoted_opens d b t opens) ∙ is))
      | inr no_open ↦ elim (cases_eq b 125) [
        | inl closes ↦ elim (cases_eq d 0) [
          | inl none ↦ short_of UnbalancedBrace (b ∷ t) h (λ long. long) (err_is (stop UnbalancedBrace (b ∷ t)) h _ (ap (λ (n : ℕ). read_quoted n (b ∷ t)) none ∙ quoted_unbalanced b t closes) is)
          | inr some ↦ quoted_short (d - 1) t h (front_err b _ h (sym (quoted_closes d b t some closes) ∙ is))
        ]
        | inr no_close ↦ elim (cases_eq b 34) [
          | inl mark ↦ elim (cases_eq d 0) [
            | inl none ↦ absurd (not_ok ([], t) h _ is (ap (λ (n : ℕ). read_quoted n (b ∷ t)) none ∙ quoted_ends b t mark))
            | inr some ↦ quoted_short d t h (front_err b _ h (sym (quoted_inside d b t some mark) ∙ is))
          ]
          | inr no_mark ↦ quoted_short d t h (front_err b _ h (sym (quoted_takes d b t (plain_byte b no_open no_close no_mark)) ∙ is))
        ]
      ]
    ]

widen_braced : Widens (read_braced 0) (read_braced 0)
widen_braced = widen_fixed (read_braced 0) (braced_short 0)

widen_quoted : Widens (read_quoted 0) (read_quoted 0)
widen_quoted = widen_fixed (read_quoted 0) (quoted_short 0)

equals_short : (t : Text) (h : Halt) → plain read_equals t ≡ Err h → IsShort h.fault
equals_short [] h is = short_of Unended [] h (λ long. long) (err_is {A = Unit {0} × Text} (stop Unended []) h _ refl is)
equals_short (b ∷ t) h is = go (eqb b 61) is
  where
    go : (x : Bool) → (cond x (Ok t) (Err (stop ExpectedEquals (b ∷ t))) >>= ready) ≡ Err h → IsShort h.fault
    go true e = absurd (not_ok (tt, t) h _ e refl)
    go false e = short_of ExpectedEquals (b ∷ t) h (λ long. long) (err_is {A = Unit {0} × Text} (stop ExpectedEquals (b ∷ t)) h _ refl e)

comma_short : (t : Text) (h : Halt) → plain read_comma t ≡ Err h → IsShort h.fault
comma_short [] h is = short_of Unended [] h (λ long. long) (err_is {A = Unit {0} × Text} (stop Unended []) h _ refl is)
comma_short (b ∷ t) h is = go (eqb b 44) is
  where
    go : (x : Bool) → (cond x (Ok t) (Err (stop ExpectedCommaOrClose (b ∷ t))) >>= ready) ≡ Err h → IsShort h.fault
    go true e = absurd (not_ok (tt, t) h _ e refl)
    go false e = short_of ExpectedCommaOrClose (b ∷ t) h (λ long. long) (err_is {A = Unit {0} × Text} (stop ExpectedCommaOrClose (b ∷ t)) h _ refl e)

close_short : (c : ℕ) (t : Text) (h : Halt) → plain (read_close c) t ≡ Err h → IsShort h.fault
close_short c [] h is = short_of Unended [] h (λ long. long) (err_is {A = Unit {0} × Text} (stop Unended []) h _ refl is)
close_short c (b ∷ t) h is = go (eqb b c) is
  where
    go : (x : Bool) → (go_on (Err (stop ExpectedCommaOrClose (b ∷ t))) Ok (cond x (Some t) None) >>= ready) ≡ Err h → IsShort h.fault
    go true e = absurd (not_ok (tt, t) h _ e refl)
    go false e = short_of ExpectedCommaOrClose (b ∷ t) h (λ long. long) (err_is {A = Unit {0} × Text} (stop ExpectedCommaOrClose (b ∷ t)) h _ refl e)

-- ---- names and parts

module _ (limit : ℕ) where
  pub widen_limited : (test : ℕ → Bool) → Widens (read_run limit test) (read_run (suc limit) test)
  widen_limited test = record {
    ok = λ t x is.
        let l = limited_ok limit test t x is in
        ap (read_run (suc limit) test) l.split ∙ limited_again (suc limit) test x.0 x.1 l.pass (omega (arith, l.len)) l.ends;
    same = λ t h is short. absurd (short (subst IsLong (too_long limit test t h is).fault tt));
    long = λ t u h c v is fault split rest.
        let l = too_long limit test t h is in
        let u_is : u ≡ l.front = append_cancel_right u l.front h.rest (sym split ∙ l.split) in
        let passes : AllPass test (l.front ++ c ∷ []) = All-push (λ (x : ℕ). test x ≡ true) l.front c l.passes (l.next c v rest) in
        let read : read_run (suc limit) test ((l.front ++ c ∷ []) ++ []) ≡ Ok (l.front ++ c ∷ [], []) = limited_again (suc limit) test (l.front ++ c ∷ []) [] passes (omega (arith, l.len, length-append l.front (c ∷ []))) refl in
        subst (λ (w : Text). Past (read_run (suc limit) test) w c) (sym u_is) (ap rest_of (ap (read_run (suc limit) test) (sym (append-nil (l.front ++ c ∷ []))) ∙ read));
  }

  widen_name : Widens (read_name limit) (read_name (suc limit))
  widen_name = widen_cond begins_name (read_run limit is_name_byte) (read_run (suc limit) is_name_byte) (λ t. Err (expected ExpectedName t)) (λ t. Err (expected ExpectedName t)) (λ b t u. refl) (widen_limited is_name_byte) (widen_expected ExpectedName (λ long. long))

  -- one reader of content, with `make` as the kind of part
  widen_made : (make : Text → Part) (p q : Text → Read Text) → Local p → Widens p q → Widens (λ t. p t >>= λ x. Ok (make x.0, x.1)) (λ t. q t >>= λ x. Ok (make x.0, x.1))
  widen_made make p q local w = widen_bind p q (λ a u. Ok (make a, u)) (λ a u. Ok (make a, u)) local (λ a. local_ok (make a)) (λ a. local_ok (make a)) w (λ a. widen_ok (make a))

  local_made : (make : Text → Part) (p : Text → Read Text) → Local p → Local (λ t. p t >>= λ x. Ok (make x.0, x.1))
  local_made make p local = local_bind p (λ a u. Ok (make a, u)) local (λ a. local_ok (make a))

  pub widen_part : Widens (read_part limit) (read_part (suc limit))
  widen_part = widen_same (read_part limit) (read_part (suc limit)) (part_by_first limit) (part_by_first (suc limit)) (part_is limit) (part_is (suc limit))
      (widen_cond (first_is (λ b. eqb b 123)) _ _ _ _ (λ b t u. refl) (widen_after _ _ (local_made (λ x. Braced x) (read_braced 0) (local_braced 0)) (widen_made (λ x. Braced x) (read_braced 0) (read_braced 0) (local_braced 0) widen_braced))
      (widen_cond (first_is (λ b. eqb b 34)) _ _ _ _ (λ b t u. refl) (widen_after _ _ (local_made (λ x. Quoted x) (read_quoted 0) (local_quoted 0)) (widen_made (λ x. Quoted x) (read_quoted 0) (read_quoted 0) (local_quoted 0) widen_quoted))
      (widen_cond (first_is is_ascii_digit) _ _ _ _ (λ b t u. refl) (widen_made (λ x. Digits x) (run is_ascii_digit) (run is_ascii_digit) (local_run is_ascii_digit) (widen_run is_ascii_digit))
      (widen_cond (first_is is_name_byte) _ _ _ _ (λ b t u. refl) (widen_made (λ x. Macro x) (read_run limit is_name_byte) (read_run (suc limit) is_name_byte) (local_limited limit is_name_byte) (widen_limited is_name_byte))
      (widen_expected ExpectedValue (λ long. long))))))

  -- ---- values

  widen_space : {A : Type 0} (p q : Text → Read A) → Local p → Local q → Widens p q → Widens (λ t. run is_space t >>= λ s. p s.1) (λ t. run is_space t >>= λ s. q s.1)
  widen_space p q lp lq w = widen_bind (run is_space) (run is_space) (λ s u. p u) (λ s u. q u) (local_run is_space) (λ s. lp) (λ s. lq) (widen_run is_space) (λ s. w)

  widen_part_links : (n : ℕ) → Widens (links_gap limit n) (links_gap (suc limit) n) → Widens (part_links limit n) (part_links (suc limit) n)
  widen_part_links n later = widen_bind (read_part limit) (read_part (suc limit)) (λ p u. links_gap limit n u) (λ p u. links_gap (suc limit) n u) (local_part limit) (λ p. local_links limit n) (λ p. local_links (suc limit) n) widen_part (λ p. later)

  local_choice : (m n : ℕ) → Local (λ x. cond (first_is (λ b. eqb b 35) x) (after_first (link_inside m n) x) (ready x))
  local_choice m n = local_cond (first_is (λ b. eqb b 35)) (after_first (link_inside m n)) ready (λ b t u. refl) (local_beyond (link_inside m n) (local_link m n)) (local_ok tt)

  widen_links : (n : ℕ) → Widens (links_gap limit n) (links_gap (suc limit) n)
  unfolding read_links
  widen_links zero = widen_never skip (λ t. ((tt, after_run is_space t), refl))
  widen_links (suc n) = widen_same (links_gap limit (suc n)) (links_gap (suc limit) (suc n)) (links_by_first limit n) (links_by_first (suc limit) n) (links_gap_is limit n) (links_gap_is (suc limit) n)
      (widen_space _ _ (local_choice limit n) (local_choice (suc limit) n)
      (widen_cond (first_is (λ b. eqb b 35)) _ _ ready ready (λ b t u. refl)
      (widen_after _ _ (local_link limit n) (widen_space _ _ (local_part_links limit n) (local_part_links (suc limit) n) (widen_part_links n (widen_links n))))
      (widen_ok tt)))

  pub widen_value : Widens (value_gap limit) (value_gap (suc limit))
  widen_value = widen_family (value_gap limit) (value_gap (suc limit)) (value_family limit) (value_family (suc limit)) (value_is limit) (value_is (suc limit)) (λ n. widen_part_links n (widen_links n))

  -- ---- rows

  widen_equals : Widens (plain read_equals) (plain read_equals)
  widen_equals = widen_fixed (plain read_equals) equals_short

  widen_row_value : Widens (row_value limit) (row_value (suc limit))
  widen_row_value = widen_space (value_gap limit) (value_gap (suc limit)) (local_value limit) (local_value (suc limit)) widen_value

  widen_sign_value : Widens (sign_value limit) (sign_value (suc limit))
  widen_sign_value = widen_bind (plain read_equals) (plain read_equals) (λ e u. row_value limit u) (λ e u. row_value (suc limit) u) local_equals (λ e. local_row_value limit) (λ e. local_row_value (suc limit)) widen_equals (λ e. widen_row_value)

  widen_row_sign : Widens (row_sign limit) (row_sign (suc limit))
  widen_row_sign = widen_space (sign_value limit) (sign_value (suc limit)) (local_sign_value limit) (local_sign_value (suc limit)) widen_sign_value

  widen_named_row : Widens (named_row limit) (named_row (suc limit))
  widen_named_row = widen_bind (read_name limit) (read_name (suc limit)) (λ n u. row_sign limit u) (λ n u. row_sign (suc limit) u) (local_name limit) (λ n. local_row_sign limit) (λ n. local_row_sign (suc limit)) widen_name (λ n. widen_row_sign)

  pub widen_row : Widens (plain (read_row limit)) (plain (read_row (suc limit)))
  widen_row = widen_same (plain (read_row limit)) (plain (read_row (suc limit))) (row_pieces limit) (row_pieces (suc limit)) (row_is limit) (row_is (suc limit))
      (widen_space (named_row limit) (named_row (suc limit)) (local_named_row limit) (local_named_row (suc limit)) widen_named_row)

  widen_comma : Widens (plain read_comma) (plain read_comma)
  widen_comma = widen_fixed (plain read_comma) comma_short

  widen_close : (c : ℕ) → Widens (plain (read_close c)) (plain (read_close c))
  widen_close c = widen_fixed (plain (read_close c)) (close_short c)

  widen_rows : (n c : ℕ) → Widens (rows_read limit n c) (rows_read (suc limit) n c)
  unfolding read_rows
  widen_rows zero c = widen_expected ExpectedCommaOrClose (λ long. long)
  widen_rows (suc n) c =
      let rows : Widens (row_rows limit n c) (row_rows (suc limit) n c) = widen_bind (plain (read_row limit)) (plain (read_row (suc limit))) (λ r u. rows_read limit n c u) (λ r u. rows_read (suc limit) n c u) (local_row limit) (λ r. local_rows limit n c) (λ r. local_rows (suc limit) n c) widen_row (λ r. widen_rows n c) in
      let ready_too : Widens (after_first ready) (after_first ready) = widen_after ready ready (local_ok tt) (widen_ok tt) in
      let after : Widens (after_comma limit n c) (after_comma (suc limit) n c) = widen_cond (first_is (λ b. eqb b c)) (after_first ready) (after_first ready) (row_rows limit n c) (row_rows (suc limit) n c) (λ b t u. refl) ready_too rows in
      widen_same (rows_read limit (suc n) c) (rows_read (suc limit) (suc n) c) (rows_by_first limit n c) (rows_by_first (suc limit) n c) (rows_is limit n c) (rows_is (suc limit) n c)
      (widen_cond (first_is (λ b. eqb b c)) (after_first ready) (after_first ready) _ _ (λ b t u. refl) ready_too
      (widen_bind (plain read_comma) (plain read_comma) (λ u v. run is_space v >>= λ s. after_comma limit n c s.1) (λ u v. run is_space v >>= λ s. after_comma (suc limit) n c s.1) local_comma (λ u. local_gap limit n c) (λ u. local_gap (suc limit) n c) widen_comma
      (λ u. widen_space (after_comma limit n c) (after_comma (suc limit) n c) (local_after limit n c) (local_after (suc limit) n c) after)))

  widen_all_rows : (c : ℕ) → Widens (plain (read_all_rows limit c)) (plain (read_all_rows (suc limit) c))
  widen_all_rows c = widen_family (plain (read_all_rows limit c)) (plain (read_all_rows (suc limit) c)) (λ n t. rows_read limit (suc n) c t) (λ n t. rows_read (suc limit) (suc n) c t) (all_rows_is limit c) (all_rows_is (suc limit) c) (λ n. widen_rows (suc n) c)

  -- ---- the text between the delimiters

  pub widen_definition : (c : ℕ) → Widens (plain (read_definition limit c)) (plain (read_definition (suc limit) c))
  widen_definition c = widen_same (plain (read_definition limit c)) (plain (read_definition (suc limit) c)) _ _ (definition_is limit c) (definition_is (suc limit) c)
      (widen_bind (plain (read_row limit)) (plain (read_row (suc limit))) (λ r u. plain (read_close c) u) (λ r u. plain (read_close c) u) (local_row limit) (λ r. local_closing c) (λ r. local_closing c) widen_row (λ r. widen_close c))

  local_value_close : (m c : ℕ) → Local (value_close m c)
  local_value_close m c = local_bind (value_gap m) (λ v u. plain (read_close c) u) (local_value m) (λ v. local_closing c)

  pub widen_preamble : (c : ℕ) → Widens (plain (read_preamble limit c)) (plain (read_preamble (suc limit) c))
  widen_preamble c = widen_same (plain (read_preamble limit c)) (plain (read_preamble (suc limit) c)) _ _ (preamble_is limit c) (preamble_is (suc limit) c)
      (widen_space (value_close limit c) (value_close (suc limit) c) (local_value_close limit c) (local_value_close (suc limit) c)
      (widen_bind (value_gap limit) (value_gap (suc limit)) (λ v u. plain (read_close c) u) (λ v u. plain (read_close c) u) (local_value limit) (λ v. local_closing c) (λ v. local_closing c) widen_value (λ v. widen_close c)))

  widen_space_rows : (c : ℕ) → Widens (space_rows limit c) (space_rows (suc limit) c)
  widen_space_rows c = widen_space (plain (read_all_rows limit c)) (plain (read_all_rows (suc limit) c)) (local_all_rows limit c) (local_all_rows (suc limit) c) (widen_all_rows c)

  local_key_rows : (m : ℕ) (d : Delimiter) → Local (key_rows m d)
  local_key_rows m d = local_bind (read_run m (goes_on_key d)) (λ k u. space_rows m (close_byte d) u) (local_limited m (goes_on_key d)) (λ k. local_space_rows m (close_byte d))

  pub widen_entry : (d : Delimiter) → Widens (plain (read_entry limit d)) (plain (read_entry (suc limit) d))
  unfolding read_entry
  widen_entry d = widen_same (plain (read_entry limit d)) (plain (read_entry (suc limit) d)) (λ t. run is_space t >>= λ a. key_rows limit d a.1) (λ t. run is_space t >>= λ a. key_rows (suc limit) d a.1) (λ t. entry_bind limit (read_run limit (goes_on_key d) (after_run is_space t)) (close_byte d)) (λ t. entry_bind (suc limit) (read_run (suc limit) (goes_on_key d) (after_run is_space t)) (close_byte d))
      (widen_space (key_rows limit d) (key_rows (suc limit) d) (local_key_rows limit d) (local_key_rows (suc limit) d)
      (widen_bind (read_run limit (goes_on_key d)) (read_run (suc limit) (goes_on_key d)) (λ k u. space_rows limit (close_byte d) u) (λ k u. space_rows (suc limit) (close_byte d) u) (local_limited limit (goes_on_key d)) (λ k. local_space_rows limit (close_byte d)) (λ k. local_space_rows (suc limit) (close_byte d)) (widen_limited (goes_on_key d)) (λ k. widen_space_rows (close_byte d))))
