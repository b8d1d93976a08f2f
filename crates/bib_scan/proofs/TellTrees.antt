-- What the readers of commands do with other bytes where they stopped.
use Rattle.bib_scan.proofs.Words.{◌≡◌, ℕ, zero, suc, ◌<◌, ◌≤◌, Bool, true, false, cond, eqb, [], ◌∷◌, ◌++◌, length, refl, sym, ap, subst, ◌∙◌, arith, inl, inr, ◌⊎◌, Option, None, Some, Ok, Err, cond-false, not_from_false, not-true, or_cases, eqb-true, append_cancel_right, length-append, length-drop}
use Rattle.bib_scan.proofs.Words.{All-nil, prefix_len, Unended, ExpectedName, ExpectedCommaOrClose, ExpectedValue, Text, is_space, does_not_begin_with, after_run, value_bytes, Delimiter, Brace, Paren, close_byte, goes_on_key, IsRow, Read, Halt, stop, expected, read_run, read_row, read_rows}
use Rattle.bib_scan.proofs.Words.{read_all_rows, read_close, read_comma, go_on, read_entry, read_definition, read_preamble, ◌>>=◌}
use Rattle.std.proofs.lemmas.Bool.{not-false}
use Rattle.bib_scan.proofs.RunLaws.{bind_ok, ok_same, not_ok, limited_ok, cons_nil}
use Rattle.bib_scan.proofs.ValueLaws.{skip_space}
use Rattle.bib_scan.proofs.RowLaws.{comma_ok, row_ok, assignment_inside}
use Rattle.bib_scan.proofs.AgainLaws.{EndsRow, not_closed}
use Rattle.bib_scan.proofs.TreeAgainLaws.{closes}
use Rattle.bib_scan.proofs.LocalLaws.{Local, LocalAt, rest_of, run, after_first, local_run, local_limited, local_beyond, local_bind, local_cond, local_ok}
use Rattle.bib_scan.proofs.LocalParts.{first_is}
use Rattle.bib_scan.proofs.LocalRows.{plain, ready, value_gap, local_value, local_row, local_closing, local_comma, rows_read, after_comma, rows_by_first, rows_is, local_rows, local_all_rows, all_rows_is, definition_is, preamble_is, value_close}
use Rattle.bib_scan.proofs.MendLaws.{err_is}
use Rattle.bib_scan.proofs.MendTrees.{all_again, space_rows, key_rows, entry_bind}
use Rattle.bib_scan.proofs.TellLaws.{some_or_none, tell_later, Stopped, Leaves, Blocks, Tries, IsTried, the_letter, the_digit, the_sign, the_mark, the_comma, TellsAt, Tells, Keeps, Digits, digits_of, tell_bind, tell_bind_some, tell_same, tell_family, tell_cond, tell_beyond}
use Rattle.bib_scan.proofs.TellParts.{told, told_end, tell_limited}
use Rattle.bib_scan.proofs.TellRows.{tried_space, tries_space, tell_space, tell_ready, close_ends, tell_value, digits_value, keeps_value, tell_row, digits_row, keeps_row}

-- ---- commas and closing delimiters

-- a byte by which no fault is known
abbrev pub Untried : ℕ → Type 0
Untried c = (d : ℕ) → IsTried d → eqb d c ≡ false

pub close_untried : (d : Delimiter) → Untried (close_byte d)
close_untried Brace d the_letter = refl
close_untried Brace d the_digit = refl
close_untried Brace d the_sign = refl
close_untried Brace d the_mark = refl
close_untried Brace d the_comma = refl
close_untried Paren d the_letter = refl
close_untried Paren d the_digit = refl
close_untried Paren d the_sign = refl
close_untried Paren d the_mark = refl
close_untried Paren d the_comma = refl

close_stopped : (c d : ℕ) → eqb d c ≡ false → Stopped (plain (read_close c)) [] d
close_stopped c d other = (ExpectedCommaOrClose, ap (λ (o : Option Text). go_on (Err (expected ExpectedCommaOrClose (d ∷ []))) Ok o >>= ready) (not_closed c d [] other))

close_blocks : (c : ℕ) → Untried c → (d : ℕ) → Blocks ExpectedCommaOrClose d → Stopped (plain (read_close c)) [] d
close_blocks c untried d (inl is) = subst (Stopped (plain (read_close c)) []) (sym is) (close_stopped c 61 (untried 61 the_sign))
close_blocks c untried d (inr is) = subst (Stopped (plain (read_close c)) []) (sym is) (close_stopped c 34 (untried 34 the_mark))

tell_close : (c : ℕ) (G : ℕ → Type 0) → Untried c → ((d : ℕ) → Tries ExpectedCommaOrClose d → G d) → Tells (plain (read_close c)) G
tell_close c G untried each [] h is = told_end (plain (read_close c)) G [] h (err_is {A = Unit {0} × Text} (stop Unended []) h _ refl is)
tell_close c G untried each (b ∷ t) h is = go (eqb b c) is
  where
    go : (x : Bool) → (go_on (Err (stop ExpectedCommaOrClose (b ∷ t))) Ok (cond x (Some t) None) >>= ready) ≡ Err h → TellsAt (plain (read_close c)) G (b ∷ t) h
    go true e = absurd (not_ok (tt, t) h _ e refl)
    go false e = told (plain (read_close c)) G (b ∷ t) [] (b ∷ t) ExpectedCommaOrClose h (err_is {A = Unit {0} × Text} (stop ExpectedCommaOrClose (b ∷ t)) h _ refl e) refl (cons_nil b t) (λ d ok. absurd ok) (close_blocks c untried) (λ asks. inl (close_stopped c 120 (untried 120 the_letter))) (λ none. each)

comma_blocks : (d : ℕ) → Blocks ExpectedCommaOrClose d → Stopped (plain read_comma) [] d
comma_blocks d (inl is) = subst (Stopped (plain read_comma) []) (sym is) (ExpectedCommaOrClose, refl)
comma_blocks d (inr is) = subst (Stopped (plain read_comma) []) (sym is) (ExpectedCommaOrClose, refl)

tell_comma : (G : ℕ → Type 0) → ((d : ℕ) → Tries ExpectedCommaOrClose d → G d) → Tells (plain read_comma) G
tell_comma G each [] h is = told_end (plain read_comma) G [] h (err_is {A = Unit {0} × Text} (stop Unended []) h _ refl is)
tell_comma G each (b ∷ t) h is = go (eqb b 44) is
  where
    go : (x : Bool) → (cond x (Ok t) (Err (stop ExpectedCommaOrClose (b ∷ t))) >>= ready) ≡ Err h → TellsAt (plain read_comma) G (b ∷ t) h
    go true e = absurd (not_ok (tt, t) h _ e refl)
    go false e = told (plain read_comma) G (b ∷ t) [] (b ∷ t) ExpectedCommaOrClose h (err_is {A = Unit {0} × Text} (stop ExpectedCommaOrClose (b ∷ t)) h _ refl e) refl (cons_nil b t) (λ d ok. absurd ok) comma_blocks (λ asks. inl (ExpectedCommaOrClose, refl)) (λ none. each)

comma_is : (t : Text) (a : Unit {0}) (r : Text) → plain read_comma t ≡ Ok (a, r) → t ≡ 44 ∷ r
comma_is t a r is =
    let one = bind_ok (read_comma t) ready (a, r) is in
    let rest : one.0 ≡ r = ap (λ (y : Unit {0} × Text). y.1) (ok_same {A = Unit {0} × Text} (tt, one.0) (a, r) _ refl one.2) in
    comma_ok t one.0 one.1 ∙ ap (λ (x : Text). 44 ∷ x) rest

keeps_comma : Keeps (plain read_comma) (λ d. Unit {0})
keeps_comma t a r u is split d ok =
    let u_is : u ≡ 44 ∷ [] = append_cancel_right u (44 ∷ []) r (sym split ∙ comma_is t a r is) in
    subst (λ (v : Text). Leaves (plain read_comma) a v d) (sym u_is) refl

digits_comma : Digits (plain read_comma)
digits_comma = digits_of (plain read_comma) (λ d. Unit {0}) keeps_comma tt tt

comma_takes : (t : Text) (a : Unit {0}) (r : Text) → plain read_comma t ≡ Ok (a, r) → length r < length t
comma_takes t a r is = omega (arith, ap (length {A = ℕ}) (comma_is t a r is))

-- ---- rows

row_takes : (limit : ℕ) (t : Text) (a : Unit {0}) (r : Text) → plain (read_row limit) t ≡ Ok (a, r) → length r < length t
row_takes limit t a r is =
    let one = bind_ok (read_row limit t) ready (a, r) is in
    let rest : one.0 ≡ r = ap (λ (y : Unit {0} × Text). y.1) (ok_same {A = Unit {0} × Text} (tt, one.0) (a, r) _ refl one.2) in
    let w = row_ok limit t one.0 one.1 in
    let x = w.0.assignment in
    let last : Text = x.space_after ++ one.0 in
    let l1 = length-append w.0.space_before_name (assignment_inside x one.0) in
    let l2 = length-append x.name (x.space_before_equals ++ (61 ∷ (x.space_before_value ++ (value_bytes x.value ++ last)))) in
    let l3 = length-append x.space_before_equals (61 ∷ (x.space_before_value ++ (value_bytes x.value ++ last))) in
    let l4 = length-append x.space_before_value (value_bytes x.value ++ last) in
    let l5 = length-append (value_bytes x.value) last in
    let l6 = length-append x.space_after one.0 in
    omega (arith, ap (length {A = ℕ}) w.3, ap (length {A = ℕ}) rest)

rows_blocks : (limit c d : ℕ) → Stopped (rows_read limit 0 c) [] d
unfolding read_rows
rows_blocks limit c d = (ExpectedCommaOrClose, refl)

abbrev pub row_rows : ℕ → ℕ → ℕ → Text → Read (Unit {0})
row_rows limit n c s = plain (read_row limit) s >>= λ r. rows_read limit n c r.1

pub local_row_rows : (limit n c : ℕ) → Local (row_rows limit n c)
local_row_rows limit n c = local_bind (plain (read_row limit)) (λ r u. rows_read limit n c u) (local_row limit) (λ r. local_rows limit n c)

pub local_after : (limit n c : ℕ) → Local (after_comma limit n c)
local_after limit n c = local_cond (first_is (λ b. eqb b c)) (after_first ready) (row_rows limit n c) (λ b t u. refl) (local_beyond ready (local_ok tt)) (local_row_rows limit n c)

pub local_gap : (limit n c : ℕ) → Local (λ t. run is_space t >>= λ s. after_comma limit n c s.1)
local_gap limit n c = local_bind (run is_space) (λ s u. after_comma limit n c u) (local_run is_space) (λ s. local_after limit n c)

pub tell_rows : (limit : ℕ) (some : 0 < limit) (n c : ℕ) (G : ℕ → Type 0) → Untried c → ((d : ℕ) → Tries ExpectedCommaOrClose d → G d) → Tells (rows_read limit n c) G
unfolding read_rows
tell_rows limit some zero c G untried each = first
  where
    first : Tells (rows_read limit 0 c) G
    first [] h is = told_end (rows_read limit 0 c) G [] h (err_is {A = Unit {0} × Text} (stop Unended []) h _ refl is)
    first (b ∷ t) h is = told (rows_read limit 0 c) G (b ∷ t) [] (b ∷ t) ExpectedCommaOrClose h (err_is {A = Unit {0} × Text} (stop ExpectedCommaOrClose (b ∷ t)) h _ refl is) refl (cons_nil b t) (λ d ok. absurd ok) (λ d ok. rows_blocks limit c d) (λ asks. inl (rows_blocks limit c 120)) (λ none. each)
tell_rows limit some (suc n) c G untried each =
    let tell_inner : Tells (row_rows limit n c) (λ d. (is_space d ≡ false) × Unit {0}) = tell_bind_some (plain (read_row limit)) (λ r u. rows_read limit n c u) EndsRow (λ d. (is_space d ≡ false) × Unit {0}) (row_takes limit) (local_row limit) (λ r. local_rows limit n c) (keeps_row limit) (digits_row limit) (tell_row limit some (λ d. (is_space d ≡ false) × Unit {0}) (λ d ok. (tries_space ExpectedName d ok, tt))) (λ r. tell_rows limit some n c EndsRow untried close_ends) in
    let tell_after : Tells (after_comma limit n c) (λ d. (is_space d ≡ false) × Unit {0}) = tell_cond (first_is (λ b. eqb b c)) (after_first ready) (row_rows limit n c) (λ d. (is_space d ≡ false) × Unit {0}) (λ b t u. refl) untried (tell_beyond ready (λ d. (is_space d ≡ false) × Unit {0}) (first_is (λ b. eqb b c)) refl (tell_ready (λ d. Unit {0}))) tell_inner in
    tell_same (rows_read limit (suc n) c) (rows_by_first limit n c) G (rows_is limit n c)
    (tell_cond (first_is (λ b. eqb b c)) (after_first ready) (λ t. plain read_comma t >>= λ u. run is_space u.1 >>= λ s. after_comma limit n c s.1) G (λ b t u. refl) untried
    (tell_beyond ready G (first_is (λ b. eqb b c)) refl (tell_ready (λ d. Unit {0})))
    (tell_bind_some (plain read_comma) (λ u v. run is_space v >>= λ s. after_comma limit n c s.1) (λ d. Unit {0}) G comma_takes local_comma (λ u. local_gap limit n c) keeps_comma digits_comma (tell_comma G each) (λ u. tell_space (after_comma limit n c) (λ d. Unit {0}) (local_after limit n c) tell_after)))

pub tell_all_rows : (limit : ℕ) (some : 0 < limit) (c : ℕ) (G : ℕ → Type 0) → Untried c → ((d : ℕ) → Tries ExpectedCommaOrClose d → G d) → Tells (plain (read_all_rows limit c)) G
tell_all_rows limit some c G untried each = tell_family (plain (read_all_rows limit c)) (λ n t. rows_read limit (suc n) c t) G (all_rows_is limit c) (λ n. tell_rows limit some (suc n) c G untried each)

-- ---- the text between the delimiters

pub tell_definition : (limit : ℕ) (some : 0 < limit) (c : ℕ) → Untried c → Tells (plain (read_definition limit c)) (λ d. Unit {0})
tell_definition limit some c untried = tell_same (plain (read_definition limit c)) (λ t. plain (read_row limit) t >>= λ r. plain (read_close c) r.1) (λ d. Unit {0}) (definition_is limit c)
    (tell_bind_some (plain (read_row limit)) (λ r u. plain (read_close c) u) EndsRow (λ d. Unit {0}) (row_takes limit) (local_row limit) (λ r. local_closing c) (keeps_row limit) (digits_row limit) (tell_row limit some (λ d. Unit {0}) (λ d ok. tt)) (λ r. tell_close c EndsRow untried close_ends))

pub tell_preamble : (limit c : ℕ) → Untried c → Tells (plain (read_preamble limit c)) (λ d. Unit {0})
tell_preamble limit c untried = tell_same (plain (read_preamble limit c)) (λ t. run is_space t >>= λ a. value_close limit c a.1) (λ d. Unit {0}) (preamble_is limit c)
    (tell_space (value_close limit c) (λ d. Unit {0}) (local_bind (value_gap limit) (λ v u. plain (read_close c) u) (local_value limit) (λ v. local_closing c))
    (tell_bind (value_gap limit) (λ v u. plain (read_close c) u) EndsRow (λ d. (is_space d ≡ false) × Unit {0}) (local_value limit) (λ v. local_closing c) (keeps_value limit) (digits_value limit) (tell_value limit (λ d. (is_space d ≡ false) × Unit {0}) (λ d ok. (tries_space ExpectedValue d ok, tt))) (λ v. tell_close c (λ d. EndsRow d × ((is_space d ≡ false) × Unit {0})) untried (λ d ok. (close_ends d ok, (tries_space ExpectedCommaOrClose d ok, tt))))))

-- ---- entries

-- the byte that ends a key
key_end : (d : Delimiter) (b : ℕ) → goes_on_key d b ≡ false → (is_space b ≡ true) ⊎ ((b ≡ 44) ⊎ (b ≡ close_byte d))
key_end Brace b is =
    elim (or_cases _ _ (not-false _ is)) [
      | inl two ↦ elim (or_cases _ _ two) [ inl space ↦ inl space | inr comma ↦ inr (inl (eqb-true b 44 comma)) ]
      | inr close ↦ inr (inr (eqb-true b 125 close))
    ]
key_end Paren b is = elim (or_cases _ _ (not-false _ is)) [ inl space ↦ inl space | inr comma ↦ inr (inl (eqb-true b 44 comma)) ]

rest_len : {A : Type 0} (p : Text → Read A) → Local p → (t : Text) (h : Halt) → p t ≡ Err h → length h.rest ≤ length t
rest_len {A} p local t h is = go (p t) (local t) is
  where
    go : (m : Read A) → LocalAt p t m → m ≡ Err h → length h.rest ≤ length t
    go m l e = omega (arith, ap (length {A = ℕ}) (subst (λ (x : Read A). t ≡ l.front ++ rest_of x) e l.split), length-append l.front h.rest)

space_moves : (limit c b : ℕ) (v : Text) (h : Halt) → is_space b ≡ true → space_rows limit c (b ∷ v) ≡ Err h → length h.rest ≤ length v
space_moves limit c b v h space is =
    let some : 0 < prefix_len is_space (b ∷ v) = rw space (omega arith) in
    let short = rest_len (plain (read_all_rows limit c)) (local_all_rows limit c) (after_run is_space (b ∷ v)) h is in
    omega (arith, length-drop (prefix_len is_space (b ∷ v)) (b ∷ v))

comma_moves : (limit c : ℕ) (v : Text) (h : Halt) → Untried c → space_rows limit c (44 ∷ v) ≡ Err h → length h.rest ≤ length v
comma_moves limit c v h untried is =
    let here : after_run is_space (44 ∷ v) ≡ 44 ∷ v = skip_space [] (44 ∷ v) (All-nil (λ (x : ℕ). is_space x ≡ true)) (not_from_false _ (tried_space 44 the_comma)) in
    let n = length (44 ∷ v) in
    let one : plain (read_all_rows limit c) (44 ∷ v) ≡ Err h = ap (plain (read_all_rows limit c)) (sym here) ∙ is in
    let turn : rows_by_first limit n c (44 ∷ v) ≡ Err h = sym (rows_is limit n c (44 ∷ v)) ∙ sym (all_rows_is limit c n (44 ∷ v) (omega arith)) ∙ one in
    rest_len (λ t. run is_space t >>= λ s. after_comma limit n c s.1) (local_gap limit n c) v h (sym (cond-false (eqb 44 c) _ _ (untried 44 the_comma)) ∙ turn)

close_moves : (limit : ℕ) (d : Delimiter) (v : Text) (h : Halt) → space_rows limit (close_byte d) (close_byte d ∷ v) ≡ Err h → ⊥
close_moves limit d v h is =
    let c = close_byte d in
    let here : after_run is_space (c ∷ v) ≡ c ∷ v = skip_space [] (c ∷ v) (All-nil (λ (x : ℕ). is_space x ≡ true)) (not_from_false _ (closes d).ends.no_space) in
    not_ok (tt, v) h (plain (read_all_rows limit c) (c ∷ v)) (ap (plain (read_all_rows limit c)) (sym here) ∙ is) (all_again limit c [] None v (c ∷ v) (closes d) (All-nil (IsRow limit)) tt refl)

-- after a key that has ended, the reader of rows does not stop at once
key_moves : (limit : ℕ) (d : Delimiter) (b : ℕ) (v : Text) (h : Halt) → goes_on_key d b ≡ false → space_rows limit (close_byte d) (b ∷ v) ≡ Err h → length h.rest ≤ length v
key_moves limit d b v h ends is =
    elim (key_end d b ends) [
      | inl space ↦ space_moves limit (close_byte d) b v h space is
      | inr (inl comma) ↦ comma_moves limit (close_byte d) v h (close_untried d) (ap (λ (n : ℕ). space_rows limit (close_byte d) (n ∷ v)) (sym comma) ∙ is)
      | inr (inr close) ↦ absurd (close_moves limit d v h (ap (λ (n : ℕ). space_rows limit (close_byte d) (n ∷ v)) (sym close) ∙ is))
    ]

pub local_space_rows : (limit c : ℕ) → Local (space_rows limit c)
local_space_rows limit c = local_bind (run is_space) (λ s u. plain (read_all_rows limit c) u) (local_run is_space) (λ s. local_all_rows limit c)

tell_space_rows : (limit : ℕ) (some : 0 < limit) (c : ℕ) → Untried c → Tells (space_rows limit c) (λ d. Unit {0})
tell_space_rows limit some c untried = tell_space (plain (read_all_rows limit c)) (λ d. Unit {0}) (local_all_rows limit c) (tell_all_rows limit some c (λ d. (is_space d ≡ false) × Unit {0}) untried (λ d ok. (tries_space ExpectedCommaOrClose d ok, tt)))

no_rows : (limit c : ℕ) → space_rows limit c [] ≡ Err (stop Unended [])
unfolding read_rows
no_rows limit c = refl

tell_key_rows : (limit : ℕ) (some : 0 < limit) (d : Delimiter) (G : ℕ → Type 0) → Tells (key_rows limit d) G
tell_key_rows limit some d G t h is = go (read_run limit (goes_on_key d) t) refl is
  where
    c : ℕ
    c = close_byte d

    after : (k r : Text) → LocalAt (read_run limit (goes_on_key d)) t (Ok (k, r)) → does_not_begin_with (goes_on_key d) r ≡ true → space_rows limit c r ≡ Err h → (m : TellsAt (space_rows limit c) (λ d. Unit {0}) r h) → (m.front ≡ []) ⊎ (m.front ≡ [] → ⊥) → TellsAt (key_rows limit d) G t h
    after k [] l ends e m either = told_end (key_rows limit d) G t h (err_is {A = Unit {0} × Text} (stop Unended []) h _ (no_rows limit c) e)
    after k (b ∷ v) l ends e m (inl none) =
        let short = key_moves limit d b v h (not-true _ ends) e in
        absurd (omega (arith, ap (length {A = ℕ}) m.split, length-append m.front h.rest, ap (length {A = ℕ}) none))
    after k (b ∷ v) l ends e m (inr some_front) = tell_later (read_run limit (goes_on_key d)) (λ k u. space_rows limit c u) G (λ d. Unit {0}) t k (b ∷ v) h l m some_front

    go : (x : Read Text) → read_run limit (goes_on_key d) t ≡ x → (x >>= λ k. space_rows limit c k.1) ≡ Err h → TellsAt (key_rows limit d) G t h
    go (Ok x) read e =
        let l : LocalAt (read_run limit (goes_on_key d)) t (Ok x) = subst (LocalAt (read_run limit (goes_on_key d)) t) read (local_limited limit (goes_on_key d) t) in
        let m = tell_space_rows limit some c (close_untried d) x.1 h e in
        after x.0 x.1 l (limited_ok limit (goes_on_key d) t x read).ends e m (some_or_none m.front)
    go (Err k) read e = tell_limited limit (goes_on_key d) (key_rows limit d) G t h (read ∙ ap (λ (j : Halt). Err j) (err_is {A = Unit {0} × Text} k h (Err k) refl e))

pub tell_entry : (limit : ℕ) (some : 0 < limit) (d : Delimiter) → Tells (plain (read_entry limit d)) (λ d. Unit {0})
unfolding read_entry
tell_entry limit some d = tell_same (plain (read_entry limit d)) (λ t. run is_space t >>= λ a. key_rows limit d a.1) (λ d. Unit {0}) (λ t. entry_bind limit (read_run limit (goes_on_key d) (after_run is_space t)) (close_byte d))
    (tell_space (key_rows limit d) (λ d. Unit {0}) (local_bind (read_run limit (goes_on_key d)) (λ k u. space_rows limit (close_byte d) u) (local_limited limit (goes_on_key d)) (λ k. local_space_rows limit (close_byte d))) (tell_key_rows limit some d (λ d. (is_space d ≡ false) × Unit {0})))
