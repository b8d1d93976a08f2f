-- What is known of an output, whatever is put after it.
use Rattle.bib_names.proofs.Words.{◌≡◌, ◌∙◌, ℕ, zero, suc, ◌+◌, ◌-◌, ◌≤◌, ◌<◌, Bool, true, false, cond, eqb, List, [], ◌∷◌, ◌++◌, length, take, get_or, refl, sym, ap, arith, append-nil, add-zero, ◌&&◌, count_by, range_with_len, prefix_len, and-false, length-append, take_all, sum_by-append}
use Rattle.bib_names.proofs.Words.{count_by-le-length, eqb-true, eq-eqb, le-ltb, Text, opened_before, closed_before, is_level, places_from, begins_special, next_level, is_plain, begins_char, text_chars}
use Rattle.std.proofs.Common.{filter, append_assoc}
use Rattle.std.specs.Prelude.{◌||◌, not}
use Rattle.std.proofs.lemmas.List.{length-map, take-append-le, get_or-append-add}
use Rattle.std.proofs.lemmas.List.Elements.{filter-append}
use Rattle.std.proofs.lemmas.List.Sums.{sum_by-cons}
use Rattle.bib_names.specs.Printing.{is_short, joint}
use Rattle.bib_names.specs.Outputs.{AreKnown, IsOutput}
use Rattle.bib_names.proofs.BraceLemmas.{level_is}
use Rattle.bib_names.proofs.CharLemmas.{begins-byte, joined-no, plain_alone, plain_no_brace}

abbrev one_for : Bool → ℕ
one_for b = cond b 1 0

-- ---- places, in two parts

range_split : (at m n : ℕ) → range_with_len at (m + n) ≡ range_with_len at m ++ range_with_len (at + m) n
range_split at zero n =
    let none : 0 + n ≡ n = omega arith in
    let here : at ≡ at + 0 = omega arith in
    ap (range_with_len at) none ∙ ap (λ a. range_with_len a n) here
range_split at (suc m) n =
    let one : suc m + n ≡ suc (m + n) = omega arith in
    let next : at + 1 + m ≡ at + suc m = omega arith in
    ap (range_with_len at) one
    ∙ ap (λ (r : List ℕ). at ∷ r) (range_split (at + 1) m n ∙ ap (λ a. range_with_len (at + 1) m ++ range_with_len a n) next)

count_split : (test : ℕ → Bool) (m n : ℕ) → length (places_from test 0 (m + n)) ≡ length (places_from test 0 m) + length (places_from test m n)
count_split test m n =
    let front : 0 + m ≡ m = omega arith in
    ap (λ (ps : List ℕ). length (filter test ps)) (range_split 0 m n ∙ ap (λ a. range_with_len 0 m ++ range_with_len a n) front)
    ∙ ap (length {A = ℕ}) (filter-append test (range_with_len 0 m) (range_with_len m n))
    ∙ length-append (filter test (range_with_len 0 m)) (filter test (range_with_len m n))

count_one : (test : ℕ → Bool) (m : ℕ) → test m ≡ true → length (places_from test 0 (m + 1)) ≡ length (places_from test 0 m) + 1
count_one test m passes =
    count_split test m 1 ∙ ap (λ b. length (places_from test 0 m) + length (cond b (m ∷ []) [])) passes

-- ---- a plain byte at depth 0 begins a text character

prefix_stops : (test : ℕ → Bool) (at n k : ℕ) → k < n → test (at + k) ≡ false → prefix_len test (range_with_len at n) ≤ k
prefix_stops test at zero k lt fails = absurd (omega arith)
prefix_stops test at (suc n) zero lt fails =
    let here : test at ≡ false = ap test (sym (add-zero at)) ∙ fails in
    let none : prefix_len test (range_with_len at (suc n)) ≡ 0 = ap (λ b. cond b (1 + prefix_len test (range_with_len (at + 1) n)) 0) here in
    omega (arith, none)
prefix_stops test at (suc n) (suc k) lt fails =
    let next : at + suc k ≡ at + 1 + k = omega arith in
    go (test at) (prefix_stops test (at + 1) n k (omega arith) (ap test (sym next) ∙ fails))
  where
    go : (b : Bool) → prefix_len test (range_with_len (at + 1) n) ≤ k → cond b (1 + prefix_len test (range_with_len (at + 1) n)) 0 ≤ suc k
    go true le = omega (arith, le)
    go false le = omega arith

-- no group goes on past a place of depth 0
level_ends : (text : Text) (front place : ℕ) → front < place → place < length text → is_level text place ≡ true → next_level text front ≤ place
level_ends text front place low high level =
    let at : front + 1 + (place - (front + 1)) ≡ place = omega arith in
    let fails : not (is_level text (front + 1 + (place - (front + 1)))) ≡ false = ap (λ p. not (is_level text p)) at ∙ ap not level in
    let le = prefix_stops (λ p. not (is_level text p)) (front + 1) (length text - (front + 1)) (place - (front + 1)) (omega arith) fails in
    omega (arith, le, at)

plain_not_special : (text : Text) (place : ℕ) → is_plain (get_or text place 0) ≡ true → begins_special text place ≡ false
plain_not_special text place plain =
    let not_open : eqb (get_or text place 0) 123 ≡ false = go (eqb (get_or text place 0) 123) refl in
    rw not_open (ap (λ b. b && is_level text (next_level text place)) (and-false (is_level text place)))
  where
    go : (b : Bool) → eqb (get_or text place 0) 123 ≡ b → b ≡ false
    go false e = refl
    go true e = let computed : is_plain 123 ≡ true = ap is_plain (sym (eqb-true (get_or text place 0) 123 e)) ∙ plain in absurd (cc)

plain_begins : (text : Text) (place : ℕ) → place < length text → is_level text place ≡ true → is_plain (get_or text place 0) ≡ true → begins_char text place ≡ true
plain_begins text place lt level plain =
    begins-byte text place
    (record { outside = λ front low _. level_ends text front place low lt level; alone = joined-no text place (plain_alone (get_or text place 0) plain) })
    (plain_not_special text place plain) (plain_no_brace (get_or text place 0) plain)

-- ---- what is known

pub none_known : AreKnown [] 0
none_known more = omega arith

pub known_more : (text x : Text) (n : ℕ) → AreKnown text n → AreKnown (text ++ x) n
known_more text x n known more =
    let far = known (x ++ more) in
    let same : text ++ x ++ more ≡ text ++ (x ++ more) = append_assoc text x more in
    let whole = ap (λ k. length (places_from (begins_char (text ++ x ++ more)) 0 k)) (length-append text x)
    ∙ count_split (begins_char (text ++ x ++ more)) (length text) (length x)
    ∙ ap (λ (t : Text). length (places_from (begins_char t) 0 (length text)) + length (places_from (begins_char (text ++ x ++ more)) (length text) (length x))) same in
    omega (arith, far, whole)

pub known_joint : (text : Text) (byte n : ℕ) → AreKnown text n → is_level text (length text) ≡ true → is_plain byte ≡ true → AreKnown (text ++ byte ∷ []) (n + 1)
known_joint text byte n known level plain more =
    let far = known (byte ∷ more) in
    let same : text ++ byte ∷ [] ++ more ≡ text ++ byte ∷ more = append_assoc text (byte ∷ []) more in
    let begins = begins_here text byte more level plain in
    let whole = ap (λ k. length (places_from (begins_char (text ++ byte ∷ [] ++ more)) 0 k)) (length-append text (byte ∷ []))
    ∙ ap (λ (t : Text). length (places_from (begins_char t) 0 (length text + 1))) same
    ∙ count_one (begins_char (text ++ byte ∷ more)) (length text) begins in
    omega (arith, far, whole)
  where
    front_is : (text : Text) (byte : ℕ) (more : Text) → take (length text) (text ++ byte ∷ more) ≡ take (length text) text
    front_is text byte more = take-append-le (length text) text (byte ∷ more) (omega arith)

    begins_here : (text : Text) (byte : ℕ) (more : Text) → is_level text (length text) ≡ true → is_plain byte ≡ true → begins_char (text ++ byte ∷ more) (length text) ≡ true
    begins_here text byte more level plain =
        let opened = ap (count_by (λ b. eqb b 123)) (front_is text byte more) in
        let closed = ap (count_by (λ b. eqb b 125)) (front_is text byte more) in
        let here : get_or (text ++ byte ∷ more) (length text) 0 ≡ byte = ap (λ k. get_or (text ++ byte ∷ more) k 0) (sym (add-zero (length text))) ∙ get_or-append-add text (byte ∷ more) 0 0 in
        let within : length text < length (text ++ byte ∷ more) = omega (arith, length-append text (byte ∷ more)) in
        plain_begins (text ++ byte ∷ more) (length text) within
        (ap (λ a. eqb a (closed_before (text ++ byte ∷ more) (length text))) opened ∙ ap (λ z. eqb (opened_before text (length text)) z) closed ∙ level)
        (ap is_plain here ∙ plain)

pub known_long : (text : Text) (n : ℕ) → 3 ≤ n → AreKnown text n → is_short text ≡ false
known_long text n many known =
    let few = known [] in
    let same = ap (λ (t : Text). length (places_from (begins_char t) 0 (length text))) (append-nil text) in
    let count : length (text_chars text) ≡ length (places_from (begins_char text) 0 (length text)) = length-map (places_from (begins_char text) 0 (length text)) _ in
    le-ltb (length (text_chars text)) 3 (omega (arith, few, same, count, many))

-- ---- the output

pub no_output : IsOutput [] 0 0 0
no_output = record { braces = record { opening = refl; closing = refl; few_opening = omega arith; few_closing = omega arith }; known = none_known }

-- the count over a text with another after it
count_whole : (test : ℕ → Bool) (text x : Text) (n : ℕ) → n ≡ count_by test (take (length text) text) → n + count_by test x ≡ count_by test (take (length (text ++ x)) (text ++ x))
count_whole test text x n is =
    ap (λ k. k + count_by test x) (is ∙ ap (count_by test) (take_all (length text) text (omega arith)))
    ∙ sym (ap (count_by test) (take_all (length (text ++ x)) (text ++ x) (omega arith)) ∙ sum_by-append (λ b. cond (test b) 1 0) text x)

pub output_more : (text x : Text) (a z n a' z' : ℕ) → IsOutput text a z n → a' ≡ a + count_by (λ b. eqb b 123) x → z' ≡ z + count_by (λ b. eqb b 125) x → IsOutput (text ++ x) a' z' n
output_more text x a z n a' z' is a_is z_is = record {
  braces = record {
    opening = a_is ∙ count_whole (λ b. eqb b 123) text x a is.braces.opening;
    closing = z_is ∙ count_whole (λ b. eqb b 125) text x z is.braces.closing;
    few_opening = omega (arith, is.braces.few_opening, a_is, count_by-le-length (λ b. eqb b 123) x, length-append text x);
    few_closing = omega (arith, is.braces.few_closing, z_is, count_by-le-length (λ b. eqb b 125) x, length-append text x);
  };
  known = known_more text x n is.known;
}

-- a plain byte opens and closes nothing
plain_counts : (brace byte : ℕ) → is_plain brace ≡ false → is_plain byte ≡ true → count_by (λ b. eqb b brace) (byte ∷ []) ≡ 0
plain_counts brace byte is plain =
    let one : count_by (λ b. eqb b brace) (byte ∷ []) ≡ one_for (eqb byte brace) + 0 = sum_by-cons (λ b. one_for (eqb b brace)) byte [] in
    omega (arith, one, go (eqb byte brace) refl)
  where
    go : (b : Bool) → eqb byte brace ≡ b → one_for b ≡ 0
    go false e = refl
    go true e = let computed : is_plain brace ≡ true = ap is_plain (sym (eqb-true byte brace e)) ∙ plain in absurd (cc)

pub output_plain : (text : Text) (byte a z n : ℕ) → IsOutput text a z n → is_plain byte ≡ true → IsOutput (text ++ byte ∷ []) a z n
output_plain text byte a z n is plain =
    output_more text (byte ∷ []) a z n a z is (omega (arith, plain_counts 123 byte refl plain)) (omega (arith, plain_counts 125 byte refl plain))

pub output_joint : (text : Text) (byte a z n : ℕ) → IsOutput text a z n → a ≡ z → is_plain byte ≡ true → IsOutput (text ++ byte ∷ []) a z (n + 1)
output_joint text byte a z n is level plain = record {
  braces = (output_plain text byte a z n is plain).braces;
  known = known_joint text byte n is.known (sym (level_is text (length text) a z is.braces) ∙ eq-eqb a z level) plain;
}

pub joint_plain : (out : Text) (sep : ℕ) (is_last : Bool) → is_plain (joint out sep is_last) ≡ true
joint_plain out sep last = by_hyphen (eqb sep 45) refl
  where
    other : (b : Bool) → is_plain (cond b 126 32) ≡ true
    other true = refl
    other false = refl

    by_tie : (b : Bool) → eqb sep 45 ≡ false → eqb sep 126 ≡ b → is_plain (joint out sep last) ≡ true
    by_tie true h e = rw (h, e) (ap is_plain (eqb-true sep 126 e))
    by_tie false h e = rw (h, e) (other (last || is_short out))

    by_hyphen : (b : Bool) → eqb sep 45 ≡ b → is_plain (joint out sep last) ≡ true
    by_hyphen true e = rw e (ap is_plain (eqb-true sep 45 e))
    by_hyphen false e = by_tie (eqb sep 126) e refl
