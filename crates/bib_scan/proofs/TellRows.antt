-- What the readers of values and rows do with other bytes where they stopped.
use Rattle.bib_scan.proofs.Words.{◌≡◌, ℕ, zero, suc, ◌<◌, Bool, true, false, cond, eqb, [], ◌∷◌, refl, sym, ap, subst, ◌∙◌, inl, inr, Ok, Err, append_cancel_right, ReadingFault, Unended, ExpectedName, ExpectedEquals, ExpectedCommaOrClose, ExpectedValue, Text, is_space, is_name_byte, after_run, Read}
use Rattle.bib_scan.proofs.Words.{stop, read_name, read_equals, read_part, read_links, read_row, ◌>>=◌}
use Rattle.bib_scan.proofs.RunLaws.{ok_same, not_ok}
use Rattle.bib_scan.proofs.AgainLaws.{Breaks, EndsRow}
use Rattle.bib_scan.proofs.UniqueLaws.{AfterRow}
use Rattle.bib_scan.proofs.LocalLaws.{Local, run, after_first, local_run, local_beyond, local_bind, local_cond, local_ok}
use Rattle.bib_scan.proofs.LocalParts.{first_is, local_part, local_name}
use Rattle.bib_scan.proofs.LocalRows.{plain, ready, skip, links_gap, links_by_first, links_gap_is, local_links, value_gap, value_family, value_is, local_value, local_equals, row_pieces, row_is}
use Rattle.bib_scan.proofs.MendLaws.{err_is, Always}
use Rattle.bib_scan.proofs.MendRows.{resumes_equals, equals_takes, name_takes, row_value, sign_value, row_sign, named_row}
use Rattle.bib_scan.proofs.MendTrees.{resumes_row, resumes_value}
use Rattle.bib_scan.proofs.TellLaws.{Past, Stopped, Leaves, Passes, Blocks, Tries, IsTried, the_letter, the_digit, the_sign, the_mark, the_comma, passes_tried, blocks_tried, TellsAt, Tells, Keeps, Digits, keeps_of, digits_of, tell_bind, tell_bind_some, digits_bind, tell_same, digits_same, tell_family, digits_family, tell_cond, tell_beyond, digits_cond}
use Rattle.bib_scan.proofs.TellParts.{told, told_end, keeps_run, tell_run, tell_name, keeps_name, digits_name, tell_part, keeps_part, digits_part}

-- ---- the bytes that are tried

-- none of the bytes is white space, or `#`
pub tried_space : (d : ℕ) → IsTried d → is_space d ≡ false
unfolding is_space
tried_space d the_letter = refl
tried_space d the_digit = refl
tried_space d the_sign = refl
tried_space d the_mark = refl
tried_space d the_comma = refl

tries_tried : (f : ReadingFault) (d : ℕ) → Tries f d → IsTried d
tries_tried f d (inl ok) = passes_tried f d ok
tries_tried f d (inr ok) = blocks_tried f d ok

pub tries_space : (f : ReadingFault) (d : ℕ) → Tries f d → is_space d ≡ false
tries_space f d ok = tried_space d (tries_tried f d ok)

letter_space : is_space 120 ≡ false
letter_space = tried_space 120 the_letter

digit_space : is_space 49 ≡ false
digit_space = tried_space 49 the_digit

pub digits_run : Digits (run is_space)
digits_run = digits_of (run is_space) (λ d. is_space d ≡ false) (keeps_run is_space) letter_space digit_space

-- after white space
pub tell_space : {A : Type 0} (p : Text → Read A) (G : ℕ → Type 0) → Local p → Tells p (λ d. (is_space d ≡ false) × G d) → Tells (λ t. run is_space t >>= λ s. p s.1) G
tell_space p G local tells = tell_bind (run is_space) (λ s u. p u) (λ d. is_space d ≡ false) G (local_run is_space) (λ s. local) (keeps_run is_space) digits_run (tell_run is_space G) (λ s. tells)

pub digits_space : {A : Type 0} (p : Text → Read A) → Local p → Digits p → Digits (λ t. run is_space t >>= λ s. p s.1)
digits_space p local digits = digits_bind (run is_space) (λ s u. p u) (local_run is_space) (λ s. local) digits_run (λ s. digits)

-- ---- values

pub keeps_ready : Keeps ready (λ d. Unit {0})
keeps_ready t a r u is split d ok =
    let rest : t ≡ r = ap (λ (y : Unit {0} × Text). y.1) (ok_same {A = Unit {0} × Text} (tt, t) (a, r) (ready t) refl is) in
    let none : u ≡ [] = append_cancel_right u [] r (sym split ∙ rest) in
    subst (λ (v : Text). Leaves ready a v d) (sym none) refl

digits_ready : Digits ready
digits_ready = digits_of ready (λ d. Unit {0}) keeps_ready tt tt

pub tell_ready : (G : ℕ → Type 0) → Tells ready G
tell_ready G t h is = absurd (not_ok (tt, t) h (ready t) is refl)

equals_breaks : (d : ℕ) → Tries ExpectedEquals d → is_name_byte d ≡ false
unfolding is_name_byte
equals_breaks d (inl is) = subst (λ (n : ℕ). is_name_byte n ≡ false) (sym is) refl
equals_breaks d (inr is) = subst (λ (n : ℕ). is_name_byte n ≡ false) (sym is) refl

pub close_ends : (d : ℕ) → Tries ExpectedCommaOrClose d → EndsRow d
unfolding is_name_byte is_space
close_ends d (inl is) = absurd is
close_ends d (inr (inl is)) = subst EndsRow (sym is) (record { breaks = record { name = refl; digit = refl }; no_space = refl; no_hash = refl })
close_ends d (inr (inr is)) = subst EndsRow (sym is) (record { breaks = record { name = refl; digit = refl }; no_space = refl; no_hash = refl })

-- after `#`
abbrev pub link_inside : ℕ → ℕ → Text → Read (Unit {0})
link_inside limit n u = run is_space u >>= λ y. read_part limit y.1 >>= λ p. links_gap limit n p.1

abbrev pub part_links : ℕ → ℕ → Text → Read (Unit {0})
part_links limit n u = read_part limit u >>= λ p. links_gap limit n p.1

pub local_part_links : (limit n : ℕ) → Local (part_links limit n)
local_part_links limit n = local_bind (read_part limit) (λ p u. links_gap limit n u) (local_part limit) (λ p. local_links limit n)

pub local_link : (limit n : ℕ) → Local (link_inside limit n)
local_link limit n = local_bind (run is_space) (λ s u. part_links limit n u) (local_run is_space) (λ s. local_part_links limit n)

pub tried_hash : (d : ℕ) → IsTried d → first_is (λ b. eqb b 35) (d ∷ []) ≡ false
tried_hash d the_letter = refl
tried_hash d the_digit = refl
tried_hash d the_sign = refl
tried_hash d the_mark = refl
tried_hash d the_comma = refl

pub tell_links : (limit n : ℕ) (G : ℕ → Type 0) → Tells (links_gap limit n) G
unfolding read_links
tell_links limit zero G = λ t h is. absurd (not_ok (tt, after_run is_space t) h (skip t) is refl)
tell_links limit (suc n) G =
    let inner : Tells (link_inside limit n) (λ d. Unit {0}) =
    tell_space (part_links limit n) (λ d. Unit {0}) (local_part_links limit n)
    (tell_bind (read_part limit) (λ p u. links_gap limit n u) Breaks (λ d. (is_space d ≡ false) × Unit {0}) (local_part limit) (λ p. local_links limit n) (keeps_part limit) (digits_part limit) (tell_part limit (λ d. (is_space d ≡ false) × Unit {0}) (λ d ok. (tries_space ExpectedValue d ok, tt))) (λ p. tell_links limit n (λ d. Breaks d × ((is_space d ≡ false) × Unit {0})))) in
    tell_same (links_gap limit (suc n)) (links_by_first limit n) G (links_gap_is limit n)
    (tell_space (λ u. cond (first_is (λ b. eqb b 35) u) (after_first (link_inside limit n) u) (ready u)) G
    (local_cond (first_is (λ b. eqb b 35)) (after_first (link_inside limit n)) ready (λ b t u. refl) (local_beyond (link_inside limit n) (local_link limit n)) (local_ok tt))
    (tell_cond (first_is (λ b. eqb b 35)) (after_first (link_inside limit n)) ready (λ d. (is_space d ≡ false) × G d) (λ b t u. refl) tried_hash
    (tell_beyond (link_inside limit n) (λ d. (is_space d ≡ false) × G d) (first_is (λ b. eqb b 35)) refl inner)
    (tell_ready (λ d. (is_space d ≡ false) × G d))))

digits_links : (limit n : ℕ) → Digits (links_gap limit n)
unfolding read_links
digits_links limit zero = digits_space ready (local_ok tt) digits_ready
digits_links limit (suc n) =
    let inner : Digits (link_inside limit n) = digits_space (part_links limit n) (local_part_links limit n) (digits_bind (read_part limit) (λ p u. links_gap limit n u) (local_part limit) (λ p. local_links limit n) (digits_part limit) (λ p. digits_links limit n)) in
    digits_same (links_gap limit (suc n)) (links_by_first limit n) (links_gap_is limit n)
    (digits_space (λ u. cond (first_is (λ b. eqb b 35) u) (after_first (link_inside limit n) u) (ready u))
    (local_cond (first_is (λ b. eqb b 35)) (after_first (link_inside limit n)) ready (λ b t u. refl) (local_beyond (link_inside limit n) (local_link limit n)) (local_ok tt))
    (digits_cond (first_is (λ b. eqb b 35)) (link_inside limit n) ready (λ b t u. refl) refl refl refl (local_link limit n) inner digits_ready))

pub tell_value : (limit : ℕ) (G : ℕ → Type 0) → ((d : ℕ) → Tries ExpectedValue d → G d) → Tells (value_gap limit) G
tell_value limit G each = tell_family (value_gap limit) (value_family limit) G (value_is limit) (λ n. tell_bind (read_part limit) (λ p u. links_gap limit n u) Breaks G (local_part limit) (λ p. local_links limit n) (keeps_part limit) (digits_part limit) (tell_part limit G each) (λ p. tell_links limit n (λ d. Breaks d × G d)))

pub digits_value : (limit : ℕ) → Digits (value_gap limit)
digits_value limit = digits_family (value_gap limit) (value_family limit) (value_is limit) (λ n. digits_bind (read_part limit) (λ p u. links_gap limit n u) (local_part limit) (λ p. local_links limit n) (digits_part limit) (λ p. digits_links limit n))

after_row : (d : ℕ) → EndsRow d → AfterRow (d ∷ [])
after_row d ends = record { first = d; others = []; ends = ends; is = refl }

pub keeps_value : (limit : ℕ) → Keeps (value_gap limit) EndsRow
keeps_value limit = keeps_of (value_gap limit) AfterRow EndsRow (resumes_value limit) after_row

-- ---- rows

pub local_row_value : (limit : ℕ) → Local (row_value limit)
local_row_value limit = local_bind (run is_space) (λ s u. value_gap limit u) (local_run is_space) (λ s. local_value limit)

pub local_sign_value : (limit : ℕ) → Local (sign_value limit)
local_sign_value limit = local_bind (plain read_equals) (λ e u. row_value limit u) local_equals (λ e. local_row_value limit)

pub local_row_sign : (limit : ℕ) → Local (row_sign limit)
local_row_sign limit = local_bind (run is_space) (λ s u. sign_value limit u) (local_run is_space) (λ s. local_sign_value limit)

pub local_named_row : (limit : ℕ) → Local (named_row limit)
local_named_row limit = local_bind (read_name limit) (λ n u. row_sign limit u) (local_name limit) (λ n. local_row_sign limit)

sign_passes : (d : ℕ) → Passes ExpectedEquals d → Past (plain read_equals) [] d
sign_passes d is = subst (Past (plain read_equals) []) (sym is) refl

sign_blocks : (d : ℕ) → Blocks ExpectedEquals d → Stopped (plain read_equals) [] d
sign_blocks d is = subst (Stopped (plain read_equals) []) (sym is) (ExpectedEquals, refl)

tell_equals : (G : ℕ → Type 0) → ((d : ℕ) → Tries ExpectedEquals d → G d) → Tells (plain read_equals) G
tell_equals G each [] h is = told_end (plain read_equals) G [] h (err_is {A = Unit {0} × Text} (stop Unended []) h _ refl is)
tell_equals G each (b ∷ t) h is = go (eqb b 61) is
  where
    some : b ∷ t ≡ [] → ⊥
    some e = cc

    go : (x : Bool) → (cond x (Ok t) (Err (stop ExpectedEquals (b ∷ t))) >>= ready) ≡ Err h → TellsAt (plain read_equals) G (b ∷ t) h
    go true e = absurd (not_ok (tt, t) h _ e refl)
    go false e = told (plain read_equals) G (b ∷ t) [] (b ∷ t) ExpectedEquals h (err_is {A = Unit {0} × Text} (stop ExpectedEquals (b ∷ t)) h _ refl e) refl some sign_passes sign_blocks (λ asks. absurd asks) (λ none. each)

keeps_equals : Keeps (plain read_equals) (λ d. Unit {0})
keeps_equals = keeps_of (plain read_equals) Always (λ d. Unit {0}) resumes_equals (λ d ok. tt)

digits_equals : Digits (plain read_equals)
digits_equals = digits_of (plain read_equals) (λ d. Unit {0}) keeps_equals tt tt

tell_row_value : (limit : ℕ) (G : ℕ → Type 0) → ((d : ℕ) → Tries ExpectedValue d → G d) → Tells (row_value limit) G
tell_row_value limit G each = tell_space (value_gap limit) G (local_value limit) (tell_value limit (λ d. (is_space d ≡ false) × G d) (λ d ok. (tries_space ExpectedValue d ok, each d ok)))

tell_sign_value : (limit : ℕ) (G : ℕ → Type 0) → ((d : ℕ) → Tries ExpectedEquals d → G d) → Tells (sign_value limit) G
tell_sign_value limit G each = tell_bind_some (plain read_equals) (λ e u. row_value limit u) (λ d. Unit {0}) G equals_takes local_equals (λ e. local_row_value limit) keeps_equals digits_equals (tell_equals G each) (λ e. tell_row_value limit (λ d. Unit {0}) (λ d ok. tt))

tell_row_sign : (limit : ℕ) (G : ℕ → Type 0) → ((d : ℕ) → Tries ExpectedEquals d → G d) → Tells (row_sign limit) G
tell_row_sign limit G each = tell_space (sign_value limit) G (local_sign_value limit) (tell_sign_value limit (λ d. (is_space d ≡ false) × G d) (λ d ok. (tries_space ExpectedEquals d ok, each d ok)))

tell_named_row : (limit : ℕ) (some : 0 < limit) (G : ℕ → Type 0) → ((d : ℕ) → Tries ExpectedName d → G d) → Tells (named_row limit) G
tell_named_row limit some G each = tell_bind_some (read_name limit) (λ n u. row_sign limit u) (λ d. is_name_byte d ≡ false) G (name_takes limit) (local_name limit) (λ n. local_row_sign limit) (keeps_name limit) (digits_name limit) (tell_name limit some G each) (λ n. tell_row_sign limit (λ d. is_name_byte d ≡ false) equals_breaks)

pub tell_row : (limit : ℕ) (some : 0 < limit) (G : ℕ → Type 0) → ((d : ℕ) → Tries ExpectedName d → G d) → Tells (plain (read_row limit)) G
tell_row limit some G each = tell_same (plain (read_row limit)) (row_pieces limit) G (row_is limit)
    (tell_space (named_row limit) G (local_named_row limit) (tell_named_row limit some (λ d. (is_space d ≡ false) × G d) (λ d ok. (tries_space ExpectedName d ok, each d ok))))

pub digits_row : (limit : ℕ) → Digits (plain (read_row limit))
digits_row limit =
    let value : Digits (row_value limit) = digits_space (value_gap limit) (local_value limit) (digits_value limit) in
    let sign : Digits (sign_value limit) = digits_bind (plain read_equals) (λ e u. row_value limit u) local_equals (λ e. local_row_value limit) digits_equals (λ e. value) in
    let after_name : Digits (row_sign limit) = digits_space (sign_value limit) (local_sign_value limit) sign in
    let named : Digits (named_row limit) = digits_bind (read_name limit) (λ n u. row_sign limit u) (local_name limit) (λ n. local_row_sign limit) (digits_name limit) (λ n. after_name) in
    digits_same (plain (read_row limit)) (row_pieces limit) (row_is limit) (digits_space (named_row limit) (local_named_row limit) named)

pub keeps_row : (limit : ℕ) → Keeps (plain (read_row limit)) EndsRow
keeps_row limit = keeps_of (plain (read_row limit)) AfterRow EndsRow (resumes_row limit) after_row
