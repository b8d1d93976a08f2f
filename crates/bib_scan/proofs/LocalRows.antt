-- Locality of the readers of values, rows and entries.
use Rattle.bib_scan.proofs.Words.{◌≡◌, ℕ, zero, suc, ◌+◌, ◌-◌, ◌<◌, ◌≤◌, Bool, true, false, cond, eqb, [], ◌∷◌, ◌++◌, length, take, refl, sym, ap, subst, ◌∙◌, arith, Option, None, Some, Result, Ok, Err, append_cancel_right, length-append, length-drop, prefix_len, ExpectedEquals}
use Rattle.bib_scan.proofs.Words.{ExpectedCommaOrClose, Text, is_space, after_run, Delimiter, close_byte, goes_on_key, Read, Halt, stop, expected, read_run, read_name, read_equals, read_part, past_hash, go_on, read_links, read_value_rest, read_value, read_assignment, read_row, past_byte, read_comma}
use Rattle.bib_scan.proofs.Words.{read_close, read_rows, read_all_rows, read_entry, read_definition, read_preamble, ◌>>=◌, All-nil}
use Rattle.bib_scan.proofs.RunLaws.{not_ok, run_stops}
use Rattle.bib_scan.proofs.PartLaws.{part_len}
use Rattle.bib_scan.proofs.ValueLaws.{joined_ok, skip_space}
use Rattle.bib_scan.proofs.RowLaws.{row_shorter, comma_ok}
use Rattle.bib_scan.proofs.LocalLaws.{rest_of, with_rest, LocalAt, Local, local_bind, local_same, local_cond, after_first, local_beyond, local_ok, local_expected, run, local_run, local_limited}
use Rattle.bib_scan.proofs.LocalParts.{first_is, local_part, local_name}

-- a reader that gives only the text after what it read
abbrev pub ready : Text → Read (Unit {0})
ready u = Ok (tt, u)

abbrev pub plain : (Text → Result Text Halt) → Text → Read (Unit {0})
plain p t = p t >>= ready

abbrev pub skip : Text → Read (Unit {0})
skip t = Ok (tt, after_run is_space t)

pub local_skip : Local skip
local_skip = local_bind (run is_space) (λ s u. Ok (tt, u)) (local_run is_space) (λ s. local_ok tt)

pub fault_of : (m : Result Text Halt) (h : Halt) → (m >>= ready) ≡ Err h → m ≡ Err h
fault_of (Ok x) h is = absurd (not_ok (tt, x) h _ is refl)
fault_of (Err k) h is = let same : k ≡ h = cc in ap (λ (j : Halt). Err j) same

bind_assoc : {A B C : Type 0} (m : Result A Halt) (f : A → Result B Halt) (g : B → Result C Halt) → ((m >>= f) >>= g) ≡ (m >>= λ x. f x >>= g)
bind_assoc (Ok x) f g = refl
bind_assoc (Err h) f g = refl

bind_same : {A B : Type 0} (m : Result A Halt) (f g : A → Result B Halt) → ((x : A) → m ≡ Ok x → f x ≡ g x) → (m >>= f) ≡ (m >>= g)
bind_same (Ok x) f g same = same x refl
bind_same (Err h) f g same = refl

-- if reader n of a family does the same as the reader on texts of at most n bytes, the reader is local if each of them is
pub local_family : {A : Type 0} (p : Text → Read A) (G : ℕ → Text → Read A) → ((n : ℕ) (t : Text) → length t ≤ n → p t ≡ G n t) → ((n : ℕ) → Local (G n)) → Local p
local_family {A} p G same local t = record {
  front = at.front;
  split = at.split;
  same = λ c v w is. go c v w is;
}
  where
    at : LocalAt (G (length t)) t (p t)
    at = subst (LocalAt (G (length t)) t) (sym (same (length t) t (omega arith))) (local (length t) t)

    go : (c : ℕ) (v w : Text) → rest_of (p t) ≡ c ∷ v → p (at.front ++ c ∷ w) ≡ with_rest (p t) (c ∷ w)
    go c v w is =
        let n = length t + length (at.front ++ c ∷ w) in
        let big : LocalAt (G n) t (p t) = subst (LocalAt (G n) t) (sym (same n t (omega arith))) (local n t) in
        let fronts : big.front ≡ at.front = append_cancel_right big.front at.front (rest_of (p t)) (sym big.split ∙ at.split) in
        same n (at.front ++ c ∷ w) (omega arith) ∙ ap (λ (u : Text). G n (u ++ c ∷ w)) (sym fronts) ∙ big.same c v w is

-- ---- values

after_len : (t : Text) → length (after_run is_space t) ≤ length t
after_len t = omega (arith, length-drop (prefix_len is_space t) t)

joined_len : (t u : Text) → past_hash (after_run is_space t) ≡ Some u → length u < length t
joined_len t u is =
    let h = joined_ok (after_run is_space t) u is in
    omega (arith, after_len t, ap (length {A = ℕ}) h.2, length-append h.0 u)

-- more turns than bytes change nothing
links_turn : (limit : ℕ) (n m : ℕ) (t : Text) (o : Option Text) → past_hash (after_run is_space t) ≡ o → length t ≤ suc n → length t ≤ suc m → ((u : Text) → length u ≤ n → length u ≤ m → read_links limit n u ≡ read_links limit m u) → go_on (Ok t) (λ u. read_part limit u >>= λ p. read_links limit n p.1) o ≡ go_on (Ok t) (λ u. read_part limit u >>= λ p. read_links limit m p.1) o
links_turn limit n m t None is small tiny later = refl
links_turn limit n m t (Some u) is small tiny later =
    bind_same (read_part limit u) _ _ (λ p read. let shorter = joined_len t u is in let short = part_len limit u p read in later p.1 (omega arith) (omega arith))

links_fuel : (limit : ℕ) (n m : ℕ) (t : Text) → length t ≤ n → length t ≤ m → read_links limit n t ≡ read_links limit m t
unfolding read_links
links_fuel limit zero zero t small tiny = refl
links_fuel limit zero (suc m) [] small tiny = refl
links_fuel limit zero (suc m) (b ∷ t) small tiny = absurd (omega arith)
links_fuel limit (suc n) zero [] small tiny = refl
links_fuel limit (suc n) zero (b ∷ t) small tiny = absurd (omega arith)
links_fuel limit (suc n) (suc m) t small tiny = links_turn limit n m t (past_hash (after_run is_space t)) refl small tiny (λ u a b. links_fuel limit n m u a b)

-- the further parts and the white space after them
abbrev pub links_gap : ℕ → ℕ → Text → Read (Unit {0})
links_gap limit n t = read_links limit n t >>= skip

abbrev pub links_by_first : ℕ → ℕ → Text → Read (Unit {0})
links_by_first limit n t =
    run is_space t >>= λ x. cond (first_is (λ b. eqb b 35) x.1) (after_first (λ u. run is_space u >>= λ y. read_part limit y.1 >>= λ p. links_gap limit n p.1) x.1) (Ok (tt, x.1))

pub links_gap_is : (limit : ℕ) (n : ℕ) (t : Text) → links_gap limit (suc n) t ≡ links_by_first limit n t
unfolding read_links
links_gap_is limit n t = go (after_run is_space t) refl
  where
    hash : (b : ℕ) (s : Text) (x : Bool) → eqb b 35 ≡ x → after_run is_space t ≡ b ∷ s → (go_on (Ok t) (λ u. read_part limit u >>= λ p. read_links limit n p.1) (cond x (Some (after_run is_space s)) None) >>= skip) ≡ cond x (read_part limit (after_run is_space s) >>= λ p. links_gap limit n p.1) (Ok (tt, b ∷ s))
    hash b s true is e = bind_assoc (read_part limit (after_run is_space s)) (λ p. read_links limit n p.1) skip
    hash b s false is e = ap (λ (u : Text). Ok (tt, u)) e

    go : (s : Text) → after_run is_space t ≡ s → (go_on (Ok t) (λ u. read_part limit u >>= λ p. read_links limit n p.1) (past_hash s) >>= skip) ≡ cond (first_is (λ b. eqb b 35) s) (after_first (λ u. run is_space u >>= λ y. read_part limit y.1 >>= λ p. links_gap limit n p.1) s) (Ok (tt, s))
    go [] e = ap (λ (u : Text). Ok (tt, u)) e
    go (b ∷ s) e = hash b s (eqb b 35) refl e

pub local_links : (limit : ℕ) (n : ℕ) → Local (links_gap limit n)
unfolding read_links
local_links limit zero = local_skip
local_links limit (suc n) = local_same (links_gap limit (suc n)) (links_by_first limit n) (links_gap_is limit n)
    (local_bind (run is_space) _ (local_run is_space) (λ s.
    local_cond (first_is (λ b. eqb b 35)) _ _ (λ b t u. refl)
    (local_beyond _ (local_bind (run is_space) _ (local_run is_space) (λ s. local_bind (read_part limit) (λ p u. links_gap limit n u) (local_part limit) (λ p. local_links limit n))))
    (local_ok tt)))

-- a value and the white space after it
abbrev pub value_gap : ℕ → Text → Read (Unit {0})
value_gap limit t = read_value limit t >>= λ v. skip v.1

abbrev pub value_family : ℕ → ℕ → Text → Read (Unit {0})
value_family limit n t = read_part limit t >>= λ p. links_gap limit n p.1

pub value_is : (limit : ℕ) (n : ℕ) (t : Text) → length t ≤ n → value_gap limit t ≡ value_family limit n t
value_is limit n t small =
    bind_assoc (read_value_rest limit t) (λ rest. Ok (take (length t - length rest) t, rest)) (λ v. skip v.1)
    ∙ bind_assoc (read_part limit t) (λ p. read_links limit (length p.1) p.1) skip
    ∙ bind_same (read_part limit t) (λ p. read_links limit (length p.1) p.1 >>= skip) (λ p. links_gap limit n p.1) (λ p read. let short = part_len limit t p read in ap (λ (m : Result Text Halt). m >>= skip) (links_fuel limit (length p.1) n p.1 (omega arith) (omega arith)))

pub local_value : (limit : ℕ) → Local (value_gap limit)
local_value limit = local_family (value_gap limit) (value_family limit) (value_is limit) (λ n. local_bind (read_part limit) (λ p u. links_gap limit n u) (local_part limit) (λ p. local_links limit n))

-- ---- rows

equals_by_first : Text → Read (Unit {0})
equals_by_first t = cond (first_is (λ b. eqb b 61) t) (after_first ready t) (Err (expected ExpectedEquals t))

equals_is : (t : Text) → plain read_equals t ≡ equals_by_first t
unfolding equals_by_first
equals_is [] = refl
equals_is (b ∷ t) = go (eqb b 61)
  where
    go : (x : Bool) → (cond x (Ok t) (Err (stop ExpectedEquals (b ∷ t))) >>= ready) ≡ cond x (ready t) (Err (stop ExpectedEquals (b ∷ t)))
    go true = refl
    go false = refl

pub local_equals : Local (plain read_equals)
unfolding equals_by_first
local_equals = local_same (plain read_equals) equals_by_first equals_is (local_cond (first_is (λ b. eqb b 61)) _ _ (λ b t u. refl) (local_beyond _ (local_ok tt)) (local_expected ExpectedEquals))

abbrev pub row_pieces : ℕ → Text → Read (Unit {0})
row_pieces limit t =
    run is_space t >>= λ a. read_name limit a.1 >>= λ n. run is_space n.1 >>= λ b. plain read_equals b.1 >>= λ e. run is_space e.1 >>= λ d. value_gap limit d.1

pub row_is : (limit : ℕ) (t : Text) → plain (read_row limit) t ≡ row_pieces limit t
unfolding read_row read_assignment
row_is limit t =
    bind_assoc (read_assignment limit (after_run is_space t)) _ _
    ∙ bind_assoc (read_name limit (after_run is_space t)) _ _
    ∙ bind_same (read_name limit (after_run is_space t)) _ (λ n. plain read_equals (after_run is_space n.1) >>= λ e. value_gap limit (after_run is_space e.1)) (λ n read.
    bind_assoc (read_equals (after_run is_space n.1)) _ _
    ∙ bind_same (read_equals (after_run is_space n.1)) _ (λ u. ready u >>= λ e. value_gap limit (after_run is_space e.1)) (λ u also. bind_assoc (read_value limit (after_run is_space u)) _ _)
    ∙ sym (bind_assoc (read_equals (after_run is_space n.1)) ready (λ e. value_gap limit (after_run is_space e.1))))

pub local_row : (limit : ℕ) → Local (plain (read_row limit))
local_row limit = local_same (plain (read_row limit)) (row_pieces limit) (row_is limit)
    (local_bind (run is_space) _ (local_run is_space) (λ a.
    local_bind (read_name limit) _ (local_name limit) (λ n.
    local_bind (run is_space) _ (local_run is_space) (λ b.
    local_bind (plain read_equals) _ local_equals (λ e.
    local_bind (run is_space) (λ d u. value_gap limit u) (local_run is_space) (λ d. local_value limit))))))

-- ---- closing delimiters and rows

byte_by_first : ℕ → Text → Read (Unit {0})
byte_by_first c t = cond (first_is (λ b. eqb b c) t) (after_first ready t) (Err (expected ExpectedCommaOrClose t))

local_byte : (c : ℕ) → Local (byte_by_first c)
unfolding byte_by_first
local_byte c = local_cond (first_is (λ b. eqb b c)) _ _ (λ b t u. refl) (local_beyond _ (local_ok tt)) (local_expected ExpectedCommaOrClose)

closing_is : (c : ℕ) (t : Text) → plain (read_close c) t ≡ byte_by_first c t
unfolding byte_by_first
closing_is c [] = refl
closing_is c (b ∷ t) = go (eqb b c)
  where
    go : (x : Bool) → (go_on (Err (stop ExpectedCommaOrClose (b ∷ t))) Ok (cond x (Some t) None) >>= ready) ≡ cond x (ready t) (Err (stop ExpectedCommaOrClose (b ∷ t)))
    go true = refl
    go false = refl

pub local_closing : (c : ℕ) → Local (plain (read_close c))
local_closing c = local_same (plain (read_close c)) (byte_by_first c) (closing_is c) (local_byte c)

comma_is : (t : Text) → plain read_comma t ≡ byte_by_first 44 t
unfolding byte_by_first
comma_is [] = refl
comma_is (b ∷ t) = go (eqb b 44)
  where
    go : (x : Bool) → (cond x (Ok t) (Err (stop ExpectedCommaOrClose (b ∷ t))) >>= ready) ≡ cond x (ready t) (Err (stop ExpectedCommaOrClose (b ∷ t)))
    go true = refl
    go false = refl

pub local_comma : Local (plain read_comma)
local_comma = local_same (plain read_comma) (byte_by_first 44) comma_is (local_byte 44)

-- a row does not see the white space before it
skip_twice : (t : Text) → after_run is_space (after_run is_space t) ≡ after_run is_space t
skip_twice t = skip_space [] (after_run is_space t) (All-nil (λ (b : ℕ). is_space b ≡ true)) (run_stops is_space t)

row_skip : (limit : ℕ) (t : Text) → read_row limit t ≡ read_row limit (after_run is_space t)
unfolding read_row
row_skip limit t = ap (λ (s : Text). read_assignment limit s >>= λ x. Ok x.1) (sym (skip_twice t))

abbrev pub rows_read : ℕ → ℕ → ℕ → Text → Read (Unit {0})
rows_read limit n c t = plain (read_rows limit n c) t

-- the text after a comma
abbrev pub after_comma : ℕ → ℕ → ℕ → Text → Read (Unit {0})
after_comma limit n c s = cond (first_is (λ b. eqb b c) s) (after_first ready s) (plain (read_row limit) s >>= λ r. rows_read limit n c r.1)

abbrev pub rows_by_first : ℕ → ℕ → ℕ → Text → Read (Unit {0})
rows_by_first limit n c t =
    cond (first_is (λ b. eqb b c) t) (after_first ready t) (plain read_comma t >>= λ u. run is_space u.1 >>= λ s. after_comma limit n c s.1)

after_comma_is : (limit : ℕ) (n c : ℕ) (u : Text) → (go_on (read_row limit u >>= λ rest. read_rows limit n c rest) Ok (past_byte c (after_run is_space u)) >>= ready) ≡ after_comma limit n c (after_run is_space u)
after_comma_is limit n c u = ap (λ (m : Result Text Halt). go_on (m >>= λ rest. read_rows limit n c rest) Ok (past_byte c (after_run is_space u)) >>= ready) (row_skip limit u) ∙ go (after_run is_space u)
  where
    more : (s : Text) → ((read_row limit s >>= λ rest. read_rows limit n c rest) >>= ready) ≡ (plain (read_row limit) s >>= λ r. rows_read limit n c r.1)
    more s = bind_assoc (read_row limit s) (λ rest. read_rows limit n c rest) ready ∙ sym (bind_assoc (read_row limit s) ready (λ r. rows_read limit n c r.1))

    by : (b : ℕ) (s : Text) (x : Bool) → (go_on (read_row limit (b ∷ s) >>= λ rest. read_rows limit n c rest) Ok (cond x (Some s) None) >>= ready) ≡ cond x (ready s) (plain (read_row limit) (b ∷ s) >>= λ r. rows_read limit n c r.1)
    by b s true = refl
    by b s false = more (b ∷ s)

    go : (s : Text) → (go_on (read_row limit s >>= λ rest. read_rows limit n c rest) Ok (past_byte c s) >>= ready) ≡ after_comma limit n c s
    go [] = more []
    go (b ∷ s) = by b s (eqb b c)

pub rows_is : (limit : ℕ) (n c : ℕ) (t : Text) → rows_read limit (suc n) c t ≡ rows_by_first limit n c t
unfolding read_rows
rows_is limit n c [] = refl
rows_is limit n c (b ∷ t) = by (eqb b c)
  where
    more : ((read_comma (b ∷ t) >>= λ u. go_on (read_row limit u >>= λ rest. read_rows limit n c rest) Ok (past_byte c (after_run is_space u))) >>= ready) ≡ (plain read_comma (b ∷ t) >>= λ u. run is_space u.1 >>= λ s. after_comma limit n c s.1)
    more = bind_assoc (read_comma (b ∷ t)) _ ready
        ∙ bind_same (read_comma (b ∷ t)) _ (λ u. after_comma limit n c (after_run is_space u)) (λ u read. after_comma_is limit n c u)
        ∙ sym (bind_assoc (read_comma (b ∷ t)) ready (λ u. run is_space u.1 >>= λ s. after_comma limit n c s.1))

    by : (x : Bool) → (go_on (read_comma (b ∷ t) >>= λ u. go_on (read_row limit u >>= λ rest. read_rows limit n c rest) Ok (past_byte c (after_run is_space u))) Ok (cond x (Some t) None) >>= ready) ≡ cond x (ready t) (plain read_comma (b ∷ t) >>= λ u. run is_space u.1 >>= λ s. after_comma limit n c s.1)
    by true = refl
    by false = more

pub local_rows : (limit : ℕ) (n c : ℕ) → Local (rows_read limit n c)
unfolding read_rows
local_rows limit zero c = local_expected ExpectedCommaOrClose
local_rows limit (suc n) c = local_same (rows_read limit (suc n) c) (rows_by_first limit n c) (rows_is limit n c)
    (local_cond (first_is (λ b. eqb b c)) _ _ (λ b t u. refl) (local_beyond _ (local_ok tt))
    (local_bind (plain read_comma) _ local_comma (λ u.
    local_bind (run is_space) _ (local_run is_space) (λ s.
    local_cond (first_is (λ b. eqb b c)) _ _ (λ b t u. refl) (local_beyond _ (local_ok tt))
    (local_bind (plain (read_row limit)) (λ r u. rows_read limit n c u) (local_row limit) (λ r. local_rows limit n c))))))

rows_turn : (limit : ℕ) (n m c : ℕ) (t : Text) (o : Option Text) → length t < suc n → length t < suc m → ((u : Text) → length u < n → length u < m → read_rows limit n c u ≡ read_rows limit m c u) → go_on (read_comma t >>= λ u. go_on (read_row limit u >>= λ v. read_rows limit n c v) Ok (past_byte c (after_run is_space u))) Ok o ≡ go_on (read_comma t >>= λ u. go_on (read_row limit u >>= λ v. read_rows limit m c v) Ok (past_byte c (after_run is_space u))) Ok o
rows_turn limit n m c t (Some u) small tiny later = refl
rows_turn limit n m c t None small tiny later = bind_same (read_comma t) _ _ (λ u read. inner u (past_byte c (after_run is_space u)) (shorter u read))
  where
    shorter : (u : Text) → read_comma t ≡ Ok u → length u < length t
    shorter u read = omega (arith, ap (length {A = ℕ}) (comma_ok t u read))

    inner : (u : Text) (o : Option Text) → length u < length t → go_on (read_row limit u >>= λ v. read_rows limit n c v) Ok o ≡ go_on (read_row limit u >>= λ v. read_rows limit m c v) Ok o
    inner u (Some w) less = refl
    inner u None less = bind_same (read_row limit u) _ _ (λ v read. let short = row_shorter limit u v read in later v (omega arith) (omega arith))

rows_fuel : (limit : ℕ) (n m c : ℕ) (t : Text) → length t < n → length t < m → read_rows limit n c t ≡ read_rows limit m c t
unfolding read_rows
rows_fuel limit zero m c t small tiny = absurd (omega arith)
rows_fuel limit (suc n) zero c t small tiny = absurd (omega arith)
rows_fuel limit (suc n) (suc m) c t small tiny = rows_turn limit n m c t (past_byte c t) small tiny (λ u a b. rows_fuel limit n m c u a b)

pub all_rows_is : (limit c n : ℕ) (t : Text) → length t ≤ n → plain (read_all_rows limit c) t ≡ rows_read limit (suc n) c t
all_rows_is limit c n t small = ap (λ (m : Result Text Halt). m >>= ready) (rows_fuel limit (length t + 1) (suc n) c t (omega arith) (omega arith))

pub local_all_rows : (limit : ℕ) (c : ℕ) → Local (plain (read_all_rows limit c))
local_all_rows limit c = local_family (plain (read_all_rows limit c)) (λ n t. rows_read limit (suc n) c t) (all_rows_is limit c) (λ n. local_rows limit (suc n) c)

-- ---- the text between the delimiters

pub local_entry : (limit : ℕ) (d : Delimiter) → Local (plain (read_entry limit d))
unfolding read_entry
local_entry limit d = local_same (plain (read_entry limit d)) _ is
    (local_bind (run is_space) _ (local_run is_space) (λ a.
    local_bind (read_run limit (goes_on_key d)) _ (local_limited limit (goes_on_key d)) (λ k.
    local_bind (run is_space) (λ b u. plain (read_all_rows limit (close_byte d)) u) (local_run is_space) (λ b. local_all_rows limit (close_byte d)))))
  where
    is : (t : Text) → plain (read_entry limit d) t ≡ (run is_space t >>= λ a. read_run limit (goes_on_key d) a.1 >>= λ k. run is_space k.1 >>= λ b. plain (read_all_rows limit (close_byte d)) b.1)
    is t = bind_assoc (read_run limit (goes_on_key d) (after_run is_space t)) _ ready

pub definition_is : (limit c : ℕ) (t : Text) → plain (read_definition limit c) t ≡ (plain (read_row limit) t >>= λ r. plain (read_close c) r.1)
definition_is limit c t = bind_assoc (read_row limit t) (read_close c) ready ∙ sym (bind_assoc (read_row limit t) ready (λ r. plain (read_close c) r.1))

pub local_definition : (limit : ℕ) (c : ℕ) → Local (plain (read_definition limit c))
local_definition limit c = local_same (plain (read_definition limit c)) _ (definition_is limit c) (local_bind (plain (read_row limit)) (λ r u. plain (read_close c) u) (local_row limit) (λ r. local_closing c))

-- a value, the white space after it and the closing delimiter
abbrev pub value_close : ℕ → ℕ → Text → Read (Unit {0})
value_close limit c t = value_gap limit t >>= λ v. plain (read_close c) v.1

pub preamble_is : (limit c : ℕ) (t : Text) → plain (read_preamble limit c) t ≡ (run is_space t >>= λ a. value_close limit c a.1)
preamble_is limit c t = bind_assoc (read_value limit (after_run is_space t)) (λ v. read_close c (after_run is_space v.1)) ready ∙ sym (bind_assoc (read_value limit (after_run is_space t)) (λ v. skip v.1) (λ v. plain (read_close c) v.1))

pub local_preamble : (limit : ℕ) (c : ℕ) → Local (plain (read_preamble limit c))
local_preamble limit c = local_same (plain (read_preamble limit c)) _ (preamble_is limit c) (local_bind (run is_space) _ (local_run is_space) (λ a. local_bind (value_gap limit) (λ v u. plain (read_close c) u) (local_value limit) (λ v. local_closing c)))
