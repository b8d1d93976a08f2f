-- How the counts of braces change from byte to byte.
use Rattle.bib_names.proofs.Words.{◌≡◌, ℕ, ◌+◌, ◌≤◌, ◌<◌, Bool, true, false, cond, eqb, length, take, get_or, refl, sym, ap, arith, count_by, count_by_more_no, count_by_more_yes, eqb-true, eq-eqb, Text, opened_before, closed_before, is_level, AreBraces}
use Rattle.std.proofs.lemmas.Bool.{ne_eqb}

-- one where the byte is this one
abbrev pub one_if : ℕ → ℕ → ℕ
one_if brace byte = cond (eqb byte brace) 1 0

pub one_if-le : (brace byte : ℕ) → one_if brace byte ≤ 1
one_if-le brace byte = go (eqb byte brace)
  where
    go : (b : Bool) → cond b 1 0 ≤ 1
    go true = omega arith
    go false = omega arith

-- a count of bytes, with one more byte
pub count_by_more : (p : ℕ → Bool) (text : Text) (i : ℕ) → i < length text → count_by p (take (i + 1) text) ≡ count_by p (take i text) + cond (p (get_or text i 0)) 1 0
count_by_more p text i lt =
    elim (p (get_or text i 0)) as (λ b. p (get_or text i 0) ≡ b → count_by p (take (i + 1) text) ≡ count_by p (take i text) + cond b 1 0) [
      | true ↦ λ e. count_by_more_yes p text i 0 lt e
      | false ↦ λ e. omega (arith, count_by_more_no p text i 0 lt e)
    ] refl

pub opened_more : (text : Text) (i : ℕ) → i < length text → opened_before text (i + 1) ≡ opened_before text i + one_if 123 (get_or text i 0)
opened_more text i lt = count_by_more (λ b. eqb b 123) text i lt

pub closed_more : (text : Text) (i : ℕ) → i < length text → closed_before text (i + 1) ≡ closed_before text i + one_if 125 (get_or text i 0)
closed_more text i lt = count_by_more (λ b. eqb b 125) text i lt

-- one more byte
pub more_braces : (text : Text) (i a z byte a' z' : ℕ) → i < length text → AreBraces text i a z → byte ≡ get_or text i 0 → a' ≡ a + one_if 123 byte → z' ≡ z + one_if 125 byte → AreBraces text (i + 1) a' z'
more_braces text i a z byte a' z' lt are byte_is a_is z_is =
    let opened = opened_more text i lt in
    let closed = closed_more text i lt in
    record {
      opening = rw (a_is, byte_is, opened, are.opening) refl;
      closing = rw (z_is, byte_is, closed, are.closing) refl;
      few_opening = omega (arith, one_if-le 123 byte, are, a_is);
      few_closing = omega (arith, one_if-le 125 byte, are, z_is);
    }

-- whether a place has depth 0
pub level_is : (text : Text) (i a z : ℕ) → AreBraces text i a z → eqb a z ≡ is_level text i
level_is text i a z are = rw (are.opening, are.closing) refl

-- the braces that open and close from a place on
pub record AreBracesFrom (text : Text) (start seen a z : ℕ) : Type 0 where
  pub after : start ≤ seen
  pub opened : a + opened_before text start ≡ opened_before text seen
  pub closed : z + closed_before text start ≡ closed_before text seen
  pub opened_small : a ≤ seen
  pub closed_small : z ≤ seen

pub more_braces_from : (text : Text) (start i a z byte a' z' : ℕ) → i < length text → AreBracesFrom text start i a z → byte ≡ get_or text i 0 → a' ≡ a + one_if 123 byte → z' ≡ z + one_if 125 byte → AreBracesFrom text start (i + 1) a' z'
more_braces_from text start i a z byte a' z' lt are byte_is a_is z_is =
    let opened = opened_more text i lt in
    let closed = closed_more text i lt in
    let same_open = ap (one_if 123) byte_is in
    let same_close = ap (one_if 125) byte_is in
    record {
      after = omega (arith, are.after);
      opened = omega (arith, are.opened, opened, same_open, a_is);
      closed = omega (arith, are.closed, closed, same_close, z_is);
      opened_small = omega (arith, one_if-le 123 byte, are);
      closed_small = omega (arith, one_if-le 125 byte, are);
    }

-- whether a place is level, seen from another such place
pub level_from : (text : Text) (start i a z : ℕ) → is_level text start ≡ true → AreBracesFrom text start i a z → eqb a z ≡ is_level text i
level_from text start i a z level are =
    let here = eqb-true (opened_before text start) (closed_before text start) level in
    elim (eqb a z) as (λ b. eqb a z ≡ b → b ≡ is_level text i) [
      | true ↦ λ e. sym (eq-eqb (opened_before text i) (closed_before text i) (omega (arith, eqb-true a z e, are.opened, are.closed, here)))
      | false ↦ λ e. sym (ne_eqb (opened_before text i) (closed_before text i) (λ i. absurd (let same = eq-eqb a z (omega (arith, i, are.opened, are.closed, here)) in cc)))
    ] refl
