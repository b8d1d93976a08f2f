-- The digits of numbers.
use Rattle.journal_format.proofs.Words.{◌≡◌, ℕ, ◌+◌, ◌^◌, ◌<◌, ◌≤◌, [], ◌∷◌, ◌++◌, decimal, ◌∙◌, ap, arith, lit<, decimal_injective, IsUtf8, line_feed, space, Text, number_limit, change_limit, Counts, counts_line, AreFew, IsSmall, Numbers, numbers_line, AreNumbers, IsFreeOf}
use Rattle.std.proofs.lemmas.Fmt.{decimal_is_IsNumeral, IsAscii-decimal}
use Rattle.std.proofs.lemmas.Str.{IsUtf8-from_ascii}
use Rattle.std.proofs.lemmas.Str.Parse.{digit_from_value}
use Rattle.std.specs.Str.Parse.{AllDigits}
use Rattle.journal_format.proofs.Cuts.{one_cut, free-append}
use Rattle.journal_format.proofs.Forms.{AreForms}

digits_free : (byte : ℕ) → byte < 48 → (ds : Text) → AllDigits 10 ds → IsFreeOf byte ds
digits_free byte below [] all = tt
digits_free byte below (c ∷ ds) all =
    let digit = digit_from_value c all.0 in
    ((λ e. absurd (omega (arith, digit, e))), digits_free byte below ds all.1)

-- no byte of a number is below the digits
pub decimal_free : (byte n : ℕ) → byte < 48 → n < 2 ^ 64 → IsFreeOf byte (decimal n)
decimal_free byte n below small = digits_free byte below (decimal n) (decimal_is_IsNumeral n small).0.1

pub IsUtf8-decimal : (n : ℕ) → n < 2 ^ 64 → IsUtf8 (decimal n)
IsUtf8-decimal n small = IsUtf8-from_ascii (decimal n) (IsAscii-decimal n small)

small : (n : ℕ) → n ≤ number_limit → n < 2 ^ 64
small n h = omega arith

pub small_forms : AreForms decimal IsSmall
small_forms = record {
  free = λ n h. decimal_free line_feed n (lit< tt) (small n h);
  one = λ m n h k e. decimal_injective m n (small m h) (small n k) e;
}

-- ---- two numbers

few : (n m : ℕ) → n + m ≤ change_limit → n < 2 ^ 64
few n m h = omega arith

pub counts_free : (n : Counts) → AreFew n → IsFreeOf line_feed (counts_line n)
counts_free n h =
    let undos : n.undos < 2 ^ 64 = omega arith in
    let redos : n.redos < 2 ^ 64 = omega arith in
    free-append line_feed (decimal n.undos) (space ∷ decimal n.redos) (decimal_free line_feed n.undos (lit< tt) undos)
    ((λ e. absurd (omega (arith, e))), decimal_free line_feed n.redos (lit< tt) redos)

one_counts : (m n : Counts) → AreFew m → AreFew n → counts_line m ≡ counts_line n → m ≡ n
one_counts m n h k e =
    let mu : m.undos < 2 ^ 64 = omega arith in
    let mr : m.redos < 2 ^ 64 = omega arith in
    let nu : n.undos < 2 ^ 64 = omega arith in
    let nr : n.redos < 2 ^ 64 = omega arith in
    let parts = one_cut space (decimal m.undos) (decimal m.redos) (decimal n.undos) (decimal n.redos) (decimal_free space m.undos (lit< tt) mu) (decimal_free space n.undos (lit< tt) nu) e in
    let undos : m.undos ≡ n.undos = decimal_injective m.undos n.undos mu nu parts.0 in
    let redos : m.redos ≡ n.redos = decimal_injective m.redos n.redos mr nr parts.1 in
    ap (λ (u : ℕ). record { undos = u; redos = m.redos }) undos ∙ ap (λ (r : ℕ). record { undos = n.undos; redos = r }) redos

pub counts_forms : AreForms counts_line AreFew
counts_forms = record { free = counts_free; one = one_counts }

-- ---- three numbers

pub numbers_free : (from : ℕ) (n : Numbers) → AreNumbers from n → IsFreeOf line_feed (numbers_line n)
numbers_free from n h =
    free-append line_feed (decimal n.place) (space ∷ (decimal n.old_len ++ space ∷ decimal n.new_len)) (decimal_free line_feed n.place (lit< tt) (small n.place h.place)) (
      (λ e. absurd (omega (arith, e))),
      free-append line_feed (decimal n.old_len) (space ∷ decimal n.new_len) (decimal_free line_feed n.old_len (lit< tt) (small n.old_len h.old_len))
          ((λ e. absurd (omega (arith, e))), decimal_free line_feed n.new_len (lit< tt) (small n.new_len h.new_len)),
    )

one_numbers : (from : ℕ) (m n : Numbers) → AreNumbers from m → AreNumbers from n → numbers_line m ≡ numbers_line n → m ≡ n
one_numbers from m n h k e =
    let first = one_cut space (decimal m.place) (decimal m.old_len ++ space ∷ decimal m.new_len) (decimal n.place) (decimal n.old_len ++ space ∷ decimal n.new_len)
    (decimal_free space m.place (lit< tt) (small m.place h.place)) (decimal_free space n.place (lit< tt) (small n.place k.place)) e in
    let second = one_cut space (decimal m.old_len) (decimal m.new_len) (decimal n.old_len) (decimal n.new_len)
    (decimal_free space m.old_len (lit< tt) (small m.old_len h.old_len)) (decimal_free space n.old_len (lit< tt) (small n.old_len k.old_len)) first.1 in
    let place : m.place ≡ n.place = decimal_injective m.place n.place (small m.place h.place) (small n.place k.place) first.0 in
    let old_len : m.old_len ≡ n.old_len = decimal_injective m.old_len n.old_len (small m.old_len h.old_len) (small n.old_len k.old_len) second.0 in
    let new_len : m.new_len ≡ n.new_len = decimal_injective m.new_len n.new_len (small m.new_len h.new_len) (small n.new_len k.new_len) second.1 in
    ap (λ (p : ℕ). record { place = p; old_len = m.old_len; new_len = m.new_len }) place
    ∙ ap (λ (o : ℕ). record { place = n.place; old_len = o; new_len = m.new_len }) old_len
    ∙ ap (λ (w : ℕ). record { place = n.place; old_len = n.old_len; new_len = w }) new_len

pub numbers_forms : (from : ℕ) → AreForms numbers_line (AreNumbers from)
numbers_forms from = record { free = numbers_free from; one = one_numbers from }
