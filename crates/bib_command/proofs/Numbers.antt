-- What `get_one` reads of a number.
use Rattle.std.proofs.Common.{◌≡◌, ℕ, Bool, true, false, ◌&&◌, List, [], ◌∷◌, length, nat_lt, Option, Some, None, Result, Ok, Err, unwrap_or, ◌^◌, refl, ap}
use Rattle.std.specs.Option.{option_map_or}
use Rattle.std.specs.List.{list_all}
use Rattle.std.specs.Char.{digit_value}
use Rattle.std.specs.Str.Parse.{AllDigits, ParsesUnsigned, digits_value, without_leading_plus}
use Rattle.clap.specs.Matches.{ReadsOne}
use Rattle.clap.specs.Words.{Text}
use Rattle.clap.proofs.WalkLemmas.{both}
use borrow.Author.Tests.{lt-ltb, ltb-true}
use Rattle.bib_command.specs.CommandLine.{number_said}

digits_pass : (ds : List ℕ) → AllDigits 10 ds → list_all (λ d. nat_lt (digit_value d) 10) ds ≡ true
digits_pass [] h = refl
digits_pass (d ∷ ds) h = rw (lt-ltb (digit_value d) 10 h.0) (digits_pass ds h.1)

digits_from : (ds : List ℕ) → list_all (λ d. nat_lt (digit_value d) 10) ds ≡ true → AllDigits 10 ds
digits_from [] e = tt
digits_from (d ∷ ds) e =
    let parts = both _ _ e in
    (ltb-true _ _ parts.0, digits_from ds parts.1)

abbrev is_number : ℕ → List ℕ → Bool
is_number bits ds = nat_lt 0 (length ds) && list_all (λ d. nat_lt (digit_value d) 10) ds && nat_lt (digits_value 10 ds) (2 ^ bits)

abbrev value_or_zero : {E : Type 0} → Result ℕ E → ℕ
value_or_zero (Ok n) = n
value_or_zero (Err e) = 0

number_read : {E : Type 0} (bits : ℕ) (text : Text) (r : Result ℕ E) → ParsesUnsigned bits 10 text r → value_or_zero r ≡ number_said bits text
number_read bits text (Ok n) h =
    let ds = without_leading_plus text in
    rw (lt-ltb 0 (length ds) h.0.0.0, digits_pass ds h.0.0.1, lt-ltb (digits_value 10 ds) (2 ^ bits) h.0.1) h.1
number_read bits text (Err e) h = go (is_number bits (without_leading_plus text)) refl
  where
    go : (b : Bool) → is_number bits (without_leading_plus text) ≡ b → 0 ≡ number_said bits text
    go false t = rw t refl
    go true t =
        let outer = both _ _ t in
        let inner = both _ _ outer.0 in
        absurd (h ((ltb-true _ _ inner.0, digits_from (without_leading_plus text) inner.1), ltb-true _ _ outer.1))

-- `get_one(id).unwrap_or(0)` of a number of `bits` bits
pub one_number : {E : Type 0} (bits : ℕ) (gives : List ℕ → Result ℕ E → Type 0) (one : Option Text) (r : Option ℕ) → ((t : Text) (x : Result ℕ E) → gives t x → ParsesUnsigned bits 10 t x)
    → (one ≡ None → r ≡ None) → ((t : Text) → one ≡ Some t → ReadsOne gives t r) → unwrap_or r 0 ≡ option_map_or (number_said bits) one 0
one_number {E} bits gives None r parses none some = ap (λ o. unwrap_or o 0) (none refl)
one_number {E} bits gives (Some t) (Some v) parses none some = number_read {E = E} bits t (Ok v) (parses t (Ok v) (some t refl))
one_number {E} bits gives (Some t) None parses none some = let bad = some t refl in number_read {E = E} bits t (Err bad.0) (parses t (Err bad.0) bad.1)
