-- A candidate of a base is no longer than a key may be.
use Rattle.bib_keys.proofs.Words.{ℕ, ◌^◌, ◌≤◌, ◌<◌, length, reverse, ⊎_elim, arith, length-append, cases_Bool, name_limit, Text, letters, candidate}
use Rattle.std.proofs.Common.{nat_lt, ltb-true}
use Rattle.std.proofs.lemmas.Bool.{ltb-false}
use Rattle.std.proofs.lemmas.List.{length-reverse}
use Rattle.bib_spec.specs.MadeKeys.{base_limit}
use Rattle.bib_spec.proofs.FreeKeys.{lower_letters, written-letters, doubled, doubled-grows, doubled-written}

few_letters : (n : ℕ) → n < 2 ^ 64 → length (letters n) ≤ 65
few_letters n small = ⊎_elim
    (λ t. let lt = ltb-true (length (letters n)) 66 t in omega (arith, lt))
    (λ e. absurd (too_many (ltb-false (length (letters n)) 66 e)))
    (cases_Bool (nat_lt (length (letters n)) 66))
  where
    too_many : 66 ≤ length (letters n) → ⊥
    too_many le =
        let least : 73786976294838206464 ≤ doubled (length (letters n)) = doubled-grows 66 (length (letters n)) le in
        let most = doubled-written (letters n) (lower_letters n) in
        let says = written-letters n in
        let low : n < 18446744073709551616 = small in
        omega (arith, least, most, says, low)

pub candidate-short : (base : Text) (n : ℕ) → length base ≤ base_limit → n < 2 ^ 64 → length (candidate base n) ≤ name_limit
candidate-short base n short small =
    let few = few_letters n small in
    let long = length-append base (reverse (letters n)) in
    let same_length = length-reverse (letters n) in
    omega (arith, few, long, same_length, short)
