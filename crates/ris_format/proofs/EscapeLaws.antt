-- The braces of an escaped text match, whatever the text is.
use Rattle.ris_format.proofs.Words.{◌≡◌, ℕ, zero, suc, Bool, true, false, [], ◌∷◌, take, count_by, refl, sym, ap, ◌∙◌, arith, cases_Bool, ⊎_elim, cond-true, cond-false, and_parts, eqb, eqb-true, find, None, Some, option_map_or, list_all, balances, IsBalanced, IsBalanced-from_test}
use Rattle.std.proofs.Common.{List, Option, subst}
use Rattle.std.proofs.lemmas.Option.{none-some}
use Rattle.bib_spec.proofs.Balance.{balanced-append}
use Rattle.bib_spec.proofs.Counts.{count-no}
use Rattle.ris_format.specs.Escapes.{Escape, escapes, escape_of, escaped, EscapedTextsBalance}

-- a byte that is not counted
none_counted : (p : ℕ → Bool) (byte n : ℕ) → p byte ≡ false → count_by p (take n (byte ∷ [])) ≡ 0
none_counted p byte zero not_p = refl
none_counted p byte (suc zero) not_p = count-no p byte [] not_p
none_counted p byte (suc (suc n)) not_p = count-no p byte [] not_p

-- a byte that is no brace
one_balanced : (byte : ℕ) → eqb byte 123 ≡ false → eqb byte 125 ≡ false → IsBalanced (byte ∷ [])
one_balanced byte no_open no_close = record {
  never_negative = λ n. let none = none_counted (λ b. eqb b 125) byte n no_close in omega (arith, none);
  all_closed = none_counted (λ b. eqb b 125) byte 1 no_close ∙ sym (none_counted (λ b. eqb b 123) byte 1 no_open);
}

-- the byte that is written like this
abbrev is_of : ℕ → Escape → Bool
is_of byte e = eqb e.byte byte

-- how a byte is written by a table whose members balance, if the byte itself balances where the table lacks it
found_balanced : (es : List Escape) (byte : ℕ) → list_all (λ (e : Escape). balances e.written) es ≡ true → (find (is_of byte) es ≡ None → IsBalanced (byte ∷ []))
    → IsBalanced (option_map_or (λ (e : Escape). e.written) (find (is_of byte) es) (byte ∷ []))
found_balanced [] byte all lacks = lacks refl
found_balanced (e ∷ es) byte all lacks = ⊎_elim
    (λ (is : is_of byte e ≡ true).
    subst (λ (o : Option Escape). IsBalanced (option_map_or (λ (x : Escape). x.written) o (byte ∷ []))) (sym (cond-true (is_of byte e) (Some e) (find (is_of byte) es) is))
    (IsBalanced-from_test e.written (and_parts (balances e.written) (list_all (λ (x : Escape). balances x.written) es) all).0))
    (λ (is_not : is_of byte e ≡ false).
    let same = cond-false (is_of byte e) (Some e) (find (is_of byte) es) is_not in
    subst (λ (o : Option Escape). IsBalanced (option_map_or (λ (x : Escape). x.written) o (byte ∷ []))) (sym same)
    (found_balanced es byte (and_parts (balances e.written) (list_all (λ (x : Escape). balances x.written) es) all).1 (λ none. lacks (same ∙ none))))
    (cases_Bool (is_of byte e))

-- a byte that the table lacks is no brace
lacks_brace : (byte brace : ℕ) (e : Escape) → find (is_of brace) escapes ≡ Some e → find (is_of byte) escapes ≡ None → eqb byte brace ≡ false
lacks_brace byte brace e has lacks = ⊎_elim
    (λ (is : eqb byte brace ≡ true).
    absurd (none-some e (sym lacks ∙ ap (λ (b : ℕ). find (is_of b) escapes) (eqb-true byte brace is) ∙ has)))
    (λ (is_not : eqb byte brace ≡ false). is_not)
    (cases_Bool (eqb byte brace))

escape_balanced : (byte : ℕ) → IsBalanced (escape_of byte)
escape_balanced byte = found_balanced escapes byte refl
    (λ lacks. one_balanced byte (lacks_brace byte 123 _ refl lacks) (lacks_brace byte 125 _ refl lacks))

pub escaped_texts_balance : EscapedTextsBalance
escaped_texts_balance [] = IsBalanced-from_test [] refl
escaped_texts_balance (byte ∷ text) = balanced-append (escape_of byte) (escaped text) (escape_balanced byte) (escaped_texts_balance text)
