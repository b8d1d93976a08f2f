-- Bytes that a new key may have.
use Rattle.std.proofs.Common.{◌≡◌, ◌≤◌, ◌<◌, ◌==◌, ℕ, nat_lt, true, false, not, ◌||◌, ◌∷◌, codes, ne_eqb, ltb-true, lt-ltb, arith, refl}
use Rattle.std.specs.List.{list_any}
use Rattle.std.proofs.lemmas.Bool.{and_parts, and_from, or_from, not_from_false}
use Rattle.bib_spec.specs.Bytes.{delete, comma, open_brace, close_brace}
use Rattle.bib_spec.specs.Text.{is_space, is_new_key_byte}

-- white space is not among them
pub new_key_byte-plain : (b : ℕ) → is_new_key_byte b ≡ true → is_space b ≡ false
unfolding is_new_key_byte is_space
new_key_byte-plain b h =
    let above : 32 < b = ltb-true 32 b (and_parts (nat_lt 32 b) (not (list_any (λ c. c == b) (delete ∷ codes ",{}"))) h).0 in
    or_from (b == 32 || b == 9 || b == 10) (b == 13) (or_from (b == 32 || b == 9) (b == 10) (or_from (b == 32) (b == 9)
    (ne_eqb b 32 (omega arith)) (ne_eqb b 9 (omega arith))) (ne_eqb b 10 (omega arith))) (ne_eqb b 13 (omega arith))

-- lower-case letters are
pub new_key_byte-lower : (c : ℕ) → 97 ≤ c → c ≤ 122 → is_new_key_byte c ≡ true
unfolding is_new_key_byte
new_key_byte-lower c low high =
    and_from (nat_lt 32 c) (not (list_any (λ b. b == c) (delete ∷ codes ",{}"))) (lt-ltb 32 c (omega (arith, low)))
    (not_from_false (list_any (λ b. b == c) (delete ∷ codes ",{}"))
    (or_from (delete == c) (list_any (λ b. b == c) (codes ",{}")) (ne_eqb delete c (λ e. omega (arith, e, high)))
    (or_from (comma == c) (list_any (λ b. b == c) (codes "{}")) (ne_eqb comma c (λ e. omega (arith, e, low)))
    (or_from (open_brace == c) (list_any (λ b. b == c) (codes "}")) (ne_eqb open_brace c (λ e. omega (arith, e, high)))
    (or_from (close_brace == c) false (ne_eqb close_brace c (λ e. omega (arith, e, high))) refl)))))
