-- Tables of short keys and of longer ones.
use Rattle.std.proofs.Common.{◌≡◌, ◌∙◌, ℕ, ◌<◌, nat_le, Bool, true, false, cond, Some, length, refl, sym, ap, arith}
use Rattle.std.specs.Char.{to_ascii_lowercase}
use Rattle.std.proofs.lemmas.Bool.{leb-true, cond-false}
use Rattle.std.proofs.lemmas.List.{length-map}
use Rattle.bib_spec.specs.Bytes.{name_limit}
use Rattle.bib_spec.specs.Text.{Text, folded, same}
use Rattle.bib_spec.proofs.Names.{same-true}
use Rattle.folded_map.specs.FoldedMap.{value_at, IsWith}
use Rattle.bibtex_places.specs.KeyTables.{Numbers, number_of, IsNumbered}

is_long : (key : Text) → name_limit < length key → nat_le (length key) name_limit ≡ false
is_long key gt = at (nat_le (length key) name_limit) refl
  where
    at : (b : Bool) → nat_le (length key) name_limit ≡ b → b ≡ false
    at false e = refl
    at true e = absurd (let le = leb-true (length key) name_limit e in omega (arith, le, gt))

pub long_number : (table : Numbers) (key : Text) → name_limit < length key → number_of table key ≡ value_at table.long (folded key)
long_number table key gt = cond-false (nat_le (length key) name_limit) (value_at table.short (folded key)) (value_at table.long (folded key)) (is_long key gt)

-- keys of which one is short and the other is long are not the same
same_length : (a b : Text) → same a b ≡ true → length a ≡ length b
same_length a b e = sym (length-map a to_ascii_lowercase) ∙ ap length (same-true a b e) ∙ length-map b to_ascii_lowercase

apart_long : (name key : Text) → nat_le (length name) name_limit ≡ true → name_limit < length key → same name key ≡ false
apart_long name key short gt = at (same name key) refl
  where
    at : (b : Bool) → same name key ≡ b → b ≡ false
    at false e = refl
    at true e = absurd (let is = same_length name key e in let le = leb-true (length name) name_limit short in omega (arith, is, le, gt))

pub numbered_long : (old new : Numbers) (key : Text) (n : ℕ) → name_limit < length key → IsWith old.long key n new.long → new.short ≡ old.short → IsNumbered old key n new
numbered_long old new key n gt with kept name = at (nat_le (length name) name_limit) refl
  where
    at : (b : Bool) → nat_le (length name) name_limit ≡ b
        → cond b (value_at new.short (folded name)) (value_at new.long (folded name)) ≡ cond (same name key) (Some n) (cond b (value_at old.short (folded name)) (value_at old.long (folded name)))
    at true e = ap (λ l. value_at l (folded name)) kept ∙ sym (cond-false (same name key) (Some n) (value_at old.short (folded name)) (apart_long name key e gt))
    at false e = with (folded name)
