-- The base of a made key is a short key.
use Rattle.bib_names.proofs.Words.{◌≡◌, ℕ, zero, suc, ◌≤◌, ◌<◌, Bool, true, false, cond, eqb, [], ◌∷◌, length, take, refl, ap, ◌∙◌, arith, ◌&&◌, list_all, leb, leb-true, le-leb, lt-ltb, and_parts, Text, or_anon, label_base}
use Rattle.std.specs.Prelude.{filter, codes}
use Rattle.std.specs.Char.{is_ascii_alphanumeric}
use Rattle.std.proofs.lemmas.Bool.{ne_eqb, leb-false, lt-leb}
use Rattle.std.proofs.lemmas.List.{length-take}
use Rattle.bib_spec.specs.Text.{is_new_key_byte, is_new_key}
use Rattle.bib_spec.specs.MadeKeys.{base_limit, IsKeyBase}
use Rattle.bib_names.specs.Label.{key_letters, key_base}

-- a letter or digit is greater than the space
alphanumeric-high : (b : ℕ) → is_ascii_alphanumeric b ≡ true → 32 < b
alphanumeric-high b h =
    elim (leb 48 b) as (λ x. leb 48 b ≡ x → 32 < b) [
      | true ↦ λ e. omega (arith, leb-true 48 b e)
      | false ↦ λ e. let low = leb-false 48 b e in
          let upper = lt-leb 65 b (omega (arith, low)) in
          let lower = lt-leb 97 b (omega (arith, low)) in
          absurd (cc)
    ] refl

key_byte : (b : ℕ) → is_ascii_alphanumeric b ≡ true → is_new_key_byte b ≡ true
unfolding is_new_key_byte
key_byte b h =
    let other : (c : ℕ) → is_ascii_alphanumeric c ≡ false → eqb c b ≡ false = λ c none. ne_eqb c b (λ e. let computed = ap is_ascii_alphanumeric e in absurd (cc)) in
    rw (lt-ltb 32 b (alphanumeric-high b h), other 127 refl, other 44 refl, other 123 refl, other 125 refl) refl

key_bytes : (text : Text) → list_all is_new_key_byte (filter is_ascii_alphanumeric text) ≡ true
key_bytes [] = refl
key_bytes (b ∷ text) = go (is_ascii_alphanumeric b) refl (key_bytes text)
  where
    go : (x : Bool) → is_ascii_alphanumeric b ≡ x → list_all is_new_key_byte (filter is_ascii_alphanumeric text) ≡ true → list_all is_new_key_byte (cond x (b ∷ filter is_ascii_alphanumeric text) (filter is_ascii_alphanumeric text)) ≡ true
    go true e later = ap (λ y. y && list_all is_new_key_byte (filter is_ascii_alphanumeric text)) (key_byte b e) ∙ later
    go false e later = later

all_take : (p : ℕ → Bool) (n : ℕ) (text : Text) → list_all p text ≡ true → list_all p (take n text) ≡ true
all_take p zero text all = refl
all_take p (suc n) [] all = refl
all_take p (suc n) (b ∷ text) all = let parts = and_parts (p b) (list_all p text) all in ap (λ x. x && list_all p (take n text)) parts.0 ∙ all_take p n text parts.1

-- letters, or `anon`
kept : (b : ℕ) (text : Text) → or_anon (b ∷ text) ≡ b ∷ text
kept b text = ap (λ x. cond x (codes "anon") (b ∷ text)) (ne_eqb (length (b ∷ text)) 0 (λ e. omega arith))

anon_bytes : (text : Text) → list_all is_new_key_byte text ≡ true → list_all is_new_key_byte (or_anon text) ≡ true
unfolding is_new_key_byte
anon_bytes [] all = refl
anon_bytes (b ∷ text) all = ap (list_all is_new_key_byte) (kept b text) ∙ all

anon_some : (text : Text) → 0 < length (or_anon text)
anon_some [] = omega arith
anon_some (b ∷ text) = omega (arith, ap length (kept b text))

pub key_letters-short : (base : Text) → length (key_letters base) ≤ base_limit
key_letters-short base = omega (arith, length-take base_limit (or_anon (filter is_ascii_alphanumeric base)))

pub key_letters-is_key : (base : Text) → is_new_key (key_letters base) ≡ true
unfolding is_new_key
key_letters-is_key base =
    let letters = or_anon (filter is_ascii_alphanumeric base) in
    let len = length-take base_limit letters in
    let some = anon_some (filter is_ascii_alphanumeric base) in
    rw (lt-ltb 0 (length (take base_limit letters)) (omega (arith, len, some)), le-leb (length (take base_limit letters)) 255 (omega (arith, len)))
    (all_take is_new_key_byte base_limit letters (anon_bytes (filter is_ascii_alphanumeric base) (key_bytes base)))

pub key_bases_are_keys : IsKeyBase (λ r. key_base r.fields)
key_bases_are_keys = record {
  ignores_key = λ r key. refl;
  is_key = λ r. key_letters-is_key (label_base r.fields);
  short = λ r. key_letters-short (label_base r.fields);
}
