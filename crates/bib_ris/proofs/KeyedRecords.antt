-- The entries of records with keys: those of keys that are made apart and then given in turn.
use Rattle.bib_ris.proofs.Words.{◌≡◌, ◌∙◌, true, false, not, List, [], ◌∷◌, map, filter, refl, sym, ap, cases_Bool, cond-true, cond-false, Text, is_new_key, Record, made_keys, NewEntry, made_base, entry_of, usable_ids, bases_of, usable_keys, with_keys}
use Rattle.std.proofs.Common.{⊎_elim}
use Rattle.std.proofs.lemmas.Simd.{map-map}
use Rattle.std.proofs.lemmas.Bool.{not_from_true, not_from_false}
use Rattle.bib_spec.specs.MadeKeys.{free_key}
use Rattle.bib_ris.specs.Import.{with_key, keyed}
use Rattle.bib_ris.proofs.GivenKeys.{with-kept}

-- the keys that an edit may write are those of the records
pub usable-entries : (records : List Record) → usable_keys (map entry_of records) ≡ usable_ids records
usable-entries records = ap (filter is_new_key) (map-map (λ (e : NewEntry). e.key) entry_of records)

-- the entries of these records get the keys that are made of their bases
abbrev AreKeyedWith : List Text → List Record → Type 0
AreKeyedWith taken records = with_keys (made_keys taken (bases_of records)) (map entry_of records) ≡ map entry_of (keyed taken records)

module _ (taken : List Text) (r : Record) (records : List Record) where
  abbrev made : Text
  made = free_key taken (made_base r)

  abbrev needing : List Record
  needing = filter (λ s. not (is_new_key s.key)) records

  abbrev with_keys_of : List Record → List NewEntry
  with_keys_of rs = with_keys (made_keys taken (map made_base rs)) (map entry_of (r ∷ records))

  has_key : is_new_key r.key ≡ true → AreKeyedWith taken records → AreKeyedWith taken (r ∷ records)
  has_key is later =
      ap with_keys_of (cond-false (not (is_new_key r.key)) (r ∷ needing) needing (not_from_true (is_new_key r.key) is))
      ∙ with-kept (made_keys taken (bases_of records)) (entry_of r) (map entry_of records) is
      ∙ ap (λ (es : List NewEntry). entry_of r ∷ es) later
      ∙ sym (ap (map entry_of) (cond-true (is_new_key r.key) (r ∷ keyed taken records) (with_key r made ∷ keyed (made ∷ taken) records) is))

  needs_key : is_new_key r.key ≡ false → AreKeyedWith (made ∷ taken) records → AreKeyedWith taken (r ∷ records)
  needs_key is later =
      ap with_keys_of (cond-true (not (is_new_key r.key)) (r ∷ needing) needing (not_from_false (is_new_key r.key) is))
      ∙ cond-false (is_new_key r.key) (entry_of r ∷ with_keys (made ∷ made_keys (made ∷ taken) (bases_of records)) (map entry_of records))
      (entry_of (with_key r made) ∷ with_keys (made_keys (made ∷ taken) (bases_of records)) (map entry_of records)) is
      ∙ ap (λ (es : List NewEntry). entry_of (with_key r made) ∷ es) later
      ∙ sym (ap (map entry_of) (cond-false (is_new_key r.key) (r ∷ keyed taken records) (with_key r made ∷ keyed (made ∷ taken) records) is))

pub keyed-with : (taken : List Text) (records : List Record) → with_keys (made_keys taken (bases_of records)) (map entry_of records) ≡ map entry_of (keyed taken records)
keyed-with taken [] = refl
keyed-with taken (r ∷ records) = ⊎_elim
    (λ is. has_key taken r records is (keyed-with taken records))
    (λ is. needs_key taken r records is (keyed-with (free_key taken (made_base r) ∷ taken) records))
    (cases_Bool (is_new_key r.key))
