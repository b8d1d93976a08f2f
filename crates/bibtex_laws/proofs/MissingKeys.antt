-- A cited key that no entry has gives an entry fields that its record in the dialect has at no depth.
use Rattle.std.proofs.Common.{◌≡◌, ◌∙◌, ℕ, zero, suc, true, [], ◌∷◌, Some, codes, length, refl, sym, ap, arith}
use Rattle.std.proofs.lemmas.Bool.{false≢true}
use Rattle.std.proofs.lemmas.Option.{none-some, same_Some}
use Rattle.bib_spec.specs.Text.{Text, is_space, same}
use Rattle.bib_spec.specs.Texts.{field_text}
use Rattle.bib_spec.specs.Records.{EntryTexts, Record, keys_of, ancestors, with_inherited, own_fields, record_of, expanded}
use Rattle.edit_spec.specs.Laws.{AllDiffer}
use Rattle.bibtex_spec.specs.Rows.{field, crossref_to, misc, b, c, t, two}
use Rattle.bibtex_laws.specs.RenamingLists.{NoneNamesNothing}
use Rattle.bibtex_laws.specs.DialectRecords.{without_zz, star_and_zz, depth_of, MissingKeysMatter}

keys_differ : AllDiffer (keys_of without_zz)
keys_differ zero zero x y at there ne = absurd (ne refl)
keys_differ zero (suc zero) x y at there ne = ap (λ (k : Text). same k y) (sym (same_Some b x at)) ∙ ap (same b) (sym (same_Some c y there))
keys_differ (suc zero) zero x y at there ne = ap (λ (k : Text). same k y) (sym (same_Some c x at)) ∙ ap (same c) (sym (same_Some b y there))
keys_differ (suc zero) (suc zero) x y at there ne = absurd (ne refl)
keys_differ (suc (suc n)) m x y at there ne = absurd (none-some x at)
keys_differ zero (suc (suc m)) x y at there ne = absurd (none-some y there)
keys_differ (suc zero) (suc (suc m)) x y at there ne = absurd (none-some y there)

-- both entries have keys
none_empty : NoneNamesNothing without_zz
none_empty n zero entry other at there says is =
    let e : 1 ≡ 0 = ap length (ap (λ (e : EntryTexts). e.key) (same_Some (misc b (field t two ∷ [])) other there) ∙ is) in omega (arith, e)
none_empty n (suc zero) entry other at there says is =
    let e : 1 ≡ 0 = ap length (ap (λ (e : EntryTexts). e.key) (same_Some (misc c (crossref_to (codes "zz") ∷ [])) other there) ∙ is) in omega (arith, e)
none_empty n (suc (suc m)) entry other at there says is = none-some other there

-- c has no field at any depth
no_fields : (depth : ℕ) → with_inherited without_zz (own_fields (misc c (crossref_to (codes "zz") ∷ []))) (ancestors without_zz depth 1) ≡ []
unfolding field_text is_space
no_fields zero = refl
no_fields (suc depth) = refl

no_record : (depth n : ℕ) (full : Record) → expanded depth without_zz n ≡ Some full → same full.key c ≡ true → (t, two) ∷ [] ≡ full.fields → ⊥
no_record depth zero full is key fields =
    false≢true (ap (λ (r : Record). same r.key c) (same_Some (record_of depth without_zz 0 (misc b (field t two ∷ []))) full is) ∙ key)
no_record depth (suc zero) full is key fields =
    let none_ : full.fields ≡ [] = sym (ap (λ (r : Record). r.fields) (same_Some (record_of depth without_zz 1 (misc c (crossref_to (codes "zz") ∷ []))) full is)) ∙ no_fields depth in
    let e : 1 ≡ 0 = ap length (fields ∙ none_) in
    omega (arith, e)
no_record depth (suc (suc n)) full is key fields = none-some full is

pub missing-keys-matter : MissingKeysMatter
unfolding field_text is_space
missing-keys-matter = record {
  keys_differ = keys_differ;
  none_empty = none_empty;
  listed = refl;
  no_dialects = λ one. no_record (depth_of without_zz star_and_zz one.place) one.entry one.full one.is one.key one.fields;
}
