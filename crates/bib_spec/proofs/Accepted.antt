-- What an accepted edit gives, in the form that the laws use.
use Rattle.std.proofs.Common.{◌≡◌, ◌<◌, ℕ, zero, suc, false, cond, List, [], ◌∷◌, Some, None, is_none, slice_get, ⊎_elim, refl, sym, ◌∙◌, ap, ap₂, arith, filter_map}
use Rattle.std.specs.List.{list_any, cons_option}
use Rattle.std.proofs.lemmas.Bool.{or_parts}
use Rattle.std.proofs.lemmas.Option.{none-some, same_Some}
use Rattle.bib_spec.specs.Text.{Text, same}
use Rattle.bib_spec.specs.Records.{EntryTexts, target_of, crossref_text, dangling_text}
use Rattle.bib_spec.proofs.Keys.{option_cases}

-- a name that occurs, and does not occur twice, occurs once
pub there_once : (count : ℕ) → (count ≡ 0 → ⊥) → (1 < count → ⊥) → count ≡ 1
there_once zero missing twice = absurd (missing refl)
there_once (suc zero) missing twice = refl
there_once (suc (suc n)) missing twice = absurd (twice (omega arith))

-- a key that is none of the dangling texts is not the text of this dangling crossref
pub dangling_among : (entries rest : List EntryTexts) (j : ℕ) (entry : EntryTexts) (said : Text) (key : Text) → slice_get rest j ≡ Some entry → target_of entries entry ≡ None → crossref_text entry ≡ Some said →
    list_any (same key) (filter_map (dangling_text entries) rest) ≡ false → same key said ≡ false
dangling_among entries [] j entry said key at no_target says free = absurd (none-some entry at)
dangling_among entries (first ∷ rest) zero entry said key at no_target says free =
    let is : dangling_text entries first ≡ Some said = ap (dangling_text entries) (same_Some first entry at) ∙ ap₂ (λ t c. cond (is_none t) c None) no_target says in
    (or_parts (same key said) (list_any (same key) (filter_map (dangling_text entries) rest)) (sym (ap (λ o. list_any (same key) (cons_option o (filter_map (dangling_text entries) rest))) is) ∙ free)).0
dangling_among entries (first ∷ rest) (suc j) entry said key at no_target says free = dangling_among entries rest j entry said key at no_target says (⊎_elim
    (λ none. sym (ap (λ o. list_any (same key) (cons_option o (filter_map (dangling_text entries) rest))) none) ∙ free)
    (λ some. (or_parts (same key some.0) (list_any (same key) (filter_map (dangling_text entries) rest)) (sym (ap (λ o. list_any (same key) (cons_option o (filter_map (dangling_text entries) rest))) some.1) ∙ free)).1)
    (option_cases (dangling_text entries first)))
