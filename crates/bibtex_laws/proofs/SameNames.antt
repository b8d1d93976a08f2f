-- Names that the same entries have, before and after, are the same, folded, before and after alike.
use Rattle.std.proofs.Common.{◌≡◌, ◌∙◌, Bool, true, false, ◌||◌, List, [], ◌∷◌, ⊎_elim, refl, sym, ap, ap₂, map}
use Rattle.std.specs.List.{list_any}
use Rattle.std.proofs.lemmas.Bool.{cases_Bool, false≢true}
use Rattle.bib_spec.specs.Text.{Text, same}
use Rattle.bib_spec.specs.Records.{EntryTexts, keys_of}
use Rattle.bib_spec.proofs.Names.{same-true, true-same, same_of, both_true}
use Rattle.bibtex_spec.specs.ListLaws.{KeepsSame}
use Rattle.bibtex_laws.specs.RenamingLists.{IsRenamed}

-- names that are the same are the same as any third
pub same_alike : (a b c : Text) → same a b ≡ true → same a c ≡ same b c
same_alike a b c is = same_of a c b c (same-true a b is) refl

pub all_alike : (a b : Text) (keys : List Text) → same a b ≡ true → map (same a) keys ≡ map (same b) keys
all_alike a b [] is = refl
all_alike a b (key ∷ keys) is = ap₂ ◌∷◌ (same_alike a b key is) (all_alike a b keys is)

abbrev head_of : List Bool → Bool
head_of [] = false
head_of (b ∷ bs) = b

abbrev rest_of : List Bool → List Bool
rest_of [] = []
rest_of (b ∷ bs) = bs

abbrev is_any : List Bool → Bool
is_any bs = list_any (λ b. b) bs

any_of : (a : Text) (keys : List Text) → list_any (same a) keys ≡ is_any (map (same a) keys)
any_of a [] = refl
any_of a (key ∷ keys) = ap (λ (b : Bool). same a key || b) (any_of a keys)

-- of two names that the same keys have, some key has both or none has one
pub both_any : (a b : Text) (keys others : List Text) → map (same a) keys ≡ map (same b) others → list_any (same a) keys ≡ list_any (same b) others
both_any a b keys others alike = any_of a keys ∙ ap is_any alike ∙ sym (any_of b others)

-- two names that one key has are the same
shared : (a b : Text) (keys : List Text) → map (same a) keys ≡ map (same b) keys → list_any (same a) keys ≡ true → same a b ≡ true
shared a b [] alike some = absurd (false≢true some)
shared a b (key ∷ keys) alike some = ⊎_elim
    (λ one. true-same a b (same-true a key one ∙ sym (same-true b key (sym (ap head_of alike) ∙ one))))
    (λ none. shared a b keys (ap rest_of alike) (sym (ap (λ (c : Bool). c || list_any (same a) keys) none) ∙ some))
    (cases_Bool (same a key))

pub renamed_keeps_same : (old new : List EntryTexts) → KeepsSame (IsRenamed old new)
renamed_keeps_same old new a b x y one other = both_true (same a b) (same x y) there back
  where
    there : same a b ≡ true → same x y ≡ true
    there is = ⊎_elim
        (λ some. shared x y (keys_of new) (sym one.entries ∙ all_alike a b (keys_of old) is ∙ other.entries) (sym (both_any a x (keys_of old) (keys_of new) one.entries) ∙ some))
        (λ none. sym (ap₂ same (one.unchanged none) (other.unchanged (sym (both_any a b (keys_of old) (keys_of old) (all_alike a b (keys_of old) is)) ∙ none))) ∙ is)
        (cases_Bool (list_any (same a) (keys_of old)))

    back : same x y ≡ true → same a b ≡ true
    back is = ⊎_elim
        (λ some. shared a b (keys_of old) alike some)
        (λ none. ap₂ same (one.unchanged none) (other.unchanged (sym (both_any a b (keys_of old) (keys_of old) alike) ∙ none)) ∙ is)
        (cases_Bool (list_any (same a) (keys_of old)))
      where
        alike : map (same a) (keys_of old) ≡ map (same b) (keys_of old)
        alike = one.entries ∙ all_alike x y (keys_of new) is ∙ sym other.entries
