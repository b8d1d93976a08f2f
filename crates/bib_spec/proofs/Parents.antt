-- Targets and parents are entries of the file.
use Rattle.std.proofs.Common.{◌≡◌, ℕ, zero, suc, ◌<◌, ◌==◌, List, [], ◌∷◌, length, Some, None, option_map, slice_get, sym, ◌∙◌, subst, arith, ⊎_elim}
use Rattle.std.proofs.lemmas.Bool.{cases_Bool, cond-true, cond-false}
use Rattle.std.proofs.lemmas.Option.{none-some, same_Some, option_and_then_some}
use Rattle.std.proofs.lemmas.List.{length-map}
use Rattle.bib_spec.specs.Text.{Text}
use Rattle.bib_spec.specs.Records.{EntryTexts, keys_of, is_named, first_named, entry_named, target_of, target, other_than, parent, crossref_text}
use Rattle.bib_spec.proofs.Places.{suc_some}

first_named_within : (text : Text) (keys : List Text) (m : ℕ) → first_named text keys ≡ Some m → m < length keys
first_named_within text [] m e = absurd (none-some m e)
first_named_within text (key ∷ keys) m e = ⊎_elim
    (λ t. let z : zero ≡ m = same_Some zero m (sym (cond-true (is_named text key) (Some 0) (option_map suc (first_named text keys)) t) ∙ e) in omega (arith, z))
    (λ f.
    let later = suc_some (first_named text keys) m (sym (cond-false (is_named text key) (Some 0) (option_map suc (first_named text keys)) f) ∙ e) in
    let lt = first_named_within text keys later.0 later.1 in
    let is = later.2 in
    omega (arith, lt, is))
    (cases_Bool (is_named text key))

-- what a look-up finds is an entry
pub named_within : (entries : List EntryTexts) (text : Text) (m : ℕ) → entry_named entries text ≡ Some m → m < length entries
named_within entries text m e = subst (λ (k : ℕ). m < k) (length-map entries (λ entry. entry.key)) (first_named_within text (keys_of entries) m e)

pub target_within : (entries : List EntryTexts) (n m : ℕ) → target entries n ≡ Some m → m < length entries
target_within entries n m e =
    option_and_then_some (target_of entries) (slice_get entries n) m e (λ entry there found.
    option_and_then_some (entry_named entries) (crossref_text entry) m found (λ text says named.
    named_within entries text m named))

pub parent_within : (entries : List EntryTexts) (n m : ℕ) → parent entries n ≡ Some m → m < length entries
parent_within entries n m e =
    option_and_then_some (other_than n) (target entries n) m e (λ k found other.
    let is : k ≡ m = ⊎_elim (λ t. absurd (none-some m (sym (cond-true (k == n) None (Some k) t) ∙ other))) (λ f. same_Some k m (sym (cond-false (k == n) None (Some k) f) ∙ other)) (cases_Bool (k == n)) in
    subst (λ (j : ℕ). j < length entries) is (target_within entries n k found))
