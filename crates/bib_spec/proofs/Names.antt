-- Lemmas on names compared with case folded.
use Rattle.std.proofs.Common.{◌≡◌, Bool, true, false, refl, sym, ◌∙◌, ap}
use Rattle.std.specs.Str.{bytes_eq}
use Rattle.std.proofs.lemmas.Slice.Eq.{bytes_eq-Decides}
use Rattle.bib_spec.specs.Text.{Text, folded, same}

pub eq-true : (a b : Text) → bytes_eq a b ≡ true → a ≡ b
eq-true a b h = (bytes_eq-Decides a b).0 h

pub true-eq : (a b : Text) → a ≡ b → bytes_eq a b ≡ true
true-eq a b h = (bytes_eq-Decides a b).1 h

pub same-is : (a b : Text) → same a b ≡ bytes_eq (folded a) (folded b)
same-is a b = refl

pub same-true : (a b : Text) → same a b ≡ true → folded a ≡ folded b
same-true a b h = eq-true (folded a) (folded b) (sym (same-is a b) ∙ h)

pub true-same : (a b : Text) → folded a ≡ folded b → same a b ≡ true
true-same a b h = same-is a b ∙ true-eq (folded a) (folded b) h

-- `same` reads its arguments' folded texts alone
pub same_of : (a b c d : Text) → folded a ≡ folded c → folded b ≡ folded d → same a b ≡ same c d
same_of a b c d p q = same-is a b ∙ ap (λ x. bytes_eq x (folded b)) p ∙ ap (λ y. bytes_eq (folded c) y) q ∙ sym (same-is c d)

-- two tests that are true together are equal
pub both_true : (b c : Bool) → (b ≡ true → c ≡ true) → (c ≡ true → b ≡ true) → b ≡ c
both_true true true p q = refl
both_true true false p q = sym (p refl)
both_true false true p q = q refl
both_true false false p q = refl

pub same_comm : (a b : Text) → same a b ≡ same b a
same_comm a b = both_true (same a b) (same b a) (λ h. true-same b a (sym (same-true a b h))) (λ h. true-same a b (sym (same-true b a h)))
