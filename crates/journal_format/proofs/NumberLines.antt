-- Lines of numbers, cut at their spaces.
use Rattle.journal_format.proofs.Words.{◌≡◌, ℕ, ◌+◌, ◌≤◌, ◌∷◌, ◌++◌, decimal, sym, subst, ◌∙◌, arith, lit<, decimal_injective, space, Text, number_limit, change_limit, counts_line, AreFew, numbers_line, AreNumbers, IsFreeOf, IsCut, IsLineOf}
use Rattle.journal_format.proofs.Cuts.{not_free, one_cut}
use Rattle.journal_format.proofs.Numerals.{decimal_free}

-- a good number is the number with these digits
pub same_number : (digits : Text) (m n : ℕ) → m ≤ number_limit → n ≤ number_limit → digits ≡ decimal m → digits ≡ decimal n → m ≡ n
same_number digits m n h k d e = decimal_injective m n (omega arith) (omega arith) (sym d ∙ e)

-- ---- two numbers

pub counts_uncut : (line : Text) → IsFreeOf space line → IsLineOf counts_line AreFew line → ⊥
counts_uncut line free l = not_free space (decimal l.0.undos) (decimal l.0.redos) (subst (IsFreeOf space) l.2 free)

pub counts_cut : (line u r : Text) → IsCut space line u r → (l : IsLineOf counts_line AreFew line) → (u ≡ decimal l.0.undos) × (r ≡ decimal l.0.redos)
counts_cut line u r cut l =
    let few : l.0.undos + l.0.redos ≤ change_limit = l.1 in
    one_cut space u r (decimal l.0.undos) (decimal l.0.redos) cut.free (decimal_free space l.0.undos (lit< tt) (omega arith)) (sym cut.whole ∙ l.2)

-- ---- three numbers

pub numbers_uncut : (from : ℕ) (line : Text) → IsFreeOf space line → IsLineOf numbers_line (AreNumbers from) line → ⊥
numbers_uncut from line free l =
    not_free space (decimal l.0.place) (decimal l.0.old_len ++ space ∷ decimal l.0.new_len) (subst (IsFreeOf space) l.2 free)

pub numbers_cut : (from : ℕ) (line p lens : Text) → IsCut space line p lens → (l : IsLineOf numbers_line (AreNumbers from) line)
    → (p ≡ decimal l.0.place) × (lens ≡ decimal l.0.old_len ++ space ∷ decimal l.0.new_len)
numbers_cut from line p lens cut l =
    let small : l.0.place ≤ number_limit = l.1.place in
    one_cut space p lens (decimal l.0.place) (decimal l.0.old_len ++ space ∷ decimal l.0.new_len) cut.free
    (decimal_free space l.0.place (lit< tt) (omega arith)) (sym cut.whole ∙ l.2)

pub lens_uncut : (from : ℕ) (line p lens : Text) → IsCut space line p lens → IsFreeOf space lens → IsLineOf numbers_line (AreNumbers from) line → ⊥
lens_uncut from line p lens cut free l =
    not_free space (decimal l.0.old_len) (decimal l.0.new_len) (subst (IsFreeOf space) (numbers_cut from line p lens cut l).1 free)

pub lens_cut : (from : ℕ) (line p lens o w : Text) → IsCut space line p lens → IsCut space lens o w → (l : IsLineOf numbers_line (AreNumbers from) line)
    → (o ≡ decimal l.0.old_len) × (w ≡ decimal l.0.new_len)
lens_cut from line p lens o w cut cut2 l =
    let small : l.0.old_len ≤ number_limit = l.1.old_len in
    one_cut space o w (decimal l.0.old_len) (decimal l.0.new_len) cut2.free (decimal_free space l.0.old_len (lit< tt) (omega arith))
    (sym cut2.whole ∙ (numbers_cut from line p lens cut l).1)
