-- Lines of values: a text that begins with the line of a good value, and goes wrong after it, does so in one way.
use Rattle.journal_format.proofs.Words.{◌≡◌, ℕ, sym, subst, ◌∙◌, inl, inr, line_feed, Text, IsFreeOf, BeginsWith, IsWrongFrom}
use Rattle.journal_format.specs.Wrong.{HasWrongLine}
use Rattle.journal_format.proofs.Cuts.{not_free, one_cut}

-- the lines of good values have no line feed, and no two good values have the same line
pub record AreForms {A : Type 0} (line_of : A → Text) (Good : A → Type 0) : Type 0 where
  pub free : (a : A) → Good a → IsFreeOf line_feed (line_of a)
  pub one : (a b : A) → Good a → Good b → line_of a ≡ line_of b → a ≡ b

-- the text begins with the line of one value
pub one_first : {A : Type 0} (line_of : A → Text) (Good : A → Type 0) → AreForms line_of Good → (text : Text) (a b : A) (r s : Text)
    → BeginsWith line_of Good text a r → BeginsWith line_of Good text b s → (a ≡ b) × (r ≡ s)
one_first line_of Good forms text a b r s x y =
    let one = one_cut line_feed (line_of a) r (line_of b) s (forms.free a x.good) (forms.free b y.good) (sym x.whole ∙ y.whole) in
    (forms.one a b x.good y.good one.0, one.1)

-- a text that begins with a good line does not begin with a wrong one
pub no_wrong_line : {A : Type 0} (line_of : A → Text) (Good : A → Type 0) → AreForms line_of Good → (text : Text) (a : A) (r : Text) (left : ℕ)
    → BeginsWith line_of Good text a r → HasWrongLine line_of Good text left → ⊥
no_wrong_line line_of Good forms text a r left x (inl u) = not_free line_feed (line_of a) r (subst (IsFreeOf line_feed) x.whole u.free)
no_wrong_line line_of Good forms text a r left x (inr o) =
    let one = one_cut line_feed o.line o.rest (line_of a) r o.cut.free (forms.free a x.good) (sym o.cut.whole ∙ x.whole) in
    o.other (a, x.good, one.0)

-- so it goes wrong after the good line
pub wrong_after : {A : Type 0} (line_of : A → Text) (Good : A → Type 0) (Wrong : A → Text → ℕ → Type 0) → AreForms line_of Good → (text : Text) (a : A) (r : Text) (left : ℕ)
    → BeginsWith line_of Good text a r → IsWrongFrom line_of Good Wrong text left → Wrong a r left
wrong_after {A = A} line_of Good Wrong forms text a r left x (inl w) = absurd (no_wrong_line line_of Good forms text a r left x w)
wrong_after {A = A} line_of Good Wrong forms text a r left x (inr w) =
    let one = one_first line_of Good forms text w.value a w.rest r w.begins x in
    subst (λ (b : A). Wrong b r left) one.0 (subst (λ (s : Text). Wrong w.value s left) one.1 w.wrong)

one_wrong_line : {A : Type 0} (line_of : A → Text) (Good : A → Type 0) (text : Text) (l m : ℕ) → HasWrongLine line_of Good text l → HasWrongLine line_of Good text m → l ≡ m
one_wrong_line line_of Good text l m (inl u) (inl v) = u.end ∙ sym v.end
one_wrong_line line_of Good text l m (inl u) (inr o) = absurd (not_free line_feed o.line o.rest (subst (IsFreeOf line_feed) o.cut.whole u.free))
one_wrong_line line_of Good text l m (inr o) (inl u) = absurd (not_free line_feed o.line o.rest (subst (IsFreeOf line_feed) o.cut.whole u.free))
one_wrong_line line_of Good text l m (inr o) (inr p) = o.all ∙ sym p.all

-- a text goes wrong in one way if it goes wrong in one way after each line
pub one_wrong : {A : Type 0} (line_of : A → Text) (Good : A → Type 0) (Wrong : A → Text → ℕ → Type 0) → AreForms line_of Good
    → ((a : A) (t : Text) (l m : ℕ) → Good a → Wrong a t l → Wrong a t m → l ≡ m)
    → (text : Text) (l m : ℕ) → IsWrongFrom line_of Good Wrong text l → IsWrongFrom line_of Good Wrong text m → l ≡ m
one_wrong line_of Good Wrong forms after text l m (inl w) (inl v) = one_wrong_line line_of Good text l m w v
one_wrong line_of Good Wrong forms after text l m (inl w) (inr v) = absurd (no_wrong_line line_of Good forms text v.value v.rest l v.begins w)
one_wrong line_of Good Wrong forms after text l m (inr w) y =
    after w.value w.rest l m w.begins.good w.wrong (wrong_after line_of Good Wrong forms text w.value w.rest m w.begins y)
