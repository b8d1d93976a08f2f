-- Texts that are joined, piece by piece.
use Rattle.std.proofs.Common.{◌≡◌, ◌++◌, ◌∙◌, ap, append_assoc}
use Rattle.bib_spec.specs.Text.{Text}

-- one more piece
pub one-more : (out x y z a : Text) → x ≡ out ++ y → z ≡ x ++ a → z ≡ out ++ (y ++ a)
one-more out x y z a before next = next ∙ ap (λ t. t ++ a) before ∙ append_assoc out y a

-- five pieces
pub five : (out o1 o2 o3 o4 new a v b w d : Text) → o1 ≡ out ++ a → o2 ≡ o1 ++ v → o3 ≡ o2 ++ b → o4 ≡ o3 ++ w → new ≡ o4 ++ d → new ≡ out ++ ((((a ++ v) ++ b) ++ w) ++ d)
five out o1 o2 o3 o4 new a v b w d e1 e2 e3 e4 e5 =
    one-more out o4 (((a ++ v) ++ b) ++ w) new d (one-more out o3 ((a ++ v) ++ b) o4 w (one-more out o2 (a ++ v) o3 b (one-more out o1 a o2 v e1 e2) e3) e4) e5
