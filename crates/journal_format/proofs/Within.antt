-- If a text goes wrong, at most as many bytes are left as it has.
use Rattle.journal_format.proofs.Words.{◌≡◌, ℕ, ◌+◌, ◌≤◌, zero, suc, ◌∷◌, ◌++◌, length, decimal, arith, ap, inl, inr, length-append, line_feed, Text, end_of, IsLabel, piece_text, IsDigest, version_line, IsKnown, counts_line, AreFew, IsSmall, numbers_line, AreNumbers, step_text_in, IsWrongFrom}
use Rattle.journal_format.proofs.Words.{HasWrongBytes, IsWrongPiece, AreWrongPieces, HasWrongPieces, IsWrongStep, AreWrongSteps, IsWrongTail, IsWrongFromCounts, IsWrongFromDigest, IsWrongJournal, Version, First, Second}

after_within : (front rest text : Text) (left : ℕ) → text ≡ front ++ rest → left ≤ length rest → left ≤ length text
after_within front rest text left whole h = omega (arith, ap length whole, length-append front rest)

from_within : {A : Type 0} (line_of : A → Text) (Good : A → Type 0) (Wrong : A → Text → ℕ → Type 0)
    → ((a : A) (t : Text) (l : ℕ) → Wrong a t l → l ≤ length t) → (text : Text) (left : ℕ) → IsWrongFrom line_of Good Wrong text left → left ≤ length text
from_within line_of Good Wrong after text left (inl (inl u)) = omega (arith, u.end)
from_within line_of Good Wrong after text left (inl (inr o)) = omega (arith, o.all)
from_within line_of Good Wrong after text left (inr w) =
    omega (arith, after w.value w.rest left w.wrong, ap length w.begins.whole, length-append (line_of w.value) (line_feed ∷ w.rest))

bytes_within : (n : ℕ) (text : Text) (left : ℕ) → HasWrongBytes n text left → left ≤ length text
bytes_within n text left (inl short) = omega (arith, short.end)
bytes_within n text left (inr lacks) = omega (arith, lacks.all)

piece_within : (from : ℕ) (text : Text) (left : ℕ) → IsWrongPiece from text left → left ≤ length text
piece_within from text left w = from_within numbers_line (AreNumbers from) (λ n. HasWrongBytes (n.old_len + n.new_len)) (λ n t l h. bytes_within (n.old_len + n.new_len) t l h) text left w

pieces_within : (n from : ℕ) (text : Text) (left : ℕ) → AreWrongPieces n from text left → left ≤ length text
pieces_within zero from text left w = absurd w
pieces_within (suc n) from text left (inl w) = piece_within from text left w
pieces_within (suc n) from text left (inr w) = after_within (piece_text w.0) w.1 text left w.2.whole (pieces_within n (end_of w.0) w.1 left w.3)

counted_within : (text : Text) (left : ℕ) → HasWrongPieces text left → left ≤ length text
counted_within text left w = from_within decimal IsSmall (λ n. AreWrongPieces n 0) (λ n t l h. pieces_within n 0 t l h) text left w

step_within : (version : Version) (text : Text) (left : ℕ) → IsWrongStep version text left → left ≤ length text
step_within First text left w = counted_within text left w
step_within Second text left w = from_within {A = Text} (λ label. label) IsLabel (λ label. HasWrongPieces) (λ label t l h. counted_within t l h) text left w

steps_within : (version : Version) (n : ℕ) (text : Text) (left : ℕ) → AreWrongSteps version n text left → left ≤ length text
steps_within version zero text left w = omega (arith, w.1)
steps_within version (suc n) text left (inl w) = step_within version text left w
steps_within version (suc n) text left (inr w) = after_within (step_text_in version w.0) w.1 text left w.2.whole (steps_within version n w.1 left w.3)

tail_within : (version : Version) (n : ℕ) (text : Text) (left : ℕ) → IsWrongTail version n text left → left ≤ length text
tail_within version n text left (inl long) = omega (arith, long.all)
tail_within version n text left (inr w) = steps_within version n text left w.wrong

counts_within : (version : Version) (text : Text) (left : ℕ) → IsWrongFromCounts version text left → left ≤ length text
counts_within version text left w =
    from_within counts_line AreFew (λ n. IsWrongTail version (n.undos + n.redos)) (λ n t l h. tail_within version (n.undos + n.redos) t l h) text left w

digest_within : (version : Version) (text : Text) (left : ℕ) → IsWrongFromDigest version text left → left ≤ length text
digest_within version text left w = from_within {A = Text} (λ digest. digest) IsDigest (λ digest. IsWrongFromCounts version) (λ d t l h. counts_within version t l h) text left w

pub journal_within : (text : Text) (left : ℕ) → IsWrongJournal text left → left ≤ length text
journal_within text left w = from_within version_line IsKnown IsWrongFromDigest (λ v t l h. digest_within v t l h) text left w
