-- The digest of a file has the form of a digest.
use Rattle.bib_run.proofs.Words.{◌≡◌, ℕ, ◌++◌, List, [], true, sym, arith, refl, false≢true, Text, KeptSteps, Saved}
use Rattle.std.proofs.Common.{zero, suc, ◌∷◌, slice_index}
use Rattle.std.specs.Int.{w32, to_be_bytes}
use Rattle.sha2.specs.Sha256.{sha256, digest_bytes, final_hash, initial_hash_256}
use Rattle.journal_format.specs.Contents.{IsDigest, digest_of}
use Rattle.journal_format.specs.JournalText.{journal_text}
use Rattle.journal_format.proofs.DigestLemmas.{length-digest_of, hex_digits}
use Rattle.journal_format.proofs.Words.{IsBytes}
use Rattle.history_spec.specs.Steps.{IsSound}
use Rattle.bib_journal.specs.Loading.{contents_of}
use Rattle.bib_run.specs.Shown.{SavesUpTo}

both : (xs ys : List ℕ) → IsBytes xs → IsBytes ys → IsBytes (xs ++ ys)
both [] ys a b i = b i
both (x ∷ xs) ys a b zero = a zero
both (x ∷ xs) ys a b (suc i) = both xs ys (λ j. a (suc j)) b i

word_bytes : (n : ℕ) → IsBytes (to_be_bytes w32 n)
word_bytes n zero = omega arith
word_bytes n (suc zero) = omega arith
word_bytes n (suc (suc zero)) = omega arith
word_bytes n (suc (suc (suc zero))) = omega arith
word_bytes n (suc (suc (suc (suc i)))) = omega arith

bytes_of_words : (h : List ℕ) (n : ℕ) → IsBytes (digest_bytes h n)
unfolding digest_bytes
bytes_of_words h zero i = omega arith
bytes_of_words h (suc n) i = both (digest_bytes h n) (to_be_bytes w32 (slice_index h n)) (bytes_of_words h n) (word_bytes (slice_index h n)) i

pub is_digest : (file : Text) → IsDigest (digest_of file)
unfolding digest_of sha256
is_digest file = record { long = length-digest_of file; digits = hex_digits (sha256 file) (bytes_of_words (final_hash initial_hash_256 file) 8) }

-- the journal of a sound session can be made, also where it is not
pub file_saved : (kept : KeptSteps) (given : Saved) → IsSound kept → given.file ≡ kept.present → SavesUpTo true kept given
file_saved kept given sound file = record {
  saved = record { file = kept.present; journal = journal_text (contents_of kept) };
  saves = record { file = refl; journal = record { good = record { digest = is_digest kept.present; steps = sound.steps }; whole = refl } };
  file = file;
  journal = λ stored. absurd (false≢true (sym stored));
}
