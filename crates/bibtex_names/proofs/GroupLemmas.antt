-- The length of the group at the front of a text.
use Rattle.bib_names.proofs.Words.{◌≡◌, ℕ, ◌+◌, ◌≤◌, ◌<◌, true, length, sym, ap, arith, Text, is_level}
use Rattle.std.specs.Prelude.{not}
use Rattle.bib_names.proofs.PlaceLemmas.{run_to_end}
use Rattle.bib_names.proofs.SpecialLemmas.{NoneLevel, group_found}
use Rattle.bibtex_names.specs.Letters.{group_len}

-- the group is closed
pub group_closed : (text : Text) (last : ℕ) → last < length text → NoneLevel text 0 last → is_level text (last + 1) ≡ true → last + 1 ≡ group_len text
group_closed text last high none level = (group_found text 0 last (omega arith) high none level).is

-- it is not closed
pub group_open : (text : Text) (last : ℕ) → 0 < length text → length text ≤ last → NoneLevel text 0 last → length text ≡ group_len text
group_open text last some end none =
    sym (run_to_end (λ p. not (is_level text p)) (0 + 1) (length text) (omega arith) (λ p low high. ap not (none p (omega arith) (omega arith))))
