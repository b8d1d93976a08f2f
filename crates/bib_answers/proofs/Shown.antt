-- An entry as `show` writes it.
use Rattle.bib_answers.proofs.Words.{◌≡◌, ℕ, List, ◌++◌, Option, Some, None, refl, sym, subst, IfSome, Text, EntryTexts, Record, entries_of, parent, expanded, OfReading, key_at, shown_field}
use Rattle.bib_spec.specs.Records.{crossref}
use Rattle.bib_spec.proofs.Parents.{parent_within}
use Rattle.bib_store.specs.Readings.{IsEntryNumber}
use Rattle.bib_answers.specs.Show.{record_lines, parent_line, shown}

-- a parent is an entry
pub parent_number : (file : Text) (n : ℕ) (p : Option ℕ) → OfReading file (λ r. p ≡ parent (entries_of r) n) → IfSome p (IsEntryNumber file)
parent_number file n (Some m) is = λ r reads. parent_within (entries_of r) n m (sym (is r reads))
parent_number file n None is = tt

pub number_is : (file : Text) (p : Option ℕ) (m : ℕ) → p ≡ Some m → IfSome p (IsEntryNumber file) → IsEntryNumber file m
number_is file p m is within = subst (λ (o : Option ℕ). IfSome o (IsEntryNumber file)) is within

-- the line of a parent that has this key
pub parent_line_with : (entries : List EntryTexts) (p : Option ℕ) (m : ℕ) (key : Text) → p ≡ Some m → key ≡ key_at entries m → shown_field (crossref, key) ≡ parent_line entries p
parent_line_with entries p m key has named = rw (has, named) refl

pub shown_with : (depth : ℕ) (entries : List EntryTexts) (n : ℕ) (rec : Record) (p : Option ℕ) → expanded depth entries n ≡ Some rec → p ≡ parent entries n
    → record_lines rec ++ parent_line entries p ≡ shown depth entries n
shown_with depth entries n rec p is has = rw (is, has) refl
