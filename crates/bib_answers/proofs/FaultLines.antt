-- The lines of faults of reading, and which faults those are.
use Rattle.bib_answers.proofs.Words.{◌≡◌, ◌≢◌, ◌<◌, ◌≤◌, ◌+◌, ℕ, true, false, List, [], ◌∷◌, ◌==◌, sym, ap, ap₂, ◌∙◌, append-nil, flat_map, flat_map_more, length, take, take_more, get_or, map, Text, IsReadFault, answer_of}
use Rattle.std.proofs.Common.{inl, inr, refl, nat_lt, arith, zero-add, ◌++◌}
use Rattle.std.proofs.lemmas.Bool.{ltb-true, ltb-false, false≢true}
use Rattle.bib_spec.specs.Bytes.{file_limit}
use Rattle.bib_spec.specs.Reading.{HasReading}
use Rattle.bib_spec.specs.Fault.{too_long, no_reading as unread, no_memory as no_memory_left}
use Rattle.bib_scan.specs.declared.fault.ReadFault.{ReadFault}
use Rattle.bib_store.specs.Readings.{IsOpenFault}
use Rattle.bib_faults.specs.GoingOn.{Fault}
use Rattle.bib_faults.specs.Told.{told}
use Rattle.bib_answers.specs.Positions.{position_of}
use Rattle.bib_answers.specs.Lint.{error_line, fault_line, fault_lines, IsFaultAnswer, IsLintAnswer, reading, other, faulty, refused}
use Rattle.bib_answers.specs.declared.answers.Answer.{Answer}
use Rattle.bib_shelf.specs.Joined.{AreJoined}
use Rattle.aux_text.specs.declared.placing.AuxKeys.{AuxKeys}

-- the line of a fault as it is reported
abbrev pub told_line : Text → Text → ReadFault → Text
told_line name file fault = error_line name (position_of file fault.place) fault.kind

-- the lines of one fault
pub one_line : (name file : Text) (fault : ReadFault) → answer_of (flat_map (told_line name file) (fault ∷ [])) [] 1 ≡ answer_of (told_line name file fault) [] 1
one_line name file fault = ap (λ (t : Text). answer_of t [] 1) (append-nil (told_line name file fault))

lines_told : (name file : Text) (faults : List Fault) → flat_map (told_line name file) (map told faults) ≡ fault_lines name file faults
lines_told name file [] = refl
lines_told name file (fault ∷ faults) = ap (λ (t : Text). fault_line name file fault ++ t) (lines_told name file faults)

-- the lines of all faults
pub all_lines : (name file : Text) (faults : List Fault) (list : List ReadFault) → list ≡ map told faults
    → answer_of (flat_map (told_line name file) list) [] 1 ≡ answer_of (fault_lines name file faults) [] 1
all_lines name file faults list is = ap (λ (l : List ReadFault). answer_of (flat_map (told_line name file) l) [] 1) is ∙ ap (λ (t : Text). answer_of t [] 1) (lines_told name file faults)

pub no_memory : (kind : ℕ) → (kind == 10) ≡ false → kind ≢ 10
no_memory kind is_not e = false≢true (sym is_not ∙ ap (λ k. k == 10) e)

pub past_reading : (kind : ℕ) → nat_lt 7 kind ≡ true → 7 < kind
past_reading kind h = ltb-true 7 kind h

-- a file that is not opened for a fault of reading has no reading
pub no_reading : (file : Text) (kind place : ℕ) → (kind == 10) ≡ false → nat_lt 7 kind ≡ false → IsOpenFault file kind place → HasReading file → ⊥
no_reading file kind place is_not low (inl fault) = of_read kind place fault is_not low
  where
    of_read : (k p : ℕ) → IsReadFault file k p → (k == 10) ≡ false → nat_lt 7 k ≡ false → HasReading file → ⊥
    of_read k p (too_long long) is_not low reads = let at_most = ltb-false 7 9 low in omega (arith, at_most)
    of_read k p (unread fault place short failing kind_is) is_not low reads = failing.fails reads
    of_read k p (no_memory_left short) is_not low reads = false≢true (sym is_not)
no_reading file kind place is_not low (inr fault) = let at_most = ltb-false 7 kind low in let is = fault.number in absurd (omega (arith, at_most, is))

-- and is not too long
pub short_file : (file : Text) (kind place : ℕ) → (kind == 10) ≡ false → nat_lt 7 kind ≡ false → IsOpenFault file kind place → length file ≤ file_limit
short_file file kind place is_not low (inl fault) = of_read kind place fault low
  where
    of_read : (k p : ℕ) → IsReadFault file k p → nat_lt 7 k ≡ false → length file ≤ file_limit
    of_read k p (too_long long) low = let at_most = ltb-false 7 9 low in absurd (omega (arith, at_most))
    of_read k p (unread fault place short failing kind_is) low = short
    of_read k p (no_memory_left short) low = short
short_file file kind place is_not low (inr fault) = fault.short

-- what is answered to a file that is not opened for a fault
pub fault_answer : (ignored : List Text) (cited : List AuxKeys) (name file : Text) (fault : ReadFault) (answer : Answer) → (fault.kind == 10) ≡ false → IsOpenFault file fault.kind fault.place
    → IsFaultAnswer name file fault.kind fault.place answer → IsLintAnswer ignored cited name file answer
fault_answer ignored cited name file fault answer told why (reading low faults are is) =
    faulty (short_file file fault.kind fault.place told low why) (no_reading file fault.kind fault.place told low why) faults are is
fault_answer ignored cited name file fault answer told why (other past is) = refused fault.kind fault.place (no_memory fault.kind told) past why is

-- one file in a text
pub alone_joined : (file : Text) → AreJoined (file ∷ []) (record { text = file; spans = (0, length file) ∷ [] })
alone_joined file = record { text = refl; spans = ap (λ n. let span : ℕ × ℕ = (0, n) in span ∷ []) (sym (zero-add (length file))) }

-- ---- lines that are added one after another

-- the line of the next of some faults
pub told_more : (name file : Text) (faults : List ReadFault) (n : ℕ) (d : ReadFault) (lines next line : Text) → n < length faults → lines ≡ flat_map (told_line name file) (take n faults)
    → line ≡ told_line name file (get_or faults n d) → next ≡ lines ++ line → next ≡ flat_map (told_line name file) (take (n + 1) faults)
told_more name file faults n d lines next line within before is more =
    more
    ∙ ap₂ (λ (a b : Text). a ++ b) before is
    ∙ flat_map_more (told_line name file) [] (take n faults) (get_or faults n d)
    ∙ ap (λ (l : List ReadFault). flat_map (told_line name file) l) (sym (take_more faults n d within))
