-- What is known of the files of a shelf once each was read by itself.
use Rattle.std.proofs.Common.{◌≡◌, ◌≢◌, ℕ, zero, suc, ◌+◌, ◌-◌, ◌<◌, ◌≤◌, ◌==◌, Bool, false, inl, inr, List, [], ◌∷◌, ◌++◌, Some, slice_get, get_or, length, take, drop, refl, sym, ◌∙◌, ap, ap₂, subst, ⊎_elim, arith, zero-add, append_assoc, length-append, not-suc-le-zero}
use Rattle.std.proofs.lemmas.Bool.{cases_lt, false≢true}
use Rattle.std.proofs.lemmas.Option.{none-some, same_Some, slice_get_within, slice_get-get_or}
use Rattle.std.proofs.lemmas.List.{append-nil}
use Rattle.std.proofs.lemmas.List.Elements.{All-nil}
use Rattle.std.proofs.Math.Seq.{drop-append_seam, take-append_seam}
use Rattle.bib_spec.specs.Bytes.{name_limit, file_limit}
use Rattle.bib_spec.specs.Text.{Text}
use Rattle.bib_spec.specs.Reading.{Reading, HasReading, IsItem}
use Rattle.bib_spec.specs.Fault.{IsReadFault, too_long, no_reading as unread, no_memory as no_memory_left}
use Rattle.bib_scan.proofs.CleanLaws.{clean_nil}
use Rattle.bib_store.specs.Readings.{IsOpenFault, IsTextFault}
use Rattle.shelf_spec.specs.Shelf.{seam, shelf_text, on_shelf, AllRead}
use Rattle.shelf_spec.specs.Numbers.{first_place}
use Rattle.shelf_spec.proofs.ShelfReads.{shelf-reads}
use Rattle.bib_shelf.specs.declared.joining.Joined.{Joined}
use Rattle.bib_shelf.specs.Joined.{text_of, spans_from, located_in, AreJoined}
use Rattle.bib_spec.specs.Texts.{IsOpenable}
use Rattle.bib_shelf.specs.Faults.{HasItsPlace, HaveTheirPlaces, AreAccepted, RefusesShelf, text_too_long, too_long as shelf_too_long}

-- ---- the bytes of a file

-- file i: its text, where it lies, and that its bytes lie there, if this many bytes come before the first file
pub record IsFile (files : List Text) (at i : ℕ) (s : ℕ × ℕ) : Type 0 where
  pub its : Text
  pub at_i : slice_get files i ≡ Some its
  pub span : s ≡ (at + first_place i files, (at + first_place i files) + length its)
  pub within : (at + first_place i files) + length its ≤ at + length (text_of files)
  pub bytes : (before : Text) → length before ≡ at → (rest : Text) × (drop (at + first_place i files) (before ++ text_of files) ≡ its ++ rest)

file_after : (file next : Text) (more : List Text) (at i : ℕ) (s : ℕ × ℕ) → IsFile (next ∷ more) ((at + length file) + length seam) i s → IsFile (file ∷ (next ∷ more)) at (suc i) s
file_after file next more at i s it = record {
  its = it.its;
  at_i = it.at_i;
  span = it.span ∙ ap (λ n. let q : ℕ × ℕ = (n, n + length it.its) in q) (place (length file) (length seam) (first_place i (next ∷ more)));
  within = within (length file) (length seam) (first_place i (next ∷ more)) (length it.its) (length (shelf_text next more)) (length (file ++ (seam ++ shelf_text next more))) it.within
      (length-append file (seam ++ shelf_text next more) ∙ ap (λ n. length file + n) (length-append seam (shelf_text next more)));
  bytes = λ before len.
      let found = it.bytes ((before ++ file) ++ seam) (length-append (before ++ file) seam ∙ ap (λ n. n + length seam) (length-append before file ∙ ap (λ n. n + length file) len)) in (
        found.0,
        ap (λ n. drop n (before ++ shelf_text file (next ∷ more))) (sym (place (length file) (length seam) (first_place i (next ∷ more))))
            ∙ ap (drop (((at + length file) + length seam) + first_place i (next ∷ more))) (sym (append_assoc (before ++ file) seam (shelf_text next more) ∙ append_assoc before file (seam ++ shelf_text next more)))
            ∙ found.1,
      );
}
  where
    place : (a b c : ℕ) → ((at + a) + b) + c ≡ at + ((a + b) + c)
    place a b c = omega arith

    within : (a b c d e n : ℕ) → (((at + a) + b) + c) + d ≤ ((at + a) + b) + e → n ≡ a + (b + e) → (at + ((a + b) + c)) + d ≤ at + n
    within a b c d e n h g = omega arith

pub file_of_span : (files : List Text) (at i : ℕ) (s : ℕ × ℕ) → slice_get (spans_from at files) i ≡ Some s → IsFile files at i s
file_of_span [] at i s e = absurd (none-some s e)
file_of_span (file ∷ files) at zero s e = subst (IsFile (file ∷ files) at zero) (same_Some (at, at + length file) s e) (record {
  its = file;
  at_i = refl;
  span = ap (λ n. let q : ℕ × ℕ = (n, n + length file) in q) (sym (add-zero at));
  within = begins files;
  bytes = λ before len. first files before len;
})
  where
    add-zero : (n : ℕ) → n + 0 ≡ n
    add-zero n = omega arith

    begins : (files : List Text) → (at + 0) + length file ≤ at + length (shelf_text file files)
    begins [] = omega arith
    begins (next ∷ more) = longer (length (file ++ (seam ++ shelf_text next more))) (length file) (length (seam ++ shelf_text next more)) (length-append file (seam ++ shelf_text next more))
      where
        longer : (n a b : ℕ) → n ≡ a + b → (at + 0) + a ≤ at + n
        longer n a b h = omega arith

    first : (files : List Text) (before : Text) → length before ≡ at → (rest : Text) × (drop (at + 0) (before ++ shelf_text file files) ≡ file ++ rest)
    first [] before len = ([], ap (λ n. drop n (before ++ file)) (add-zero at ∙ sym len) ∙ drop-append_seam before file ∙ sym (append-nil file))
    first (next ∷ more) before len = (seam ++ shelf_text next more, ap (λ n. drop n (before ++ shelf_text file (next ∷ more))) (add-zero at ∙ sym len) ∙ drop-append_seam before (shelf_text file (next ∷ more)))
file_of_span (file ∷ []) at (suc i) s e = absurd (none-some s e)
file_of_span (file ∷ (next ∷ more)) at (suc i) s e = file_after file next more at i s (file_of_span (next ∷ more) ((at + length file) + length seam) i s e)

-- what is known of file i of a joined text
pub file_known : (files : List Text) (joined : Joined) (spans : List (ℕ × ℕ)) (i : ℕ) → AreJoined files joined → spans ≡ joined.spans → i < length joined.spans →
    IsFile files 0 i (get_or spans i (0, 0))
file_known files joined spans i are is h =
    file_of_span files 0 i (get_or spans i (0, 0)) (ap (λ l. slice_get l i) (sym (is ∙ are.spans)) ∙ slice_get-get_or spans i (0, 0) (subst (λ l. i < length l) (sym is) h))

pub begins_first : (files : List Text) (at i : ℕ) (s : ℕ × ℕ) → IsFile files at i s → s.0 ≤ s.1
begins_first files at i s it = order (at + first_place i files) (length it.its) (ap (λ p. p.0) it.span) (ap (λ p. p.1) it.span)
  where
    order : (a b : ℕ) → s.0 ≡ a → s.1 ≡ a + b → s.0 ≤ s.1
    order a b h g = omega arith

pub ends_within : (files : List Text) (joined : Joined) (text : Text) (i : ℕ) (s : ℕ × ℕ) → AreJoined files joined → text ≡ joined.text → IsFile files 0 i s → s.1 ≤ length text
ends_within files joined text i s are is it =
    subst (λ t. s.1 ≤ length t) (sym (is ∙ are.text)) (order ((0 + first_place i files) + length it.its) (length (text_of files)) (ap (λ p. p.1) it.span) it.within)
  where
    order : (a b : ℕ) → s.1 ≡ a → a ≤ 0 + b → s.1 ≤ b
    order a b h g = omega arith

-- its bytes
pub its_bytes : (files : List Text) (joined : Joined) (text : Text) (i : ℕ) (s : ℕ × ℕ) → AreJoined files joined → text ≡ joined.text → (it : IsFile files 0 i s) →
    take (s.1 - s.0) (drop s.0 text) ≡ it.its
its_bytes files joined text i s are is it =
    let found = it.bytes [] refl in
    ap₂ (λ n t. take n (drop s.0 t)) (len (0 + first_place i files) (length it.its) (ap (λ p. p.0) it.span) (ap (λ p. p.1) it.span)) (is ∙ are.text)
    ∙ ap (λ n. take (length it.its) (drop n (text_of files))) (ap (λ p. p.0) it.span)
    ∙ ap (take (length it.its)) found.1 ∙ take-append_seam it.its found.0
  where
    len : (a b : ℕ) → s.0 ≡ a → s.1 ≡ a + b → s.1 - s.0 ≡ b
    len a b h g = omega arith

pub starts_at : (files : List Text) (i : ℕ) (s : ℕ × ℕ) → (it : IsFile files 0 i s) → s.0 ≡ first_place i files
starts_at files i s it = ap (λ p. p.0) it.span ∙ zero-add (first_place i files)

pub ends_at : (files : List Text) (i : ℕ) (s : ℕ × ℕ) → (it : IsFile files 0 i s) → s.1 ≡ first_place i files + length it.its
ends_at files i s it = ap (λ p. p.1) it.span ∙ ap (λ n. n + length it.its) (zero-add (first_place i files))

pub file_short : (files : List Text) (i : ℕ) (s : ℕ × ℕ) → (it : IsFile files 0 i s) → s.1 ≤ file_limit → first_place i files + length it.its ≤ file_limit
file_short files i s it short = subst (λ n. n ≤ file_limit) (ends_at files i s it) short

-- file i ends past the limit
pub file_too_long : (files : List Text) (i : ℕ) (s : ℕ × ℕ) (place : ℕ) → IsFile files 0 i s → HaveTheirPlaces files i → file_limit < s.1 → place ≡ file_limit - s.0 → RefusesShelf files 9 place i
file_too_long files i s place it before long is =
    subst (λ p. RefusesShelf files 9 p i) (sym (is ∙ ap (λ n. file_limit - n) (starts_at files i s it)))
    (shelf_too_long i it.its it.at_i before (subst (λ n. file_limit < n) (ends_at files i s it) long))

-- file i has a reading
pub file_read : (files : List Text) (i : ℕ) (s : ℕ × ℕ) → (it : IsFile files 0 i s) → HaveTheirPlaces files i → s.1 ≤ file_limit → HasReading it.its → HaveTheirPlaces files (i + 1)
file_read files i s it before short reads j text h e = ⊎_elim (λ earlier. before j text earlier e) (λ later. here (same later)) (cases_lt j i)
  where
    same : i ≤ j → j ≡ i
    same later = omega (arith, h)

    here : j ≡ i → HasItsPlace files j text
    here same =
        let its = same_Some it.its text (sym it.at_i ∙ ap (slice_get files) (sym same) ∙ e) in
        subst (λ k. HasItsPlace files k text) (sym same) (subst (HasItsPlace files i) its (record { within = subst (λ n. n ≤ file_limit) (ends_at files i s it) short; reading = reads }))

-- ---- all files

-- readings of all files
pub all_read : (files : List Text) → ((j : ℕ) (text : Text) → slice_get files j ≡ Some text → HasReading text) → (dbs : List Reading) × AllRead files dbs
all_read [] each = ([], tt)
all_read (file ∷ files) each =
    let one = each 0 file refl in
    let rest = all_read files (λ j. each (suc j)) in
    (one.0 ∷ rest.0, (one.1, rest.1))

-- the text of the shelf has a reading
pub shelf_has_reading : (files : List Text) (dbs : List Reading) → AllRead files dbs → HasReading (text_of files)
shelf_has_reading [] dbs all = (record { front = []; items = [] }, record { bytes = refl; front = clean_nil; items = All-nil (IsItem name_limit) })
shelf_has_reading (file ∷ files) [] all = absurd all
shelf_has_reading (file ∷ files) (db ∷ dbs) all = (on_shelf db dbs, shelf-reads file db files dbs all.0 all.1)

-- the text of the shelf ends where its last file ends
shelf_within : (at : ℕ) (files : List Text) → at ≤ file_limit → ((j : ℕ) (text : Text) → slice_get files j ≡ Some text → (at + first_place j files) + length text ≤ file_limit) →
    at + length (text_of files) ≤ file_limit
shelf_within at [] h each = subst (λ n. n ≤ file_limit) (sym (add-zero at)) h
  where
    add-zero : (n : ℕ) → n + 0 ≡ n
    add-zero n = omega arith
shelf_within at (file ∷ []) h each = subst (λ n. n + length file ≤ file_limit) (add-zero at) (each 0 file refl)
  where
    add-zero : (n : ℕ) → n + 0 ≡ n
    add-zero n = omega arith
shelf_within at (file ∷ (next ∷ more)) h each =
    subst (λ n. n ≤ file_limit) (sym (whole))
    (shelf_within ((at + length file) + length seam) (next ∷ more) (begins (length file) (length seam) (length next) (each 1 next refl))
    (λ j text e. subst (λ n. n + length text ≤ file_limit) (place (length file) (length seam) (first_place j (next ∷ more))) (each (suc j) text e)))
  where
    place : (a b c : ℕ) → at + ((a + b) + c) ≡ ((at + a) + b) + c
    place a b c = omega arith

    begins : (a b c : ℕ) → (at + ((a + b) + 0)) + c ≤ file_limit → (at + a) + b ≤ file_limit
    begins a b c h = omega arith

    whole : at + length (file ++ (seam ++ shelf_text next more)) ≡ ((at + length file) + length seam) + length (shelf_text next more)
    whole = ap (λ n. at + n) (length-append file (seam ++ shelf_text next more) ∙ ap (λ n. length file + n) (length-append seam (shelf_text next more))) ∙ place₂ (length file) (length seam) (length (shelf_text next more))
      where
        place₂ : (a b c : ℕ) → at + (a + (b + c)) ≡ ((at + a) + b) + c
        place₂ a b c = omega arith

-- each file has its place
each_of : (files : List Text) → HaveTheirPlaces files (length files) → (j : ℕ) (text : Text) → slice_get files j ≡ Some text → HasItsPlace files j text
each_of files all j text e = all j text (slice_get_within files j text e) e

pub text_reads : (files : List Text) → HaveTheirPlaces files (length files) → HasReading (text_of files)
text_reads files all = let read = all_read files (λ j text e. (each_of files all j text e).reading) in shelf_has_reading files read.0 read.1

pub text_within : (files : List Text) → HaveTheirPlaces files (length files) → length (text_of files) ≤ file_limit
text_within files all =
    subst (λ n. n ≤ file_limit) (zero-add (length (text_of files)))
    (shelf_within 0 files (omega arith) (λ j text e. subst (λ n. n + length text ≤ file_limit) (sym (zero-add (first_place j files))) (each_of files all j text e).within))

-- why the text of a shelf is not opened, if each file has its place: memory ran out, or a raw text is too long
pub text_fault : (files : List Text) (kind place : ℕ) → HaveTheirPlaces files (length files) → kind ≢ 10 → IsOpenFault (text_of files) kind place →
    RefusesShelf files kind (located_in files place).1 (located_in files place).0
text_fault files kind place all memory (inl fault) = absurd (of_read kind place fault memory)
  where
    of_read : (k p : ℕ) → IsReadFault (text_of files) k p → k ≢ 10 → ⊥
    of_read k p (too_long long) other = let short = text_within files all in omega (arith, long, short)
    of_read k p (unread fault at short fails is) other = fails.fails (text_reads files all)
    of_read k p (no_memory_left short) other = other refl
text_fault files kind place all memory (inr fault) =
    subst (λ k. RefusesShelf files k (located_in files place).1 (located_in files place).0) (sym fault.number)
    (text_too_long place all (subst (λ k. IsTextFault (text_of files) k place) fault.number fault))

-- as many spans as files
pub count_spans : (at : ℕ) (files : List Text) → length (spans_from at files) ≡ length files
count_spans at [] = refl
count_spans at (file ∷ files) = ap suc (count_spans ((at + length file) + length seam) files)

-- ---- answers of the calls

-- the fault is not that memory ran out
pub not_memory : (kind : ℕ) (test : Bool) → test ≡ (kind == 10) → test ≡ false → kind ≢ 10
not_memory kind test is other e = false≢true (sym other ∙ is ∙ ap (λ k. k == 10) e)

-- no file is read yet
pub none_read : (files : List Text) → HaveTheirPlaces files 0
none_read files j text h e = absurd (not-suc-le-zero h)

-- all files are read
pub each_read : (files : List Text) (joined : Joined) (i : ℕ) → AreJoined files joined → i ≡ length joined.spans → HaveTheirPlaces files i → HaveTheirPlaces files (length files)
each_read files joined i are all read = subst (HaveTheirPlaces files) (all ∙ ap length are.spans ∙ count_spans 0 files) read

pub opened : (files : List Text) (joined : Joined) (text : Text) → AreJoined files joined → text ≡ joined.text → HaveTheirPlaces files (length files) → IsOpenable text → AreAccepted files
opened files joined text are is all opens = record { each = all; opens = subst IsOpenable (is ∙ are.text) opens }
