-- Steps of the reader of rows, for the place of the first row named `crossref`; and of the reader of a file, for its notes.
use Rattle.bib_scan.proofs.Words.{◌≡◌, ℕ, zero, suc, ◌-◌, ◌<◌, ◌≤◌, Bool, true, false, List, [], ◌∷◌, ◌++◌, length, map, take, drop, append_assoc, refl, sym, ap, subst, ◌∙◌, arith, Option, None, Some, Ok, inl, inr, length-append, length-drop, drop_at, take-append-drop, cond-true, cond-false, find}
use Rattle.bib_scan.proofs.Words.{option_map_or, prefix_len, name_limit, Text, is_space, is_type_byte, same, after_run, begins_command, Delimiter, close_byte, tree_bytes, crossref, Assigned, read_comma, past_byte, read_assignment, read_command, next_command, Field, first_field, all_fields_left}
use Rattle.bib_scan.proofs.Words.{read_head, kind_named, read_opening, is_crossref, left_of_crossref, crossref_left, head_after, read_entry_head, note_from, read_note, note_at, Span, EntryHead, Note, Kind, Next, NotedOn}
use Rattle.std.proofs.Common.{IfSome}
use Rattle.std.proofs.lemmas.List.{map-append}
use Rattle.bib_scan.specs.FieldsLeft.{field_in}
use Rattle.bib_scan.specs.declared.view.Kind.TheVariants as kind
use Rattle.bib_scan.proofs.CleanLaws.{next_found}
use Rattle.bib_scan.proofs.CommandLaws.{command_ok}
use Rattle.bib_scan.proofs.TreeAgainLaws.{closes}
use Rattle.bib_scan.proofs.RowLaws.{closed_ok}
use Rattle.bib_scan.proofs.FieldLaws.{no_assignment, no_field}
use Rattle.bib_scan.proofs.StepLaws.{field_last, field_step}

-- the first of two numbers that is not 0
abbrev first_of : ℕ → ℕ → ℕ
first_of zero later = later
first_of (suc n) later = suc n

first_kept : (n a b : ℕ) → 0 < n → first_of n a ≡ first_of n b
first_kept zero a b some = absurd (omega arith)
first_kept (suc n) a b some = refl

first_is : (n later : ℕ) → 0 < n → first_of n later ≡ n
first_is zero later some = absurd (omega arith)
first_is (suc n) later some = refl

first_alone : (n : ℕ) → first_of n 0 ≡ n
first_alone zero = refl
first_alone (suc n) = refl

-- the number of bytes of `t` left from its first row named `crossref` on: the row is before `rest`, as `seen` says, or in
-- it
pub record CrossrefOn (t rest : Text) (seen : ℕ) : Type 0 where
  pub left : crossref_left t ≡ first_of seen (left_of_crossref (length t) (all_fields_left kind.Entry (length t) rest))
  pub within : seen ≤ length t

pub crossref_start : (t : Text) → CrossrefOn t t 0
crossref_start t = record { left = refl; within = omega arith }

-- a field with the name, and a field without it
named_here : (total : ℕ) (f : Field) (fields : List Field) → is_crossref f ≡ true → left_of_crossref total (f ∷ fields) ≡ total - f.start
named_here total f fields is = ap (λ (o : Option Field). option_map_or (λ (g : Field). total - g.start) o 0) (cond-true (is_crossref f) (Some f) (find is_crossref fields) is)

named_later : (total : ℕ) (f : Field) (fields : List Field) → is_crossref f ≡ false → left_of_crossref total (f ∷ fields) ≡ left_of_crossref total fields
named_later total f fields is = ap (λ (o : Option Field). option_map_or (λ (g : Field). total - g.start) o 0) (cond-false (is_crossref f) (Some f) (find is_crossref fields) is)

-- the row at the front of rest
module _ (t rest u : Text) (x : Assigned × Text) (seen : ℕ) (on : CrossrefOn t rest seen) (fits : length rest ≤ length t)
    (comma : read_comma rest ≡ Ok u) (read : read_assignment name_limit (after_run is_space u) ≡ Ok x) (shorter : length x.1 < length rest) where
  abbrev row : Field
  row = field_in (length t) (length t - length rest) (after_run is_space u) x.0

  step : all_fields_left kind.Entry (length t) rest ≡ row ∷ all_fields_left kind.Entry (length t) x.1
  step =
      let found : first_field kind.Entry (length t) rest ≡ Some (row, x.1) = rw (comma, read) refl in
      field_step kind.Entry (length t) rest (row, x.1) found shorter

  -- a field with the name was seen before
  pub crossref_seen : 0 < seen → CrossrefOn t x.1 seen
  crossref_seen some = record { left = on.left ∙ first_kept seen _ _ some; within = on.within }

  -- this field does not have the name
  pub crossref_other : same x.0.name crossref ≡ false → CrossrefOn t x.1 seen
  crossref_other other = record {
    left = on.left ∙ ap (λ (fs : List Field). first_of seen (left_of_crossref (length t) fs)) step ∙ ap (first_of seen) (named_later (length t) row (all_fields_left kind.Entry (length t) x.1) other);
    within = on.within;
  }

  -- this field is the first with the name
  pub crossref_here : seen ≡ 0 → same x.0.name crossref ≡ true → CrossrefOn t x.1 (length rest)
  crossref_here none is =
      let back : length t - (length t - length rest) ≡ length rest = omega (arith, fits) in
      record {
        left = on.left ∙ ap (λ (n : ℕ). first_of n (left_of_crossref (length t) (all_fields_left kind.Entry (length t) rest))) none
            ∙ ap (left_of_crossref (length t)) step ∙ named_here (length t) row (all_fields_left kind.Entry (length t) x.1) is ∙ back ∙ sym (first_is (length rest) _ (omega (arith, shorter)));
        within = fits;
      }

last_row : (t rest : Text) (seen : ℕ) → CrossrefOn t rest seen → first_field kind.Entry (length t) rest ≡ None → seen ≡ crossref_left t
last_row t rest seen on none =
    sym (on.left ∙ ap (λ (fs : List Field). first_of seen (left_of_crossref (length t) fs)) (field_last kind.Entry (length t) rest none) ∙ first_alone seen)

-- the rows end with their closing delimiter
pub crossref_closed : (d : Delimiter) (t rest end : Text) (seen : ℕ) → CrossrefOn t rest seen → Some end ≡ past_byte (close_byte d) rest → seen ≡ crossref_left t
crossref_closed d t rest end seen on is =
    let c = close_byte d in
    let here : rest ≡ c ∷ end = closed_ok c rest end (sym is) in
    last_row t rest seen on (ap (first_field kind.Entry (length t)) here ∙ no_field (length t) c None end tt (closes d))

-- the rows end with a comma and the closing delimiter
pub crossref_tail : (d : Delimiter) (t rest u end : Text) (seen : ℕ) → CrossrefOn t rest seen → read_comma rest ≡ Ok u → Some end ≡ past_byte (close_byte d) (after_run is_space u) → seen ≡ crossref_left t
crossref_tail d t rest u end seen on comma is =
    let c = close_byte d in
    let here : after_run is_space u ≡ c ∷ end = closed_ok c _ end (sym is) in
    let none : first_field kind.Entry (length t) rest ≡ None = rw (comma, here) (no_assignment (length t) _ c end (closes d)) in
    last_row t rest seen on none

-- ---- heads

run_within : (test : ℕ → Bool) (t : Text) → length (after_run test t) ≤ length t
run_within test t = omega (arith, length-drop (prefix_len test t) t)

rest_of_head : (t : Text) → length (read_head t).1 ≤ length t
rest_of_head [] = omega arith
rest_of_head (b ∷ t) = omega (arith, run_within is_space t, run_within is_type_byte (after_run is_space t))

rest_of_opening : (t : Text) → length (read_opening t).1 ≤ length t
rest_of_opening [] = omega arith
rest_of_opening (b ∷ t) = omega (arith, run_within is_space t)

head_within : (k : Kind) (opened : Delimiter × Text) (n : ℕ) → length opened.1 ≤ n → IfSome (head_after k opened) (λ h. h.key_left ≤ n)
head_within kind.Entry opened n le = le
head_within kind.Macro opened n le = tt
head_within kind.Preamble opened n le = tt
head_within kind.Comment opened n le = tt

-- an entry's key lies in the text that it begins
pub key_within : (t : Text) (o : Option EntryHead) → o ≡ read_entry_head t → IfSome o (λ h. h.key_left ≤ length t)
key_within t o is =
    let head = read_head t in
    let inside : Text = after_run is_space head.1 in
    let within = head_within (kind_named head.0) (read_opening inside) (length t) (omega (arith, rest_of_opening inside, run_within is_space head.1, rest_of_head t)) in
    subst (λ (p : Option EntryHead). IfSome p (λ h. h.key_left ≤ length t)) (sym is) within

-- ---- the notes of a file

pub noted_start : (file rest : Text) (spans : List Span) (notes : List Note) → rest ≡ drop (next_command file) file → spans ≡ [] → notes ≡ [] → NotedOn file rest spans notes
noted_start file rest spans notes is no_spans no_notes = record {
  front = take (next_command file) file;
  split = sym (take-append-drop (next_command file) file) ∙ ap (λ (u : Text). take (next_command file) file ++ u) (sym is);
  next = subst Next (sym is) (next_found file).next;
  notes_are = no_notes ∙ sym (ap (map (note_at file)) no_spans);
}

-- one more item: its span and its note
pub noted_more : (file rest after next : Text) (spans : List Span) (notes : List Note) (s : Span) (n : Note) (o : Option EntryHead) → NotedOn file rest spans notes → 0 < length rest → read_command name_limit rest ≡ Ok after →
    next ≡ drop (next_command after) after → s.start ≡ length file - length rest → o ≡ read_entry_head rest → n ≡ note_from (length rest) o → NotedOn file next (spans ++ s ∷ []) (notes ++ n ∷ [])
noted_more file rest after next spans notes s n o on some read next_is start head is =
    let here : begins_command rest ≡ true = elim on.next [ inl none ↦ absurd (omega (arith, ap (length {A = ℕ}) none)) | inr it ↦ it ] in
    let tree = command_ok name_limit rest after here read in
    let trail : Text = take (next_command after) after in
    let parted : after ≡ trail ++ next = sym (take-append-drop (next_command after) after) ∙ ap (λ (u : Text). trail ++ u) (sym next_is) in
    let at : length on.front ≡ s.start = omega (arith, start, ap (length {A = ℕ}) on.split, length-append on.front rest) in
    let begins : rest ≡ drop s.start file = sym (ap (drop s.start) on.split ∙ drop_at on.front rest s.start at) in
    let noted : n ≡ note_at file s = is ∙ ap (note_from (length rest)) head ∙ ap read_note begins in
    record {
      front = on.front ++ (tree_bytes tree.0 ++ trail);
      split = on.split ∙ ap (λ (u : Text). on.front ++ u) (tree.2 ∙ ap (λ (u : Text). tree_bytes tree.0 ++ u) parted ∙ sym (append_assoc (tree_bytes tree.0) trail next)) ∙ sym (append_assoc on.front (tree_bytes tree.0 ++ trail) next);
      next = subst Next (sym next_is) (next_found after).next;
      notes_are = ap (λ (ns : List Note). ns ++ n ∷ []) on.notes_are ∙ ap (λ (m : Note). map (note_at file) spans ++ m ∷ []) noted ∙ sym (map-append (note_at file) spans (s ∷ []));
    }
