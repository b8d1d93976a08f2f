-- What replaces a window of a file.
use Rattle.bib_store.proofs.Words.{◌≡◌, ℕ, ◌+◌, ◌≤◌, ◌<◌, Bool, true, List, [], ◌++◌, length, take, sym, subst, ◌∙◌, ap, ap₂, arith, length-append, drop_all, flat_map, file_limit, Text, HasReading, Piece, Fit, applied, Window, all_moved_back, FitAfter, kept_bytes, file_of, IsWindow, Serve}
use Rattle.bib_store.proofs.Words.{front_before, bytes_before, bytes_within, bytes_after, fit-after}
use Rattle.std.proofs.lemmas.List.{append-nil}
use Rattle.bib_items.specs.declared.list.Item.{Item}
use Rattle.bib_store.specs.Windows.{IsWhole}
use Rattle.history_spec.proofs.Shifts.{applied-after, fit_after_nothing}
use Rattle.bib_store.proofs.WindowLaws.{file-around}

-- the window is the file, with nothing before it and nothing after it
pub record IsAll (front : Text) (items : List Item) (w : Window) : Type 0 where
  pub before : bytes_before w front items ≡ []
  pub within : bytes_within w front items ≡ file_of front items
  pub after : bytes_after w items ≡ []

nothing_before : (b : Bool) (n : ℕ) (front : Text) (items : List Item) → b ≡ true → n ≡ 0 → front_before b front ++ flat_map kept_bytes (take n items) ≡ []
nothing_before b n front items e z = ap (λ x. front_before x front ++ flat_map kept_bytes (take n items)) e ∙ ap (λ m. flat_map kept_bytes (take m items)) z

pub whole_is_all : (w : Window) (front : Text) (items : List Item) → IsWindow items w → IsWhole items w → IsAll front items w
whole_is_all w front items is whole =
    let before : bytes_before w front items ≡ [] = nothing_before w.with_front w.from front items whole.with_front (is.begins whole.with_front) in
    let after : bytes_after w items ≡ [] = ap (flat_map kept_bytes) (drop_all w.to items (omega (arith, whole.to))) in
    record {
      before = before;
      within =
          sym (append-nil (bytes_within w front items))
          ∙ sym (ap₂ (λ x y. x ++ (bytes_within w front items ++ y)) before after)
          ∙ sym (file-around w front items is);
      after = after;
    }

-- ---- pieces in a window

pub not_served : (ps : List Piece) (front : Text) (items : List Item) (w : Window) (place : ℕ) (old : Text) → IsWindow items w → IsWhole items w
    → place ≡ length (bytes_before w front items) → old ≡ bytes_within w front items → (FitAfter place ps old → ⊥) → Serve ps (file_of front items) → ⊥
not_served ps front items w place old is whole p o unfit s =
    let all : IsAll front items w = whole_is_all w front items is whole in
    let zero_place : place ≡ 0 = p ∙ ap length all.before in
    let file : old ≡ file_of front items = o ∙ all.within in
    unfit (subst (λ (n : ℕ). FitAfter n ps old) (sym zero_place) (subst (λ (t : Text). FitAfter 0 ps t) (sym file) (fit_after_nothing ps (file_of front items) s.fit)))

-- pieces that fit the window fit the file, and lead to one in which the window's new text stands
pub record IsMade (ps : List Piece) (front : Text) (items : List Item) (w : Window) (text : Text) : Type 0 where
  pub fit : Fit ps (file_of front items)
  pub made : applied ps (file_of front items) ≡ bytes_before w front items ++ (text ++ bytes_after w items)
  pub long : length (applied ps (file_of front items)) ≡ length (bytes_before w front items) + (length text + length (bytes_after w items))

pub window_made : (ps : List Piece) (front : Text) (items : List Item) (w : Window) (place : ℕ) (old text : Text) → IsWindow items w
    → place ≡ length (bytes_before w front items) → old ≡ bytes_within w front items → FitAfter place ps old → text ≡ applied (all_moved_back place ps) old
    → IsMade ps front items w text
window_made ps front items w place old text is p o f t =
    let before : Text = bytes_before w front items in
    let after : Text = bytes_after w items in
    let around : file_of front items ≡ before ++ (old ++ after) = file-around w front items is ∙ ap (λ l. before ++ (l ++ after)) (sym o) in
    let made : applied ps (file_of front items) ≡ before ++ (text ++ after)
    = ap (applied ps) around ∙ applied-after before old after place ps (sym p) f ∙ ap (λ l. before ++ (l ++ after)) (sym t) in
    record {
      fit = subst (λ (x : Text). Fit ps x) (sym around) (fit-after before old after place ps (sym p) f);
      made = made;
      long = ap length made ∙ length-append before (text ++ after) ∙ ap (λ n. length before + n) (length-append text after);
    }

pub too_long_made : (ps : List Piece) (front : Text) (items : List Item) (w : Window) (place : ℕ) (text : Text) (after : ℕ) → IsMade ps front items w text
    → place ≡ length (bytes_before w front items) → after ≡ length (bytes_after w items) → file_limit < place + length text + after → Serve ps (file_of front items) → ⊥
too_long_made ps front items w place text after m p b h s = absurd (omega (arith, m.long, s.short))

-- if the window is the whole file, its new text is the new file
pub whole_made : (ps : List Piece) (front : Text) (items : List Item) (w : Window) (text : Text) → IsWindow items w → IsWhole items w → IsMade ps front items w text
    → applied ps (file_of front items) ≡ text
whole_made ps front items w text is whole m =
    let all : IsAll front items w = whole_is_all w front items is whole in
    m.made ∙ ap₂ (λ x y. x ++ (text ++ y)) all.before all.after ∙ append-nil text

pub unread_made : (ps : List Piece) (front : Text) (items : List Item) (w : Window) (text : Text) → IsWindow items w → IsWhole items w → IsMade ps front items w text
    → (w.with_front ≡ true → length text ≤ file_limit → HasReading text → ⊥) → Serve ps (file_of front items) → ⊥
unread_made ps front items w text is whole m unread s =
    let same : applied ps (file_of front items) ≡ text = whole_made ps front items w text is whole m in
    unread whole.with_front (subst (λ (t : Text). length t ≤ file_limit) same s.short) (subst (λ (t : Text). HasReading t) same s.reads)

-- pieces that fit the window fit the file, also if the bytes of the window are lent twice
pub lent_made : (ps : List Piece) (front : Text) (items : List Item) (w : Window) (place : ℕ) (old first second text : Text) → IsWindow items w
    → place ≡ length (bytes_before w front items) → old ≡ bytes_within w front items → first ≡ old → FitAfter place ps first → second ≡ old → text ≡ applied (all_moved_back place ps) second
    → IsMade ps front items w text
lent_made ps front items w place old first second text is p o e f d t =
    window_made ps front items w place old text is p o (subst (λ (x : Text). FitAfter place ps x) e f) (t ∙ ap (applied (all_moved_back place ps)) d)

-- the window begins within the file
pub len-around : (w : Window) (front : Text) (items : List Item) → IsWindow items w
    → length (file_of front items) ≡ length (bytes_before w front items) + (length (bytes_within w front items) + length (bytes_after w items))
len-around w front items is =
    ap length (file-around w front items is)
    ∙ length-append (bytes_before w front items) (bytes_within w front items ++ bytes_after w items)
    ∙ ap (λ n. length (bytes_before w front items) + n) (length-append (bytes_within w front items) (bytes_after w items))
