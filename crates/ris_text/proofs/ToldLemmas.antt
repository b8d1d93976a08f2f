-- What lines say, line by line.
use Rattle.ris_text.proofs.Words.{◌≡◌, ℕ, ◌+◌, ◌≤◌, Bool, true, false, [], ◌∷◌, ◌++◌, length, refl, sym, ap, ◌∙◌, arith, append_assoc, if◌then◌else◌, Ok, Err, Text, is_empty, Class, Begin, End, Known, Other, Blank, Untagged, RisLine, RisFault, EmptyType, Line, is_untagged, joined}
use Rattle.ris_text.proofs.Words.{continuation, after_continuation, Outcome, Inside, inside, Told, told, told_inner, ris_line, ris_record, with_skipped, with_record, with_front, whole_record}
use Rattle.std.proofs.Common.{List}
use Rattle.ris_text.specs.Code.{told_by, record_told}

-- what lines say whose first has this class
pub told-class : (end : ℕ) (line : Line) (lines : List Line) (class : Class) → line.class ≡ class → told end (line ∷ lines) ≡ told_by line lines class (told end lines)
told-class end line lines class is = ap (λ (k : Class). told_by line lines k (told end lines)) is

-- ---- inside a record, the lines without a tag at the front say nothing by themselves

after-more : (end : ℕ) (line : Line) (lines : List Line) (class : Class) → line.class ≡ class
    → told_inner end (after_continuation lines) ≡ told_inner end lines → told_inner end (after_continuation (line ∷ lines)) ≡ told_inner end (line ∷ lines)
after-more end line lines Begin is rest = rw is refl
after-more end line lines End is rest = rw is refl
after-more end line lines (Known tag) is rest = rw is refl
after-more end line lines Other is rest = rw is refl
after-more end line lines Blank is rest = rw is rest
after-more end line lines Untagged is rest = rw is rest

pub told_inner-after : (end : ℕ) (lines : List Line) → told_inner end (after_continuation lines) ≡ told_inner end lines
told_inner-after end [] = refl
told_inner-after end (line ∷ lines) = after-more end line lines line.class refl (told_inner-after end lines)

pub length-after : (lines : List Line) → length (after_continuation lines) ≤ length lines
length-after [] = omega arith
length-after (line ∷ lines) = go (length-after lines) (is_untagged line.class) refl
  where
    go : length (after_continuation lines) ≤ length lines → (b : Bool) → is_untagged line.class ≡ b → length (after_continuation (line ∷ lines)) ≤ length (line ∷ lines)
    go rest true is = rw is (omega (arith, rest))
    go rest false is = rw is (omega arith)

-- ---- inside a record

-- what was kept, the `n` lines that were skipped, and what the rest says, are what all the lines say
pub record IsInside (end : ℕ) (kept : List RisLine) (skipped : ℕ) (all rest : List Line) : Type 0 where
  pub told : inside (kept ++ (told_inner end rest).kept) (skipped + (told_inner end rest).skipped) (told_inner end rest).after ≡ told_inner end all
  pub count : skipped + length rest ≤ length all

-- the lines kept and skipped, and what is after, where the rest of the lines says so
abbrev put_before : List RisLine → ℕ → Inside → Inside
put_before kept skipped i = inside (kept ++ i.kept) (skipped + i.skipped) i.after

-- a line that is kept, with those that continue it
pub IsInside-known : (end : ℕ) (kept kept' : List RisLine) (skipped : ℕ) (all rest after left : List Line) (line : Line) (tag value : Text) → IsInside end kept skipped all rest
    → rest ≡ line ∷ after → line.class ≡ Known tag → value ≡ joined line.text (continuation after) → left ≡ after_continuation after
    → kept' ≡ kept ++ ris_line tag value ∷ [] → IsInside end kept' skipped all left
IsInside-known end kept kept' skipped all rest after left line tag value so_far first known is next longer =
    let i : Inside = told_inner end after in
    let left_told : told_inner end left ≡ i = ap (told_inner end) next ∙ told_inner-after end after in
    let here : told_inner end rest ≡ inside (ris_line tag value ∷ i.kept) i.skipped i.after =
    ap (told_inner end) first ∙ ap (λ (t : Told). t.inside) (told-class end line after (Known tag) known)
    ∙ ap (λ (v : Text). inside (ris_line tag v ∷ i.kept) i.skipped i.after) (sym is) in
    record {
      told =
          ap (put_before kept' skipped) left_told
          ∙ ap (λ (ls : List RisLine). inside (ls ++ i.kept) (skipped + i.skipped) i.after) longer
          ∙ ap (λ (ls : List RisLine). inside ls (skipped + i.skipped) i.after) (append_assoc kept (ris_line tag value ∷ []) i.kept)
          ∙ ap (put_before kept skipped) (sym here) ∙ so_far.told;
      count = omega (arith, so_far.count, ap length first, ap length next, length-after after);
    }

-- ---- outside records

-- the `n` lines that were skipped, and what the rest says, are the whole outcome; skipped lines and rest are no more than all lines
pub record IsOutside (end skipped : ℕ) (whole : Outcome) (most : ℕ) (rest : List Line) : Type 0 where
  pub told : with_front [] skipped (told end rest).outside ≡ whole
  pub count : skipped + length rest ≤ most

-- ---- a record

empty_since : (t : Text) → length t ≡ 0 → is_empty t ≡ true
empty_since [] none = refl
empty_since (b ∷ t) none = absurd (omega (arith, none))

not_empty_since : (t : Text) → (length t ≡ 0 → ⊥) → is_empty t ≡ false
not_empty_since [] some = absurd (some refl)
not_empty_since (b ∷ t) some = refl

-- the type and what is inside the record, where its ER line comes
record_whole : (end : ℕ) (begin : Line) (lines inner : List Line) (kind_name : Text) (kept : List RisLine) (skipped : ℕ) (outcome : Outcome)
    → kind_name ≡ joined begin.text (continuation lines) → inner ≡ after_continuation lines → told_inner end inner ≡ inside kept skipped (Ok outcome)
    → record_told end begin lines ≡ (if is_empty kind_name then Err (EmptyType begin.place) else with_record (ris_record kind_name kept) (with_skipped skipped outcome))
record_whole end begin lines inner kind_name kept skipped outcome is next says =
    ap (λ (t : Text). whole_record begin.place t (told_inner end lines) (told_inner end lines).after) (sym is)
    ∙ ap (λ (i : Inside). whole_record begin.place kind_name i i.after) (sym (told_inner-after end lines) ∙ ap (told_inner end) (sym next) ∙ says)

-- a record that has a type
pub record_typed : (end : ℕ) (begin : Line) (lines inner : List Line) (kind_name : Text) (kept : List RisLine) (skipped : ℕ) (outcome : Outcome)
    → kind_name ≡ joined begin.text (continuation lines) → inner ≡ after_continuation lines → told_inner end inner ≡ inside kept skipped (Ok outcome)
    → (length kind_name ≡ 0 → ⊥) → record_told end begin lines ≡ with_record (ris_record kind_name kept) (with_skipped skipped outcome)
record_typed end begin lines inner kind_name kept skipped outcome is next says some =
    record_whole end begin lines inner kind_name kept skipped outcome is next says
    ∙ ap (λ e. if e then Err (EmptyType begin.place) else with_record (ris_record kind_name kept) (with_skipped skipped outcome)) (not_empty_since kind_name some)

-- one that has none
pub record_untyped : (end : ℕ) (begin : Line) (lines inner : List Line) (kind_name : Text) (kept : List RisLine) (skipped : ℕ) (outcome : Outcome)
    → kind_name ≡ joined begin.text (continuation lines) → inner ≡ after_continuation lines → told_inner end inner ≡ inside kept skipped (Ok outcome)
    → length kind_name ≡ 0 → record_told end begin lines ≡ Err (EmptyType begin.place)
record_untyped end begin lines inner kind_name kept skipped outcome is next says none =
    record_whole end begin lines inner kind_name kept skipped outcome is next says
    ∙ ap (λ e. if e then Err (EmptyType begin.place) else with_record (ris_record kind_name kept) (with_skipped skipped outcome)) (empty_since kind_name none)

-- where none comes
pub record_broken : (end : ℕ) (begin : Line) (lines inner : List Line) (fault : RisFault) → inner ≡ after_continuation lines → (told_inner end inner).after ≡ Err fault
    → record_told end begin lines ≡ Err fault
record_broken end begin lines inner fault next wrong =
    ap (whole_record begin.place (joined begin.text (continuation lines)) (told_inner end lines))
    (ap (λ (i : Inside). i.after) (sym (told_inner-after end lines) ∙ ap (told_inner end) (sym next)) ∙ wrong)
