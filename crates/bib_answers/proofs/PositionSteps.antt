-- Positions, from one place to a later one.
use Rattle.bib_answers.proofs.Words.{⊎_elim, ◌≡◌, ◌∙◌, ℕ, zero, suc, ◌+◌, ◌-◌, ◌≤◌, ◌<◌, ◌^◌, ◌==◌, false, [], ◌∷◌, length, take, drop, get_or, fold, min, sym, ap, subst, cases_Bool, cond-true, cond-false, take_all, take_more, Text, Position, position, position_after, is_line_feed, IsKnown}
use Rattle.std.proofs.Common.{count_by, add-one, arith, le_refl}
use Rattle.std.proofs.lemmas.List.{length-take, take_min, length-drop}
use Rattle.std.proofs.lemmas.List.Sums.{fold-append, count_by_more_yes, count_by_more_no}
use Rattle.std.proofs.Math.Seq.{take-add}
use Rattle.memchr.specs.Find.{Passes, Nowhere, NoneAfter}
use Rattle.bib_spec.specs.Bytes.{line_feed}
use Rattle.bib_answers.specs.declared.positions.Known.{Known}
use Rattle.bib_answers.specs.Positions.{position_of}

-- after `count` bytes neither number is larger by more than `count`
abbrev pub IsNear : Position → ℕ → Position → Type 0
IsNear from count at = (at.line ≤ from.line + count) × (at.column ≤ from.column + count)

pub near : (bytes : Text) (from : Position) → 1 ≤ from.column → IsNear from (length bytes) (fold position_after from bytes)
near [] from least = (omega arith, omega arith)
near (b ∷ bytes) from least = ⊎_elim
    (λ t. subst (λ (p : Position). IsNear from (suc (length bytes)) (fold position_after p bytes)) (sym (cond-true (b == line_feed) (position (from.line + 1) 1) (position from.line (from.column + 1)) t))
    (let rest = near bytes (position (from.line + 1) 1) (omega arith) in (omega (arith, rest.0), omega (arith, rest.1, least))))
    (λ f. subst (λ (p : Position). IsNear from (suc (length bytes)) (fold position_after p bytes)) (sym (cond-false (b == line_feed) (position (from.line + 1) 1) (position from.line (from.column + 1)) f))
    (let rest = near bytes (position from.line (from.column + 1)) (omega arith) in (omega (arith, rest.0), omega (arith, rest.1))))
    (cases_Bool (b == line_feed))

-- ---- by the last line feed

module _ (from : Position) (bytes : Text) where
  -- the position of byte i
  abbrev at : ℕ → Position
  at i = fold position_after from (take i bytes)

  at_more : (i : ℕ) → i < length bytes → at (suc i) ≡ position_after (at i) (get_or bytes i 0)
  at_more i within =
      rw (← add-one i)
      (ap (fold position_after from) (take_more bytes i 0 within) ∙ fold-append position_after from (take i bytes) (get_or bytes i 0 ∷ []))

  -- after a line feed
  at_feed : (i : ℕ) → i < length bytes → Passes is_line_feed bytes i → at (suc i) ≡ position ((at i).line + 1) 1
  at_feed i within feed = at_more i within ∙ cond-true (get_or bytes i 0 == line_feed) _ _ feed

  -- after any other byte
  at_other : (i : ℕ) → i < length bytes → (get_or bytes i 0 == line_feed) ≡ false → at (suc i) ≡ position (at i).line ((at i).column + 1)
  at_other i within other = at_more i within ∙ cond-false (get_or bytes i 0 == line_feed) _ _ other

  -- each line feed begins a line
  line_at : (i : ℕ) → i ≤ length bytes → (at i).line ≡ from.line + count_by is_line_feed (take i bytes)
  line_at zero within = omega arith
  line_at (suc i) within =
      let before = line_at i (omega arith) in
      ⊎_elim
      (λ feed.
      let counted = count_by_more_yes is_line_feed bytes i 0 within feed in
      ap (λ (p : Position). p.line) (at_feed i within feed) ∙ (rw (← add-one i) (omega (arith, before, counted))))
      (λ other.
      let counted = count_by_more_no is_line_feed bytes i 0 within other in
      ap (λ (p : Position). p.line) (at_other i within other) ∙ (rw (← add-one i) (omega (arith, before, counted))))
      (cases_Bool (get_or bytes i 0 == line_feed))

  -- before the first line feed the column alone grows
  without_feed : (i : ℕ) → i ≤ length bytes → Nowhere (Passes is_line_feed bytes) 0 i → at i ≡ position from.line (from.column + i)
  without_feed zero within none = ap (position from.line) (let e : from.column ≡ from.column + 0 = omega arith in e)
  without_feed (suc i) within none =
      let before = without_feed i (omega arith) (λ k low high. none k low (omega arith)) in
      ⊎_elim
      (λ feed. absurd (none i (omega arith) (omega arith) feed))
      (λ other. at_other i within other ∙ ap (λ (p : Position). position p.line (p.column + 1)) before ∙ ap (position from.line) (let e : from.column + i + 1 ≡ from.column + suc i = omega arith in e))
      (cases_Bool (get_or bytes i 0 == line_feed))

  -- the column n bytes after the last line feed
  column_after : (last n : ℕ) → last + suc n ≤ length bytes → Passes is_line_feed bytes last → Nowhere (Passes is_line_feed bytes) (last + 1) (last + suc n)
      → (at (last + suc n)).column ≡ suc n
  column_after last zero within feed none =
      ap (λ i. (at i).column) (let e : last + 1 ≡ suc last = omega arith in e) ∙ ap (λ (p : Position). p.column) (at_feed last (omega arith) feed)
  column_after last (suc n) within feed none =
      let before = column_after last n (omega arith) feed (λ k low high. none k low (omega arith)) in
      let next : last + suc (suc n) ≡ suc (last + suc n) = omega arith in
      ⊎_elim
      (λ feed. absurd (none (last + suc n) (omega arith) (omega arith) feed))
      (λ other. ap (λ i. (at i).column) next ∙ ap (λ (p : Position). p.column) (at_other (last + suc n) (omega arith) other) ∙ omega (arith, before))
      (cases_Bool (get_or bytes (last + suc n) 0 == line_feed))

  at_end : at (length bytes) ≡ fold position_after from bytes
  at_end = ap (fold position_after from) (take_all (length bytes) bytes (le_refl (length bytes)))

  line_end : (at (length bytes)).line ≡ from.line + count_by is_line_feed bytes
  line_end = line_at (length bytes) (le_refl (length bytes)) ∙ ap (λ (bs : Text). from.line + count_by is_line_feed bs) (take_all (length bytes) bytes (le_refl (length bytes)))

  -- the position after the bytes, if this is the place of their last line feed
  pub after_feed : (last : ℕ) → NoneAfter (Passes is_line_feed bytes) 0 (length bytes) last → Passes is_line_feed bytes last
      → position (from.line + count_by is_line_feed bytes) (length bytes - last) ≡ fold position_after from bytes
  after_feed last is feed =
      let high = is.high in
      let end : last + suc (length bytes - (last + 1)) ≡ length bytes = omega (arith, high) in
      let column = column_after last (length bytes - (last + 1)) (omega (arith, end)) feed (λ k low below. is.after k low (omega (arith, end, below))) in
      ap (λ l. position l (length bytes - last)) (sym line_end)
      ∙ ap (position (at (length bytes)).line) (let e : length bytes - last ≡ suc (length bytes - (last + 1)) = omega (arith, high) in e ∙ sym column ∙ ap (λ i. (at i).column) end)
      ∙ at_end

  -- the position after the bytes, if none of them is a line feed
  pub after_none : Nowhere (Passes is_line_feed bytes) 0 (length bytes) → position from.line (from.column + length bytes) ≡ fold position_after from bytes
  after_none none = sym (without_feed (length bytes) (le_refl (length bytes)) none) ∙ at_end

-- ---- known places

-- from a known place on
pub position_later : (file : Text) (place end : ℕ) → place ≤ end → fold position_after (position_of file place) (take (end - place) (drop place file)) ≡ position_of file end
position_later file place end le =
    sym (fold-append position_after (position 1 1) (take place file) (take (end - place) (drop place file)))
    ∙ ap (fold position_after (position 1 1)) (sym (take-add place (end - place) file) ∙ ap (λ n. take n file) (let e : place + (end - place) ≡ end = omega (arith, le) in e))

pub position_end : (file : Text) (place end : ℕ) → end ≡ min place (length file) → position_of file end ≡ position_of file place
position_end file place end is = ap (λ n. position_of file n) is ∙ ap (fold position_after (position 1 1)) (take_min place file)

-- the numbers of what follows a known place fit
pub numbers_fit : (file : Text) (known : Known) (end : ℕ) → IsKnown file known → known.place ≤ end → end ≤ length file → length file < 2 ^ 63
    → (known.at.line + length (take (end - known.place) (drop known.place file)) < 2 ^ 64) × (known.at.column + length (take (end - known.place) (drop known.place file)) < 2 ^ 64)
numbers_fit file known end is le within small =
    let close = near (take known.place file) (position 1 1) (omega arith) in
    let line = ap (λ (p : Position). p.line) is.at in
    let column = ap (λ (p : Position). p.column) is.at in
    let before = length-take known.place file in
    let part = length-take (end - known.place) (drop known.place file) in
    let rest = length-drop known.place file in (
      omega (arith, close.0, line, before, part, rest, le, within, small),
      omega (arith, close.1, column, before, part, rest, le, within, small),
    )
