-- What the text of steps says are the steps.
use Rattle.journal_format.proofs.Words.{◌≡◌, ℕ, ◌+◌, ◌-◌, ◌<◌, ◌≤◌, ◌^◌, zero, suc, List, [], ◌∷◌, ◌++◌, length, take, drop, get_or, decimal, lit<, refl, sym, subst, ◌∙◌, ap, arith, inl, inr, length-append, append_assoc, append-nil, eqb_tells, AllByRecursion, flat_map, line_feed, space, Text, Piece, end_of, Step}
use Rattle.journal_format.proofs.Words.{number_limit, HasSmallNumbers, AscendFrom, piece_text, pieces_text, step_text, Numbers, numbers_of, numbers_line, AreNumbers, step_text_in, IsStepIn, IsFreeOf, BeginsWithStep, Version, First, Second}
use Rattle.std.proofs.lemmas.Fmt.{digits_value-decimal}
use Rattle.std.proofs.lemmas.Str.Parse.{IsNumeralModel}
use Rattle.std.specs.Str.Parse.{AllDigits, digits_value}
use Rattle.std.proofs.Common.{Some, slice_get}
use Rattle.std.proofs.Math.Seq.{take-append_seam, drop-append_seam, drop-append-add}
use Rattle.history_spec.specs.Steps.{AreWritable}
use Rattle.journal_format.proofs.Numerals.{decimal_free, numbers_free, small_forms}
use Rattle.journal_format.proofs.PieceTexts.{piece_text-is, pieces_text-is, step_text-is, AreStepsRead, no_steps_read, one_more_step}
use Rattle.journal_format.proofs.JournalLaws.{label_free, same_piece, same_step}
use Rattle.journal_format.specs.JournalText.{numbers, counts, steps_limit}
use Rattle.journal_format.specs.Parts.{IsTailOf}
use Rattle.journal_format.specs.Packed.{before_byte, after_byte, line_in, after_line, number_in, numbers_in, piece_with, after_numbers, piece_in, after_piece, pieces_in, after_pieces, counted_in, after_counted, step_in, after_step, steps_in, places_from, BeginsWithSteps, ArePacked}

-- ---- cuts

pub before-cut : (byte : ℕ) (x r : Text) → IsFreeOf byte x → before_byte byte (x ++ byte ∷ r) ≡ x
before-cut byte [] r f =
    elim (eqb_tells byte byte) [
      | inl is ↦ rw is.0 refl
      | inr is ↦ absurd (is.1 refl)
    ]
before-cut byte (b ∷ x) r f =
    elim (eqb_tells b byte) [
      | inl is ↦ absurd (f.0 is.1)
      | inr is ↦ rw is.0 (ap (λ (t : Text). b ∷ t) (before-cut byte x r f.1))
    ]

pub after-cut : (byte : ℕ) (x r : Text) → IsFreeOf byte x → after_byte byte (x ++ byte ∷ r) ≡ r
after-cut byte [] r f =
    elim (eqb_tells byte byte) [
      | inl is ↦ rw is.0 refl
      | inr is ↦ absurd (is.1 refl)
    ]
after-cut byte (b ∷ x) r f =
    elim (eqb_tells b byte) [
      | inl is ↦ absurd (f.0 is.1)
      | inr is ↦ rw is.0 (after-cut byte x r f.1)
    ]

-- ---- numbers

own_digits : IsNumeralModel (AllDigits 10) (digits_value 10)
own_digits = record { to = λ ds h. h; from = λ ds h. h; same = λ ds h. refl }

small : (n : ℕ) → n ≤ number_limit → n < 2 ^ 64
small n h = omega arith

pub number-decimal : (n : ℕ) → n ≤ number_limit → number_in (decimal n) ≡ n
number-decimal n h = digits_value-decimal own_digits n (small n h)

free_of_space : (n : ℕ) → n ≤ number_limit → IsFreeOf space (decimal n)
free_of_space n h = decimal_free space n (lit< tt) (small n h)

pub numbers-line : (from : ℕ) (n : Numbers) → AreNumbers from n → numbers_in (numbers_line n) ≡ n
unfolding numbers_in
numbers-line from n h =
    let rest : Text = decimal n.old_len ++ space ∷ decimal n.new_len in
    let place : number_in (before_byte space (numbers_line n)) ≡ n.place =
    ap number_in (before-cut space (decimal n.place) rest (free_of_space n.place h.place)) ∙ number-decimal n.place h.place in
    let after : after_byte space (numbers_line n) ≡ rest = after-cut space (decimal n.place) rest (free_of_space n.place h.place) in
    let old_len : number_in (before_byte space (after_byte space (numbers_line n))) ≡ n.old_len =
    ap (λ (t : Text). number_in (before_byte space t)) after
    ∙ ap number_in (before-cut space (decimal n.old_len) (decimal n.new_len) (free_of_space n.old_len h.old_len)) ∙ number-decimal n.old_len h.old_len in
    let new_len : number_in (after_byte space (after_byte space (numbers_line n))) ≡ n.new_len =
    ap (λ (t : Text). number_in (after_byte space t)) after
    ∙ ap number_in (after-cut space (decimal n.old_len) (decimal n.new_len) (free_of_space n.old_len h.old_len)) ∙ number-decimal n.new_len h.new_len in
    ap (λ (k : ℕ). numbers k (number_in (before_byte space (after_byte space (numbers_line n)))) (number_in (after_byte space (after_byte space (numbers_line n))))) place
    ∙ ap (λ (k : ℕ). numbers n.place k (number_in (after_byte space (after_byte space (numbers_line n))))) old_len
    ∙ ap (λ (k : ℕ). numbers n.place n.old_len k) new_len

-- ---- pieces

-- what a text says that begins with a line
line_first : (x r text : Text) → text ≡ x ++ line_feed ∷ r → IsFreeOf line_feed x → (line_in text ≡ x) × (after_line text ≡ r)
line_first x r text whole free = (ap line_in whole ∙ before-cut line_feed x r free, ap after_line whole ∙ after-cut line_feed x r free)

-- the bytes of a piece after its line
body_first : (p : Piece) (r : Text) → (piece_with (numbers_of p) (p.old ++ (p.new ++ line_feed ∷ r)) ≡ p) × (after_numbers (numbers_of p) (p.old ++ (p.new ++ line_feed ∷ r)) ≡ r)
body_first p r =
    let old : take (length p.old) (p.old ++ (p.new ++ line_feed ∷ r)) ≡ p.old = take-append_seam p.old (p.new ++ line_feed ∷ r) in
    let after : drop (length p.old) (p.old ++ (p.new ++ line_feed ∷ r)) ≡ p.new ++ line_feed ∷ r = drop-append_seam p.old (p.new ++ line_feed ∷ r) in
    let new : take (length p.new) (drop (length p.old) (p.old ++ (p.new ++ line_feed ∷ r))) ≡ p.new =
    ap (take (length p.new)) after ∙ take-append_seam p.new (line_feed ∷ r) in
    let end : drop (length p.new) (drop (length p.old) (p.old ++ (p.new ++ line_feed ∷ r))) ≡ line_feed ∷ r =
    ap (drop (length p.new)) after ∙ drop-append_seam p.new (line_feed ∷ r) in (
      same_piece (piece_with (numbers_of p) (p.old ++ (p.new ++ line_feed ∷ r))) p refl old new,
      ap (drop 1) end,
    )

piece_first : (from : ℕ) (p : Piece) (r : Text) → from ≤ p.place → HasSmallNumbers p → (piece_in (piece_text p ++ r) ≡ p) × (after_piece (piece_text p ++ r) ≡ r)
piece_first from p r after small =
    let good : AreNumbers from (numbers_of p) = record { after = after; place = small.place; old_len = small.old; new_len = small.new } in
    let body : Text = p.old ++ (p.new ++ line_feed ∷ r) in
    let line = line_first (numbers_line (numbers_of p)) body (piece_text p ++ r) (piece_text-is p r) (numbers_free from (numbers_of p) good) in
    let said : numbers_in (line_in (piece_text p ++ r)) ≡ numbers_of p = ap numbers_in line.0 ∙ numbers-line from (numbers_of p) good in
    let first = body_first p r in (
      ap (λ (n : Numbers). piece_with n (after_line (piece_text p ++ r))) said ∙ ap (piece_with (numbers_of p)) line.1 ∙ first.0,
      ap (λ (n : Numbers). after_numbers n (after_line (piece_text p ++ r))) said ∙ ap (after_numbers (numbers_of p)) line.1 ∙ first.1,
    )

pieces_first : (from : ℕ) (ps : List Piece) (r : Text) → AscendFrom from ps → AllByRecursion HasSmallNumbers ps
    → (pieces_in (length ps) (flat_map piece_text ps ++ r) ≡ ps) × (after_pieces (length ps) (flat_map piece_text ps ++ r) ≡ r)
pieces_first from [] r ascend small = (refl, refl)
pieces_first from (p ∷ ps) r ascend small =
    let whole : flat_map piece_text (p ∷ ps) ++ r ≡ piece_text p ++ (flat_map piece_text ps ++ r) = append_assoc (piece_text p) (flat_map piece_text ps) r in
    let first = piece_first from p (flat_map piece_text ps ++ r) ascend.0 small.0 in
    let rest = pieces_first (end_of p) ps r ascend.1 small.1 in (
      ap (pieces_in (suc (length ps))) whole ∙ ap (λ (q : Piece). q ∷ pieces_in (length ps) (after_piece (piece_text p ++ (flat_map piece_text ps ++ r)))) first.0
          ∙ ap (λ (t : Text). p ∷ pieces_in (length ps) t) first.1 ∙ ap (λ (qs : List Piece). p ∷ qs) rest.0,
      ap (after_pieces (suc (length ps))) whole ∙ ap (after_pieces (length ps)) first.1 ∙ rest.1,
    )

counted_first : (ps : List Piece) (r : Text) → AreWritable ps → (counted_in (pieces_text ps ++ r) ≡ ps) × (after_counted (pieces_text ps ++ r) ≡ r)
counted_first ps r good =
    let line = line_first (decimal (length ps)) (flat_map piece_text ps ++ r) (pieces_text ps ++ r) (pieces_text-is ps r) (small_forms.free (length ps) good.few) in
    let said : number_in (line_in (pieces_text ps ++ r)) ≡ length ps = ap number_in line.0 ∙ number-decimal (length ps) good.few in
    let all = pieces_first 0 ps r good.ascending good.small in (
      ap (λ (n : ℕ). pieces_in n (after_line (pieces_text ps ++ r))) said ∙ ap (pieces_in (length ps)) line.1 ∙ all.0,
      ap (λ (n : ℕ). after_pieces n (after_line (pieces_text ps ++ r))) said ∙ ap (after_pieces (length ps)) line.1 ∙ all.1,
    )

-- ---- steps

step_first : (version : Version) (s : Step) (r : Text) → IsStepIn version s → (step_in version (step_text_in version s ++ r) ≡ s) × (after_step version (step_text_in version s ++ r) ≡ r)
unfolding step_in after_step
step_first First s r good =
    let all = counted_first s.pieces r good.0.pieces in
    (same_step (step_in First (step_text_in First s ++ r)) s (sym good.1) all.0, all.1)
step_first Second s r good =
    let line = line_first s.label (pieces_text s.pieces ++ r) (step_text s ++ r) (step_text-is s r) (label_free s.label good.label.plain) in
    let all = counted_first s.pieces r good.pieces in
    (same_step (step_in Second (step_text_in Second s ++ r)) s line.0 (ap counted_in line.1 ∙ all.0), ap after_counted line.1 ∙ all.1)

-- what the text of steps says are the steps
pub steps_first : (version : Version) (ss : List Step) (text r : Text) → AllByRecursion (IsStepIn version) ss → text ≡ flat_map (step_text_in version) ss ++ r
    → steps_in version (length ss) text ≡ ss
steps_first version [] text r good whole = refl
steps_first version (s ∷ ss) text r good whole =
    let next : Text = flat_map (step_text_in version) ss ++ r in
    let begins : text ≡ step_text_in version s ++ next = whole ∙ append_assoc (step_text_in version s) (flat_map (step_text_in version) ss) r in
    let first = step_first version s next good.0 in
    ap (λ (q : Step). q ∷ steps_in version (length ss) (after_step version text)) (ap (step_in version) begins ∙ first.0)
    ∙ ap (λ (qs : List Step). s ∷ qs) (steps_first version ss (after_step version text) r good.1 (ap (after_step version) begins ∙ first.1))

pub length-steps_in : (version : Version) (n : ℕ) (text : Text) → length (steps_in version n text) ≡ n
length-steps_in version zero text = refl
length-steps_in version (suc n) text = ap suc (length-steps_in version n (after_step version text))

-- ---- places

pub length-places_from : (version : Version) (place : ℕ) (ss : List Step) → length (places_from version place ss) ≡ length ss
length-places_from version place [] = refl
length-places_from version place (s ∷ ss) = ap suc (length-places_from version (place + length (step_text_in version s)) ss)

-- one more step begins where the text of the others ends
pub places_push : (version : Version) (place : ℕ) (ss : List Step) (s : Step)
    → places_from version place (ss ++ s ∷ []) ≡ places_from version place ss ++ (place + length (flat_map (step_text_in version) ss)) ∷ []
places_push version place [] s = ap (λ (n : ℕ). n ∷ []) (omega arith)
places_push version place (t ∷ ss) s =
    let here : place + length (step_text_in version t) + length (flat_map (step_text_in version) ss) ≡ place + length (flat_map (step_text_in version) (t ∷ ss)) =
    omega (arith, length-append (step_text_in version t) (flat_map (step_text_in version) ss)) in
    ap (λ (ns : List ℕ). place ∷ ns) (places_push version (place + length (step_text_in version t)) ss s
    ∙ ap (λ (n : ℕ). places_from version (place + length (step_text_in version t)) ss ++ n ∷ []) here)

-- step `n` begins at its place, in the text from where the first begins
pub step_there : (version : Version) (ss : List Step) (place n d : ℕ) (text : Text) → AllByRecursion (IsStepIn version) ss → n < length ss → text ≡ flat_map (step_text_in version) ss
    → (s : Step) × (rest : Text) × (slice_get ss n ≡ Some s) × (place ≤ get_or (places_from version place ss) n d) × (get_or (places_from version place ss) n d - place ≤ length text)
    × BeginsWithStep version (drop (get_or (places_from version place ss) n d - place) text) s rest
step_there version [] place n d text good within whole = absurd (omega (arith, within))
step_there version (s ∷ ss) place zero d text good within whole =
    let none : place - place ≡ 0 = omega arith in (
      s,
      flat_map (step_text_in version) ss,
      refl,
      omega arith,
      omega arith,
      subst (λ (k : ℕ). BeginsWithStep version (drop k text) s (flat_map (step_text_in version) ss)) (sym none) (record { good = good.0; whole = whole }),
    )
step_there version (s ∷ ss) place (suc n) d text good within whole =
    let first : Text = step_text_in version s in
    let next : Text = flat_map (step_text_in version) ss in
    let more = step_there version ss (place + length first) n d next good.1 (omega (arith, within)) refl in
    let at : ℕ = get_or (places_from version (place + length first) ss) n d in
    let far : at - place ≡ length first + (at - (place + length first)) = omega (arith, more.3) in
    let cut : drop (at - place) text ≡ drop (at - (place + length first)) next = ap (λ (k : ℕ). drop k text) far ∙ ap (drop (length first + (at - (place + length first)))) whole
    ∙ drop-append-add first next (at - (place + length first)) in (
      more.0,
      more.1,
      more.2,
      omega (arith, more.3),
      omega (arith, far, more.4, ap length whole, length-append first next),
      subst (λ (t : Text). BeginsWithStep version t more.0 more.1) (sym cut) more.5,
    )

-- ---- places, read one by one

-- `n` of `count` steps are read, and are before the rest; they begin at the places
pub record ArePlacesRead (version : Version) (count n : ℕ) (text : Text) (places : List ℕ) (rest : Text) : Type 0 where
  pub steps : List Step
  pub read : AreStepsRead version count n text steps rest
  pub begin : places ≡ places_from version 0 steps

pub no_places_read : (version : Version) (count : ℕ) (text : Text) → ArePlacesRead version count 0 text [] text
no_places_read version count text = record { steps = []; read = no_steps_read version count text; begin = refl }

-- the next step begins where the text of the others ends
pub next_place : (version : Version) (count n : ℕ) (text : Text) (places : List ℕ) (rest : Text) (r : ArePlacesRead version count n text places rest)
    → length text - length rest ≡ 0 + length (flat_map (step_text_in version) r.steps)
next_place version count n text places rest r =
    omega (arith, ap length r.read.whole, length-append (flat_map (step_text_in version) r.steps) rest)

pub one_more_place : (version : Version) (count n : ℕ) (text : Text) (places : List ℕ) (rest : Text) (step : Step) (next : Text)
    → ArePlacesRead version count n text places rest → BeginsWithStep version rest step next
    → ArePlacesRead version count (n + 1) text (places ++ (length text - length rest) ∷ []) next
one_more_place version count n text places rest step next r b = record {
  steps = r.steps ++ step ∷ [];
  read = one_more_step version count n text r.steps rest step next r.read b;
  begin = ap (λ (ns : List ℕ). ns ++ (length text - length rest) ∷ []) r.begin
      ∙ ap (λ (k : ℕ). places_from version 0 r.steps ++ k ∷ []) (next_place version count n text places rest r) ∙ sym (places_push version 0 r.steps step);
}

pub places_read : (version : Version) (count n : ℕ) (text : Text) (places : List ℕ) (rest : Text) → ArePlacesRead version count n text places rest → n ≡ count
    → BeginsWithSteps version count text places rest
places_read version count n text places rest r all = record { steps = r.steps; many = r.read.many ∙ all; whole = r.read.whole; good = r.read.good; begin = r.begin }

-- ---- packed steps

-- what the packed text says are the steps
pub packed_says : (version : Version) (text : Text) (places : List ℕ) (ss : List Step) → ArePacked version text places ss → steps_in version (length places) text ≡ ss
packed_says version text places ss p =
    let many : length places ≡ length ss = ap length p.begin ∙ length-places_from version 0 ss in
    ap (λ (n : ℕ). steps_in version n text) many ∙ steps_first version ss text [] p.good (p.whole ∙ sym (append-nil (flat_map (step_text_in version) ss)))

pub packed_holds : (version : Version) (text : Text) (places : List ℕ) (ss : List Step) → ArePacked version text places ss
    → ArePacked version text places (steps_in version (length places) text)
packed_holds version text places ss p = subst (ArePacked version text places) (sym (packed_says version text places ss p)) p

-- step `n` begins at its place
pub step_packed : (version : Version) (text : Text) (places : List ℕ) (ss : List Step) (n d : ℕ) → ArePacked version text places ss → n < length ss
    → (s : Step) × (rest : Text) × (slice_get ss n ≡ Some s) × (get_or places n d ≤ length text) × BeginsWithStep version (drop (get_or places n d) text) s rest
step_packed version text places ss n d p within =
    let there = step_there version ss 0 n d text p.good within p.whole in
    let at : get_or places n d ≡ get_or (places_from version 0 ss) n d = ap (λ (ns : List ℕ). get_or ns n d) p.begin in
    let none : get_or (places_from version 0 ss) n d - 0 ≡ get_or places n d = omega (arith, at) in
    (there.0, there.1, there.2, subst (λ (k : ℕ). k ≤ length text) none there.4, subst (λ (k : ℕ). BeginsWithStep version (drop k text) there.0 there.1) none there.5)

-- the text from the place of step `n` on begins with step `n`
pub step_here : (version : Version) (text : Text) (places : List ℕ) (ss : List Step) (n : ℕ) (items : List ℕ) → ArePacked version text places ss → n < length ss → items ≡ places
    → (s : Step) × (rest : Text) × (slice_get ss n ≡ Some s) × (get_or items n 0 ≤ length text) × BeginsWithStep version (drop (get_or items n 0) text) s rest
step_here version text places ss n items p within same =
    let here = step_packed version text places ss n 0 p within in
    let at : get_or places n 0 ≡ get_or items n 0 = ap (λ (ns : List ℕ). get_or ns n 0) (sym same) in
    (here.0, here.1, here.2, subst (λ (k : ℕ). k ≤ length text) at here.3, subst (λ (k : ℕ). BeginsWithStep version (drop k text) here.0 here.1) at here.4)

-- there are as many places as steps
pub length-packed : (version : Version) (text : Text) (places : List ℕ) (ss : List Step) → ArePacked version text places ss → length places ≡ length ss
length-packed version text places ss p = ap length p.begin ∙ length-places_from version 0 ss

-- ---- the tail

-- the text before the rest is the text of the steps
past_packed : (version : Version) (count : ℕ) (text before : Text) (places : List ℕ) (rest : Text) (b : BeginsWithSteps version count text places rest)
    → before ≡ take (length text - length rest) text → ArePacked version before places b.steps
past_packed version count text before places rest b front =
    let first : Text = flat_map (step_text_in version) b.steps in
    let end : length text - length rest ≡ length first = omega (arith, ap length b.whole, length-append first rest) in
    record {
      whole = front ∙ ap (λ (k : ℕ). take k text) end ∙ ap (take (length first)) b.whole ∙ take-append_seam first rest;
      good = b.good;
      begin = b.begin;
    }

-- without a rest the text is the text of the steps
future_packed : (version : Version) (count : ℕ) (text : Text) (places : List ℕ) (rest : Text) (b : BeginsWithSteps version count text places rest) → rest ≡ [] → ArePacked version text places b.steps
future_packed version count text places rest b none =
    let all : Text = flat_map (step_text_in version) b.steps in
    record {
      whole = b.whole ∙ ap (λ (t : Text). all ++ t) none ∙ append-nil all;
      good = b.good;
      begin = b.begin;
    }

pub tail_packed : (version : Version) (undos redos : ℕ) (text after rest before : Text) (undo_places redo_places : List ℕ) (past future : List Step)
    → length text ≤ steps_limit version → BeginsWithSteps version undos text undo_places after → BeginsWithSteps version redos after redo_places rest → rest ≡ []
    → before ≡ take (length text - length after) text
    → ((ss : List Step) → ArePacked version before undo_places ss → past ≡ ss) → ((ss : List Step) → ArePacked version after redo_places ss → future ≡ ss)
    → IsTailOf version (counts undos redos) text past future
tail_packed version undos redos text after rest before undo_places redo_places past future short u r none front is_past is_future =
    let later : ArePacked version after redo_places r.steps = future_packed version redos after redo_places rest r none in
    let tail : IsTailOf version (counts undos redos) text u.steps r.steps = record {
      whole = u.whole ∙ ap (λ (t : Text). flat_map (step_text_in version) u.steps ++ t) later.whole;
      undos = u.many;
      redos = r.many;
      past_steps = u.good;
      future_steps = r.good;
      short = short;
    } in
    subst (λ (ss : List Step). IsTailOf version (counts undos redos) text ss future) (sym (is_past u.steps (past_packed version undos text before undo_places after u front)))
    (subst (λ (ss : List Step). IsTailOf version (counts undos redos) text u.steps ss) (sym (is_future r.steps later)) tail)
