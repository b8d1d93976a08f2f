-- The text of a journal determines its contents, and a text goes wrong at one place.
use Rattle.journal_format.proofs.Words.{◌≡◌, ℕ, ◌+◌, ◌≤◌, zero, suc, true, not, ◌==◌, List, [], ◌∷◌, ◌++◌, length, get_or, decimal, sum_by, refl, sym, subst, ◌∙◌, ap, arith, inl, inr, length-append, and_parts, eqb_tells, append_assoc, append-nil, AllByRecursion, flat_map, list_all, line_feed, Text}
use Rattle.journal_format.proofs.Words.{Piece, end_of, AscendFrom, Step, IsLabel, HasSmallNumbers, change_limit, piece_text, pieces_text, step_text, step_text_len, IsDigest, is_hex_digit, version_line, IsKnown, Counts, counts, counts_line, AreFew, IsSmall, Numbers, numbers_of, numbers_line}
use Rattle.journal_format.proofs.Words.{AreNumbers, step_text_in, IsStepIn, steps_limit, text_in, IsFreeOf, BeginsWith, HasWrongBytes, BeginsWithPiece, BeginsWithPieces, BeginsWithStep, IsWrongPiece, AreWrongPieces, HasWrongPieces, IsWrongStep, AreWrongSteps, IsWrongTail, IsWrongFromCounts}
use Rattle.journal_format.proofs.Words.{IsWrongFromDigest, IsWrongJournal, Version, First, Second}
use Rattle.std.proofs.lemmas.List.Sums.{sum_by-cons}
use Rattle.std.proofs.Math.Seq.{get_or-append_seam}
use Rattle.std.proofs.lemmas.Bool.{false≢true}
use Rattle.std.proofs.lemmas.List.Concat.{length-flat_map}
use Rattle.history_spec.specs.Steps.{is_label_byte, IsStep, step_texts_limit}
use Rattle.journal_format.specs.Contents.{Contents, AreContents}
use Rattle.journal_format.specs.JournalText.{AreContentsIn}
use Rattle.journal_format.specs.Faults.{IsJournalOf}
use Rattle.journal_format.specs.Parts.{IsFromDigest}
use Rattle.journal_format.specs.Laws.{one_contents, texts_are_journals, no_journal_goes_wrong, one_place}
use Rattle.journal_format.proofs.Forms.{AreForms, one_first, wrong_after, one_wrong}
use Rattle.journal_format.proofs.Numerals.{small_forms, counts_forms, numbers_forms}
use Rattle.journal_format.proofs.PieceTexts.{piece_text-is, pieces_text-is, step_text-is}

-- ---- pieces

-- fronts of the same length are the same front
same_front : (x u y v : Text) → length x ≡ length u → x ++ y ≡ u ++ v → (x ≡ u) × (y ≡ v)
same_front [] [] y v len e = (refl, e)
same_front [] (c ∷ u) y v len e = absurd (omega (arith, len))
same_front (b ∷ x) [] y v len e = absurd (omega (arith, len))
same_front (b ∷ x) (c ∷ u) y v len e =
    let heads : b ≡ c = cc in
    let tails : x ++ y ≡ u ++ v = cc in
    let rest = same_front x u y v (omega (arith, len)) tails in
    (cc (heads, rest.0), rest.1)

-- a text that begins with a piece begins with the line of its numbers
piece_begins : (from : ℕ) (text : Text) (p : Piece) (r : Text) → BeginsWithPiece from text p r
    → BeginsWith numbers_line (AreNumbers from) text (numbers_of p) (p.old ++ (p.new ++ line_feed ∷ r))
piece_begins from text p r b = record {
  good = record { after = b.good.after; place = b.good.small.place; old_len = b.good.small.old; new_len = b.good.small.new };
  whole = b.whole ∙ piece_text-is p r;
}

pub same_piece : (p q : Piece) → p.place ≡ q.place → p.old ≡ q.old → p.new ≡ q.new → p ≡ q
same_piece p q place old new =
    ap (λ (n : ℕ). record { place = n; old = p.old; new = p.new }) place
    ∙ ap (λ (t : Text). record { place = q.place; old = t; new = p.new }) old
    ∙ ap (λ (t : Text). record { place = q.place; old = q.old; new = t }) new

one_piece : (from : ℕ) (text : Text) (p q : Piece) (r s : Text) → BeginsWithPiece from text p r → BeginsWithPiece from text q s → (p ≡ q) × (r ≡ s)
one_piece from text p q r s a b =
    let lines = one_first numbers_line (AreNumbers from) (numbers_forms from) text (numbers_of p) (numbers_of q) (p.old ++ (p.new ++ line_feed ∷ r)) (q.old ++ (q.new ++ line_feed ∷ s))
    (piece_begins from text p r a) (piece_begins from text q s b) in
    let place : p.place ≡ q.place = ap (λ (n : Numbers). n.place) lines.0 in
    let old = same_front p.old q.old (p.new ++ line_feed ∷ r) (q.new ++ line_feed ∷ s) (ap (λ (n : Numbers). n.old_len) lines.0) lines.1 in
    let new = same_front p.new q.new (line_feed ∷ r) (line_feed ∷ s) (ap (λ (n : Numbers). n.new_len) lines.0) old.1 in
    let ends : line_feed ∷ r ≡ line_feed ∷ s = new.1 in
    (same_piece p q place old.0 new.0, cc)

-- after the numbers of a piece its bytes are not wrong
right_bytes : (p : Piece) (r : Text) (left : ℕ) → HasWrongBytes (length p.old + length p.new) (p.old ++ (p.new ++ line_feed ∷ r)) left → ⊥
right_bytes p r left (inl short) =
    omega (arith, short.short, length-append p.old (p.new ++ line_feed ∷ r), length-append p.new (line_feed ∷ r))
right_bytes p r left (inr lacks) =
    let seam : get_or ((p.old ++ p.new) ++ line_feed ∷ r) (length (p.old ++ p.new)) 0 ≡ line_feed = get_or-append_seam (p.old ++ p.new) line_feed r 0 in
    let here : get_or (p.old ++ (p.new ++ line_feed ∷ r)) (length p.old + length p.new) 0 ≡ line_feed =
    ap (λ (t : Text). get_or t (length p.old + length p.new) 0) (sym (append_assoc p.old p.new (line_feed ∷ r)))
    ∙ ap (λ (n : ℕ). get_or ((p.old ++ p.new) ++ line_feed ∷ r) n 0) (sym (length-append p.old p.new)) ∙ seam in
    lacks.other here

no_wrong_piece : (from : ℕ) (text : Text) (p : Piece) (r : Text) (left : ℕ) → BeginsWithPiece from text p r → IsWrongPiece from text left → ⊥
no_wrong_piece from text p r left b w =
    right_bytes p r left (wrong_after numbers_line (AreNumbers from) (λ n. HasWrongBytes (n.old_len + n.new_len)) (numbers_forms from) text (numbers_of p) (p.old ++ (p.new ++ line_feed ∷ r)) left
    (piece_begins from text p r b) w)

one_wrong_bytes : (n : ℕ) (text : Text) (l m : ℕ) → HasWrongBytes n text l → HasWrongBytes n text m → l ≡ m
one_wrong_bytes n text l m (inl a) (inl b) = a.end ∙ sym b.end
one_wrong_bytes n text l m (inl a) (inr b) = absurd (omega (arith, a.short, b.within))
one_wrong_bytes n text l m (inr a) (inl b) = absurd (omega (arith, a.within, b.short))
one_wrong_bytes n text l m (inr a) (inr b) = omega (arith, a.all, b.all)

one_wrong_piece : (from : ℕ) (text : Text) (l m : ℕ) → IsWrongPiece from text l → IsWrongPiece from text m → l ≡ m
one_wrong_piece from text l m a b =
    one_wrong numbers_line (AreNumbers from) (λ n. HasWrongBytes (n.old_len + n.new_len)) (numbers_forms from)
    (λ n t i j good. one_wrong_bytes (n.old_len + n.new_len) t i j) text l m a b

one_wrong_pieces : (n from : ℕ) (text : Text) (l m : ℕ) → AreWrongPieces n from text l → AreWrongPieces n from text m → l ≡ m
one_wrong_pieces zero from text l m a b = absurd a
one_wrong_pieces (suc n) from text l m (inl a) (inl b) = one_wrong_piece from text l m a b
one_wrong_pieces (suc n) from text l m (inl a) (inr b) = absurd (no_wrong_piece from text b.0 b.1 l b.2 a)
one_wrong_pieces (suc n) from text l m (inr a) (inl b) = absurd (no_wrong_piece from text a.0 a.1 m a.2 b)
one_wrong_pieces (suc n) from text l m (inr a) (inr b) =
    let one = one_piece from text a.0 b.0 a.1 b.1 a.2 b.2 in
    let same : AreWrongPieces n (end_of a.0) a.1 m =
    subst (λ (p : Piece). AreWrongPieces n (end_of p) a.1 m) (sym one.0) (subst (λ (t : Text). AreWrongPieces n (end_of b.0) t m) (sym one.1) b.3) in
    one_wrong_pieces n (end_of a.0) a.1 l m a.3 same

-- pieces with a text after them
piece_first : (from : ℕ) (p : Piece) (ps : List Piece) (text r : Text) → AscendFrom from (p ∷ ps) → AllByRecursion HasSmallNumbers (p ∷ ps)
    → text ≡ flat_map piece_text (p ∷ ps) ++ r → BeginsWithPiece from text p (flat_map piece_text ps ++ r)
piece_first from p ps text r ascend small whole = record {
  good = record { after = ascend.0; small = small.0 };
  whole = whole ∙ append_assoc (piece_text p) (flat_map piece_text ps) r;
}

no_wrong_pieces : (n from : ℕ) (ps : List Piece) (text r : Text) (left : ℕ) → n ≡ length ps → AscendFrom from ps → AllByRecursion HasSmallNumbers ps
    → text ≡ flat_map piece_text ps ++ r → AreWrongPieces n from text left → ⊥
no_wrong_pieces zero from ps text r left len ascend small whole w = w
no_wrong_pieces (suc n) from [] text r left len ascend small whole w = absurd (omega (arith, len))
no_wrong_pieces (suc n) from (p ∷ ps) text r left len ascend small whole (inl w) =
    no_wrong_piece from text p (flat_map piece_text ps ++ r) left (piece_first from p ps text r ascend small whole) w
no_wrong_pieces (suc n) from (p ∷ ps) text r left len ascend small whole (inr w) =
    let one = one_piece from text w.0 p w.1 (flat_map piece_text ps ++ r) w.2 (piece_first from p ps text r ascend small whole) in
    no_wrong_pieces n (end_of p) ps w.1 r left (omega (arith, len)) ascend.1 small.1 one.1
    (subst (λ (q : Piece). AreWrongPieces n (end_of q) w.1 left) one.0 w.3)

one_pieces : (from : ℕ) (ps qs : List Piece) (text r s : Text) → length ps ≡ length qs
    → AscendFrom from ps → AllByRecursion HasSmallNumbers ps → AscendFrom from qs → AllByRecursion HasSmallNumbers qs
    → text ≡ flat_map piece_text ps ++ r → text ≡ flat_map piece_text qs ++ s → (ps ≡ qs) × (r ≡ s)
one_pieces from [] [] text r s len pa pb qa qb pw qw = (refl, sym pw ∙ qw)
one_pieces from [] (q ∷ qs) text r s len pa pb qa qb pw qw = absurd (omega (arith, len))
one_pieces from (p ∷ ps) [] text r s len pa pb qa qb pw qw = absurd (omega (arith, len))
one_pieces from (p ∷ ps) (q ∷ qs) text r s len pa pb qa qb pw qw =
    let one = one_piece from text p q (flat_map piece_text ps ++ r) (flat_map piece_text qs ++ s) (piece_first from p ps text r pa pb pw) (piece_first from q qs text s qa qb qw) in
    let ascend : AscendFrom (end_of p) qs = subst (λ (x : Piece). AscendFrom (end_of x) qs) (sym one.0) qa.1 in
    let rest = one_pieces (end_of p) ps qs (flat_map piece_text ps ++ r) r s (omega (arith, len)) pa.1 pb.1 ascend qb.1 refl one.1 in
    (ap (λ (x : Piece). x ∷ ps) one.0 ∙ ap (λ (xs : List Piece). q ∷ xs) rest.0, rest.1)

-- ---- the number of pieces, and the pieces

pieces_begin : (text : Text) (pieces : List Piece) (r : Text) → BeginsWithPieces text pieces r → BeginsWith decimal IsSmall text (length pieces) (flat_map piece_text pieces ++ r)
pieces_begin text pieces r b = record { good = b.good.few; whole = b.whole ∙ pieces_text-is pieces r }

one_counted : (text : Text) (a b : List Piece) (r s : Text) → BeginsWithPieces text a r → BeginsWithPieces text b s → (a ≡ b) × (r ≡ s)
one_counted text a b r s x y =
    let lines = one_first decimal IsSmall small_forms text (length a) (length b) (flat_map piece_text a ++ r) (flat_map piece_text b ++ s) (pieces_begin text a r x) (pieces_begin text b s y) in
    one_pieces 0 a b (flat_map piece_text a ++ r) r s lines.0 x.good.ascending x.good.small y.good.ascending y.good.small refl lines.1

no_wrong_counted : (text : Text) (pieces : List Piece) (r : Text) (left : ℕ) → BeginsWithPieces text pieces r → HasWrongPieces text left → ⊥
no_wrong_counted text pieces r left b w =
    no_wrong_pieces (length pieces) 0 pieces (flat_map piece_text pieces ++ r) r left refl b.good.ascending b.good.small refl
    (wrong_after decimal IsSmall (λ n. AreWrongPieces n 0) small_forms text (length pieces) (flat_map piece_text pieces ++ r) left (pieces_begin text pieces r b) w)

one_wrong_counted : (text : Text) (l m : ℕ) → HasWrongPieces text l → HasWrongPieces text m → l ≡ m
one_wrong_counted text l m a b = one_wrong decimal IsSmall (λ n. AreWrongPieces n 0) small_forms (λ n t i j good. one_wrong_pieces n 0 t i j) text l m a b

-- ---- steps

pub label_free : (t : Text) → list_all is_label_byte t ≡ true → IsFreeOf line_feed t
label_free [] h = tt
label_free (b ∷ t) h =
    let parts = and_parts (is_label_byte b) (list_all is_label_byte t) h in
    ((λ e. false≢true (ap is_label_byte (sym e) ∙ parts.0)), label_free t parts.1)

label_forms : AreForms {A = Text} (λ label. label) IsLabel
label_forms = record { free = λ d h. label_free d h.plain; one = λ a b h k e. e }

-- a text that begins with a step of version 2 begins with the line of its label
label_begins : (text : Text) (step : Step) (r : Text) → BeginsWithStep Second text step r → BeginsWith {A = Text} (λ label. label) IsLabel text step.label (pieces_text step.pieces ++ r)
label_begins text step r b = record { good = b.good.label; whole = b.whole ∙ step_text-is step r }

pub same_step : (a b : Step) → a.label ≡ b.label → a.pieces ≡ b.pieces → a ≡ b
same_step a b label pieces =
    ap (λ (t : Text). record { label = t; pieces = a.pieces }) label ∙ ap (λ (ps : List Piece). record { label = b.label; pieces = ps }) pieces

pub one_step : (version : Version) (text : Text) (a b : Step) (r s : Text) → BeginsWithStep version text a r → BeginsWithStep version text b s → (a ≡ b) × (r ≡ s)
one_step First text a b r s x y =
    let one = one_counted text a.pieces b.pieces r s (record { good = x.good.0.pieces; whole = x.whole }) (record { good = y.good.0.pieces; whole = y.whole }) in
    (same_step a b (x.good.1 ∙ sym y.good.1) one.0, one.1)
one_step Second text a b r s x y =
    let lines = one_first {A = Text} (λ label. label) IsLabel label_forms text a.label b.label (pieces_text a.pieces ++ r) (pieces_text b.pieces ++ s) (label_begins text a r x) (label_begins text b s y) in
    let one = one_counted (pieces_text a.pieces ++ r) a.pieces b.pieces r s (record { good = x.good.pieces; whole = refl }) (record { good = y.good.pieces; whole = lines.1 }) in
    (same_step a b lines.0 one.0, one.1)

pub no_wrong_step : (version : Version) (text : Text) (step : Step) (r : Text) (left : ℕ) → BeginsWithStep version text step r → IsWrongStep version text left → ⊥
no_wrong_step First text step r left b w = no_wrong_counted text step.pieces r left (record { good = b.good.0.pieces; whole = b.whole }) w
no_wrong_step Second text step r left b w =
    no_wrong_counted (pieces_text step.pieces ++ r) step.pieces r left (record { good = b.good.pieces; whole = refl })
    (wrong_after {A = Text} (λ label. label) IsLabel (λ label. HasWrongPieces) label_forms text step.label (pieces_text step.pieces ++ r) left (label_begins text step r b) w)

one_wrong_step : (version : Version) (text : Text) (l m : ℕ) → IsWrongStep version text l → IsWrongStep version text m → l ≡ m
one_wrong_step First text l m a b = one_wrong_counted text l m a b
one_wrong_step Second text l m a b = one_wrong {A = Text} (λ label. label) IsLabel (λ label. HasWrongPieces) label_forms (λ label t i j good. one_wrong_counted t i j) text l m a b

one_wrong_steps : (version : Version) (n : ℕ) (text : Text) (l m : ℕ) → AreWrongSteps version n text l → AreWrongSteps version n text m → l ≡ m
one_wrong_steps version zero text l m a b = a.1 ∙ sym b.1
one_wrong_steps version (suc n) text l m (inl a) (inl b) = one_wrong_step version text l m a b
one_wrong_steps version (suc n) text l m (inl a) (inr b) = absurd (no_wrong_step version text b.0 b.1 l b.2 a)
one_wrong_steps version (suc n) text l m (inr a) (inl b) = absurd (no_wrong_step version text a.0 a.1 m a.2 b)
one_wrong_steps version (suc n) text l m (inr a) (inr b) =
    let one = one_step version text a.0 b.0 a.1 b.1 a.2 b.2 in
    one_wrong_steps version n a.1 l m a.3 (subst (λ (t : Text). AreWrongSteps version n t m) (sym one.1) b.3)

step_first : (version : Version) (step : Step) (steps : List Step) (text r : Text) → AllByRecursion (IsStepIn version) (step ∷ steps) → text ≡ flat_map (step_text_in version) (step ∷ steps) ++ r
    → BeginsWithStep version text step (flat_map (step_text_in version) steps ++ r)
step_first version step steps text r good whole = record { good = good.0; whole = whole ∙ append_assoc (step_text_in version step) (flat_map (step_text_in version) steps) r }

no_wrong_steps : (version : Version) (n : ℕ) (steps : List Step) (text r : Text) (left more : ℕ) → n ≡ length steps + more → AllByRecursion (IsStepIn version) steps
    → text ≡ flat_map (step_text_in version) steps ++ r → (AreWrongSteps version more r left → ⊥) → AreWrongSteps version n text left → ⊥
no_wrong_steps version n [] text r left more len good whole right w =
    right (subst (λ (t : Text). AreWrongSteps version more t left) whole (subst (λ (k : ℕ). AreWrongSteps version k text left) (omega (arith, len)) w))
no_wrong_steps version zero (step ∷ steps) text r left more len good whole right w = absurd (omega (arith, len))
no_wrong_steps version (suc n) (step ∷ steps) text r left more len good whole right (inl w) =
    no_wrong_step version text step (flat_map (step_text_in version) steps ++ r) left (step_first version step steps text r good whole) w
no_wrong_steps version (suc n) (step ∷ steps) text r left more len good whole right (inr w) =
    let one = one_step version text w.0 step w.1 (flat_map (step_text_in version) steps ++ r) w.2 (step_first version step steps text r good whole) in
    no_wrong_steps version n steps w.1 r left more (omega (arith, len)) good.1 one.1 right w.3

one_steps : (version : Version) (xs ys : List Step) (text r s : Text) → length xs ≡ length ys → AllByRecursion (IsStepIn version) xs → AllByRecursion (IsStepIn version) ys
    → text ≡ flat_map (step_text_in version) xs ++ r → text ≡ flat_map (step_text_in version) ys ++ s → (xs ≡ ys) × (r ≡ s)
one_steps version [] [] text r s len a b p q = (refl, sym p ∙ q)
one_steps version [] (y ∷ ys) text r s len a b p q = absurd (omega (arith, len))
one_steps version (x ∷ xs) [] text r s len a b p q = absurd (omega (arith, len))
one_steps version (x ∷ xs) (y ∷ ys) text r s len a b p q =
    let one = one_step version text x y (flat_map (step_text_in version) xs ++ r) (flat_map (step_text_in version) ys ++ s) (step_first version x xs text r a p) (step_first version y ys text s b q) in
    let rest = one_steps version xs ys (flat_map (step_text_in version) xs ++ r) r s (omega (arith, len)) a.1 b.1 refl one.1 in
    (ap (λ (z : Step). z ∷ xs) one.0 ∙ ap (λ (zs : List Step). y ∷ zs) rest.0, rest.1)

-- ---- the tail

one_wrong_tail : (version : Version) (n : ℕ) (text : Text) (l m : ℕ) → IsWrongTail version n text l → IsWrongTail version n text m → l ≡ m
one_wrong_tail version n text l m (inl a) (inl b) = omega (arith, a.all, b.all)
one_wrong_tail version n text l m (inl a) (inr b) = absurd (omega (arith, a.long, b.short))
one_wrong_tail version n text l m (inr a) (inl b) = absurd (omega (arith, a.short, b.long))
one_wrong_tail version n text l m (inr a) (inr b) = one_wrong_steps version n text l m a.wrong b.wrong

-- the text of the steps
abbrev pub tail_of : Version → Contents → Text
tail_of version c = flat_map (step_text_in version) c.past ++ flat_map (step_text_in version) c.future

-- the length of the texts of the steps together
abbrev tail_len : Version → Contents → ℕ
tail_len version c = sum_by (λ step. length (step_text_in version step)) c.past + sum_by (λ step. length (step_text_in version step)) c.future

length-tail_of : (version : Version) (c : Contents) → length (tail_of version c) ≡ tail_len version c
length-tail_of version c =
    omega (
      arith,
      length-append (flat_map (step_text_in version) c.past) (flat_map (step_text_in version) c.future),
      length-flat_map (step_text_in version) c.past,
      length-flat_map (step_text_in version) c.future,
    )

no_wrong_tail : (version : Version) (c : Contents) (left : ℕ) → AreContentsIn version c → IsWrongTail version (length c.past + length c.future) (tail_of version c) left → ⊥
no_wrong_tail version c left says (inl long) = omega (arith, long.long, length-tail_of version c, says.short)
no_wrong_tail version c left says (inr w) =
    no_wrong_steps version (length c.past + length c.future) c.past (tail_of version c) (flat_map (step_text_in version) c.future) left (length c.future) refl says.past_steps refl
    (no_wrong_steps version (length c.future) c.future (flat_map (step_text_in version) c.future) [] left 0 (omega arith) says.future_steps (sym (append-nil (flat_map (step_text_in version) c.future))) (λ h. h.0 refl))
    w.wrong

-- ---- what the first version says can be written

-- without labels, version 2 has one more line feed for each step
plain_lens : (steps : List Step) → AllByRecursion (IsStepIn First) steps → sum_by step_text_len steps ≡ sum_by (λ step. length (step_text_in First step)) steps + length steps
unfolding step_text_len step_text
plain_lens [] all = refl
plain_lens (step ∷ steps) all =
    omega (
      arith,
      plain_lens steps all.1,
      sum_by-cons step_text_len step steps,
      sum_by-cons (λ (s : Step). length (step_text_in First s)) step steps,
      length-append step.label (line_feed ∷ pieces_text step.pieces),
      ap length all.0.1,
    )

second_lens : (steps : List Step) → sum_by step_text_len steps ≡ sum_by (λ step. length (step_text_in Second step)) steps
unfolding step_text_len
second_lens [] = refl
second_lens (step ∷ steps) =
    omega (arith, second_lens steps, sum_by-cons step_text_len step steps, sum_by-cons (λ (s : Step). length (step_text_in Second s)) step steps)

are_steps : (version : Version) (steps : List Step) → AllByRecursion (IsStepIn version) steps → AllByRecursion IsStep steps
are_steps version [] all = tt
are_steps First (step ∷ steps) all = (all.0.0, are_steps First steps all.1)
are_steps Second (step ∷ steps) all = (all.0, are_steps Second steps all.1)

texts_short : (version : Version) (c : Contents) → AllByRecursion (IsStepIn version) c.past → AllByRecursion (IsStepIn version) c.future → length c.past + length c.future ≤ change_limit
    → tail_len version c ≤ steps_limit version → sum_by step_text_len c.past + sum_by step_text_len c.future ≤ step_texts_limit
texts_short First c past future few short = omega (arith, few, short, plain_lens c.past past, plain_lens c.future future)
texts_short Second c past future few short = omega (arith, short, second_lens c.past, second_lens c.future)

-- ---- the lines before

free_by_test : (byte : ℕ) (t : Text) → list_all (λ b. not (b == byte)) t ≡ true → IsFreeOf byte t
free_by_test byte [] h = tt
free_by_test byte (b ∷ t) h =
    let parts = and_parts (not (b == byte)) (list_all (λ x. not (x == byte)) t) h in
    elim (eqb_tells b byte) [
      | inl is ↦ absurd (false≢true (sym (ap not is.0) ∙ parts.0))
      | inr is ↦ (is.1, free_by_test byte t parts.1)
    ]

version_free : (version : Version) → IsFreeOf line_feed (version_line version)
unfolding version_line
version_free First = free_by_test line_feed (version_line First) refl
version_free Second = free_by_test line_feed (version_line Second) refl

-- the last byte of the line determines the version
one_version : (a b : Version) → version_line a ≡ version_line b → a ≡ b
unfolding version_line
one_version First First e = refl
one_version First Second e = absurd (omega (arith, ap (λ (t : Text). get_or t 8 0) e))
one_version Second First e = absurd (omega (arith, ap (λ (t : Text). get_or t 8 0) e))
one_version Second Second e = refl

version_forms : AreForms version_line IsKnown
version_forms = record { free = λ a h. version_free a; one = λ a b h k e. one_version a b e }

hex_free : (t : Text) → list_all is_hex_digit t ≡ true → IsFreeOf line_feed t
hex_free [] h = tt
hex_free (b ∷ t) h =
    let parts = and_parts (is_hex_digit b) (list_all is_hex_digit t) h in
    ((λ e. false≢true (ap is_hex_digit (sym e) ∙ parts.0)), hex_free t parts.1)

digest_forms : AreForms {A = Text} (λ digest. digest) IsDigest
digest_forms = record { free = λ d h. hex_free d h.digits; one = λ a b h k e. e }

one_wrong_from_counts : (version : Version) (text : Text) (l m : ℕ) → IsWrongFromCounts version text l → IsWrongFromCounts version text m → l ≡ m
one_wrong_from_counts version text l m a b =
    one_wrong counts_line AreFew (λ n. IsWrongTail version (n.undos + n.redos)) counts_forms (λ n t i j good. one_wrong_tail version (n.undos + n.redos) t i j) text l m a b

one_wrong_from_digest : (version : Version) (text : Text) (l m : ℕ) → IsWrongFromDigest version text l → IsWrongFromDigest version text m → l ≡ m
one_wrong_from_digest version text l m a b =
    one_wrong {A = Text} (λ digest. digest) IsDigest (λ digest. IsWrongFromCounts version) digest_forms (λ d t i j good. one_wrong_from_counts version t i j) text l m a b

one_wrong_journal : (text : Text) (l m : ℕ) → IsWrongJournal text l → IsWrongJournal text m → l ≡ m
one_wrong_journal text l m a b =
    one_wrong version_line IsKnown IsWrongFromDigest version_forms (λ v t i j good. one_wrong_from_digest v t i j) text l m a b

-- ---- whole journals

abbrev from_counts : Version → Contents → Text
from_counts version c = counts_line (counts (length c.past) (length c.future)) ++ line_feed ∷ tail_of version c

abbrev from_digest : Version → Contents → Text
from_digest version c = c.digest ++ line_feed ∷ from_counts version c

begins_version : (text : Text) (c : Contents) (j : IsJournalOf c text) → BeginsWith version_line IsKnown text j.version (from_digest j.version c)
unfolding text_in
begins_version text c j = record { good = tt; whole = sym j.whole }

begins_digest : (version : Version) (c : Contents) → AreContents c → BeginsWith {A = Text} (λ digest. digest) IsDigest (from_digest version c) c.digest (from_counts version c)
begins_digest version c good = record { good = good.digest; whole = refl }

begins_counts : (version : Version) (c : Contents) → AreContents c → BeginsWith counts_line AreFew (from_counts version c) (counts (length c.past) (length c.future)) (tail_of version c)
begins_counts version c good = record { good = good.steps.few; whole = refl }

pub no_wrong_journal : (text : Text) (c : Contents) (left : ℕ) → IsJournalOf c text → IsWrongJournal text left → ⊥
no_wrong_journal text c left j w =
    let v : Version = j.version in
    let d = wrong_after version_line IsKnown IsWrongFromDigest version_forms text v (from_digest v c) left (begins_version text c j) w in
    let n = wrong_after {A = Text} (λ digest. digest) IsDigest (λ digest. IsWrongFromCounts v) digest_forms (from_digest v c) c.digest (from_counts v c) left (begins_digest v c j.says.good) d in
    no_wrong_tail v c left j.says
    (wrong_after counts_line AreFew (λ n. IsWrongTail v (n.undos + n.redos)) counts_forms (from_counts v c) (counts (length c.past) (length c.future)) (tail_of v c) left (begins_counts v c j.says.good) n)

same_contents : (c d : Contents) → c.digest ≡ d.digest → c.past ≡ d.past → c.future ≡ d.future → c ≡ d
same_contents c d digest past future =
    ap (λ (t : Text). record { digest = t; past = c.past; future = c.future }) digest
    ∙ ap (λ (s : List Step). record { digest = d.digest; past = s; future = c.future }) past
    ∙ ap (λ (s : List Step). record { digest = d.digest; past = d.past; future = s }) future

-- contents of one version
one_contents_in : (version : Version) (c d : Contents) → AreContentsIn version c → AreContentsIn version d → from_digest version c ≡ from_digest version d → c ≡ d
one_contents_in version c d j k same =
    let from_c : BeginsWith {A = Text} (λ digest. digest) IsDigest (from_digest version d) c.digest (from_counts version c) =
    subst (λ (t : Text). BeginsWith {A = Text} (λ digest. digest) IsDigest t c.digest (from_counts version c)) same (begins_digest version c j.good) in
    let second = one_first {A = Text} (λ digest. digest) IsDigest digest_forms (from_digest version d) c.digest d.digest (from_counts version c) (from_counts version d) from_c (begins_digest version d k.good) in
    let counted : BeginsWith counts_line AreFew (from_counts version d) (counts (length c.past) (length c.future)) (tail_of version c) =
    subst (λ (t : Text). BeginsWith counts_line AreFew t (counts (length c.past) (length c.future)) (tail_of version c)) second.1 (begins_counts version c j.good) in
    let third = one_first counts_line AreFew counts_forms (from_counts version d) (counts (length c.past) (length c.future)) (counts (length d.past) (length d.future)) (tail_of version c) (tail_of version d) counted (begins_counts version d k.good) in
    let past = one_steps version c.past d.past (tail_of version c) (flat_map (step_text_in version) c.future) (flat_map (step_text_in version) d.future) (ap (λ (n : Counts). n.undos) third.0)
    j.past_steps k.past_steps refl third.1 in
    let future = one_steps version c.future d.future (flat_map (step_text_in version) c.future) [] [] (ap (λ (n : Counts). n.redos) third.0)
    j.future_steps k.future_steps (sym (append-nil (flat_map (step_text_in version) c.future))) (past.1 ∙ sym (append-nil (flat_map (step_text_in version) d.future))) in
    same_contents c d second.0 past.0 future.0

pub one-contents : one_contents
one-contents text c d j k =
    let first = one_first version_line IsKnown version_forms text j.version k.version (from_digest j.version c) (from_digest k.version d) (begins_version text c j) (begins_version text d k) in
    let says : AreContentsIn k.version c = subst (λ (v : Version). AreContentsIn v c) first.0 j.says in
    let same : from_digest k.version c ≡ from_digest k.version d = subst (λ (v : Version). from_digest v c ≡ from_digest k.version d) first.0 first.1 in
    one_contents_in k.version c d says k.says same

pub texts-are-journals : texts_are_journals
texts-are-journals text c t = record {
  version = Second;
  says = record {
    good = t.good;
    past_steps = t.good.steps.past_steps;
    future_steps = t.good.steps.future_steps;
    short = omega (arith, t.good.steps.short, second_lens c.past, second_lens c.future);
  };
  whole = t.whole;
}

pub no-journal-goes-wrong : no_journal_goes_wrong
no-journal-goes-wrong text c place j w = no_wrong_journal text c w.left j w.wrong

pub one-place : one_place
one-place text p q a b = omega (arith, a.all, b.all, one_wrong_journal text a.left b.left a.wrong b.wrong)

-- ---- journals, read in parts

pub journal_read : (version : Version) (text rest : Text) (c : Contents) → BeginsWith version_line IsKnown text version rest → IsFromDigest version rest c → IsJournalOf c text
unfolding text_in
journal_read version text rest c b d =
    let n = d.tail in
    let t = n.tail in
    let from_c : n.rest ≡ tail_of version c = t.whole in
    let short : tail_len version c ≤ steps_limit version = omega (arith, t.short, ap length from_c, length-tail_of version c) in
    record {
      version = version;
      says = record {
        good = record {
          digest = d.good;
          steps = record {
            past_steps = are_steps version c.past t.past_steps;
            future_steps = are_steps version c.future t.future_steps;
            few = n.few;
            short = texts_short version c t.past_steps t.future_steps n.few short;
          };
        };
        past_steps = t.past_steps;
        future_steps = t.future_steps;
        short = short;
      };
      whole = sym (
          b.whole
          ∙ ap (λ (u : Text). version_line version ++ line_feed ∷ u) (d.whole ∙ ap (λ (u : Text). c.digest ++ line_feed ∷ u)
          (n.whole ∙ ap (λ (u : Text). counts_line (counts (length c.past) (length c.future)) ++ line_feed ∷ u) from_c)));
    }
