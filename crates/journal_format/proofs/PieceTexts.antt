-- How the texts of pieces and steps begin.
use Rattle.journal_format.proofs.Words.{◌≡◌, ℕ, ◌+◌, ◌-◌, ◌<◌, ◌≤◌, suc, List, [], ◌∷◌, ◌++◌, length, take, drop, decimal, refl, sym, subst, ◌∙◌, ap, arith, inl, inr, append_assoc, append-nil, length_push, flat_map_more, take-append-drop, AllByRecursion, flat_map, line_feed, Text, Piece, end_of}
use Rattle.journal_format.proofs.Words.{AscendFrom, Step, IsLabel, HasSmallNumbers, piece_text, pieces_text, step_text, number_limit, numbers_of, numbers_line, AreNumbers, IsSmall, step_text_in, IsStepIn, steps_limit, BeginsWith, BeginsWithPiece, BeginsWithPieces, BeginsWithStep, IsWrongPiece}
use Rattle.journal_format.proofs.Words.{AreWrongPieces, HasWrongPieces, IsWrongStep, AreWrongSteps, IsWrongTail, StopsWhere, Version, First, Second}
use Rattle.std.proofs.Common.{◌≢◌, length-take, length-drop}
use Rattle.history_spec.proofs.StepLemmas.{all_push}
use Rattle.journal_format.specs.JournalText.{numbers}
use Rattle.journal_format.specs.declared.fault.Stop.{Stop}
use Rattle.journal_format.specs.declared.fault.Stop.TheVariants as stops

-- the text of a piece is its line of numbers, and then its bytes
pub piece_text-is : (p : Piece) (r : Text) → piece_text p ++ r ≡ numbers_line (numbers_of p) ++ line_feed ∷ (p.old ++ (p.new ++ line_feed ∷ r))
piece_text-is p r = simp append_assoc

-- the text of pieces is the line of their number, and then each piece
pub pieces_text-is : (pieces : List Piece) (r : Text) → pieces_text pieces ++ r ≡ decimal (length pieces) ++ line_feed ∷ (flat_map piece_text pieces ++ r)
unfolding pieces_text
pieces_text-is pieces r = simp append_assoc

-- a step is the line of its label, and then its pieces
pub step_text-is : (step : Step) (r : Text) → step_text step ++ r ≡ step.label ++ line_feed ∷ (pieces_text step.pieces ++ r)
unfolding step_text
step_text-is step r = simp append_assoc

-- if P implies Q, and P is true of where reading stops, so is Q
pub stops_weaker : (P Q : ℕ → Type 0) → ((left : ℕ) → P left → Q left) → (stop : Stop) → StopsWhere P stop → StopsWhere Q stop
stops_weaker P Q f (stops.Wrong left) p = f left p
stops_weaker P Q f stops.Memory p = tt

-- ---- a piece, read in parts

pub piece_read : (from place old_len new_len : ℕ) (text rest bytes after old new : Text)
    → BeginsWith numbers_line (AreNumbers from) text (numbers place old_len new_len) rest
    → rest ≡ bytes ++ line_feed ∷ after → length bytes ≡ old_len + new_len
    → old ≡ take old_len bytes → new ≡ drop old_len bytes
    → BeginsWithPiece from text (record { place = place; old = old; new = new }) after
piece_read from place old_len new_len text rest bytes after old new b whole len front back =
    let o : length old ≡ old_len = ap length front ∙ length-take old_len bytes ∙ omega arith in
    let n : length new ≡ new_len = ap length back ∙ length-drop old_len bytes ∙ omega arith in
    let joined : bytes ≡ old ++ new = sym (take-append-drop old_len bytes) ∙ ap (λ (t : Text). t ++ drop old_len bytes) (sym front) ∙ ap (λ (t : Text). old ++ t) (sym back) in
    let p : Piece = record { place = place; old = old; new = new } in
    record {
      good = record {
        after = b.good.after;
        small = record { place = b.good.place; old = subst (λ (k : ℕ). k ≤ number_limit) (sym o) b.good.old_len; new = subst (λ (k : ℕ). k ≤ number_limit) (sym n) b.good.new_len };
      };
      whole =
          b.whole
          ∙ ap (λ (k : ℕ). numbers_line (numbers place k new_len) ++ line_feed ∷ rest) (sym o)
          ∙ ap (λ (k : ℕ). numbers_line (numbers place (length old) k) ++ line_feed ∷ rest) (sym n)
          ∙ ap (λ (t : Text). numbers_line (numbers_of p) ++ line_feed ∷ t) (whole ∙ ap (λ (t : Text). t ++ line_feed ∷ after) joined ∙ append_assoc old new (line_feed ∷ after))
          ∙ sym (piece_text-is p after);
    }

-- ---- pieces, read one by one

pub flat_push : {X : Type 0} (f : X → Text) (xs : List X) (x : X) (text rest next : Text) → text ≡ flat_map f xs ++ rest → rest ≡ f x ++ next → text ≡ flat_map f (xs ++ x ∷ []) ++ next
flat_push f xs x text rest next whole begins =
    whole ∙ ap (λ (t : Text). flat_map f xs ++ t) begins ∙ sym (append_assoc (flat_map f xs) (f x) next)
    ∙ ap (λ (t : Text). t ++ next) (flat_map_more f [] xs x)

-- `n` of `count` pieces are read: they are before the rest, and if the rest goes wrong, so does the whole
pub record ArePiecesRead (count n : ℕ) (text : Text) (pieces : List Piece) (from : ℕ) (rest : Text) : Type 0 where
  pub many : length pieces ≡ n
  pub whole : text ≡ flat_map piece_text pieces ++ rest
  pub ascend : (ps : List Piece) → AscendFrom from ps → AscendFrom 0 (pieces ++ ps)
  pub small : AllByRecursion HasSmallNumbers pieces
  pub wrong : (left : ℕ) → AreWrongPieces (count - n) from rest left → AreWrongPieces count 0 text left

pub no_pieces_read : (count : ℕ) (text : Text) → ArePiecesRead count 0 text [] 0 text
no_pieces_read count text = record { many = refl; whole = refl; ascend = λ ps h. h; small = tt; wrong = λ left w. subst (λ (k : ℕ). AreWrongPieces k 0 text left) (omega arith) w }

pub one_more_piece : (count n : ℕ) (text : Text) (pieces : List Piece) (from : ℕ) (rest : Text) (p : Piece) (next : Text)
    → ArePiecesRead count n text pieces from rest → n < count → BeginsWithPiece from rest p next
    → ArePiecesRead count (n + 1) text (pieces ++ p ∷ []) (end_of p) next
one_more_piece count n text pieces from rest p next r h b = record {
  many = length_push pieces p ∙ ap (λ k. k + 1) r.many;
  whole = flat_push piece_text pieces p text rest next r.whole b.whole;
  ascend = λ ps a. subst (AscendFrom 0) (sym (append_assoc pieces (p ∷ []) ps)) (r.ascend (p ∷ ps) (b.good.after, a));
  small = all_push HasSmallNumbers pieces p r.small b.good.small;
  wrong = λ left w.
      let more : suc (count - (n + 1)) ≡ count - n = omega arith in
      r.wrong left (subst (λ (k : ℕ). AreWrongPieces k from rest left) more (inr (p, next, b, w)));
}

pub wrong_piece : (count n : ℕ) (text : Text) (pieces : List Piece) (from : ℕ) (rest : Text)
    → ArePiecesRead count n text pieces from rest → n < count → (left : ℕ) → IsWrongPiece from rest left → AreWrongPieces count 0 text left
wrong_piece count n text pieces from rest r h left w =
    let more : suc (count - (n + 1)) ≡ count - n = omega arith in
    r.wrong left (subst (λ (k : ℕ). AreWrongPieces k from rest left) more (inl w))

-- all pieces are read
pub pieces_read : (text : Text) (count n : ℕ) (after : Text) (pieces : List Piece) (from : ℕ) (rest : Text)
    → BeginsWith decimal IsSmall text count after → ArePiecesRead count n after pieces from rest → n ≡ count → BeginsWithPieces text pieces rest
pieces_read text count n after pieces from rest b r e =
    let many : length pieces ≡ count = r.many ∙ e in
    record {
      good = record {
        ascending = subst (AscendFrom 0) (append-nil pieces) (r.ascend [] tt);
        few = subst (λ (k : ℕ). k ≤ number_limit) (sym many) b.good;
        small = r.small;
      };
      whole = b.whole ∙ ap (λ (k : ℕ). decimal k ++ line_feed ∷ after) (sym many)
          ∙ ap (λ (t : Text). decimal (length pieces) ++ line_feed ∷ t) r.whole ∙ sym (pieces_text-is pieces rest);
    }

-- if one of the pieces is wrong, the pieces are wrong
pub pieces_wrong : (text : Text) (count n : ℕ) (after : Text) (pieces : List Piece) (from : ℕ) (rest : Text)
    → BeginsWith decimal IsSmall text count after → ArePiecesRead count n after pieces from rest → n < count
    → (left : ℕ) → IsWrongPiece from rest left → HasWrongPieces text left
pieces_wrong text count n after pieces from rest b r h left w =
    inr (record { value = count; rest = after; begins = b; wrong = wrong_piece count n after pieces from rest r h left w })

-- ---- a step, read in parts

-- the text of a step in version 1 is the text of its pieces
pub plain_step_read : (text : Text) (label : Text) (pieces : List Piece) (rest : Text) → label ≡ [] → BeginsWithPieces text pieces rest
    → BeginsWithStep First text (record { label = label; pieces = pieces }) rest
plain_step_read text label pieces rest none b = record {
  good = (record { label = subst IsLabel (sym none) (record { short = omega arith; plain = refl }); pieces = b.good }, none);
  whole = b.whole;
}

-- a step is the line of its label, and then its pieces
pub labelled_step_read : (text after label word : Text) (pieces : List Piece) (rest : Text) → word ≡ label → BeginsWith {A = Text} (λ label. label) IsLabel text label after
    → BeginsWithPieces after pieces rest → BeginsWithStep Second text (record { label = word; pieces = pieces }) rest
labelled_step_read text after label word pieces rest same b p =
    subst (λ (w : Text). BeginsWithStep Second text (record { label = w; pieces = pieces }) rest) (sym same)
    (record {
      good = record { label = b.good; pieces = p.good };
      whole = b.whole ∙ ap (λ (t : Text). label ++ line_feed ∷ t) p.whole ∙ sym (step_text-is (record { label = label; pieces = pieces }) rest);
    })

-- a step with wrong pieces is wrong
pub labelled_step_wrong : (text after label : Text) → BeginsWith {A = Text} (λ label. label) IsLabel text label after → (left : ℕ) → HasWrongPieces after left → IsWrongStep Second text left
labelled_step_wrong text after label b left w = inr (record { value = label; rest = after; begins = b; wrong = w })

-- ---- steps, read one by one

-- `n` of `count` steps are read, and are before the rest
pub record AreStepsRead (version : Version) (count n : ℕ) (text : Text) (steps : List Step) (rest : Text) : Type 0 where
  pub many : length steps ≡ n
  pub whole : text ≡ flat_map (step_text_in version) steps ++ rest
  pub good : AllByRecursion (IsStepIn version) steps

pub no_steps_read : (version : Version) (count : ℕ) (text : Text) → AreStepsRead version count 0 text [] text
no_steps_read version count text = record { many = refl; whole = refl; good = tt }

pub one_more_step : (version : Version) (count n : ℕ) (text : Text) (steps : List Step) (rest : Text) (step : Step) (next : Text)
    → AreStepsRead version count n text steps rest → BeginsWithStep version rest step next → AreStepsRead version count (n + 1) text (steps ++ step ∷ []) next
one_more_step version count n text steps rest step next r b = record {
  many = length_push steps step ∙ ap (λ k. k + 1) r.many;
  whole = flat_push (step_text_in version) steps step text rest next r.whole b.whole;
  good = all_push (IsStepIn version) steps step r.good b.good;
}

-- a text that goes wrong after steps goes wrong
pub wrong_after_steps : (version : Version) (steps : List Step) (more : ℕ) (text rest : Text) (left : ℕ)
    → AllByRecursion (IsStepIn version) steps → text ≡ flat_map (step_text_in version) steps ++ rest → AreWrongSteps version more rest left → AreWrongSteps version (length steps + more) text left
wrong_after_steps version [] more text rest left good whole w =
    subst (λ (n : ℕ). AreWrongSteps version n text left) (omega arith) (subst (λ (t : Text). AreWrongSteps version more t left) (sym whole) w)
wrong_after_steps version (step ∷ steps) more text rest left good whole w =
    let next : Text = flat_map (step_text_in version) steps ++ rest in
    let begins : BeginsWithStep version text step next = record { good = good.0; whole = whole ∙ append_assoc (step_text_in version step) (flat_map (step_text_in version) steps) rest } in
    let count : suc (length steps + more) ≡ length (step ∷ steps) + more = omega arith in
    subst (λ (n : ℕ). AreWrongSteps version n text left) count (inr (step, next, begins, wrong_after_steps version steps more next rest left good.1 refl w))

pub wrong_step : (version : Version) (count n : ℕ) (text : Text) (steps : List Step) (rest : Text) → AreStepsRead version count n text steps rest → n < count
    → (left : ℕ) → IsWrongStep version rest left → (more : ℕ) → AreWrongSteps version (count + more) text left
wrong_step version count n text steps rest r h left w more =
    let here : AreWrongSteps version (suc (count - (n + 1) + more)) rest left = inl w in
    let total : length steps + suc (count - (n + 1) + more) ≡ count + more = omega (arith, r.many) in
    subst (λ (k : ℕ). AreWrongSteps version k text left) total (wrong_after_steps version steps (suc (count - (n + 1) + more)) text rest left r.good r.whole here)

-- ---- the tail

-- past steps before a text that goes wrong
pub tail_wrong : (version : Version) (past : List Step) (undos redos : ℕ) (text rest : Text) (left : ℕ)
    → length text ≤ steps_limit version → length past ≡ undos → AllByRecursion (IsStepIn version) past → text ≡ flat_map (step_text_in version) past ++ rest
    → AreWrongSteps version redos rest left → IsWrongTail version (undos + redos) text left
tail_wrong version past undos redos text rest left short many good whole w =
    inr (record {
      short = short;
      wrong = subst (λ (n : ℕ). AreWrongSteps version (n + redos) text left) many (wrong_after_steps version past redos text rest left good whole w);
    })

-- no text may follow the steps
pub bytes_left : (version : Version) (future : List Step) (redos : ℕ) (text rest : Text) → length future ≡ redos → AllByRecursion (IsStepIn version) future → text ≡ flat_map (step_text_in version) future ++ rest
    → rest ≢ [] → AreWrongSteps version redos text (length rest)
bytes_left version future redos text rest many good whole some =
    let w : AreWrongSteps version 0 rest (length rest) = (some, refl) in
    subst (λ (n : ℕ). AreWrongSteps version n text (length rest)) (omega (arith, many)) (wrong_after_steps version future 0 text rest (length rest) good whole w)
