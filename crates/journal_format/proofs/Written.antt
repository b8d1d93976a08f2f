-- Texts of several pieces or steps, written one after another.
use Rattle.journal_format.proofs.Words.{◌≡◌, ℕ, ◌+◌, ◌-◌, ◌<◌, ◌≤◌, List, [], ◌∷◌, ◌++◌, length, take, drop, min, get_or, decimal, sym, ◌∙◌, ap, arith, reverse, length-append, append_assoc, take-append-drop, take_more, take_all, flat_map_more, flat_map, line_feed, Text, Piece, Step, piece_text, pieces_text, step_text, counts, text_in}
use Rattle.std.proofs.Common.{length-take, length-drop}
use Rattle.std.proofs.lemmas.Grind.{flat_map-append}
use Rattle.std.proofs.lemmas.List.{length-reverse}
use Rattle.journal_format.specs.JournalText.{head_text, journal_text}

pub written_more : {X : Type 0} (f : X → Text) (bs out next : Text) (xs : List X) (i : ℕ) (x : X) → i < length xs → x ≡ get_or xs i x
    → out ≡ bs ++ flat_map f (take i xs) → next ≡ out ++ f x → next ≡ bs ++ flat_map f (take (i + 1) xs)
written_more {X = X} f bs out next xs i x h e so more =
    let taken : take (i + 1) xs ≡ take i xs ++ x ∷ [] = take_more xs i x h ∙ ap (λ (y : X). take i xs ++ y ∷ []) (sym e) in
    more ∙ ap (λ (t : Text). t ++ f x) so ∙ flat_map_more f bs (take i xs) x ∙ ap (λ (ys : List X). bs ++ flat_map f ys) (sym taken)

pub written_all : {X : Type 0} (f : X → Text) (bs out : Text) (xs : List X) (i : ℕ) → length xs ≤ i → out ≡ bs ++ flat_map f (take i xs) → out ≡ bs ++ flat_map f xs
written_all {X = X} f bs out xs i h so = so ∙ ap (λ (ys : List X). bs ++ flat_map f ys) (take_all i xs h)

-- the text of pieces is their number in a line, and then each piece
pub pieces_written : (bs out : Text) (pieces : List Piece) (i : ℕ) → length pieces ≤ i → out ≡ (bs ++ (decimal (length pieces) ++ line_feed ∷ [])) ++ flat_map piece_text (take i pieces)
    → out ≡ bs ++ pieces_text pieces
unfolding pieces_text
pieces_written bs out pieces i h so =
    written_all piece_text (bs ++ (decimal (length pieces) ++ line_feed ∷ [])) out pieces i h so ∙ simp append_assoc

-- the text of a step is its label in a line, and then its pieces
pub step_written : (bs a b out : Text) (step : Step) → a ≡ bs ++ step.label → b ≡ a ++ line_feed ∷ [] → out ≡ b ++ pieces_text step.pieces → out ≡ bs ++ step_text step
unfolding step_text
step_written bs a b out step label line pieces =
    pieces ∙ ap (λ (t : Text). t ++ pieces_text step.pieces) (line ∙ ap (λ (t : Text). t ++ line_feed ∷ []) label) ∙ simp append_assoc

-- the head, the past steps and the future steps are the journal
pub journal_written : (digest : Text) (past undone : List Step) (a b d e : Text) → a ≡ []
    → b ≡ a ++ head_text digest (counts (length past) (length undone)) → d ≡ b ++ flat_map step_text past → e ≡ d ++ flat_map step_text (reverse undone)
    → e ≡ journal_text (record { digest = digest; past = past; future = reverse undone })
unfolding text_in
journal_written digest past undone a b d e start head first last =
    let future : Text = flat_map step_text (reverse undone) in
    let whole : e ≡ (head_text digest (counts (length past) (length undone)) ++ flat_map step_text past) ++ future =
    last ∙ ap (λ (t : Text). t ++ future) (first ∙ ap (λ (t : Text). t ++ flat_map step_text past) (head ∙ ap (λ (t : Text). t ++ head_text digest (counts (length past) (length undone))) start)) in
    let count : length undone ≡ length (reverse undone) = sym (length-reverse undone) in
    whole ∙ ap (λ (n : ℕ). (head_text digest (counts (length past) n) ++ flat_map step_text past) ++ future) count ∙ simp append_assoc

-- the texts of past steps and future ones are the same, wherever the past ends
parted_texts : (undos : ℕ) (past future : List Step) → flat_map step_text past ++ flat_map step_text future
    ≡ flat_map step_text (take undos past) ++ flat_map step_text (drop undos past ++ future)
parted_texts undos past future =
    let first : Text = flat_map step_text (take undos past) in
    ap (λ (ss : List Step). flat_map step_text ss ++ flat_map step_text future) (sym (take-append-drop undos past))
    ∙ ap (λ (t : Text). t ++ flat_map step_text future) (flat_map-append step_text (take undos past) (drop undos past))
    ∙ append_assoc first (flat_map step_text (drop undos past)) (flat_map step_text future)
    ∙ ap (λ (t : Text). first ++ t) (sym (flat_map-append step_text (drop undos past) future))

-- the head, the past steps and the future steps are the journal in which the last of the past steps are future
pub taken_back_written : (digest : Text) (undos : ℕ) (past future : List Step) (a b d e : Text) → undos ≤ length past → a ≡ []
    → b ≡ a ++ head_text digest (counts undos (length past - undos + length future)) → d ≡ b ++ flat_map step_text past → e ≡ d ++ flat_map step_text future
    → e ≡ journal_text (record { digest = digest; past = take undos past; future = drop undos past ++ future })
unfolding text_in
taken_back_written digest undos past future a b d e within start head first last =
    let redos : ℕ = length past - undos + length future in
    let texts : Text = flat_map step_text (take undos past) ++ flat_map step_text (drop undos past ++ future) in
    let whole : e ≡ (head_text digest (counts undos redos) ++ flat_map step_text past) ++ flat_map step_text future =
    last ∙ ap (λ (t : Text). t ++ flat_map step_text future) (first ∙ ap (λ (t : Text). t ++ flat_map step_text past) (head ∙ ap (λ (t : Text). t ++ head_text digest (counts undos redos)) start)) in
    let some : undos ≡ length (take undos past) = omega (arith, length-take undos past) in
    let others : redos ≡ length (drop undos past ++ future) = omega (arith, length-append (drop undos past) future, length-drop undos past) in
    whole
    ∙ append_assoc (head_text digest (counts undos redos)) (flat_map step_text past) (flat_map step_text future)
    ∙ ap (λ (t : Text). head_text digest (counts undos redos) ++ t) (parted_texts undos past future)
    ∙ ap (λ (n : ℕ). head_text digest (counts n redos) ++ texts) some
    ∙ ap (λ (n : ℕ). head_text digest (counts (length (take undos past)) n) ++ texts) others
    ∙ simp append_assoc
