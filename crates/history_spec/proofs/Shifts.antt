-- Pieces that fit a part of a text fit the text, and make of it what they make of the part.
use Rattle.history_spec.proofs.Words.{◌≡◌, ℕ, ◌+◌, ◌-◌, ◌≤◌, List, [], ◌∷◌, ◌++◌, length, take, drop, refl, sym, subst, ◌∙◌, ap, ap₂, arith, append_assoc, length-append, length-drop, take_at, drop_at, drop-drop, AllByRecursion, between, Text, Piece, end_of, Stands, AscendFrom, Fit, BeginFrom}
use Rattle.history_spec.proofs.Words.{applied_from, applied, applied_from-begin, moved_back, all_moved_back, FitAfter}
use Rattle.std.proofs.lemmas.List.{take-append-le, drop-append-le}
use Rattle.bib_spec.proofs.PieceLemmas.{drop-place, stands_before}

-- from a place within the part on, the text is the rest of the part, and the text after the part
drop-after : (before bytes after : Text) (at n : ℕ) → length before ≡ at → n ≤ length bytes → drop (at + n) (before ++ (bytes ++ after)) ≡ drop n bytes ++ after
drop-after before bytes after at n e h =
    sym (drop-drop n at (before ++ (bytes ++ after)))
    ∙ ap (drop n) (drop_at before (bytes ++ after) at e)
    ∙ drop-append-le n bytes after h

stands-after : (before bytes after : Text) (at : ℕ) (p : Piece) → length before ≡ at → at ≤ p.place → Stands bytes (moved_back at p) → Stands (before ++ (bytes ++ after)) p
stands-after before bytes after at p e h s =
    let inside : p.place - at + length p.old ≤ length bytes = s.inside in
    let place : at + (p.place - at) ≡ p.place = omega arith in
    stands_before (before ++ (bytes ++ after)) (drop (end_of (moved_back at p)) bytes ++ after) p
    (omega (arith, length-append before (bytes ++ after), length-append bytes after))
    (ap (λ n. drop n (before ++ (bytes ++ after))) (sym place)
    ∙ drop-after before bytes after at (p.place - at) e (omega arith)
    ∙ ap (λ l. l ++ after) (drop-place bytes (moved_back at p) s)
    ∙ append_assoc p.old (drop (end_of (moved_back at p)) bytes) after)

standing-after : (before bytes after : Text) (at : ℕ) (ps : List Piece) → length before ≡ at → BeginFrom at ps → AllByRecursion (Stands bytes) (all_moved_back at ps)
    → AllByRecursion (Stands (before ++ (bytes ++ after))) ps
standing-after before bytes after at [] e b s = tt
standing-after before bytes after at (p ∷ ps) e b s = (stands-after before bytes after at p e b.0 s.0, standing-after before bytes after at ps e b.1 s.1)

-- the pieces are in order in the text as they are in the part
ascend-after : (at end from : ℕ) (ps : List Piece) → from ≤ at + end → BeginFrom at ps → AscendFrom end (all_moved_back at ps) → AscendFrom from ps
ascend-after at end from [] h b a = tt
ascend-after at end from (p ∷ ps) h b a =
    let begins : at ≤ p.place = b.0 in
    let below : end ≤ p.place - at = a.0 in
    (omega arith, ascend-after at (end_of (moved_back at p)) (end_of p) ps (omega arith) b.1 a.1)

pub applied-from_after : (before bytes after : Text) (at end : ℕ) (ps : List Piece) → length before ≡ at → end ≤ length bytes → BeginFrom at ps
    → AscendFrom end (all_moved_back at ps) → AllByRecursion (Stands bytes) (all_moved_back at ps)
    → applied_from (at + end) ps (before ++ (bytes ++ after)) ≡ applied_from end (all_moved_back at ps) bytes ++ after
applied-from_after before bytes after at end [] e h b a s = drop-after before bytes after at end e h
applied-from_after before bytes after at end (p ∷ ps) e h b a s =
    let begins : at ≤ p.place = b.0 in
    let below : end ≤ p.place - at = a.0 in
    let stand : Stands bytes (moved_back at p) = s.0 in
    let inside : p.place - at + length p.old ≤ length bytes = stand.inside in
    let gap : p.place - (at + end) ≡ p.place - at - end = omega arith in
    let stop : at + end_of (moved_back at p) ≡ end_of p = omega arith in
    let room : p.place - at - end ≤ length (drop end bytes) = omega (arith, length-drop end bytes) in
    let text : Text = before ++ (bytes ++ after) in
    let rest : Text = applied_from (end_of (moved_back at p)) (all_moved_back at ps) bytes in
    let front : between (at + end) p.place text ≡ between end (p.place - at) bytes
    = ap (λ n. take n (drop (at + end) text)) gap
    ∙ ap (take (p.place - at - end)) (drop-after before bytes after at end e h)
    ∙ take-append-le (p.place - at - end) (drop end bytes) after room in
    let back : applied_from (end_of p) ps text ≡ rest ++ after
    = ap (λ n. applied_from n ps text) (sym stop) ∙ applied-from_after before bytes after at (end_of (moved_back at p)) ps e inside b.1 a.1 s.1 in
    ap₂ (λ x y. x ++ p.new ++ y) front back ∙ sym (append_assoc (between end (p.place - at) bytes ++ p.new) rest after)

-- ---- the laws

pub fit-after : (before bytes after : Text) (at : ℕ) (ps : List Piece) → length before ≡ at → FitAfter at ps bytes → Fit ps (before ++ (bytes ++ after))
fit-after before bytes after at ps e f = record {
  ascending = ascend-after at 0 0 ps (omega arith) f.begin f.fit.ascending;
  standing = standing-after before bytes after at ps e f.begin f.fit.standing;
}

pub applied-after : (before bytes after : Text) (at : ℕ) (ps : List Piece) → length before ≡ at → FitAfter at ps bytes
    → applied ps (before ++ (bytes ++ after)) ≡ before ++ (applied (all_moved_back at ps) bytes ++ after)
applied-after before bytes after at ps e f =
    let same : at + 0 ≡ at = omega arith in
    let whole : at - 0 ≡ at = omega arith in
    let text : Text = before ++ (bytes ++ after) in
    applied_from-begin 0 at ps text (omega arith) f.begin
    ∙ ap (λ n. take n text ++ applied_from at ps text) whole
    ∙ ap (λ l. l ++ applied_from at ps text) (take_at before (bytes ++ after) at e)
    ∙ ap (λ n. before ++ applied_from n ps text) (sym same)
    ∙ ap (λ l. before ++ l) (applied-from_after before bytes after at 0 ps e (omega arith) f.begin f.fit.ascending f.fit.standing)

-- ---- the whole text

not-moved : (p : Piece) → moved_back 0 p ≡ p
not-moved p = let same : p.place - 0 ≡ p.place = omega arith in ap (λ n. record { place = n; old = p.old; new = p.new }) same

pub none-moved : (ps : List Piece) → all_moved_back 0 ps ≡ ps
none-moved [] = refl
none-moved (p ∷ ps) = ap₂ (λ q qs. q ∷ qs) (not-moved p) (none-moved ps)

begin_anywhere : (ps : List Piece) → BeginFrom 0 ps
begin_anywhere [] = tt
begin_anywhere (p ∷ ps) = (omega arith, begin_anywhere ps)

pub fit_after_nothing : (ps : List Piece) (text : Text) → Fit ps text → FitAfter 0 ps text
fit_after_nothing ps text f = record { begin = begin_anywhere ps; fit = subst (λ (qs : List Piece). Fit qs text) (sym (none-moved ps)) f }
