-- The pieces that lead back stand in the new text, and lead back.
use Rattle.std.proofs.Common.{◌≡◌, ℕ, ◌+◌, ◌-◌, ◌≤◌, List, [], ◌∷◌, ◌++◌, length, take, drop, refl, sym, ◌∙◌, ap, subst, arith, append_assoc, length-append}
use Rattle.std.proofs.lemmas.List.{take_at, drop_at}
use Rattle.std.specs.List.{AllByRecursion, between}
use Rattle.bib_spec.specs.Text.{Text}
use Rattle.bib_spec.specs.Pieces.{Piece, end_of, Stands, AscendFrom, applied_from, reversed_from, reversed_pieces_fit, reversed_pieces_lead_back, reversed_twice, first_moved_after, two_entries, IsMovedAndBack}
use Rattle.bib_spec.proofs.PieceLemmas.{drop_to, length-between, drop-place, stands_after}

-- the new text, cut after the first piece's new bytes
regroup : (front gap new rest : Text) → front ++ (gap ++ new ++ rest) ≡ (front ++ gap ++ new) ++ rest
regroup front gap new rest = simp append_assoc

-- the new text, cut before them
regroup_before : (front gap new rest : Text) → front ++ (gap ++ new ++ rest) ≡ (front ++ gap) ++ (new ++ rest)
regroup_before front gap new rest = simp append_assoc

ascend_back : (at new_at : ℕ) (ps : List Piece) → AscendFrom new_at (reversed_from at new_at ps)
ascend_back at new_at [] = tt
ascend_back at new_at (p ∷ ps) = (omega arith, ascend_back (end_of p) (new_at + (p.place - at) + length p.new) ps)

stand_back : (at : ℕ) (ps : List Piece) (text front : Text) → AscendFrom at ps → AllByRecursion (Stands text) ps
    → AllByRecursion (Stands (front ++ applied_from at ps text)) (reversed_from at (length front) ps)
stand_back at [] text front a s = tt
stand_back at (p ∷ ps) text front a s =
    let g : Text = between at p.place text in
    let rest : Text = applied_from (end_of p) ps text in
    let inside : end_of p ≤ length text = s.0.inside in
    let long : length g ≡ p.place - at = length-between at p.place text a.0 (omega arith) in
    let here : length (front ++ g) ≡ length front + (p.place - at) = omega (arith, length-append front g) in
    let all : length (front ++ g ++ p.new) ≡ length front + (p.place - at) + length p.new = omega (arith, length-append (front ++ g) p.new) in (
      subst (λ (t : Text). Stands t (record { place = length front + (p.place - at); old = p.new; new = p.old })) (sym (regroup_before front g p.new rest))
          (stands_after (front ++ g) rest (record { place = length front + (p.place - at); old = p.new; new = p.old }) here),
      subst (λ (t : Text). AllByRecursion (Stands t) (reversed_from (end_of p) (length front + (p.place - at) + length p.new) ps)) (sym (regroup front g p.new rest))
          (subst (λ (n : ℕ). AllByRecursion (Stands ((front ++ g ++ p.new) ++ rest)) (reversed_from (end_of p) n ps)) all
          (stand_back (end_of p) ps text (front ++ g ++ p.new) a.1 s.1)),
    )

lead_back : (at : ℕ) (ps : List Piece) (text front : Text) → AscendFrom at ps → AllByRecursion (Stands text) ps
    → applied_from (length front) (reversed_from at (length front) ps) (front ++ applied_from at ps text) ≡ drop at text
lead_back at [] text front a s = drop_at front (drop at text) (length front) refl
lead_back at (p ∷ ps) text front a s =
    let g : Text = between at p.place text in
    let k : ℕ = p.place - at in
    let rest : Text = applied_from (end_of p) ps text in
    let inside : end_of p ≤ length text = s.0.inside in
    let long : length g ≡ p.place - at = length-between at p.place text a.0 (omega arith) in
    let all : length (front ++ g ++ p.new) ≡ length front + (p.place - at) + length p.new = omega (arith, length-append (front ++ g) p.new, length-append front g) in
    let back : List Piece = reversed_from (end_of p) (length front + k + length p.new) ps in
    let new : Text = front ++ (g ++ p.new ++ rest) in
    let same : (length front + k) - length front ≡ k = omega arith in
    let first : take ((length front + k) - length front) (drop (length front) new) ≡ g =
    ap (λ n. take n (drop (length front) new)) same
    ∙ ap (take k) (drop_at front (g ++ p.new ++ rest) (length front) refl ∙ append_assoc g p.new rest)
    ∙ take_at g (p.new ++ rest) k long in
    let others : applied_from (length front + k + length p.new) back new ≡ drop (end_of p) text =
    ap (λ t. applied_from (length front + k + length p.new) back t) (regroup front g p.new rest)
    ∙ subst (λ (n : ℕ). applied_from n (reversed_from (end_of p) n ps) ((front ++ g ++ p.new) ++ rest) ≡ drop (end_of p) text) all
    (lead_back (end_of p) ps text (front ++ g ++ p.new) a.1 s.1) in
    ap (λ f. f ++ p.old ++ applied_from (length front + k + length p.new) back new) first
    ∙ ap (λ r. g ++ p.old ++ r) others
    ∙ append_assoc g p.old (drop (end_of p) text)
    ∙ ap (λ r. g ++ r) (sym (drop-place text p s.0))
    ∙ sym (drop_to at p.place text a.0)

pub fit_back : reversed_pieces_fit
fit_back ps text f = record { ascending = ascend_back 0 0 ps; standing = stand_back 0 ps text [] f.ascending f.standing }

pub applied-reversed : reversed_pieces_lead_back
applied-reversed ps text f = lead_back 0 ps text [] f.ascending f.standing

reversed_from-reversed_from : (at new_at : ℕ) (ps : List Piece) → AscendFrom at ps → reversed_from new_at at (reversed_from at new_at ps) ≡ ps
reversed_from-reversed_from at new_at [] a = refl
reversed_from-reversed_from at new_at (p ∷ ps) a =
    let here : at + ((new_at + (p.place - at)) - new_at) ≡ p.place = omega arith in
    ap (λ n. record { place = n; old = p.old; new = p.new } ∷ reversed_from (new_at + (p.place - at) + length p.new) (n + length p.old) (reversed_from (end_of p) (new_at + (p.place - at) + length p.new) ps)) here
    ∙ ap (λ qs. p ∷ qs) (reversed_from-reversed_from (end_of p) (new_at + (p.place - at) + length p.new) ps a.1)

pub reversed-reversed : reversed_twice
reversed-reversed ps a = reversed_from-reversed_from 0 0 ps a

pub moved-and-back : IsMovedAndBack two_entries first_moved_after
moved-and-back = record { afterwards = refl; back = refl }
