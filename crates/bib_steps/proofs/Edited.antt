-- An edit inside a piece of a step.
use Rattle.bib_steps.proofs.Words.{zero, suc, ◌≡◌, ℕ, get_or, set, ◌+◌, ◌-◌, ◌<◌, ◌≤◌, List, [], ◌∷◌, ◌++◌, length, take, drop, refl, sym, subst, ◌∙◌, ap, ap₂, arith, append-nil, append_assoc, length-append, length-drop, take-append-drop, take_at, drop_at, drop_all, take-append-le, length-take-le}
use Rattle.bib_steps.proofs.Words.{set_split, Piece, composed_at, composed_after, IsComposable, IsComposableAt, StandApart, old_end, new_end, ends_of, IsNear}
use Rattle.std.proofs.Common.{⊎_elim, nat_le, length-set}
use Rattle.std.proofs.lemmas.Bool.{le-leb, cond-true, cases_lt}
use Rattle.std.proofs.lemmas.List.{drop-append-le}
use Rattle.std.specs.List.{between}
use Rattle.bib_spec.specs.Text.{Text}
use Rattle.bib_spec.specs.Pieces.{AscendFrom}
use Rattle.history_spec.specs.Composing.{Back, On, in_order, put_in, Group, group_end, with_member, alone, groups_from, groups, group_old, group_new, composed_from}
use Rattle.bib_steps.specs.Amending.{edited, BeginsInside, HasSpot, edited_at, LiesInside, WereEnds}
use Rattle.bib_steps.proofs.Positions.{near_value, near_composable, composable_as, composed_as, same_front_ends}
use Rattle.bib_steps.proofs.MovedEnds.{ReplacedLast, replaced_last}

-- the piece of the step that is turned, and that of the edit inside it, as one group
one_group : (r q : Piece) (k : ℕ) → q.place ≡ r.place + k → k ≤ length r.old
    → groups (in_order (r ∷ []) (q ∷ [])) ≡ record { place = r.place; covered = r.old ++ drop (length r.old - k) q.old; backs = r ∷ []; ons = q ∷ [] } ∷ []
one_group r q k e h =
    let begun : Group = record { place = r.place; covered = r.old; backs = r ∷ []; ons = [] } in
    let none : r.place + 0 - r.place ≡ 0 = omega arith in
    let order : in_order (r ∷ []) (q ∷ []) ≡ Back r ∷ On q ∷ []
    = cond-true (nat_le r.place q.place) (Back r ∷ On q ∷ []) (On q ∷ put_in r (in_order []) []) (le-leb r.place q.place (omega (arith, e))) in
    let first : alone (Back r) ≡ begun = ap (λ n. record { place = r.place; covered = drop n r.old; backs = r ∷ []; ons = [] }) none in
    let past : r.place + length r.old - q.place ≡ length r.old - k = omega (arith, e, h) in
    ap groups order
    ∙ ap (λ g. groups_from g (On q ∷ [])) first
    ∙ cond-true (nat_le q.place (group_end begun)) (with_member begun (On q) ∷ []) (begun ∷ alone (On q) ∷ []) (le-leb q.place (group_end begun) (omega (arith, e, h)))
    ∙ ap (λ n. record { place = r.place; covered = r.old ++ drop n q.old; backs = r ∷ []; ons = q ∷ [] } ∷ []) past

-- the bytes of the group before the step, and after the edit
old_is : (m : ℕ) (old new more : Text) → group_old (record { place = m; covered = new ++ more; backs = record { place = m; old = new; new = old } ∷ []; ons = [] }) ≡ old ++ more
old_is m old new more =
    let here : m - m ≡ 0 = omega arith in
    ap (λ n. between 0 n (new ++ more) ++ old ++ drop (n + length new) (new ++ more)) here
    ∙ ap (λ t. old ++ t) (drop_at new more (0 + length new) (omega arith))

-- past the old bytes of the edit, what it covers is the rest of the piece's new text
rest_covered : (k n : ℕ) (new more : Text) → length more ≡ n → k ≤ length new → drop (k + n) (new ++ drop (length new - k) more) ≡ drop (k + n) new
rest_covered k n new more l h =
    ⊎_elim (λ b. drop_all (k + n) (new ++ drop (length new - k) more) (omega (arith, l, h, b, length-append new (drop (length new - k) more), length-drop (length new - k) more))
    ∙ sym (drop_all (k + n) new (omega (arith, b))))
    (λ b. drop-append-le (k + n) new (drop (length new - k) more) b ∙ ap (λ t. drop (k + n) new ++ t) (drop_all (length new - k) more (omega (arith, l, h, b))) ∙ append-nil (drop (k + n) new))
    (cases_lt (length new) (k + n))

new_is : (m k : ℕ) (q : Piece) (new : Text) → q.place ≡ m + k → k ≤ length new
    → group_new (record { place = m; covered = new ++ drop (length new - k) q.old; backs = []; ons = q ∷ [] }) ≡ take k new ++ (q.new ++ drop (k + length q.old) new)
new_is m k q new e h =
    let covered : Text = new ++ drop (length new - k) q.old in
    let there : q.place - m ≡ k = omega (arith, e) in
    let whole : k - 0 ≡ k = omega arith in
    ap (λ n. between 0 n covered ++ q.new ++ drop (n + length q.old) covered) there
    ∙ ap₂ (λ t u. t ++ q.new ++ u) (ap (λ n. take n covered) whole ∙ take-append-le k new (drop (length new - k) q.old) h)
    (rest_covered k (length q.old) new q.old refl h)
    ∙ append_assoc (take k new) q.new (drop (k + length q.old) new)

pub composed_edited : (at mid k : ℕ) (p q : Piece) → at ≤ p.place → q.place ≡ mid + (p.place - at) + k → k ≤ length p.new → composed_at at mid (p ∷ []) (q ∷ []) ≡ edited k q p ∷ []
composed_edited at mid k p q h e l =
    let m : ℕ = mid + (p.place - at) in
    let r : Piece = record { place = m; old = p.new; new = p.old } in
    let covered : Text = p.new ++ drop (length p.new - k) q.old in
    let place : at + (m - mid) ≡ p.place = omega (arith, h) in
    ap (composed_from at mid) (one_group r q k e l)
    ∙ ap (λ n. record { place = n; old = group_old (record { place = m; covered = covered; backs = r ∷ []; ons = [] }); new = group_new (record { place = m; covered = covered; backs = []; ons = q ∷ [] }) } ∷ []) place
    ∙ ap₂ (λ (t u : Text). record { place = p.place; old = t; new = u } ∷ []) (old_is m p.old p.new (drop (length p.new - k) q.old)) (new_is m k q p.new e l)

pub composed_inside : (at mid k : ℕ) (first second : List Piece) (p q : Piece) → IsComposableAt at mid first second → first ≡ p ∷ [] → second ≡ q ∷ [] → q.place ≡ mid + (p.place - at) + k → k ≤ length p.new
    → edited k q p ∷ [] ≡ composed_at at mid first second
composed_inside at mid k first second p q c e f n l =
    sym (composed_edited at mid k p q (subst (λ (ps : List Piece). AscendFrom at ps) e c.1.ascending).0 n l)
    ∙ ap₂ (λ (ps qs : List Piece). composed_at at mid ps qs) (sym e) (sym f)

-- ---- the list with the edited piece

-- it is the list with the edited piece in place of the other
pub edited_at-set : (n k : ℕ) (q : Piece) (ps : List Piece) (p : Piece) → HasSpot n k ps → p ≡ get_or ps n p → edited_at n k q ps ≡ set ps n (edited k q p)
edited_at-set n k q [] p h e = absurd h
edited_at-set zero k q (r ∷ ps) p h e = ap (λ (r : Piece). edited k q r ∷ ps) (sym e)
edited_at-set (suc n) k q (r ∷ ps) p h e = ap (λ qs. r ∷ qs) (edited_at-set n k q ps p h e)

pub spot_inside : (n k : ℕ) (ps : List Piece) → HasSpot n k ps → n < length ps
spot_inside n k [] h = absurd h
spot_inside zero k (r ∷ ps) h = omega arith
spot_inside (suc n) k (r ∷ ps) h = omega (arith, spot_inside n k ps h)

pub spot_within : (n k : ℕ) (ps : List Piece) (p : Piece) → HasSpot n k ps → p ≡ get_or ps n p → k ≤ length p.new
spot_within n k [] p h e = absurd h
spot_within zero k (r ∷ ps) p h e = subst (λ (r : Piece). k ≤ length r.new) (sym e) h
spot_within (suc n) k (r ∷ ps) p h e = spot_within n k ps p h e

has_spot : (n k : ℕ) (ps : List Piece) (p : Piece) → take 1 (drop n ps) ≡ p ∷ [] → k ≤ length p.new → HasSpot n k ps
has_spot zero k [] p e h = absurd (cc)
has_spot (suc n) k [] p e h = absurd (cc)
has_spot zero k (r ∷ ps) p e h =
    let same : p ≡ r = cc in
    subst (λ (r : Piece). k ≤ length r.new) same h
has_spot (suc n) k (r ∷ ps) p e h = has_spot n k ps p e h

edited_in_three : (n k : ℕ) (q : Piece) (ps : List Piece) (p : Piece) → take 1 (drop n ps) ≡ p ∷ [] → edited_at n k q ps ≡ take n ps ++ (edited k q p ∷ drop (suc n) ps)
edited_in_three zero k q [] p e = absurd (cc)
edited_in_three (suc n) k q [] p e = absurd (cc)
edited_in_three zero k q (r ∷ ps) p e =
    let same : r ≡ p = cc in
    ap (λ (r : Piece). edited k q r ∷ ps) same
edited_in_three (suc n) k q (r ∷ ps) p e = ap (λ qs. r ∷ qs) (edited_in_three n k q ps p e)

-- the edit begins inside the one piece near it
pub lies_inside : (ps edit middle : List Piece) (from to at mid k : ℕ) → IsComposable ps edit → StandApart ps [] → IsNear ps edit from to
    → at ≡ old_end 0 (take from ps) → mid ≡ new_end 0 0 (take from ps) → middle ≡ take (to - from) (drop from ps) → BeginsInside at mid k middle edit → LiesInside ps edit from k
lies_inside ps edit middle from to at mid k c s n a m is found =
    let p : Piece = found.0 in
    let q : Piece = found.1 in
    let one : take (to - from) (drop from ps) ≡ p ∷ [] = sym is ∙ found.2 in
    let count : to - from ≡ 1 = sym (length-take-le (to - from) (drop from ps) (omega (arith, n.ordered, n.inside, length-drop from ps))) ∙ ap length one in
    let last : to ≡ suc from = omega (arith, count, n.ordered) in
    let composable : IsComposableAt at mid middle edit
    = composable_as (old_end 0 (take from ps)) (new_end 0 0 (take from ps)) at mid (take (to - from) (drop from ps)) middle edit a m is (near_composable ps edit from to c s n) in
    let near : edited k q p ∷ [] ≡ composed_after (take from ps) (take (to - from) (drop from ps)) edit
    = composed_inside at mid k middle edit p q composable found.2 found.3 found.4 found.5
    ∙ composed_as (old_end 0 (take from ps)) (new_end 0 0 (take from ps)) at mid (take (to - from) (drop from ps)) middle edit a m is in
    let single : take 1 (drop from ps) ≡ p ∷ [] = sym (ap (λ j. take j (drop from ps)) count) ∙ one in
    record {
      spot = has_spot from k ps p single found.5;
      more = q;
      one = found.3;
      joined = sym (near_value ps edit from to (edited k q p ∷ []) c s n near)
          ∙ ap (λ j. take from ps ++ (edited k q p ∷ drop j ps)) last
          ∙ sym (edited_in_three from k q ps p single);
    }

-- ---- its ends

-- the ends before the piece that changed are right, and those after it have to move
pub changed_last : (ps : List Piece) (ends : List ℕ) (n : ℕ) (w : WereEnds n ps ends) → n < length ps → ReplacedLast w.0 ps ends n 1 1 (length ps)
changed_last ps ends n w h =
    let old : List Piece = w.0 in
    let long : length ps ≡ length old = ap length w.2 ∙ length-set old n w.1 in
    let within : n < length old = omega (arith, h, long) in
    let one : suc n ≡ n + 1 = omega arith in
    let front : List Piece = take n old in
    let parts : ps ≡ front ++ (w.1 ∷ drop (n + 1) old) = w.2 ∙ set_split old n w.1 within ∙ ap (λ k. front ++ (w.1 ∷ drop k old)) one in
    let count : length front ≡ n = length-take-le n old (omega (arith, within)) in
    replaced_last old ps (w.1 ∷ []) ends n n (n + 1) 1 1 (length ps) (omega arith) (omega (arith, within)) (omega arith) refl refl (omega (arith, h))
    (ap (drop n) parts ∙ drop_at front (w.1 ∷ drop (n + 1) old) n count)
    (w.3 ∙ sym (take-append-drop n (ends_of old))
    ∙ ap (λ es. es ++ drop n (ends_of old)) (same_front_ends old ps n (omega (arith, within)) (omega (arith, h)) (sym (ap (take n) parts ∙ take_at front (w.1 ∷ drop (n + 1) old) n count))))
