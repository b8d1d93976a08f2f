-- Pieces composed after other pieces, and where pieces end.
use Rattle.history_spec.proofs.Words.{⊎_elim, zero, suc, ◌≡◌, ℕ, ◌+◌, ◌-◌, ◌<◌, ◌≤◌, nat_le, get_or, List, [], ◌∷◌, ◌++◌, length, map, take, drop, refl, sym, subst, ◌∙◌, ap, ap₂, arith, append-nil, append_assoc, cases_Bool, cond-true, cond-false, take_at, drop_at, AllByRecursion}
use Rattle.history_spec.proofs.Words.{Text, Piece, end_of, Stands, Fit, applied, reversed_from, EndBy, fit_back, Member, Back, On, piece_of, in_order, Group, group_end, with_member, alone, groups_from, groups}
use Rattle.history_spec.proofs.Words.{composed_after, composed, old_end, new_end, BeginsAfter, StandApart, LiesBetween}
use Rattle.std.proofs.lemmas.List.{take_all, take_more, drop_more}
use Rattle.bib_spec.specs.Bytes.{file_limit}
use Rattle.history_spec.specs.Composing.{IsComposable, ends_of, ComposableAt, IsComposableAt}
use Rattle.history_spec.proofs.Ordered.{OrderedFrom, order_ascends}
use Rattle.history_spec.proofs.Grouped.{AreGroups, are_groups}
use Rattle.history_spec.proofs.Glued.{composed-fit}
use Rattle.history_spec.proofs.Parted.{same_place}
use Rattle.history_spec.proofs.Around.{SideStands, side_stands, ascend_front, ascend_past, ascend_after_front, reversed_ascends, new_end_append, composed-in_turn, nothing-changes}

-- ---- groups from a place on

later_groups : (text : Text) (at : ℕ) (g : Group) (ms : List Member) → at ≤ g.place → AreGroups text 0 (groups_from g ms) → AreGroups text at (groups_from g ms)
later_groups text at g [] h w = (h, w.1, w.2)
later_groups text at g (m ∷ ms) h w =
    ⊎_elim (λ y. let is : groups_from g (m ∷ ms) ≡ groups_from (with_member g m) ms
    = cond-true (nat_le (piece_of m).place (group_end g)) (groups_from (with_member g m) ms) (g ∷ groups_from (alone m) ms) y in
    subst (AreGroups text at) (sym is) (later_groups text at (with_member g m) ms (omega (arith, h, same_place g m)) (subst (AreGroups text 0) is w)))
    (λ f. let is : groups_from g (m ∷ ms) ≡ g ∷ groups_from (alone m) ms
    = cond-false (nat_le (piece_of m).place (group_end g)) (groups_from (with_member g m) ms) (g ∷ groups_from (alone m) ms) f in
    let v : AreGroups text 0 (g ∷ groups_from (alone m) ms) = subst (AreGroups text 0) is w in
    subst (AreGroups text at) (sym is) (h, v.1, v.2))
    (cases_Bool (nat_le (piece_of m).place (group_end g)))

groups_later : (text : Text) (at : ℕ) (ms : List Member) → OrderedFrom at ms → AreGroups text 0 (groups ms) → AreGroups text at (groups ms)
groups_later text at [] o w = tt
groups_later text at (Back p ∷ ms) o w = later_groups text at (alone (Back p)) ms o.0 w
groups_later text at (On p ∷ ms) o w = later_groups text at (alone (On p)) ms o.0 w

-- the groups of pieces that are composed after other pieces
pub are_groups_at : (at mid : ℕ) (first second : List Piece) (middle : Text) → ComposableAt at mid first second middle → AreGroups middle mid (groups (in_order (reversed_from at mid first) second))
are_groups_at at mid first second middle c =
    groups_later middle mid (in_order (reversed_from at mid first) second) (order_ascends mid (reversed_from at mid first) second (reversed_ascends at mid first) c.second_ascends)
    (are_groups middle (reversed_from at mid first) second c.turned_fit c.second_fit)

-- ---- short texts

pub ends_inside : (limit : ℕ) (text : Text) (ps : List Piece) → length text ≤ limit → AllByRecursion (Stands text) ps → EndBy limit ps
ends_inside limit text [] h s = tt
ends_inside limit text (p ∷ ps) h s = (omega (arith, h, s.0.inside), ends_inside limit text ps h s.1)

pub ends_front : (limit : ℕ) (ps qs : List Piece) → EndBy limit (ps ++ qs) → EndBy limit ps
ends_front limit [] qs e = tt
ends_front limit (p ∷ ps) qs e = (e.0, ends_front limit ps qs e.1)

pub ends_rest : (limit : ℕ) (ps qs : List Piece) → EndBy limit (ps ++ qs) → EndBy limit qs
ends_rest limit [] qs e = e
ends_rest limit (p ∷ ps) qs e = ends_rest limit ps qs e.1

pub old_end_by : (limit at : ℕ) (ps : List Piece) → at ≤ limit → EndBy limit ps → old_end at ps ≤ limit
old_end_by limit at [] h e = h
old_end_by limit at (p ∷ ps) h e = old_end_by limit (end_of p) ps e.0 e.1

-- ---- what can be composed

pub composable_at_start : (first second : List Piece) → IsComposable first second → IsComposableAt 0 0 first second
composable_at_start first second c = (
  applied first c.0,
  record {
    ascending = c.1.first_fit.ascending;
    turned_fit = fit_back first c.0 c.1.first_fit;
    second_fit = c.1.second_fit;
    second_ascends = c.1.second_fit.ascending;
    short = ends_inside file_limit c.0 first c.1.short c.1.first_fit.standing;
    short_start = omega arith;
    inside = omega arith;
    short_middle = c.1.short_middle;
    short_composed = ends_inside file_limit c.0 (composed first second) c.1.short (composed-fit first second c.0 c.1.first_fit c.1.second_fit).standing;
  },
)

-- a part of the second edit, alone
pub composed_near : (front middle back part : List Piece) → IsComposable (front ++ (middle ++ back)) part → StandApart (front ++ (middle ++ back)) [] → LiesBetween front middle back part []
    → composed (front ++ (middle ++ back)) part ≡ front ++ (composed_after front middle part ++ back)
composed_near front middle back part c s l =
    let first : List Piece = front ++ (middle ++ back) in
    let same : (front ++ middle) ++ back ≡ first = append_assoc front middle back in
    ap (λ qs. composed first qs) (sym (append-nil part))
    ∙ composed-in_turn front middle back part [] c.0 c.1.first_fit (subst (λ (qs : List Piece). Fit qs (applied first c.0)) (sym (append-nil part)) c.1.second_fit) s l
    ∙ ap (λ ps. take (length front) ps ++ (composed_after front middle part ++ drop (length (front ++ middle)) ps)) (nothing-changes first c.1.first_fit.ascending s)
    ∙ ap₂ (λ ps qs. ps ++ (composed_after front middle part ++ qs))
    (take_at front (middle ++ back) (length front) refl)
    (ap (drop (length (front ++ middle))) (sym same) ∙ drop_at (front ++ middle) back (length (front ++ middle)) refl)

pub composable_near : (front middle back part : List Piece) → IsComposable (front ++ (middle ++ back)) part → StandApart (front ++ (middle ++ back)) [] → LiesBetween front middle back part []
    → IsComposableAt (old_end 0 front) (new_end 0 0 front) middle part
composable_near front middle back part c s l =
    let first : List Piece = front ++ (middle ++ back) in
    let made : Text = applied first c.0 in
    let known : SideStands made front middle = side_stands front middle back made c.1.first_fit.ascending (fit_back first c.0 c.1.first_fit) in
    let short : EndBy file_limit first = ends_inside file_limit c.0 first c.1.short c.1.first_fit.standing in
    let all : EndBy file_limit (composed first part) = ends_inside file_limit c.0 (composed first part) c.1.short (composed-fit first part c.0 c.1.first_fit c.1.second_fit).standing in
    let near : EndBy file_limit (front ++ (composed_after front middle part ++ back)) = subst (EndBy file_limit) (composed_near front middle back part c s l) all in (
      made,
      record {
        ascending = ascend_front (old_end 0 front) middle back (ascend_past 0 front (middle ++ back) c.1.first_fit.ascending);
        turned_fit = known.fit;
        second_fit = c.1.second_fit;
        second_ascends = ascend_after_front front part l.begins c.1.second_fit.ascending;
        short = ends_front file_limit middle back (ends_rest file_limit front (middle ++ back) short);
        short_start = old_end_by file_limit 0 front (omega arith) (ends_front file_limit front (middle ++ back) short);
        inside = known.inside;
        short_middle = c.1.short_middle;
        short_composed = ends_front file_limit (composed_after front middle part) back (ends_rest file_limit front (composed_after front middle part ++ back) near);
      },
    )

-- ---- by positions

pub length-ends : (at mid : ℕ) (ps : List Piece) → length (map end_of (reversed_from at mid ps)) ≡ length ps
length-ends at mid [] = refl
length-ends at mid (p ∷ ps) = omega (arith, length-ends (end_of p) (mid + (p.place - at) + length p.new) ps)

-- the last of some pieces ends where they end
pub new_end_last : (at mid : ℕ) (ps : List Piece) (k : ℕ) → k < length ps → new_end at mid (take (suc k) ps) ≡ get_or (map end_of (reversed_from at mid ps)) k 0
new_end_last at mid [] k h = absurd (none h) where
  none : k < 0 → ⊥
  none h = omega (arith, h)
new_end_last at mid (p ∷ ps) zero h = refl
new_end_last at mid (p ∷ ps) (suc k) h = new_end_last (end_of p) (mid + (p.place - at) + length p.new) ps k (omega (arith, h))

old_end_last : (at : ℕ) (ps : List Piece) (k : ℕ) (q : Piece) → k < length ps → q ≡ get_or ps k q → old_end at (take (suc k) ps) ≡ end_of q
old_end_last at [] k q h e = absurd (none h) where
  none : k < 0 → ⊥
  none h = omega (arith, h)
old_end_last at (p ∷ ps) zero q h e = ap end_of (sym e)
old_end_last at (p ∷ ps) (suc k) q h e = old_end_last (end_of p) ps k q (omega (arith, h)) e

pub new_end_at : (ps : List Piece) (k : ℕ) → 0 < k → k ≤ length ps → new_end 0 0 (take k ps) ≡ get_or (ends_of ps) (k - 1) 0
new_end_at ps zero s h = absurd (none s) where
  none : 0 < 0 → ⊥
  none s = omega (arith, s)
new_end_at ps (suc k) s h =
    let same : k ≡ suc k - 1 = omega arith in
    new_end_last 0 0 ps k (omega (arith, h)) ∙ ap (λ n. get_or (ends_of ps) n 0) same

pub old_end_at : (ps : List Piece) (q : Piece) → 0 < length ps → q ≡ get_or ps (length ps - 1) q → old_end 0 ps ≡ end_of q
old_end_at [] q s e = absurd (none s) where
  none : 0 < 0 → ⊥
  none s = omega (arith, s)
old_end_at (p ∷ ps) q s e =
    let all : take (suc (length ps)) (p ∷ ps) ≡ p ∷ ps = ap (λ qs. p ∷ qs) (take_all (length ps) ps (omega arith)) in
    let last : length (p ∷ ps) - 1 ≡ length ps = omega arith in
    ap (old_end 0) (sym all) ∙ old_end_last 0 (p ∷ ps) (length ps) q (omega arith) (e ∙ ap (λ n. get_or (p ∷ ps) n q) last)

-- the piece at a position begins after this place, if it ends by more than its bytes after it
pub begins_after : (ps : List Piece) (k place : ℕ) (q : Piece) → k < length ps → q ≡ get_or ps k q → place + length q.new < get_or (ends_of ps) k 0
    → BeginsAfter place (reversed_from (old_end 0 (take k ps)) (new_end 0 0 (take k ps)) (drop k ps))
begins_after ps k place q h e b =
    let next : drop k ps ≡ q ∷ drop (k + 1) ps = drop_more ps k q h ∙ ap (λ r. r ∷ drop (k + 1) ps) (sym e) in
    let one : suc k ≡ k + 1 = omega arith in
    let more : take (suc k) ps ≡ take k ps ++ q ∷ [] = ap (λ n. take n ps) one ∙ take_more ps k q h ∙ ap (λ r. take k ps ++ r ∷ []) (sym e) in
    let at : ℕ = old_end 0 (take k ps) in
    let mid : ℕ = new_end 0 0 (take k ps) in
    let ends : get_or (ends_of ps) k 0 ≡ mid + (q.place - at) + length q.new
    = sym (new_end_last 0 0 ps k h) ∙ ap (new_end 0 0) more ∙ new_end_append 0 0 (take k ps) (q ∷ []) in
    subst (λ (qs : List Piece). BeginsAfter place (reversed_from at mid qs)) (sym next) (omega (arith, b, ends))
