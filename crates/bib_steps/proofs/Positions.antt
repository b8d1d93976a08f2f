-- Pieces by their positions, and what an edit lies near.
use Rattle.bib_steps.proofs.Words.{zero, suc, ◌≡◌, ℕ, ◌+◌, ◌-◌, ◌<◌, ◌≤◌, get_or, List, [], ◌∷◌, ◌++◌, length, map, take, drop, Some, refl, sym, subst, ◌∙◌, ap, ap₂, arith, take-append-drop, length-append, drop-drop, length-take-le, take_at, take-take, take-append-le, map-append, slice_get}
use Rattle.bib_steps.proofs.Words.{file_limit, Piece, end_of, reversed_from, reversed, EndBy, IsComposable, IsComposableAt, composed, composed_at, composed_after, old_end, new_end, StandApart, ends_of, Replacement, reversed_append, length-ends, end_at, BeginAfter, IsNear}
use Rattle.std.proofs.Common.{None}
use Rattle.std.proofs.lemmas.List.{get_or-take}
use Rattle.std.proofs.lemmas.Option.{get_or_from_slice_get}
use Rattle.std.proofs.Math.Seq.{take-add}
use Rattle.bib_spec.specs.Pieces.{applied}
use Rattle.history_spec.specs.Composing.{BeginsAfter, EndBefore, LiesBetween, AreEnds, replaced}
use Rattle.history_spec.proofs.Ordered.{ascend_earlier}
use Rattle.history_spec.proofs.Covered.{standing_rest}
use Rattle.history_spec.proofs.Around.{ascend_past, fit_part, composed-in_turn}
use Rattle.history_spec.proofs.Near.{new_end_last, old_end_at, begins_after, ends_inside, ends_rest, old_end_by, composed_near, composable_near}

-- ---- ends by position

pub as_many_ends : (ps : List Piece) (ends : List ℕ) → AreEnds ps ends → length ends ≡ length ps
as_many_ends ps ends e = ap length e.each ∙ length-ends 0 0 ps

pub end_at_new : (ps : List Piece) (ends : List ℕ) (n : ℕ) → ends ≡ ends_of ps → n ≤ length ps → end_at ends n ≡ new_end 0 0 (take n ps)
end_at_new ps ends zero e h = refl
end_at_new ps ends (suc n) e h = ap (λ es. get_or es n 0) e ∙ sym (new_end_last 0 0 ps n (omega (arith, h)))

front_ends : (ps part : List Piece) (n : ℕ) → (0 < n → BeginsAfter (new_end 0 0 (take n ps)) part) → EndBefore (take n ps) part
front_ends ps part zero b = tt
front_ends [] part (suc n) b = tt
front_ends (p ∷ ps) part (suc n) b = b (omega arith)

pub front_ends_before : (ps : List Piece) (ends : List ℕ) (part : List Piece) (n : ℕ) → AreEnds ps ends → n ≤ length ps → (0 < n → BeginsAfter (end_at ends n) part) → EndBefore (take n ps) part
front_ends_before ps ends part n e h b = front_ends ps part n (λ s. subst (λ (k : ℕ). BeginsAfter k part) (end_at_new ps ends n e.each h) (b s))

pub after_at : (ps : List Piece) (ends : List ℕ) (k place : ℕ) (q : Piece) → AreEnds ps ends → k < length ps → q ≡ get_or ps k q → place + length q.new < get_or ends k 0 → BeginAfter ps k place
after_at ps ends k place q e h is b = begins_after ps k place q h is (omega (arith, b, ap (λ es. get_or es k 0) e.each))

-- ---- the list in three

pub in_three : (ps : List Piece) (from to : ℕ) → from ≤ to → take from ps ++ (take (to - from) (drop from ps) ++ drop to ps) ≡ ps
in_three ps from to h =
    let whole : from + (to - from) ≡ to = omega arith in
    ap (λ rest. take from ps ++ (take (to - from) (drop from ps) ++ rest)) (ap (λ n. drop n ps) (sym whole) ∙ sym (drop-drop (to - from) from ps))
    ∙ ap (λ rest. take from ps ++ rest) (take-append-drop (to - from) (drop from ps))
    ∙ take-append-drop from ps

pub in_two : (ps : List Piece) (from to : ℕ) → from ≤ to → take from ps ++ take (to - from) (drop from ps) ≡ take to ps
in_two ps from to h =
    let whole : from + (to - from) ≡ to = omega arith in
    sym (take-add from (to - from) ps) ∙ ap (λ n. take n ps) whole

-- ---- near

end_before_none : (ps : List Piece) → EndBefore ps []
end_before_none [] = tt
end_before_none (p ∷ ps) = tt

pub lies_between : (ps part others : List Piece) (from to : ℕ) → IsNear ps part from to → BeginsAfter (old_end 0 part) others → EndBefore (take to ps) others
    → LiesBetween (take from ps) (take (to - from) (drop from ps)) (drop to ps) part others
lies_between ps part others from to n b e =
    let two : take to ps ≡ take from ps ++ take (to - from) (drop from ps) = sym (in_two ps from to n.ordered) in
    record {
      begins = n.front;
      before_back = subst (λ (qs : List Piece). BeginsAfter (old_end 0 part) (reversed_from (old_end 0 qs) (new_end 0 0 qs) (drop to ps))) two n.back;
      before_others = b;
      middle_before_others = subst (λ (qs : List Piece). EndBefore qs others) two e;
    }

-- the positions of the pieces between
positions : (ps : List Piece) (from to : ℕ) (new : List Piece) → from ≤ to → to ≤ length ps
    → ◌≡◌ {A = Replacement} (record { from = length (take from ps); to = length (take from ps ++ take (to - from) (drop from ps)); pieces = new }) (record { from = from; to = to; pieces = new })
positions ps from to new h k =
    ap₂ (λ (n m : ℕ). record { from = n; to = m; pieces = new }) (length-take-le from ps (omega arith))
    (ap length (in_two ps from to h) ∙ length-take-le to ps k)

-- what a part of an edit replaces near it
pub near_value : (ps part : List Piece) (from to : ℕ) (new : List Piece) → IsComposable ps part → StandApart ps [] → IsNear ps part from to
    → new ≡ composed_after (take from ps) (take (to - from) (drop from ps)) part → replaced (record { from = from; to = to; pieces = new }) ps ≡ composed ps part
near_value ps part from to new c s n e =
    let front : List Piece = take from ps in
    let middle : List Piece = take (to - from) (drop from ps) in
    let back : List Piece = drop to ps in
    let three : front ++ (middle ++ back) ≡ ps = in_three ps from to n.ordered in
    ap (λ qs. front ++ (qs ++ back)) e
    ∙ sym (composed_near front middle back part (subst (λ (qs : List Piece). IsComposable qs part) (sym three) c) (subst (λ (qs : List Piece). StandApart qs []) (sym three) s)
    (lies_between ps part [] from to n (begins_none part) (end_before_none (take to ps))))
    ∙ ap (λ qs. composed qs part) three
  where
    begins_none : (part : List Piece) → BeginsAfter (old_end 0 part) []
    begins_none part = tt

pub near_composable : (ps part : List Piece) (from to : ℕ) → IsComposable ps part → StandApart ps [] → IsNear ps part from to
    → IsComposableAt (old_end 0 (take from ps)) (new_end 0 0 (take from ps)) (take (to - from) (drop from ps)) part
near_composable ps part from to c s n =
    let three : take from ps ++ (take (to - from) (drop from ps) ++ drop to ps) ≡ ps = in_three ps from to n.ordered in
    composable_near (take from ps) (take (to - from) (drop from ps)) (drop to ps) part (subst (λ (qs : List Piece). IsComposable qs part) (sym three) c)
    (subst (λ (qs : List Piece). StandApart qs []) (sym three) s) (lies_between ps part [] from to n tt (end_before_none (take to ps)))

-- ---- parts of an edit

pub first_part : (ps part others : List Piece) → IsComposable ps (part ++ others) → IsComposable ps part
first_part ps part others c = (c.0, record { first_fit = c.1.first_fit; second_fit = fit_part part others (applied ps c.0) c.1.second_fit; short = c.1.short; short_middle = c.1.short_middle })

pub later_part : (ps part others : List Piece) → IsComposable ps (part ++ others) → IsComposable ps others
later_part ps part others c = (
  c.0,
  record {
    first_fit = c.1.first_fit;
    second_fit = record {
      ascending = ascend_earlier 0 (old_end 0 part) others (omega arith) (ascend_past 0 part others c.1.second_fit.ascending);
      standing = standing_rest (applied ps c.0) part others c.1.second_fit.standing;
    };
    short = c.1.short;
    short_middle = c.1.short_middle;
  },
)

pub part_short : (ps part : List Piece) → IsComposable ps part → EndBy file_limit part
part_short ps part c = ends_inside file_limit (applied ps c.0) part c.1.short_middle c.1.second_fit.standing

pub part_end_short : (part : List Piece) → EndBy file_limit part → old_end 0 part ≤ file_limit
part_end_short part e = old_end_by file_limit 0 part (omega arith) e

-- the others first, and then the part near it
pub parts_in_turn : (ps part others : List Piece) (from to : ℕ) (new : List Piece) → IsComposable ps (part ++ others) → StandApart ps [] → IsNear ps part from to
    → BeginsAfter (old_end 0 part) others → EndBefore (take to ps) others
    → new ≡ composed_after (take from ps) (take (to - from) (drop from ps)) part
    → replaced (record { from = from; to = to; pieces = new }) (composed ps others) ≡ composed ps (part ++ others)
parts_in_turn ps part others from to new c s n b e is =
    let front : List Piece = take from ps in
    let middle : List Piece = take (to - from) (drop from ps) in
    let back : List Piece = drop to ps in
    let three : front ++ (middle ++ back) ≡ ps = in_three ps from to n.ordered in
    let whole : IsComposable (front ++ (middle ++ back)) (part ++ others) = subst (λ (qs : List Piece). IsComposable qs (part ++ others)) (sym three) c in
    ap (λ qs. replaced (record { from = from; to = to; pieces = qs }) (composed ps others)) is
    ∙ ap (λ r. replaced r (composed ps others)) (sym (positions ps from to (composed_after front middle part) n.ordered n.inside))
    ∙ ap (λ qs. replaced (record { from = length front; to = length (front ++ middle); pieces = composed_after front middle part }) (composed qs others)) (sym three)
    ∙ sym (composed-in_turn front middle back part others whole.0 whole.1.first_fit whole.1.second_fit (subst (λ (qs : List Piece). StandApart qs []) (sym three) s)
    (lies_between ps part others from to n b e))
    ∙ ap (λ qs. composed qs (part ++ others)) three

-- ---- as the code has them

-- the replacement has these positions and pieces, and the others are composed
pub part_in_turn : (r : Replacement) (ps part others state : List Piece) (from to : ℕ) → r.from ≡ from → r.to ≡ to
    → r.pieces ≡ composed_after (take from ps) (take (to - from) (drop from ps)) part → state ≡ composed ps others
    → IsComposable ps (part ++ others) → StandApart ps [] → IsNear ps part from to → BeginsAfter (old_end 0 part) others → EndBefore (take to ps) others
    → replaced r state ≡ composed ps (part ++ others)
part_in_turn r ps part others state from to f t p is c s n b e =
    ap₂ (λ k qs. take k qs ++ (r.pieces ++ drop r.to qs)) f is
    ∙ ap (λ k. take from (composed ps others) ++ (r.pieces ++ drop k (composed ps others))) t
    ∙ parts_in_turn ps part others from to r.pieces c s n b e p

pub composable_as : (at mid more_at more_mid : ℕ) (first more second : List Piece) → more_at ≡ at → more_mid ≡ mid → more ≡ first → IsComposableAt at mid first second
    → IsComposableAt more_at more_mid more second
composable_as at mid more_at more_mid first more second a m f c =
    subst (λ (n : ℕ). IsComposableAt n more_mid more second) (sym a)
    (subst (λ (n : ℕ). IsComposableAt at n more second) (sym m) (subst (λ (ps : List Piece). IsComposableAt at mid ps second) (sym f) c))

pub composed_as : (at mid more_at more_mid : ℕ) (first more second : List Piece) → more_at ≡ at → more_mid ≡ mid → more ≡ first
    → composed_at more_at more_mid more second ≡ composed_at at mid first second
composed_as at mid more_at more_mid first more second a m f =
    ap₂ (λ n k. composed_at n k more second) a m ∙ ap (λ ps. composed_at at mid ps second) f

-- pieces with a last one end where it does
pub old_end_got : (ps : List Piece) (q : Piece) → Some q ≡ slice_get ps (length ps - 1) → old_end 0 ps ≡ end_of q
old_end_got [] q e = absurd (some_is_not_none e) where
  some_is_not_none : Some q ≡ None → ⊥
  some_is_not_none e = cc e
old_end_got (p ∷ ps) q e = old_end_at (p ∷ ps) q (omega arith) (sym (get_or_from_slice_get (p ∷ ps) (length (p ∷ ps) - 1) q q (sym e)))

-- ---- the ends of a list with another rest

-- up to a position, the ends are those of the pieces up to it
ends_in_front : (ps qs : List Piece) → take (length ps) (ends_of (ps ++ qs)) ≡ ends_of ps
ends_in_front ps qs =
    ap (λ rs. take (length ps) (map end_of rs)) (reversed_append 0 0 ps qs)
    ∙ ap (take (length ps)) (map-append end_of (reversed ps) (reversed_from (old_end 0 ps) (new_end 0 0 ps) qs))
    ∙ take_at (ends_of ps) (map end_of (reversed_from (old_end 0 ps) (new_end 0 0 ps) qs)) (length ps) (length-ends 0 0 ps)

pub take-ends : (ps : List Piece) (n : ℕ) → n ≤ length ps → take n (ends_of ps) ≡ ends_of (take n ps)
take-ends ps n h =
    let long : length (take n ps) ≡ n = length-take-le n ps h in
    ap₂ (λ k qs. take k (ends_of qs)) (sym long) (sym (take-append-drop n ps)) ∙ ends_in_front (take n ps) (drop n ps)

pub later_ends_short : (ps : List Piece) (n : ℕ) → EndBy file_limit (reversed ps) → EndBy file_limit (reversed_from (old_end 0 (take n ps)) (new_end 0 0 (take n ps)) (drop n ps))
later_ends_short ps n e =
    ends_rest file_limit (reversed (take n ps)) (reversed_from (old_end 0 (take n ps)) (new_end 0 0 (take n ps)) (drop n ps))
    (subst (EndBy file_limit) (ap reversed (sym (take-append-drop n ps)) ∙ reversed_append 0 0 (take n ps) (drop n ps)) e)

pub end_at_take : (ends : List ℕ) (n : ℕ) → end_at (take n ends) n ≡ end_at ends n
end_at_take ends zero = refl
end_at_take ends (suc n) = get_or-take (suc n) ends n 0 (omega arith)

-- what is before a replacement stays
pub front_kept : (r : Replacement) (ps : List Piece) (n : ℕ) → n ≤ r.from → r.from ≤ length ps → take n (replaced r ps) ≡ take n ps
front_kept r ps n h k =
    take-append-le n (take r.from ps) (r.pieces ++ drop r.to ps) (omega (arith, h, length-take-le r.from ps k))
    ∙ take-take n r.from ps h

pub length_kept : (r : Replacement) (ps : List Piece) (n : ℕ) → n ≤ r.from → r.from ≤ length ps → n ≤ length (replaced r ps)
length_kept r ps n h k = omega (arith, h, length-take-le r.from ps k, length-append (take r.from ps) (r.pieces ++ drop r.to ps))

pub same_front_ends : (ps qs : List Piece) (n : ℕ) → n ≤ length ps → n ≤ length qs → take n ps ≡ take n qs → take n (ends_of ps) ≡ take n (ends_of qs)
same_front_ends ps qs n h k e = take-ends ps n h ∙ ap ends_of e ∙ sym (take-ends qs n k)
