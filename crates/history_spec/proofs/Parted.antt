-- The groups divide the members: the ranges of each group are connected, and no two groups touch.
use Rattle.history_spec.proofs.Words.{⊎_elim, inl, inr, ◌≡◌, ℕ, ◌+◌, ◌-◌, ◌<◌, ◌≤◌, nat_le, List, [], ◌∷◌, ◌++◌, length, drop, refl, sym, subst, ◌∙◌, ap, arith, length-append, length-drop, cases_Bool, cond-true, cond-false, leb-true, leb-false, AllByRecursion, between, Text, Piece, applied}
use Rattle.history_spec.proofs.Words.{reversed, fit_back, Member, Back, On, piece_of, in_order, Group, group_end, covered_with, with_member, begun_at, alone, groups_from, groups, ApartFrom, AreApart}
use Rattle.std.proofs.Common.{◌⊎◌}
use Rattle.history_spec.specs.Composing.{CoversByte, SomeCovers, HangsTogether, HoldsItsMembers, members_are_parted}
use Rattle.history_spec.proofs.Grouped.{AreGroups, are_groups, groups_backs, groups_ons}

-- ---- together

some_before : (n : ℕ) (ps qs : List Piece) → SomeCovers n ps → SomeCovers n (ps ++ qs)
some_before n [] qs s = absurd s
some_before n (p ∷ ps) qs (inl c) = inl c
some_before n (p ∷ ps) qs (inr s) = inr (some_before n ps qs s)

some_last : (n : ℕ) (ps : List Piece) (p : Piece) → CoversByte n p → SomeCovers n (ps ++ p ∷ [])
some_last n [] p c = inl c
some_last n (q ∷ ps) p c = inr (some_last n ps p c)

-- a byte of the group with one more member is a byte of the group or a byte of the member
byte_of : (g : Group) (p : Piece) (n : ℕ) → p.place ≤ group_end g → g.place ≤ n → n < g.place + length (covered_with g p) → (n < group_end g) ⊎ CoversByte n p
byte_of g p n h from to =
    let long : length (covered_with g p) ≡ length g.covered + (length p.old - (group_end g - p.place)) =
    length-append g.covered (drop (group_end g - p.place) p.old) ∙ ap (λ k. length g.covered + k) (length-drop (group_end g - p.place) p.old) in
    ⊎_elim (λ t. let after : group_end g ≤ n = leb-true (group_end g) n t in inr (omega arith, omega (arith, long)))
    (λ f. inl (leb-false (group_end g) n f))
    (cases_Bool (nat_le (group_end g) n))

more_backs : (n : ℕ) (g : Group) (p : Piece) → SomeCovers n g.backs ⊎ SomeCovers n g.ons → SomeCovers n (g.backs ++ p ∷ []) ⊎ SomeCovers n g.ons
more_backs n g p (inl s) = inl (some_before n g.backs (p ∷ []) s)
more_backs n g p (inr s) = inr s

more_ons : (n : ℕ) (g : Group) (p : Piece) → SomeCovers n g.backs ⊎ SomeCovers n g.ons → SomeCovers n g.backs ⊎ SomeCovers n (g.ons ++ p ∷ [])
more_ons n g p (inl s) = inl s
more_ons n g p (inr s) = inr (some_before n g.ons (p ∷ []) s)

joined_together : (g : Group) (m : Member) → (piece_of m).place ≤ group_end g → HangsTogether g → HangsTogether (with_member g m)
joined_together g (Back p) h t = λ n from to.
    ⊎_elim (λ before. more_backs n g p (t n from before)) (λ c. inl (some_last n g.backs p c)) (byte_of g p n h from to)
joined_together g (On p) h t = λ n from to.
    ⊎_elim (λ before. more_ons n g p (t n from before)) (λ c. inr (some_last n g.ons p c)) (byte_of g p n h from to)

nothing_together : (place : ℕ) → HangsTogether (begun_at place)
nothing_together place = λ n from to. absurd (none n from to) where
  none : (n : ℕ) → place ≤ n → n < place + 0 → ⊥
  none n from to = omega (arith, from, to)

alone_together : (m : Member) → HangsTogether (alone m)
alone_together m = joined_together (begun_at (piece_of m).place) m (omega arith) (nothing_together (piece_of m).place)

together_from : (g : Group) (ms : List Member) → HangsTogether g → AllByRecursion HangsTogether (groups_from g ms)
together_from g [] t = (t, tt)
together_from g (m ∷ ms) t =
    ⊎_elim (λ yes_it. subst (λ (gs : List Group). AllByRecursion HangsTogether gs) (sym (cond-true (nat_le (piece_of m).place (group_end g)) (groups_from (with_member g m) ms) (g ∷ groups_from (alone m) ms) yes_it))
    (together_from (with_member g m) ms (joined_together g m (leb-true (piece_of m).place (group_end g) yes_it) t)))
    (λ no_it. subst (λ (gs : List Group). AllByRecursion HangsTogether gs) (sym (cond-false (nat_le (piece_of m).place (group_end g)) (groups_from (with_member g m) ms) (g ∷ groups_from (alone m) ms) no_it))
    (t, together_from (alone m) ms (alone_together m)))
    (cases_Bool (nat_le (piece_of m).place (group_end g)))

all_together : (ms : List Member) → AllByRecursion HangsTogether (groups ms)
all_together [] = tt
all_together (m ∷ ms) = together_from (alone m) ms (alone_together m)

-- ---- apart

pub same_place : (g : Group) (m : Member) → (with_member g m).place ≡ g.place
same_place g (Back p) = refl
same_place g (On p) = refl

pub apart_from : (n : ℕ) (g : Group) (ms : List Member) → n < g.place → ApartFrom n (groups_from g ms)
apart_from n g [] h = (h, tt)
apart_from n g (m ∷ ms) h =
    ⊎_elim (λ yes_it. subst (λ (gs : List Group). ApartFrom n gs) (sym (cond-true (nat_le (piece_of m).place (group_end g)) (groups_from (with_member g m) ms) (g ∷ groups_from (alone m) ms) yes_it))
    (apart_from n (with_member g m) ms (omega (arith, h, same_place g m))))
    (λ no_it. subst (λ (gs : List Group). ApartFrom n gs) (sym (cond-false (nat_le (piece_of m).place (group_end g)) (groups_from (with_member g m) ms) (g ∷ groups_from (alone m) ms) no_it))
    (h, apart_from (group_end g) (alone m) ms (omega (arith, leb-false (piece_of m).place (group_end g) no_it, same_place (begun_at (piece_of m).place) m))))
    (cases_Bool (nat_le (piece_of m).place (group_end g)))

all_apart : (g : Group) (ms : List Member) → AreApart (groups_from g ms)
all_apart g [] = tt
all_apart g (m ∷ ms) =
    ⊎_elim (λ yes_it. subst (λ (gs : List Group). AreApart gs) (sym (cond-true (nat_le (piece_of m).place (group_end g)) (groups_from (with_member g m) ms) (g ∷ groups_from (alone m) ms) yes_it))
    (all_apart (with_member g m) ms))
    (λ no_it. subst (λ (gs : List Group). AreApart gs) (sym (cond-false (nat_le (piece_of m).place (group_end g)) (groups_from (with_member g m) ms) (g ∷ groups_from (alone m) ms) no_it))
    (apart_from (group_end g) (alone m) ms (omega (arith, leb-false (piece_of m).place (group_end g) no_it, same_place (begun_at (piece_of m).place) m))))
    (cases_Bool (nat_le (piece_of m).place (group_end g)))

pub apart : (ms : List Member) → AreApart (groups ms)
apart [] = tt
apart (m ∷ ms) = all_apart (alone m) ms

-- ---- the law

holding : (text : Text) (at : ℕ) (gs : List Group) → AreGroups text at gs → AllByRecursion HoldsItsMembers gs
holding text at [] w = tt
holding text at (g ∷ gs) w = (
  record {
    some = w.1.some;
    backs_begin = w.1.backs.fit.begin;
    backs_end = w.1.backs.ended;
    ons_begin = w.1.ons.fit.begin;
    ons_end = w.1.ons.ended;
  },
  holding text (group_end g) gs w.2,
)

covering : (text : Text) (at : ℕ) (gs : List Group) → AreGroups text at gs → AllByRecursion (λ g. between g.place (group_end g) text ≡ g.covered) gs
covering text at [] w = tt
covering text at (g ∷ gs) w = (w.1.covers.there, covering text (group_end g) gs w.2)

pub members-are-parted : members_are_parted
members-are-parted first second text f s = record {
  all_back = groups_backs (reversed first) second;
  all_on = groups_ons (reversed first) second;
  covering = covering (applied first text) 0 (groups (in_order (reversed first) second)) (are_groups (applied first text) (reversed first) second (fit_back first text f) s);
  holding = holding (applied first text) 0 (groups (in_order (reversed first) second)) (are_groups (applied first text) (reversed first) second (fit_back first text f) s);
  together = all_together (in_order (reversed first) second);
  apart = apart (in_order (reversed first) second);
}
