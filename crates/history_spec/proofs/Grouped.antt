-- Groups of members in order: each covers bytes of the text in the middle, and its pieces fit there.
use Rattle.history_spec.proofs.Words.{⊎_elim, ◌≡◌, ℕ, ◌+◌, ◌-◌, ◌<◌, ◌≤◌, nat_le, List, [], ◌∷◌, ◌++◌, length, take, drop, refl, sym, subst, ◌∙◌, ap, arith, append_assoc, length-append, cases_Bool, cond-true, cond-false, leb-true, leb-false, AllByRecursion, flat_map, Text, Piece, end_of, Stands}
use Rattle.history_spec.proofs.Words.{Fit, Member, Back, On, piece_of, in_order, Group, group_end, covered_with, with_member, begun_at, alone, groups_from, groups}
use Rattle.history_spec.proofs.Ordered.{backs_of, ons_of, backs_of-order, ons_of-order, OrderedFrom, order_ascends, backs_begin, ons_begin, ordered_earlier}
use Rattle.history_spec.proofs.Covered.{Covers, CoversMore, covers_more, SideFits, SideGrows, side_earlier, side_fits, side_takes, side_waits, side_begins}

-- a group over the text
pub record IsGroup (text : Text) (g : Group) : Type 0 where
  pub some : 0 < length g.backs + length g.ons
  pub covers : Covers text g.place g.covered
  pub backs : SideFits g.place (group_end g) g.backs g.covered
  pub ons : SideFits g.place (group_end g) g.ons g.covered

-- groups over the text, each from where the one before it ends
abbrev pub AreGroups : Text → ℕ → List Group → Type 0
AreGroups text at [] = Unit {0}
AreGroups text at (g ∷ gs) = (at ≤ g.place) × IsGroup text g × AreGroups text (group_end g) gs

-- a group has begun, and these members come after it
pub record Grows (text : Text) (at : ℕ) (g : Group) (ms : List Member) : Type 0 where
  pub after : at ≤ g.place
  pub covers : Covers text g.place g.covered
  pub ordered : OrderedFrom g.place ms
  pub backs : SideGrows text at g.place (group_end g) g.backs (backs_of ms)
  pub ons : SideGrows text at g.place (group_end g) g.ons (ons_of ms)

some_after : (ps : List Piece) (p : Piece) → 0 < length (ps ++ p ∷ [])
some_after ps p = omega (arith, length-append ps (p ∷ []))

stand_next : (text : Text) (ps : List Piece) (p : Piece) (rest : List Piece) → AllByRecursion (Stands text) (ps ++ p ∷ rest) → Stands text p
stand_next text [] p rest s = s.0
stand_next text (q ∷ ps) p rest s = stand_next text ps p rest s.1

-- a member that begins at the group's end or before joins the group
pub record Joins (text : Text) (at : ℕ) (g : Group) (ms : List Member) : Type 0 where
  pub grows : Grows text at g ms
  pub some : 0 < length g.backs + length g.ons

joined : (text : Text) (at : ℕ) (g : Group) (m : Member) (ms : List Member) → Grows text at g (m ∷ ms) → (piece_of m).place ≤ group_end g → Joins text at (with_member g m) ms
joined text at g (Back p) ms w h =
    let more : CoversMore text g.place g.covered (covered_with g p) p = covers_more text g.place g.covered p w.covers (stand_next text g.backs p (backs_of ms) w.backs.standing) w.ordered.0 h in
    let longer : group_end g ≤ g.place + length (covered_with g p) = omega (arith, more.longer) in
    record {
      grows = record {
        after = w.after;
        covers = more.covers;
        ordered = ordered_earlier g.place p.place ms w.ordered.0 w.ordered.1;
        backs = side_takes text at g.place (group_end g) (g.place + length (covered_with g p)) g.backs (backs_of ms) p w.backs w.ordered.0 longer more.ends;
        ons = side_waits text at g.place (group_end g) (g.place + length (covered_with g p)) g.ons (ons_of ms) w.ons longer;
      };
      some = omega (arith, some_after g.backs p);
    }
joined text at g (On p) ms w h =
    let more : CoversMore text g.place g.covered (covered_with g p) p = covers_more text g.place g.covered p w.covers (stand_next text g.ons p (ons_of ms) w.ons.standing) w.ordered.0 h in
    let longer : group_end g ≤ g.place + length (covered_with g p) = omega (arith, more.longer) in
    record {
      grows = record {
        after = w.after;
        covers = more.covers;
        ordered = ordered_earlier g.place p.place ms w.ordered.0 w.ordered.1;
        backs = side_waits text at g.place (group_end g) (g.place + length (covered_with g p)) g.backs (backs_of ms) w.backs longer;
        ons = side_takes text at g.place (group_end g) (g.place + length (covered_with g p)) g.ons (ons_of ms) p w.ons w.ordered.0 longer more.ends;
      };
      some = omega (arith, some_after g.ons p);
    }

member_stands : (text : Text) (m : Member) (ms : List Member) → AllByRecursion (Stands text) (backs_of (m ∷ ms)) → AllByRecursion (Stands text) (ons_of (m ∷ ms)) → Stands text (piece_of m)
member_stands text (Back p) ms b o = b.0
member_stands text (On p) ms b o = o.0

covers_nothing : (text : Text) (place : ℕ) → place ≤ length text → Covers text place []
covers_nothing text place h =
    let none : place + 0 - place ≡ 0 = omega arith in
    record { inside = omega arith; there = ap (λ n. take n (drop place text)) none }

-- any other member begins the next group
begun : (text : Text) (at : ℕ) (g : Group) (m : Member) (ms : List Member) → Grows text at g (m ∷ ms) → group_end g ≤ (piece_of m).place → Joins text (group_end g) (alone m) ms
begun text at g m ms w h =
    let place : ℕ = (piece_of m).place in
    let same : place + 0 ≡ place = omega arith in
    let order : OrderedFrom place (m ∷ ms) = (omega arith, w.ordered.1) in
    let backs : SideGrows text place place place [] (backs_of (m ∷ ms)) = side_begins text at g.place (group_end g) place g.backs (backs_of (m ∷ ms)) w.backs (backs_begin place (m ∷ ms) order) in
    let ons : SideGrows text place place place [] (ons_of (m ∷ ms)) = side_begins text at g.place (group_end g) place g.ons (ons_of (m ∷ ms)) w.ons (ons_begin place (m ∷ ms) order) in
    let stands : Stands text (piece_of m) = member_stands text m ms backs.standing ons.standing in
    let inside : end_of (piece_of m) ≤ length text = stands.inside in
    joined text (group_end g) (begun_at place) m ms
    (record {
      after = h;
      covers = covers_nothing text place (omega arith);
      ordered = order;
      backs = subst (λ (n : ℕ). SideGrows text (group_end g) place n [] (backs_of (m ∷ ms))) (sym same) (side_earlier text (group_end g) place place place [] (backs_of (m ∷ ms)) h backs);
      ons = subst (λ (n : ℕ). SideGrows text (group_end g) place n [] (ons_of (m ∷ ms))) (sym same) (side_earlier text (group_end g) place place place [] (ons_of (m ∷ ms)) h ons);
    })
    (omega arith)

is_group : (text : Text) (at : ℕ) (g : Group) (ms : List Member) → Joins text at g ms → IsGroup text g
is_group text at g ms j = record {
  some = j.some;
  covers = j.grows.covers;
  backs = side_fits text at g.place g.covered g.backs (backs_of ms) j.grows.covers j.grows.backs;
  ons = side_fits text at g.place g.covered g.ons (ons_of ms) j.grows.covers j.grows.ons;
}

groups_grow : (text : Text) (at : ℕ) (g : Group) (ms : List Member) → Joins text at g ms → AreGroups text at (groups_from g ms)
groups_grow text at g [] j = (j.grows.after, is_group text at g [] j, tt)
groups_grow text at g (m ∷ ms) j =
    ⊎_elim (λ t. subst (λ (gs : List Group). AreGroups text at gs) (sym (cond-true (nat_le (piece_of m).place (group_end g)) (groups_from (with_member g m) ms) (g ∷ groups_from (alone m) ms) t))
    (groups_grow text at (with_member g m) ms (joined text at g m ms j.grows (leb-true (piece_of m).place (group_end g) t))))
    (λ f. let above : group_end g < (piece_of m).place = leb-false (piece_of m).place (group_end g) f in
    subst (λ (gs : List Group). AreGroups text at gs) (sym (cond-false (nat_le (piece_of m).place (group_end g)) (groups_from (with_member g m) ms) (g ∷ groups_from (alone m) ms) f))
    (j.grows.after, is_group text at g (m ∷ ms) j, groups_grow text (group_end g) (alone m) ms (begun text at g m ms j.grows (omega arith))))
    (cases_Bool (nat_le (piece_of m).place (group_end g)))

-- what the groups are made from: members in order, where the pieces of each side fit the text
groups_stand : (text : Text) (ms : List Member) → OrderedFrom 0 ms → Fit (backs_of ms) text → Fit (ons_of ms) text → AreGroups text 0 (groups ms)
groups_stand text [] o b n = tt
groups_stand text (m ∷ ms) o b n =
    groups_grow text 0 (alone m) ms (begun text 0 (begun_at 0) m ms
    (record {
      after = omega arith;
      covers = covers_nothing text 0 (omega arith);
      ordered = o;
      backs = record { ascending = b.ascending; standing = b.standing; begin = tt; ended = tt };
      ons = record { ascending = n.ascending; standing = n.standing; begin = tt; ended = tt };
    })
    o.0)

pub are_groups : (text : Text) (backs ons : List Piece) → Fit backs text → Fit ons text → AreGroups text 0 (groups (in_order backs ons))
are_groups text backs ons b n =
    groups_stand text (in_order backs ons) (order_ascends 0 backs ons b.ascending n.ascending)
    (subst (λ (ps : List Piece). Fit ps text) (sym (backs_of-order backs ons)) b)
    (subst (λ (ps : List Piece). Fit ps text) (sym (ons_of-order backs ons)) n)

-- ---- the members of all groups

backs_with : (g : Group) (m : Member) (rest : List Member) → (with_member g m).backs ++ backs_of rest ≡ g.backs ++ backs_of (m ∷ rest)
backs_with g (Back p) rest = append_assoc g.backs (p ∷ []) (backs_of rest)
backs_with g (On p) rest = refl

ons_with : (g : Group) (m : Member) (rest : List Member) → (with_member g m).ons ++ ons_of rest ≡ g.ons ++ ons_of (m ∷ rest)
ons_with g (Back p) rest = refl
ons_with g (On p) rest = append_assoc g.ons (p ∷ []) (ons_of rest)

backs_from : (g : Group) (ms : List Member) → flat_map (λ h. h.backs) (groups_from g ms) ≡ g.backs ++ backs_of ms
backs_from g [] = refl
backs_from g (m ∷ ms) =
    ⊎_elim (λ t. ap (flat_map (λ h. h.backs)) (cond-true (nat_le (piece_of m).place (group_end g)) (groups_from (with_member g m) ms) (g ∷ groups_from (alone m) ms) t)
    ∙ backs_from (with_member g m) ms ∙ backs_with g m ms)
    (λ f. ap (flat_map (λ h. h.backs)) (cond-false (nat_le (piece_of m).place (group_end g)) (groups_from (with_member g m) ms) (g ∷ groups_from (alone m) ms) f)
    ∙ ap (λ ps. g.backs ++ ps) (backs_from (alone m) ms ∙ backs_with (begun_at (piece_of m).place) m ms))
    (cases_Bool (nat_le (piece_of m).place (group_end g)))

ons_from : (g : Group) (ms : List Member) → flat_map (λ h. h.ons) (groups_from g ms) ≡ g.ons ++ ons_of ms
ons_from g [] = refl
ons_from g (m ∷ ms) =
    ⊎_elim (λ t. ap (flat_map (λ h. h.ons)) (cond-true (nat_le (piece_of m).place (group_end g)) (groups_from (with_member g m) ms) (g ∷ groups_from (alone m) ms) t)
    ∙ ons_from (with_member g m) ms ∙ ons_with g m ms)
    (λ f. ap (flat_map (λ h. h.ons)) (cond-false (nat_le (piece_of m).place (group_end g)) (groups_from (with_member g m) ms) (g ∷ groups_from (alone m) ms) f)
    ∙ ap (λ ps. g.ons ++ ps) (ons_from (alone m) ms ∙ ons_with (begun_at (piece_of m).place) m ms))
    (cases_Bool (nat_le (piece_of m).place (group_end g)))

all_backs : (ms : List Member) → flat_map (λ h. h.backs) (groups ms) ≡ backs_of ms
all_backs [] = refl
all_backs (m ∷ ms) = backs_from (alone m) ms ∙ backs_with (begun_at (piece_of m).place) m ms

all_ons : (ms : List Member) → flat_map (λ h. h.ons) (groups ms) ≡ ons_of ms
all_ons [] = refl
all_ons (m ∷ ms) = ons_from (alone m) ms ∙ ons_with (begun_at (piece_of m).place) m ms

pub groups_backs : (backs ons : List Piece) → flat_map (λ h. h.backs) (groups (in_order backs ons)) ≡ backs
groups_backs backs ons = all_backs (in_order backs ons) ∙ backs_of-order backs ons

pub groups_ons : (backs ons : List Piece) → flat_map (λ h. h.ons) (groups (in_order backs ons)) ≡ ons
groups_ons backs ons = all_ons (in_order backs ons) ∙ ons_of-order backs ons
