-- Pieces of the first edit before and after what the second edit touches are unchanged.
use Rattle.history_spec.proofs.Words.{⊎_elim, ◌≡◌, ℕ, ◌+◌, ◌-◌, ◌<◌, ◌≤◌, false, nat_le, List, [], ◌∷◌, ◌++◌, length, drop, take, refl, sym, subst, ◌∙◌, ap, ap₂, arith, append-nil, append_assoc, length-append, length-drop, cases_Bool, cond-true, cond-false, leb-true, leb-false, lt-leb}
use Rattle.history_spec.proofs.Words.{take_at, drop_at, AllByRecursion, between, Text, Piece, end_of, Stands, AscendFrom, IsAscending, Fit, applied, applied_from, reversed_from, reversed, EndBy, length-between, Member, Back, On, piece_of, in_order, back_is_first, Group, group_end, group_old}
use Rattle.history_spec.proofs.Words.{group_new, with_member, covered_with, alone, groups_from, groups, ApartFrom, AreApart, composed_from, composed_at, composed, composed_after, old_end, new_end, BeginsAfter, StandApart, fit_back}
use Rattle.history_spec.specs.Composing.{EndBefore, parts_are_composed_in_turn, nothing_changes_nothing, composed_pieces_stand_apart}
use Rattle.history_spec.proofs.Ordered.{next_back, next_on, ascend_earlier}
use Rattle.history_spec.proofs.Grouped.{AreGroups, are_groups, groups_backs}
use Rattle.history_spec.proofs.Glued.{glued, backs_glued}
use Rattle.history_spec.proofs.Parted.{apart_from, apart}
use Rattle.history_spec.proofs.Untouched.{MembersAfter, members_after, back_first, new_end_grows, stay_from, untouched-stay}
use Rattle.history_spec.proofs.Covered.{end_later, standing_rest}

-- ---- members

-- the members end by this place
abbrev MembersEndBy : ℕ → List Member → Type 0
MembersEndBy n ms = AllByRecursion (λ m. end_of (piece_of m) ≤ n) ms

members_end : (n : ℕ) (backs ons : List Piece) → EndBy n backs → EndBy n ons → MembersEndBy n (in_order backs ons)
members_end n [] [] b o = tt
members_end n [] (q ∷ ons) b o = (o.0, members_end n [] ons tt o.1)
members_end n (p ∷ backs) [] b o = (b.0, members_end n backs [] b.1 tt)
members_end n (p ∷ backs) (q ∷ ons) b o =
    ⊎_elim (λ t. subst (MembersEndBy n) (sym (next_back p backs (q ∷ ons) t)) (b.0, members_end n backs (q ∷ ons) b.1 o))
    (λ f. subst (MembersEndBy n) (sym (next_on (p ∷ backs) q ons f)) (o.0, members_end n (p ∷ backs) ons b o.1))
    (cases_Bool (nat_le p.place q.place))

on_first : (n : ℕ) (backs : List Piece) (q : Piece) (ons : List Piece) → BeginsAfter n backs → end_of q ≤ n → back_is_first backs (q ∷ ons) ≡ false
on_first n [] q ons b h = refl
on_first n (p ∷ backs) q ons b h = lt-leb p.place q.place (omega (arith, b, h))

-- if some pieces end at a place or before and the others begin after it, the members in order are the first ones, then the
-- others
order_cut : (n : ℕ) (backs later ons others : List Piece) → EndBy n backs → EndBy n ons → BeginsAfter n later → BeginsAfter n others
    → in_order (backs ++ later) (ons ++ others) ≡ in_order backs ons ++ in_order later others
order_cut n [] later [] others b o l t = refl
order_cut n [] later (q ∷ ons) others b o l t =
    next_on later q (ons ++ others) (on_first n later q (ons ++ others) l o.0)
    ∙ ap (λ ms. On q ∷ ms) (order_cut n [] later ons others b o.1 l t)
order_cut n (p ∷ backs) later [] others b o l t =
    next_back p (backs ++ later) others (back_first n p (backs ++ later) others (omega (arith, b.0)) t)
    ∙ ap (λ ms. Back p ∷ ms) (order_cut n backs later [] others b.1 o l t)
order_cut n (p ∷ backs) later (q ∷ ons) others b o l t =
    ⊎_elim (λ y. next_back p (backs ++ later) (q ∷ ons ++ others) y
    ∙ ap (λ ms. Back p ∷ ms) (order_cut n backs later (q ∷ ons) others b.1 o l t)
    ∙ sym (ap (λ ms. ms ++ in_order later others) (next_back p backs (q ∷ ons) y)))
    (λ f. next_on (p ∷ backs ++ later) q (ons ++ others) f
    ∙ ap (λ ms. On q ∷ ms) (order_cut n (p ∷ backs) later ons others b o.1 l t)
    ∙ sym (ap (λ ms. ms ++ in_order later others) (next_on (p ∷ backs) q ons f)))
    (cases_Bool (nat_le p.place q.place))

-- ---- groups

covered_end : (n : ℕ) (g : Group) (p : Piece) → group_end g ≤ n → p.place ≤ group_end g → end_of p ≤ n → g.place + length (covered_with g p) ≤ n
covered_end n g p h k e =
    omega (arith, h, k, e, length-append g.covered (drop (group_end g - p.place) p.old), length-drop (group_end g - p.place) p.old)

with_end : (n : ℕ) (g : Group) (m : Member) → group_end g ≤ n → (piece_of m).place ≤ group_end g → end_of (piece_of m) ≤ n → group_end (with_member g m) ≤ n
with_end n g (Back p) h k e = covered_end n g p h k e
with_end n g (On p) h k e = covered_end n g p h k e

alone_end : (n : ℕ) (m : Member) → end_of (piece_of m) ≤ n → group_end (alone m) ≤ n
alone_end n (Back p) e = omega (arith, e, length-drop (p.place + 0 - p.place) p.old)
alone_end n (On p) e = omega (arith, e, length-drop (p.place + 0 - p.place) p.old)

groups_from_cut : (n : ℕ) (g : Group) (ms ns : List Member) → group_end g ≤ n → MembersEndBy n ms → MembersAfter n ns → groups_from g (ms ++ ns) ≡ groups_from g ms ++ groups ns
groups_from_cut n g [] [] h e a = refl
groups_from_cut n g [] (m ∷ ns) h e a =
    cond-false (nat_le (piece_of m).place (group_end g)) (groups_from (with_member g m) ns) (g ∷ groups_from (alone m) ns)
    (lt-leb (piece_of m).place (group_end g) (omega (arith, h, a)))
groups_from_cut n g (m ∷ ms) ns h e a =
    ⊎_elim (λ y. cond-true (nat_le (piece_of m).place (group_end g)) (groups_from (with_member g m) (ms ++ ns)) (g ∷ groups_from (alone m) (ms ++ ns)) y
    ∙ groups_from_cut n (with_member g m) ms ns (with_end n g m h (leb-true (piece_of m).place (group_end g) y) e.0) e.1 a
    ∙ sym (ap (λ gs. gs ++ groups ns) (cond-true (nat_le (piece_of m).place (group_end g)) (groups_from (with_member g m) ms) (g ∷ groups_from (alone m) ms) y)))
    (λ f. cond-false (nat_le (piece_of m).place (group_end g)) (groups_from (with_member g m) (ms ++ ns)) (g ∷ groups_from (alone m) (ms ++ ns)) f
    ∙ ap (λ gs. g ∷ gs) (groups_from_cut n (alone m) ms ns (alone_end n m e.0) e.1 a)
    ∙ sym (ap (λ gs. gs ++ groups ns) (cond-false (nat_le (piece_of m).place (group_end g)) (groups_from (with_member g m) ms) (g ∷ groups_from (alone m) ms) f)))
    (cases_Bool (nat_le (piece_of m).place (group_end g)))

groups_cut : (n : ℕ) (ms ns : List Member) → MembersEndBy n ms → MembersAfter n ns → groups (ms ++ ns) ≡ groups ms ++ groups ns
groups_cut n [] ns e a = refl
groups_cut n (m ∷ ms) ns e a = groups_from_cut n (alone m) ms ns (alone_end n m e.0) e.1 a

groups_end_from : (n : ℕ) (g : Group) (ms : List Member) → group_end g ≤ n → MembersEndBy n ms → AllByRecursion (λ h. group_end h ≤ n) (groups_from g ms)
groups_end_from n g [] h e = (h, tt)
groups_end_from n g (m ∷ ms) h e =
    ⊎_elim (λ y. subst (λ (gs : List Group). AllByRecursion (λ h. group_end h ≤ n) gs)
    (sym (cond-true (nat_le (piece_of m).place (group_end g)) (groups_from (with_member g m) ms) (g ∷ groups_from (alone m) ms) y))
    (groups_end_from n (with_member g m) ms (with_end n g m h (leb-true (piece_of m).place (group_end g) y) e.0) e.1))
    (λ f. subst (λ (gs : List Group). AllByRecursion (λ h. group_end h ≤ n) gs)
    (sym (cond-false (nat_le (piece_of m).place (group_end g)) (groups_from (with_member g m) ms) (g ∷ groups_from (alone m) ms) f))
    (h, groups_end_from n (alone m) ms (alone_end n m e.0) e.1))
    (cases_Bool (nat_le (piece_of m).place (group_end g)))

groups_end_by : (n : ℕ) (ms : List Member) → MembersEndBy n ms → AllByRecursion (λ h. group_end h ≤ n) (groups ms)
groups_end_by n [] e = tt
groups_end_by n (m ∷ ms) e = groups_end_from n (alone m) ms (alone_end n m e.0) e.1

groups_after : (n : ℕ) (ms : List Member) → MembersAfter n ms → ApartFrom n (groups ms)
groups_after n [] a = tt
groups_after n (Back p ∷ ms) a = apart_from n (alone (Back p)) ms a
groups_after n (On p ∷ ms) a = apart_from n (alone (On p)) ms a

-- ---- places

-- the places where the groups end in the text before and in the text in the middle
abbrev last_old : ℕ → ℕ → List Group → ℕ
last_old at mid [] = at
last_old at mid (g ∷ gs) = last_old (at + (g.place - mid) + length (group_old g)) (group_end g) gs

abbrev last_mid : ℕ → List Group → ℕ
last_mid mid [] = mid
last_mid mid (g ∷ gs) = last_mid (group_end g) gs

composed_append : (at mid : ℕ) (gs hs : List Group) → composed_from at mid (gs ++ hs) ≡ composed_from at mid gs ++ composed_from (last_old at mid gs) (last_mid mid gs) hs
composed_append at mid [] hs = refl
composed_append at mid (g ∷ gs) hs =
    ap (λ ps. record { place = at + (g.place - mid); old = group_old g; new = group_new g } ∷ ps)
    (composed_append (at + (g.place - mid) + length (group_old g)) (group_end g) gs hs)

last_mid_by : (n mid : ℕ) (gs : List Group) → mid ≤ n → AllByRecursion (λ h. group_end h ≤ n) gs → last_mid mid gs ≤ n
last_mid_by n mid [] h e = h
last_mid_by n mid (g ∷ gs) h e = last_mid_by n (group_end g) gs e.0 e.1

new_end_by : (n at mid : ℕ) (ps : List Piece) → mid ≤ n → EndBy n (reversed_from at mid ps) → new_end at mid ps ≤ n
new_end_by n at mid [] h e = h
new_end_by n at mid (p ∷ ps) h e = new_end_by n (end_of p) (mid + (p.place - at) + length p.new) ps e.0 e.1

last_inside : (text : Text) (mid : ℕ) (gs : List Group) → AreGroups text mid gs → mid ≤ length text → last_mid mid gs ≤ length text
last_inside text mid [] w h = h
last_inside text mid (g ∷ gs) w h = last_inside text (group_end g) gs w.2 w.1.covers.inside

-- the text after the groups is as long in the text before as in the text in the middle
groups_level : (text : Text) (at mid : ℕ) (gs : List Group) → AreGroups text mid gs → mid ≤ length text
    → last_old at mid gs + (length text - last_mid mid gs) ≡ at + length (glued group_old mid gs text)
groups_level text at mid [] w h = omega (arith, length-drop mid text)
groups_level text at mid (g ∷ gs) w h =
    let inside : group_end g ≤ length text = w.1.covers.inside in
    let rest : Text = glued group_old (group_end g) gs text in
    omega (
      arith,
      groups_level text (at + (g.place - mid) + length (group_old g)) (group_end g) gs w.2 inside,
      length-append (between mid g.place text) (group_old g ++ rest),
      length-append (group_old g) rest,
      length-between mid g.place text w.0 (omega arith),
    )

-- the text after the pieces is as long in both texts, too
pieces_level : (text : Text) (at mid : ℕ) (ps : List Piece) → AscendFrom at ps → AllByRecursion (Stands text) (reversed_from at mid ps) → mid ≤ length text
    → (old_end at ps + (length text - new_end at mid ps) ≡ at + length (applied_from mid (reversed_from at mid ps) text)) × (new_end at mid ps ≤ length text)
pieces_level text at mid [] a s h = (omega (arith, length-drop mid text), h)
pieces_level text at mid (p ∷ ps) a s h =
    let begin : ℕ = mid + (p.place - at) in
    let inside : begin + length p.new ≤ length text = s.0.inside in
    let below : at ≤ p.place = a.0 in
    let rest : Text = applied_from (begin + length p.new) (reversed_from (end_of p) (begin + length p.new) ps) text in
    let later : (old_end (end_of p) ps + (length text - new_end (end_of p) (begin + length p.new) ps) ≡ end_of p + length rest) × (new_end (end_of p) (begin + length p.new) ps ≤ length text)
    = pieces_level text (end_of p) (begin + length p.new) ps a.1 s.1 inside in (
      omega (arith, later.0, length-append (between mid begin text ++ p.old) rest, length-append (between mid begin text) p.old, length-between mid begin text (omega arith) (omega arith)),
      later.1,
    )

composed_same : (at mid more_at more_mid n : ℕ) (gs : List Group) → ApartFrom n gs → mid ≤ n → more_mid ≤ n → at + more_mid ≡ more_at + mid → composed_from at mid gs ≡ composed_from more_at more_mid gs
composed_same at mid more_at more_mid n [] a h k e = refl
composed_same at mid more_at more_mid n (g ∷ gs) a h k e =
    let after : n < g.place = a.0 in
    let same : at + (g.place - mid) ≡ more_at + (g.place - more_mid) = omega arith in
    ap (λ place. record { place = place; old = group_old g; new = group_new g } ∷ composed_from (place + length (group_old g)) (group_end g) gs) same

-- ---- the cut

-- If pieces of both edits end at a place of the text in the middle or before, and the others begin after it, the two parts
-- are composed separately.
pub composed_cut : (text : Text) (at mid n : ℕ) (first later second others : List Piece)
    → AreGroups text mid (groups (in_order (reversed_from at mid first) second)) → AscendFrom at first → AllByRecursion (Stands text) (reversed_from at mid first)
    → mid ≤ length text → mid ≤ n → EndBy n (reversed_from at mid first) → EndBy n second
    → BeginsAfter n (reversed_from (old_end at first) (new_end at mid first) later) → BeginsAfter n others
    → composed_from at mid (groups (in_order (reversed_from at mid first ++ reversed_from (old_end at first) (new_end at mid first) later) (second ++ others)))
    ≡ composed_at at mid first second ++ composed_at (old_end at first) (new_end at mid first) later others
composed_cut text at mid n first later second others w a s inside h e f b c =
    let backs : List Piece = reversed_from at mid first in
    let ends : ℕ = old_end at first in
    let mids : ℕ = new_end at mid first in
    let later_backs : List Piece = reversed_from ends mids later in
    let gs : List Group = groups (in_order backs second) in
    let hs : List Group = groups (in_order later_backs others) in
    let after : MembersAfter n (in_order later_backs others) = members_after n later_backs others b c in
    let end : MembersEndBy n (in_order backs second) = members_end n backs second e f in
    let level : (ends + (length text - mids) ≡ at + length (applied_from mid backs text)) × (mids ≤ length text) = pieces_level text at mid first a s inside in
    let glue : applied_from mid backs text ≡ glued group_old mid gs text = ap (λ ps. applied_from mid ps text) (sym (groups_backs backs second)) ∙ backs_glued text mid gs w in
    let last : last_mid mid gs ≤ n = last_mid_by n mid gs h (groups_end_by n (in_order backs second) end) in
    let same : last_old at mid gs + mids ≡ ends + last_mid mid gs
    = omega (arith, level.0, level.1, ap length glue, groups_level text at mid gs w inside, last_inside text mid gs w inside) in
    ap (λ ms. composed_from at mid (groups ms)) (order_cut n backs later_backs second others e f b c)
    ∙ ap (composed_from at mid) (groups_cut n (in_order backs second) (in_order later_backs others) end after)
    ∙ composed_append at mid gs hs
    ∙ ap (λ ps. composed_at at mid first second ++ ps)
    (composed_same (last_old at mid gs) (last_mid mid gs) ends mids n hs (groups_after n (in_order later_backs others) after) last (new_end_by n at mid first h e) same)

-- ---- standing apart

apart_alone : (ps qs : List Piece) → StandApart (ps ++ qs) [] → StandApart ps qs
apart_alone [] qs s = tt
apart_alone (p ∷ ps) qs s = (subst (BeginsAfter (end_of p)) (append-nil (ps ++ qs)) s.0, apart_alone ps qs s.1)

pub apart_rest : (ps qs : List Piece) → StandApart (ps ++ qs) [] → StandApart qs []
apart_rest [] qs s = s
apart_rest (p ∷ ps) qs s = apart_rest ps qs s.1

-- if pieces do not touch, the later ones begin after the end of the earlier ones
pub apart_after : (at : ℕ) (p : Piece) (ps : List Piece) (q : Piece) (qs : List Piece) → StandApart ((p ∷ ps) ++ q ∷ qs) [] → old_end at (p ∷ ps) < q.place
apart_after at p [] q qs s = s.0
apart_after at p (r ∷ ps) q qs s = apart_after (end_of p) r ps q qs s.1

-- no two composed pieces touch
composed_apart : (at mid : ℕ) (g : Group) (gs : List Group) → ApartFrom (group_end g) gs → StandApart (composed_from at mid (g ∷ gs)) []
composed_apart at mid g [] a = (tt, tt)
composed_apart at mid g (h ∷ gs) a = (omega (arith, a.0), composed_apart (at + (g.place - mid) + length (group_old g)) (group_end g) h gs a.1)

all_composed_apart : (at mid : ℕ) (gs : List Group) → AreApart gs → StandApart (composed_from at mid gs) []
all_composed_apart at mid [] a = tt
all_composed_apart at mid (g ∷ gs) a = composed_apart at mid g gs a

pub composed-stand_apart : composed_pieces_stand_apart
composed-stand_apart first second = all_composed_apart 0 0 (groups (in_order (reversed first) second)) (apart (in_order (reversed first) second))

-- ---- sublists

pub reversed_append : (at mid : ℕ) (ps qs : List Piece) → reversed_from at mid (ps ++ qs) ≡ reversed_from at mid ps ++ reversed_from (old_end at ps) (new_end at mid ps) qs
reversed_append at mid [] qs = refl
reversed_append at mid (p ∷ ps) qs =
    ap (λ rs. record { place = mid + (p.place - at); old = p.new; new = p.old } ∷ rs) (reversed_append (end_of p) (mid + (p.place - at) + length p.new) ps qs)

pub old_end_append : (at : ℕ) (ps qs : List Piece) → old_end at (ps ++ qs) ≡ old_end (old_end at ps) qs
old_end_append at [] qs = refl
old_end_append at (p ∷ ps) qs = old_end_append (end_of p) ps qs

pub new_end_append : (at mid : ℕ) (ps qs : List Piece) → new_end at mid (ps ++ qs) ≡ new_end (old_end at ps) (new_end at mid ps) qs
new_end_append at mid [] qs = refl
new_end_append at mid (p ∷ ps) qs = new_end_append (end_of p) (mid + (p.place - at) + length p.new) ps qs

pub ascend_front : (at : ℕ) (ps qs : List Piece) → AscendFrom at (ps ++ qs) → AscendFrom at ps
ascend_front at [] qs a = tt
ascend_front at (p ∷ ps) qs a = (a.0, ascend_front (end_of p) ps qs a.1)

pub ascend_past : (at : ℕ) (ps qs : List Piece) → AscendFrom at (ps ++ qs) → AscendFrom (old_end at ps) qs
ascend_past at [] qs a = a
ascend_past at (p ∷ ps) qs a = ascend_past (end_of p) ps qs a.1

pub standing_front : (text : Text) (ps qs : List Piece) → AllByRecursion (Stands text) (ps ++ qs) → AllByRecursion (Stands text) ps
standing_front text [] qs s = tt
standing_front text (p ∷ ps) qs s = (s.0, standing_front text ps qs s.1)

reversed_end : (at mid : ℕ) (ps : List Piece) → EndBy (new_end at mid ps) (reversed_from at mid ps)
reversed_end at mid [] = tt
reversed_end at mid (p ∷ ps) =
    (new_end_grows (end_of p) (mid + (p.place - at) + length p.new) ps, reversed_end (end_of p) (mid + (p.place - at) + length p.new) ps)

old_end_grows : (at : ℕ) (ps : List Piece) → AscendFrom at ps → at ≤ old_end at ps
old_end_grows at [] a = omega arith
old_end_grows at (p ∷ ps) a = omega (arith, a.0, old_end_grows (end_of p) ps a.1)

-- pieces in order end where the last of them ends
pub ascending_end : (at : ℕ) (ps : List Piece) → AscendFrom at ps → EndBy (old_end at ps) ps
ascending_end at [] a = tt
ascending_end at (p ∷ ps) a = (old_end_grows (end_of p) ps a.1, ascending_end (end_of p) ps a.1)

pub reversed_ascends : (at mid : ℕ) (ps : List Piece) → AscendFrom mid (reversed_from at mid ps)
reversed_ascends at mid [] = tt
reversed_ascends at mid (p ∷ ps) = (omega arith, reversed_ascends (end_of p) (mid + (p.place - at) + length p.new) ps)

ascend_after : (n : ℕ) (ps : List Piece) → BeginsAfter n ps → IsAscending ps → AscendFrom n ps
ascend_after n [] b a = tt
ascend_after n (p ∷ ps) b a = (omega (arith, b), a.1)

pub ascend_after_front : (front ps : List Piece) → EndBefore front ps → IsAscending ps → AscendFrom (new_end 0 0 front) ps
ascend_after_front [] ps b a = a
ascend_after_front (p ∷ front) ps b a = ascend_after (new_end 0 0 (p ∷ front)) ps b a

-- ---- where to cut

-- up to this place the pieces before and the part end, and after it the others begin
pub record CutAt (n : ℕ) (front back part others : List Piece) : Type 0 where
  pub mids : new_end 0 0 front ≤ n
  pub ends : EndBy n part
  pub after : BeginsAfter n (reversed_from (old_end 0 front) (new_end 0 0 front) back)
  pub later : BeginsAfter n others

after_mids : (p : Piece) (ps back : List Piece) → StandApart ((p ∷ ps) ++ back) [] → BeginsAfter (new_end 0 0 (p ∷ ps)) (reversed_from (old_end 0 (p ∷ ps)) (new_end 0 0 (p ∷ ps)) back)
after_mids p ps [] s = tt
after_mids p ps (q ∷ qs) s = omega (arith, apart_after 0 p ps q qs s)

cut_between : (end : ℕ) (front back part others : List Piece) → StandApart (front ++ back) [] → EndBy end part
    → BeginsAfter end (reversed_from (old_end 0 front) (new_end 0 0 front) back) → BeginsAfter end others → EndBefore front others
    → (n : ℕ) × CutAt n front back part others
cut_between end [] back part others s e b o m = (end, record { mids = omega arith; ends = e; after = b; later = o })
cut_between end (p ∷ ps) back part others s e b o m =
    let mids : ℕ = new_end 0 0 (p ∷ ps) in
    ⊎_elim (λ t. let below : end ≤ mids = leb-true end mids t in
    (mids, record { mids = omega arith; ends = end_later end mids part below e; after = after_mids p ps back s; later = m }))
    (λ f. let above : mids < end = leb-false end mids f in
    (end, record { mids = omega arith; ends = e; after = b; later = o }))
    (cases_Bool (nat_le end mids))

-- ---- the law

-- what the law gives about the text that the first edit makes
pub record SideStands (text : Text) (front middle : List Piece) : Type 0 where
  pub inside : new_end 0 0 front ≤ length text
  pub standing : AllByRecursion (Stands text) (reversed_from (old_end 0 front) (new_end 0 0 front) middle)
  pub fit : Fit (reversed_from (old_end 0 front) (new_end 0 0 front) middle) text

pub side_stands : (front middle back : List Piece) (text : Text) → IsAscending (front ++ (middle ++ back)) → Fit (reversed (front ++ (middle ++ back))) text → SideStands text front middle
side_stands front middle back text a f =
    let at : ℕ = old_end 0 front in
    let mid : ℕ = new_end 0 0 front in
    let whole : reversed (front ++ (middle ++ back)) ≡ reversed front ++ (reversed_from at mid middle ++ reversed_from (old_end at middle) (new_end at mid middle) back)
    = reversed_append 0 0 front (middle ++ back) ∙ ap (λ rs. reversed front ++ rs) (reversed_append at mid middle back) in
    let later : List Piece = reversed_from (old_end at middle) (new_end at mid middle) back in
    let cut : Fit (reversed front ++ (reversed_from at mid middle ++ later)) text = subst (λ (rs : List Piece). Fit rs text) whole f in
    let stand : AllByRecursion (Stands text) (reversed_from at mid middle) =
    standing_front text (reversed_from at mid middle) later (standing_rest text (reversed front) (reversed_from at mid middle ++ later) cut.standing) in
    record {
      inside = (pieces_level text 0 0 front (ascend_front 0 front (middle ++ back) a) (standing_front text (reversed front) (reversed_from at mid middle ++ later) cut.standing) (omega arith)).1;
      standing = stand;
      fit = record { ascending = ascend_earlier 0 mid (reversed_from at mid middle) (omega arith) (reversed_ascends at mid middle); standing = stand };
    }

stay_alone : (at mid : ℕ) (ps : List Piece) → AscendFrom at ps → StandApart ps [] → composed_at at mid ps [] ≡ ps
stay_alone at mid ps a s =
    ap (λ qs. composed_at at mid qs []) (sym (append-nil ps))
    ∙ stay_from at mid ps [] [] (subst (AscendFrom at) (sym (append-nil ps)) a) s tt
    ∙ append-nil ps

pub nothing-changes : nothing_changes_nothing
nothing-changes first a s = stay_alone 0 0 first a s

apart_front : (ps qs : List Piece) → StandApart (ps ++ qs) [] → StandApart ps []
apart_front [] qs s = tt
apart_front (p ∷ []) qs s = (tt, tt)
apart_front (p ∷ (r ∷ ps)) qs s = (s.0, apart_front (r ∷ ps) qs s.1)

pub fit_part : (ps qs : List Piece) (text : Text) → Fit (ps ++ qs) text → Fit ps text
fit_part ps qs text f = record { ascending = ascend_front 0 ps qs f.ascending; standing = standing_front text ps qs f.standing }

-- the two parts, composed separately
parted : (front back part others : List Piece) (text : Text) (n : ℕ) → IsAscending (front ++ back) → Fit (reversed (front ++ back)) text → Fit part text
    → CutAt n front back part others
    → composed (front ++ back) (part ++ others) ≡ composed front part ++ composed_at (old_end 0 front) (new_end 0 0 front) back others
parted front back part others text n a f s c =
    let known : SideStands text [] front = side_stands [] front back text a f in
    ap (λ rs. composed_from 0 0 (groups (in_order rs (part ++ others)))) (reversed_append 0 0 front back)
    ∙ composed_cut text 0 0 n front back part others (are_groups text (reversed front) part known.fit s) (ascend_front 0 front back a) known.standing (omega arith) (omega arith)
    (end_later (new_end 0 0 front) n (reversed front) c.mids (reversed_end 0 0 front)) c.ends c.after c.later

no_part : (n : ℕ) (front back part others : List Piece) → CutAt n front back part others → CutAt n front back [] others
no_part n front back part others c = record { mids = c.mids; ends = tt; after = c.after; later = c.later }

-- the front of a list, and what comes after it
take_front : (ps qs rs : List Piece) → take (length ps) ((ps ++ qs) ++ rs) ≡ ps
take_front ps qs rs = ap (take (length ps)) (append_assoc ps qs rs) ∙ take_at ps (qs ++ rs) (length ps) refl

touched : (front others second : List Piece) → IsAscending (front ++ others) → StandApart front others → EndBefore front second
    → composed (front ++ others) second ≡ front ++ composed_after front others second
touched [] others second a s b = refl
touched (p ∷ front) others second a s b = untouched-stay (p ∷ front) others second a s b

pub composed-in_turn : parts_are_composed_in_turn
composed-in_turn front middle back part others text f s apart l =
    let first : List Piece = front ++ (middle ++ back) in
    let before : List Piece = front ++ middle in
    let made : Text = applied first text in
    let same : before ++ back ≡ first = append_assoc front middle back in
    let back_fit : Fit (reversed first) made = fit_back first text f in
    let stands : StandApart (before ++ back) [] = subst (λ (ps : List Piece). StandApart ps []) (sym same) apart in
    let ascending : IsAscending (before ++ back) = subst IsAscending (sym same) f.ascending in
    let turned : Fit (reversed (before ++ back)) made = subst (λ (ps : List Piece). Fit (reversed ps) made) (sym same) back_fit in
    let cut : (n : ℕ) × CutAt n before back part others
    = cut_between (old_end 0 part) before back part others stands (ascending_end 0 part (ascend_front 0 part others s.ascending)) l.before_back l.before_others l.middle_before_others in
    let at : ℕ = old_end 0 before in
    let mid : ℕ = new_end 0 0 before in
    let rest : List Piece = composed_at at mid back others in
    let first_ascends : IsAscending before = ascend_front 0 before back ascending in
    let alone : StandApart before [] = apart_front before back stands in
    let before_stays : composed before [] ≡ before = stay_alone 0 0 before first_ascends alone in
    let later : composed first others ≡ before ++ rest
    = ap (λ ps. composed ps others) (sym same) ∙ parted before back [] others made cut.0 ascending turned (record { ascending = tt; standing = tt }) (no_part cut.0 before back part others cut.1)
    ∙ ap (λ ps. ps ++ rest) before_stays in
    let touched : composed before part ≡ front ++ composed_after front middle part
    = touched front middle part first_ascends (apart_alone front middle alone) l.begins in
    ap (λ ps. composed ps (part ++ others)) (sym same)
    ∙ parted before back part others made cut.0 ascending turned (fit_part part others made s) cut.1
    ∙ ap (λ ps. ps ++ rest) touched
    ∙ append_assoc front (composed_after front middle part) rest
    ∙ ap₂ (λ ps qs. ps ++ (composed_after front middle part ++ qs))
    (sym (ap (take (length front)) later ∙ take_front front middle rest))
    (sym (ap (drop (length before)) later ∙ drop_at before rest (length before) refl))
