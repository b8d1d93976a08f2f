-- Pieces of the first edit that nothing touches are groups of their own, and are unchanged.
use Rattle.history_spec.proofs.Words.{⊎_elim, ◌≡◌, ℕ, ◌+◌, ◌-◌, ◌<◌, ◌≤◌, true, nat_le, List, [], ◌∷◌, ◌++◌, length, drop, refl, sym, subst, ◌∙◌, ap, arith, append-nil, cases_Bool, cond-false, lt-leb, drop_all, between, Piece, end_of, AscendFrom, reversed_from, Member, Back, piece_of, in_order}
use Rattle.history_spec.proofs.Words.{back_is_first, Group, group_end, group_old, with_member, alone, groups_from, groups, composed_from, old_end, new_end, BeginsAfter, StandApart}
use Rattle.std.proofs.lemmas.Bool.{le-leb}
use Rattle.history_spec.specs.Composing.{untouched_pieces_stay}
use Rattle.history_spec.proofs.Ordered.{next_back, next_on}

-- ---- places

pub new_end_grows : (at mid : ℕ) (ps : List Piece) → mid ≤ new_end at mid ps
new_end_grows at mid [] = omega arith
new_end_grows at mid (p ∷ ps) = omega (arith, new_end_grows (end_of p) (mid + (p.place - at) + length p.new) ps)

pub begins_later : (n k : ℕ) (ps : List Piece) → n ≤ k → BeginsAfter k ps → BeginsAfter n ps
begins_later n k [] h b = tt
begins_later n k (p ∷ ps) h b = omega (arith, h, b)

-- the first of the members, if there is one, begins after this place
abbrev pub MembersAfter : ℕ → List Member → Type 0
MembersAfter n [] = Unit {0}
MembersAfter n (m ∷ ms) = n < (piece_of m).place

pub members_after : (n : ℕ) (backs ons : List Piece) → BeginsAfter n backs → BeginsAfter n ons → MembersAfter n (in_order backs ons)
members_after n [] [] b o = tt
members_after n [] (q ∷ ons) b o = o
members_after n (p ∷ backs) [] b o = b
members_after n (p ∷ backs) (q ∷ ons) b o =
    ⊎_elim (λ t. subst (MembersAfter n) (sym (next_back p backs (q ∷ ons) t)) b)
    (λ f. subst (MembersAfter n) (sym (next_on (p ∷ backs) q ons f)) o)
    (cases_Bool (nat_le p.place q.place))

pub back_first : (n : ℕ) (b : Piece) (backs ons : List Piece) → b.place ≤ n → BeginsAfter n ons → back_is_first (b ∷ backs) ons ≡ true
back_first n b backs [] h o = refl
back_first n b backs (q ∷ ons) h o = le-leb b.place q.place (omega (arith, h, o))

-- ---- a group of one

-- the group of a piece that leads back, alone
abbrev only : Piece → Group
only b = record { place = b.place; covered = b.old; backs = b ∷ []; ons = [] }

alone_is : (b : Piece) → alone (Back b) ≡ only b
alone_is b =
    let none : b.place + 0 - b.place ≡ 0 = omega arith in
    ap (λ n. record { place = b.place; covered = drop n b.old; backs = b ∷ []; ons = [] }) none

only_old : (b : Piece) → group_old (only b) ≡ b.new
only_old b =
    let none : b.place - b.place ≡ 0 = omega arith in
    let all : drop (0 + length b.old) b.old ≡ [] = drop_all (0 + length b.old) b.old (omega arith) in
    ap (λ n. between 0 n b.old ++ b.new ++ drop (n + length b.old) b.old) none ∙ ap (λ t. b.new ++ t) all ∙ append-nil b.new

groups_only : (b : Piece) (ms : List Member) → MembersAfter (b.place + length b.old) ms → groups (Back b ∷ ms) ≡ only b ∷ groups ms
groups_only b [] h = ap (λ g. g ∷ []) (alone_is b)
groups_only b (m ∷ ms) h =
    ap (λ g. groups_from g (m ∷ ms)) (alone_is b)
    ∙ cond-false (nat_le (piece_of m).place (group_end (only b))) (groups_from (with_member (only b) m) ms) (only b ∷ groups_from (alone m) ms)
    (lt-leb (piece_of m).place (group_end (only b)) h)

-- the piece of the first edit, reversed so that it leads back
abbrev turned : ℕ → ℕ → Piece → Piece
turned at mid p = record { place = mid + (p.place - at); old = p.new; new = p.old }

composed_only : (at mid : ℕ) (p : Piece) (gs : List Group) → at ≤ p.place
    → composed_from at mid (only (turned at mid p) ∷ gs) ≡ p ∷ composed_from (end_of p) (mid + (p.place - at) + length p.new) gs
composed_only at mid p gs h =
    let here : at + (mid + (p.place - at) - mid) ≡ p.place = omega arith in
    ap (λ t. record { place = at + (mid + (p.place - at) - mid); old = t; new = p.new } ∷ composed_from (at + (mid + (p.place - at) - mid) + length t) (mid + (p.place - at) + length p.new) gs) (only_old (turned at mid p))
    ∙ ap (λ n. record { place = n; old = p.old; new = p.new } ∷ composed_from (n + length p.old) (mid + (p.place - at) + length p.new) gs) here

-- ---- the law

reversed_after : (at mid : ℕ) (ps : List Piece) → BeginsAfter at ps → BeginsAfter mid (reversed_from at mid ps)
reversed_after at mid [] b = tt
reversed_after at mid (p ∷ ps) b = omega (arith, b)

pub stay_from : (at mid : ℕ) (front others second : List Piece) → AscendFrom at (front ++ others) → StandApart front others → BeginsAfter (new_end at mid front) second
    → composed_from at mid (groups (in_order (reversed_from at mid (front ++ others)) second))
    ≡ front ++ composed_from (old_end at front) (new_end at mid front) (groups (in_order (reversed_from (old_end at front) (new_end at mid front) others) second))
stay_from at mid [] others second a s b = refl
stay_from at mid (p ∷ front) others second a s b =
    let end : ℕ = mid + (p.place - at) + length p.new in
    let back : Piece = turned at mid p in
    let backs : List Piece = reversed_from (end_of p) end (front ++ others) in
    let later : BeginsAfter end second = begins_later end (new_end (end_of p) end front) second (new_end_grows (end_of p) end front) b in
    let after : MembersAfter end (in_order backs second) = members_after end backs second (reversed_after (end_of p) end (front ++ others) s.0) later in
    ap (λ ms. composed_from at mid (groups ms)) (next_back back backs second (back_first end back backs second (omega arith) later))
    ∙ ap (composed_from at mid) (groups_only back (in_order backs second) after)
    ∙ composed_only at mid p (groups (in_order backs second)) a.0
    ∙ ap (λ ps. p ∷ ps) (stay_from (end_of p) end front others second a.1 s.1 b)

pub untouched-stay : untouched_pieces_stay
untouched-stay front others second a s b = stay_from 0 0 front others second a s b
