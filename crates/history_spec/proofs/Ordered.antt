-- Members in order: the members of each side are its pieces, and the places ascend.
use Rattle.history_spec.proofs.Words.{⊎_elim, ◌≡◌, ℕ, ◌+◌, ◌<◌, ◌≤◌, true, false, nat_le, get_or, List, [], ◌∷◌, map, length, refl, sym, ◌∙◌, ap, arith, cases_Bool, cond-true, cond-false, leb-true, leb-false, Piece, end_of, AscendFrom, BeginFrom, Member, Back, On, piece_of, in_order, back_is_first}
use Rattle.std.proofs.lemmas.Bool.{true≢false}
use Rattle.history_spec.specs.Composing.{put_in, first_place}

-- ---- the first member

pub next_back : (p : Piece) (backs ons : List Piece) → back_is_first (p ∷ backs) ons ≡ true → in_order (p ∷ backs) ons ≡ Back p ∷ in_order backs ons
next_back p backs [] t = refl
next_back p backs (q ∷ ons) t = cond-true (nat_le p.place q.place) (Back p ∷ in_order backs (q ∷ ons)) (On q ∷ put_in p (in_order backs) ons) t

pub next_on : (backs : List Piece) (q : Piece) (ons : List Piece) → back_is_first backs (q ∷ ons) ≡ false → in_order backs (q ∷ ons) ≡ On q ∷ in_order backs ons
next_on [] q ons t = refl
next_on (p ∷ backs) q ons t = cond-false (nat_le p.place q.place) (Back p ∷ in_order backs (q ∷ ons)) (On q ∷ put_in p (in_order backs) ons) t

pub back_there : (backs ons : List Piece) → back_is_first backs ons ≡ true → 0 < length backs
back_there [] ons t = absurd (true≢false (sym t))
back_there (p ∷ backs) ons t = omega arith

pub on_there : (backs ons : List Piece) → back_is_first backs ons ≡ false → 0 < length backs + length ons → 0 < length ons
on_there [] ons f h = omega (arith, h)
on_there (p ∷ backs) [] f h = absurd (true≢false f)
on_there (p ∷ backs) (q ∷ ons) f h = omega arith

-- the place of the first member is the place of the list's first piece
pub first_is_back : (backs ons : List Piece) (p : Piece) → back_is_first backs ons ≡ true → p ≡ get_or backs 0 p → p.place ≡ first_place (in_order backs ons)
first_is_back [] ons p t e = absurd (true≢false (sym t))
first_is_back (q ∷ backs) ons p t e = ap (λ r. r.place) e ∙ sym (ap first_place (next_back q backs ons t))

pub first_is_on : (backs ons : List Piece) (p : Piece) → back_is_first backs ons ≡ false → 0 < length backs + length ons → p ≡ get_or ons 0 p → p.place ≡ first_place (in_order backs ons)
first_is_on backs [] p t h e = absurd (none (on_there backs [] t h)) where
  none : 0 < 0 → ⊥
  none h = omega (arith, h)
first_is_on backs (q ∷ ons) p t h e = ap (λ r. r.place) e ∙ sym (ap first_place (next_on backs q ons t))

-- ---- the pieces of each side

abbrev pub backs_of : List Member → List Piece
backs_of [] = []
backs_of (Back p ∷ ms) = p ∷ backs_of ms
backs_of (On q ∷ ms) = backs_of ms

abbrev pub ons_of : List Member → List Piece
ons_of [] = []
ons_of (Back p ∷ ms) = ons_of ms
ons_of (On q ∷ ms) = q ∷ ons_of ms

no_backs : (ons : List Piece) → backs_of (map On ons) ≡ []
no_backs [] = refl
no_backs (q ∷ ons) = no_backs ons

ons_alone : (ons : List Piece) → ons_of (map On ons) ≡ ons
ons_alone [] = refl
ons_alone (q ∷ ons) = ap (λ qs. q ∷ qs) (ons_alone ons)

backs_put : (p : Piece) (backs : List Piece) (after : List Piece → List Member) (ons : List Piece) → ((qs : List Piece) → backs_of (after qs) ≡ backs)
    → backs_of (put_in p after ons) ≡ p ∷ backs
backs_put p backs after [] h = ap (λ ps. p ∷ ps) (h [])
backs_put p backs after (q ∷ ons) h =
    ⊎_elim (λ t. ap backs_of (cond-true (nat_le p.place q.place) (Back p ∷ after (q ∷ ons)) (On q ∷ put_in p after ons) t) ∙ ap (λ ps. p ∷ ps) (h (q ∷ ons)))
    (λ f. ap backs_of (cond-false (nat_le p.place q.place) (Back p ∷ after (q ∷ ons)) (On q ∷ put_in p after ons) f) ∙ backs_put p backs after ons h)
    (cases_Bool (nat_le p.place q.place))

ons_put : (p : Piece) (after : List Piece → List Member) (ons : List Piece) → ((qs : List Piece) → ons_of (after qs) ≡ qs) → ons_of (put_in p after ons) ≡ ons
ons_put p after [] h = h []
ons_put p after (q ∷ ons) h =
    ⊎_elim (λ t. ap ons_of (cond-true (nat_le p.place q.place) (Back p ∷ after (q ∷ ons)) (On q ∷ put_in p after ons) t) ∙ h (q ∷ ons))
    (λ f. ap ons_of (cond-false (nat_le p.place q.place) (Back p ∷ after (q ∷ ons)) (On q ∷ put_in p after ons) f) ∙ ap (λ qs. q ∷ qs) (ons_put p after ons h))
    (cases_Bool (nat_le p.place q.place))

pub backs_of-order : (backs ons : List Piece) → backs_of (in_order backs ons) ≡ backs
backs_of-order [] ons = no_backs ons
backs_of-order (p ∷ backs) ons = backs_put p backs (in_order backs) ons (backs_of-order backs)

pub ons_of-order : (backs ons : List Piece) → ons_of (in_order backs ons) ≡ ons
ons_of-order [] ons = ons_alone ons
ons_of-order (p ∷ backs) ons = ons_put p (in_order backs) ons (ons_of-order backs)

-- ---- the places

-- the places ascend from this one on; they may repeat
abbrev pub OrderedFrom : ℕ → List Member → Type 0
OrderedFrom n [] = Unit {0}
OrderedFrom n (m ∷ ms) = (n ≤ (piece_of m).place) × OrderedFrom (piece_of m).place ms

pub ascend_earlier : (at more : ℕ) (ps : List Piece) → at ≤ more → AscendFrom more ps → AscendFrom at ps
ascend_earlier at more [] h a = tt
ascend_earlier at more (p ∷ ps) h a = (omega (arith, h, a.0), a.1)

ordered_ons : (n : ℕ) (ons : List Piece) → AscendFrom n ons → OrderedFrom n (map On ons)
ordered_ons n [] a = tt
ordered_ons n (q ∷ ons) a = (a.0, ordered_ons q.place ons (ascend_earlier q.place (end_of q) ons (omega arith) a.1))

ordered_put : (n : ℕ) (p : Piece) (after : List Piece → List Member) (ons : List Piece) → n ≤ p.place → AscendFrom n ons
    → ((qs : List Piece) → AscendFrom p.place qs → OrderedFrom p.place (after qs)) → OrderedFrom n (put_in p after ons)
ordered_put n p after [] h a b = (h, b [] tt)
ordered_put n p after (q ∷ ons) h a b =
    ⊎_elim (λ t. let below : p.place ≤ q.place = leb-true p.place q.place t in
    rw (cond-true (nat_le p.place q.place) (Back p ∷ after (q ∷ ons)) (On q ∷ put_in p after ons) t) (h, b (q ∷ ons) (below, a.1)))
    (λ f. let above : q.place < p.place = leb-false p.place q.place f in
    let from : q.place ≤ p.place = omega arith in
    rw (cond-false (nat_le p.place q.place) (Back p ∷ after (q ∷ ons)) (On q ∷ put_in p after ons) f)
    (a.0, ordered_put q.place p after ons from (ascend_earlier q.place (end_of q) ons (omega arith) a.1) b))
    (cases_Bool (nat_le p.place q.place))

pub order_ascends : (n : ℕ) (backs ons : List Piece) → AscendFrom n backs → AscendFrom n ons → OrderedFrom n (in_order backs ons)
order_ascends n [] ons a b = ordered_ons n ons b
order_ascends n (p ∷ backs) ons a b =
    ordered_put n p (in_order backs) ons a.0 b (λ qs c. order_ascends p.place backs qs (ascend_earlier p.place (end_of p) backs (omega arith) a.1) c)

pub ordered_earlier : (n k : ℕ) (ms : List Member) → n ≤ k → OrderedFrom k ms → OrderedFrom n ms
ordered_earlier n k [] h o = tt
ordered_earlier n k (m ∷ ms) h o = (omega (arith, h, o.0), o.1)

-- so both sides begin from there on
pub backs_begin : (n : ℕ) (ms : List Member) → OrderedFrom n ms → BeginFrom n (backs_of ms)
backs_begin n [] o = tt
backs_begin n (Back p ∷ ms) o = (o.0, backs_begin n ms (ordered_earlier n p.place ms o.0 o.1))
backs_begin n (On q ∷ ms) o = backs_begin n ms (ordered_earlier n q.place ms o.0 o.1)

pub ons_begin : (n : ℕ) (ms : List Member) → OrderedFrom n ms → BeginFrom n (ons_of ms)
ons_begin n [] o = tt
ons_begin n (Back p ∷ ms) o = ons_begin n ms (ordered_earlier n p.place ms o.0 o.1)
ons_begin n (On q ∷ ms) o = (o.0, ons_begin n ms (ordered_earlier n q.place ms o.0 o.1))
