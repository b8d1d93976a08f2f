-- What the loop over members keeps, and how it continues.
use Rattle.std.proofs.Common.{⊎_elim, zero, suc, ◌≡◌, ℕ, ◌+◌, ◌-◌, ◌<◌, ◌≤◌, true, false, nat_le, List, [], ◌∷◌, ◌++◌, length, take, drop, get_or, sym, subst, ◌∙◌, ap, ap₂, arith, length-append, length-drop}
use Rattle.std.proofs.lemmas.Bool.{cases_Bool, cond-true, cond-false, le-leb, lt-leb}
use Rattle.std.proofs.lemmas.List.{drop_all, take_more}
use Rattle.bib_spec.specs.Bytes.{file_limit}
use Rattle.bib_spec.specs.Text.{Text}
use Rattle.bib_spec.specs.Pieces.{Piece, end_of, EndBy}
use Rattle.bib_pieces.proofs.PieceLoops.{drop-next}
use Rattle.history_spec.specs.Composing.{Member, Back, On, piece_of, in_order, back_is_first, first_place, Group, group_end, covered_with, with_member, begun_at, alone, groups_from, groups}
use Rattle.history_spec.proofs.Ordered.{next_back, next_on, on_there}

-- the first i pieces back and j pieces on are in the group, and the rest is to come
pub record IsGrowing (backs ons : List Piece) (place : ℕ) (covered : Text) (i j : ℕ) : Type 0 where
  pub backs_within : i ≤ length backs
  pub ons_within : j ≤ length ons
  pub short : place + length covered ≤ file_limit
  pub so_far : groups (in_order backs ons)
      ≡ groups_from (record { place = place; covered = covered; backs = take i backs; ons = take j ons }) (in_order (drop i backs) (drop j ons))

-- ---- the start

order_some : (backs ons : List Piece) → 0 < length backs + length ons → 0 < length (in_order backs ons)
order_some [] [] h = omega (arith, h)
order_some [] (q ∷ ons) h = omega arith
order_some (p ∷ backs) [] h = omega arith
order_some (p ∷ backs) (q ∷ ons) h =
    ⊎_elim (λ t. omega (arith, ap length (next_back p backs (q ∷ ons) t)))
    (λ f. omega (arith, ap length (next_on (p ∷ backs) q ons f)))
    (cases_Bool (nat_le p.place q.place))

first_short : (limit : ℕ) (backs ons : List Piece) → EndBy limit backs → EndBy limit ons → first_place (in_order backs ons) ≤ limit
first_short limit [] [] b o = omega arith
first_short limit [] (q ∷ ons) b o = omega (arith, o.0)
first_short limit (p ∷ backs) [] b o = omega (arith, b.0)
first_short limit (p ∷ backs) (q ∷ ons) b o =
    ⊎_elim (λ t. omega (arith, b.0, ap first_place (next_back p backs (q ∷ ons) t)))
    (λ f. omega (arith, o.0, ap first_place (next_on (p ∷ backs) q ons f)))
    (cases_Bool (nat_le p.place q.place))

begun_groups : (ms : List Member) → 0 < length ms → groups ms ≡ groups_from (begun_at (first_place ms)) ms
begun_groups [] h = absurd (none h) where
  none : 0 < 0 → ⊥
  none h = omega (arith, h)
begun_groups (m ∷ ms) h =
    sym (cond-true (nat_le (piece_of m).place (group_end (begun_at (piece_of m).place))) (groups_from (alone m) ms) (begun_at (piece_of m).place ∷ groups_from (alone m) ms)
    (le-leb (piece_of m).place (group_end (begun_at (piece_of m).place)) (omega arith)))

pub growing_start : (backs ons : List Piece) (place : ℕ) → 0 < length backs + length ons → EndBy file_limit backs → EndBy file_limit ons → place ≡ first_place (in_order backs ons)
    → IsGrowing backs ons place [] 0 0
growing_start backs ons place h b o e =
    let short : first_place (in_order backs ons) ≤ file_limit = first_short file_limit backs ons b o in
    record {
      backs_within = omega arith;
      ons_within = omega arith;
      short = omega (arith, short, e);
      so_far = begun_groups (in_order backs ons) (order_some backs ons h) ∙ ap (λ n. groups_from (begun_at n) (in_order backs ons)) (sym e);
    }

-- ---- a step

more_short : (place : ℕ) (covered : Text) (p : Piece) → place + length covered ≤ file_limit → p.place ≤ place + length covered → end_of p ≤ file_limit
    → place + length (covered ++ drop (place + length covered - p.place) p.old) ≤ file_limit
more_short place covered p s h e =
    omega (arith, s, h, e, length-append covered (drop (place + length covered - p.place) p.old), length-drop (place + length covered - p.place) p.old)

more_taken : (ps : List Piece) (i : ℕ) (p : Piece) → i < length ps → p ≡ get_or ps i p → take (i + 1) ps ≡ take i ps ++ p ∷ []
more_taken ps i p h e = take_more ps i p h ∙ ap (λ q. take i ps ++ q ∷ []) (sym e)

-- the piece comes first of what is left
next_is_back : (backs ons : List Piece) (i j : ℕ) (p : Piece) → i < length backs → p ≡ get_or backs i p → back_is_first (drop i backs) (drop j ons) ≡ true
    → in_order (drop i backs) (drop j ons) ≡ Back p ∷ in_order (drop (i + 1) backs) (drop j ons)
next_is_back backs ons i j p h e t =
    let next : drop i backs ≡ p ∷ drop (i + 1) backs = drop-next backs i p h e in
    ap (λ ps. in_order ps (drop j ons)) next
    ∙ next_back p (drop (i + 1) backs) (drop j ons) (sym (ap (λ ps. back_is_first ps (drop j ons)) next) ∙ t)

next_is_on : (backs ons : List Piece) (i j : ℕ) (p : Piece) → j < length ons → p ≡ get_or ons j p → back_is_first (drop i backs) (drop j ons) ≡ false
    → in_order (drop i backs) (drop j ons) ≡ On p ∷ in_order (drop i backs) (drop (j + 1) ons)
next_is_on backs ons i j p h e t =
    let next : drop j ons ≡ p ∷ drop (j + 1) ons = drop-next ons j p h e in
    ap (λ ps. in_order (drop i backs) ps) next
    ∙ next_on (drop i backs) p (drop (j + 1) ons) (sym (ap (λ ps. back_is_first (drop i backs) ps) next) ∙ t)

joins_group : (g : Group) (m : Member) (ms : List Member) → (piece_of m).place ≤ group_end g → groups_from g (m ∷ ms) ≡ groups_from (with_member g m) ms
joins_group g m ms h =
    cond-true (nat_le (piece_of m).place (group_end g)) (groups_from (with_member g m) ms) (g ∷ groups_from (alone m) ms) (le-leb (piece_of m).place (group_end g) h)

begins_group : (g : Group) (m : Member) (ms : List Member) → group_end g < (piece_of m).place → groups_from g (m ∷ ms) ≡ g ∷ groups (m ∷ ms)
begins_group g m ms h =
    cond-false (nat_le (piece_of m).place (group_end g)) (groups_from (with_member g m) ms) (g ∷ groups_from (alone m) ms) (lt-leb (piece_of m).place (group_end g) h)

pub growing_back : (backs ons : List Piece) (place : ℕ) (covered : Text) (i j : ℕ) (p : Piece) → IsGrowing backs ons place covered i j → i < length backs → p ≡ get_or backs i p
    → back_is_first (drop i backs) (drop j ons) ≡ true → p.place ≤ place + length covered → end_of p ≤ file_limit
    → IsGrowing backs ons place (covered ++ drop (place + length covered - p.place) p.old) (i + 1) j
growing_back backs ons place covered i j p w h e t k f =
    let g : Group = record { place = place; covered = covered; backs = take i backs; ons = take j ons } in
    let rest : List Member = in_order (drop (i + 1) backs) (drop j ons) in
    record {
      backs_within = omega arith;
      ons_within = w.ons_within;
      short = more_short place covered p w.short k f;
      so_far = w.so_far ∙ ap (λ ms. groups_from g ms) (next_is_back backs ons i j p h e t) ∙ joins_group g (Back p) rest k
          ∙ ap (λ ps. groups_from (record { place = place; covered = covered_with g p; backs = ps; ons = take j ons }) rest) (sym (more_taken backs i p h e));
    }

pub growing_on : (backs ons : List Piece) (place : ℕ) (covered : Text) (i j : ℕ) (p : Piece) → IsGrowing backs ons place covered i j → j < length ons → p ≡ get_or ons j p
    → back_is_first (drop i backs) (drop j ons) ≡ false → p.place ≤ place + length covered → end_of p ≤ file_limit
    → IsGrowing backs ons place (covered ++ drop (place + length covered - p.place) p.old) i (j + 1)
growing_on backs ons place covered i j p w h e t k f =
    let g : Group = record { place = place; covered = covered; backs = take i backs; ons = take j ons } in
    let rest : List Member = in_order (drop i backs) (drop (j + 1) ons) in
    record {
      backs_within = w.backs_within;
      ons_within = omega arith;
      short = more_short place covered p w.short k f;
      so_far = w.so_far ∙ ap (λ ms. groups_from g ms) (next_is_on backs ons i j p h e t) ∙ joins_group g (On p) rest k
          ∙ ap (λ ps. groups_from (record { place = place; covered = covered_with g p; backs = take i backs; ons = ps }) rest) (sym (more_taken ons j p h e));
    }

-- ---- the end

-- the group is whole
abbrev pub IsFirstGroup : List Piece → List Piece → ℕ → Text → ℕ → ℕ → Type 0
IsFirstGroup backs ons place covered i j =
    groups (in_order backs ons) ≡ record { place = place; covered = covered; backs = take i backs; ons = take j ons } ∷ groups (in_order (drop i backs) (drop j ons))

pub growing_all : (backs ons : List Piece) (place : ℕ) (covered : Text) (i j : ℕ) → IsGrowing backs ons place covered i j → length backs ≤ i → length ons ≤ j
    → IsFirstGroup backs ons place covered i j
growing_all backs ons place covered i j w h k =
    let g : Group = record { place = place; covered = covered; backs = take i backs; ons = take j ons } in
    w.so_far ∙ ap₂ (λ ps qs. groups_from g (in_order ps qs)) (drop_all i backs h) (drop_all j ons k)
    ∙ sym (ap₂ (λ ps qs. g ∷ groups (in_order ps qs)) (drop_all i backs h) (drop_all j ons k))

pub growing_to_back : (backs ons : List Piece) (place : ℕ) (covered : Text) (i j : ℕ) (p : Piece) → IsGrowing backs ons place covered i j → i < length backs → p ≡ get_or backs i p
    → back_is_first (drop i backs) (drop j ons) ≡ true → place + length covered < p.place → IsFirstGroup backs ons place covered i j
growing_to_back backs ons place covered i j p w h e t k =
    let g : Group = record { place = place; covered = covered; backs = take i backs; ons = take j ons } in
    let next = next_is_back backs ons i j p h e t in
    w.so_far ∙ ap (λ ms. groups_from g ms) next ∙ begins_group g (Back p) (in_order (drop (i + 1) backs) (drop j ons)) k ∙ sym (ap (λ ms. g ∷ groups ms) next)

pub growing_to_on : (backs ons : List Piece) (place : ℕ) (covered : Text) (i j : ℕ) (p : Piece) → IsGrowing backs ons place covered i j → j < length ons → p ≡ get_or ons j p
    → back_is_first (drop i backs) (drop j ons) ≡ false → place + length covered < p.place → IsFirstGroup backs ons place covered i j
growing_to_on backs ons place covered i j p w h e t k =
    let g : Group = record { place = place; covered = covered; backs = take i backs; ons = take j ons } in
    let next = next_is_on backs ons i j p h e t in
    w.so_far ∙ ap (λ ms. groups_from g ms) next ∙ begins_group g (On p) (in_order (drop i backs) (drop (j + 1) ons)) k ∙ sym (ap (λ ms. g ∷ groups ms) next)

-- ---- a piece of many

pub ends_after : (limit i : ℕ) (ps : List Piece) → EndBy limit ps → EndBy limit (drop i ps)
ends_after limit zero ps b = b
ends_after limit (suc i) [] b = tt
ends_after limit (suc i) (q ∷ ps) b = ends_after limit i ps b.1

pub end_at : (limit : ℕ) (ps : List Piece) (i : ℕ) (p : Piece) → EndBy limit ps → i < length ps → p ≡ get_or ps i p → end_of p ≤ limit
end_at limit ps i p b h e =
    let left : EndBy limit (p ∷ drop (i + 1) ps) = subst (λ (qs : List Piece). EndBy limit qs) (drop-next ps i p h e) (ends_after limit i ps b) in
    left.0

-- a piece on is left if no piece back is the first of what is left
pub on_left : (backs ons : List Piece) (i j : ℕ) → back_is_first (drop i backs) (drop j ons) ≡ false → i < length backs → j < length ons
on_left backs ons i j t h =
    let left : 0 < length (drop j ons) = on_there (drop i backs) (drop j ons) t (omega (arith, length-drop i backs)) in
    omega (arith, left, length-drop j ons)
