-- What the loop over groups keeps, and how it continues.
use Rattle.std.proofs.Common.{◌≡◌, ℕ, ◌+◌, ◌-◌, ◌<◌, ◌≤◌, List, [], ◌∷◌, ◌++◌, length, take, drop, sum_by, All, refl, sym, subst, ◌∙◌, ap, ap₂, arith, append_assoc, append-nil}
use Rattle.std.proofs.lemmas.List.Elements.{All-from_recursion}
use Rattle.std.proofs.lemmas.List.Sums.{sum_by-cons}
use Rattle.std.specs.List.{AllByRecursion}
use Rattle.bib_spec.specs.Bytes.{file_limit}
use Rattle.bib_spec.specs.Text.{Text}
use Rattle.bib_spec.specs.Pieces.{Piece, end_of, Stands, reversed_from, EndBy}
use Rattle.bib_pieces.specs.Reversing.{new_bytes_limit}
use Rattle.history_spec.specs.Shifting.{FitAfter}
use Rattle.history_spec.specs.Composing.{IsComposableAt, in_order, Group, groups, group_old, group_new, composed_from, composed_at}
use Rattle.history_spec.proofs.Grouped.{AreGroups}
use Rattle.history_spec.proofs.Near.{are_groups_at, ends_inside}
use Rattle.bib_pieces.proofs.Growing.{IsFirstGroup, ends_after}

-- ---- the conditions of the way back

places_in : (limit : ℕ) (ps : List Piece) → EndBy limit ps → AllByRecursion (λ p. p.place ≤ limit) ps
places_in limit [] e = tt
places_in limit (p ∷ ps) e = (omega (arith, e.0), places_in limit ps e.1)

pub first_places : (from mid : ℕ) (first second : List Piece) → IsComposableAt from mid first second → All (λ p. p.place ≤ file_limit) first
first_places from mid first second c = All-from_recursion (λ (p : Piece). p.place ≤ file_limit) first (places_in file_limit first c.1.short)

-- the new bytes stand in the text in the middle
new_bytes_in : (text : Text) (at mid : ℕ) (ps : List Piece) → mid ≤ length text → AllByRecursion (Stands text) (reversed_from at mid ps) → mid + sum_by (λ p. length p.new) ps ≤ length text
new_bytes_in text at mid [] h s = omega (arith, h)
new_bytes_in text at mid (p ∷ ps) h s =
    omega (arith, sum_by-cons (λ p. length p.new) p ps, s.0.inside, new_bytes_in text (end_of p) (mid + (p.place - at) + length p.new) ps s.0.inside s.1)

pub first_new_bytes : (from mid : ℕ) (first second : List Piece) → IsComposableAt from mid first second → mid + sum_by (λ p. length p.new) first < new_bytes_limit
first_new_bytes from mid first second c = omega (arith, new_bytes_in c.0 from mid first c.1.inside c.1.turned_fit.standing, c.1.short_middle)

-- ---- the loop

-- what is composed, and the groups of the pieces that are left, are the composed pieces
pub record IsComposing (all backs ons pieces : List Piece) (end middle_end : ℕ) : Type 0 where
  pub middle : Text
  pub left : AreGroups middle middle_end (groups (in_order backs ons))
  pub short : length middle ≤ file_limit
  pub backs_short : EndBy file_limit backs
  pub ons_short : EndBy file_limit ons
  pub pieces_short : EndBy file_limit (composed_from end middle_end (groups (in_order backs ons)))
  pub so_far : pieces ++ composed_from end middle_end (groups (in_order backs ons)) ≡ all

pub composing_start : (from mid : ℕ) (first second : List Piece) → IsComposableAt from mid first second
    → IsComposing (composed_at from mid first second) (reversed_from from mid first) second [] from mid
composing_start from mid first second c = record {
  middle = c.0;
  left = are_groups_at from mid first second c.0 c.1;
  short = c.1.short_middle;
  backs_short = ends_inside file_limit c.0 (reversed_from from mid first) c.1.short_middle c.1.turned_fit.standing;
  ons_short = ends_inside file_limit c.0 second c.1.short_middle c.1.second_fit.standing;
  pieces_short = c.1.short_composed;
  so_far = refl;
}

-- what the first group of those left says
pub record NextGroup (end middle_end place : ℕ) (covered : Text) (backs ons : List Piece) : Type 0 where
  pub some : 0 < length backs + length ons
  pub backs_fit : FitAfter place backs covered
  pub ons_fit : FitAfter place ons covered
  pub after : middle_end ≤ place
  pub room : end + (place - middle_end) + length (group_old (record { place = place; covered = covered; backs = backs; ons = ons })) ≤ file_limit

-- the groups left, with the first of them named
named_left : (middle : Text) (at : ℕ) (g : Group) (gs all : List Group) → all ≡ g ∷ gs → AreGroups middle at all → AreGroups middle at (g ∷ gs)
named_left middle at g gs all e w = subst (λ (hs : List Group). AreGroups middle at hs) e w

pub next_group : (all backs ons pieces : List Piece) (end middle_end place : ℕ) (covered : Text) (i j : ℕ) → IsComposing all backs ons pieces end middle_end
    → IsFirstGroup backs ons place covered i j → NextGroup end middle_end place covered (take i backs) (take j ons)
next_group all backs ons pieces end middle_end place covered i j w e =
    let g : Group = record { place = place; covered = covered; backs = take i backs; ons = take j ons } in
    let rest : List Group = groups (in_order (drop i backs) (drop j ons)) in
    let left : AreGroups w.middle middle_end (g ∷ rest) = named_left w.middle middle_end g rest (groups (in_order backs ons)) e w.left in
    let short : EndBy file_limit (composed_from end middle_end (g ∷ rest)) = subst (λ (hs : List Group). EndBy file_limit (composed_from end middle_end hs)) e w.pieces_short in
    record { some = left.1.some; backs_fit = left.1.backs.fit; ons_fit = left.1.ons.fit; after = left.0; room = short.0 }

pub composing_more : (all backs ons pieces : List Piece) (end middle_end place : ℕ) (covered : Text) (i j : ℕ) → IsComposing all backs ons pieces end middle_end
    → IsFirstGroup backs ons place covered i j → (old new : Text)
    → old ≡ group_old (record { place = place; covered = covered; backs = take i backs; ons = take j ons })
    → new ≡ group_new (record { place = place; covered = covered; backs = take i backs; ons = take j ons })
    → IsComposing all (drop i backs) (drop j ons) (pieces ++ record { place = end + (place - middle_end); old = old; new = new } ∷ [])
    (end + (place - middle_end) + length old) (place + length covered)
composing_more all backs ons pieces end middle_end place covered i j w e old new is_old is_new =
    let g : Group = record { place = place; covered = covered; backs = take i backs; ons = take j ons } in
    let rest : List Group = groups (in_order (drop i backs) (drop j ons)) in
    let left : AreGroups w.middle middle_end (g ∷ rest) = named_left w.middle middle_end g rest (groups (in_order backs ons)) e w.left in
    let short : EndBy file_limit (composed_from end middle_end (g ∷ rest)) = subst (λ (hs : List Group). EndBy file_limit (composed_from end middle_end hs)) e w.pieces_short in
    let long : length (group_old g) ≡ length old = ap length (sym is_old) in
    let later : List Piece = composed_from (end + (place - middle_end) + length old) (place + length covered) rest in
    record {
      middle = w.middle;
      left = left.2;
      short = w.short;
      backs_short = ends_after file_limit i backs w.backs_short;
      ons_short = ends_after file_limit j ons w.ons_short;
      pieces_short = subst (λ (n : ℕ). EndBy file_limit (composed_from (end + (place - middle_end) + n) (place + length covered) rest)) long short.1;
      so_far = append_assoc pieces (record { place = end + (place - middle_end); old = old; new = new } ∷ []) later
          ∙ ap₂ (λ o n. pieces ++ (record { place = end + (place - middle_end); old = o; new = n } ∷ composed_from (end + (place - middle_end) + length o) (place + length covered) rest)) is_old is_new
          ∙ sym (ap (λ hs. pieces ++ composed_from end middle_end hs) e) ∙ w.so_far;
    }

pub composing_all : (all backs ons pieces : List Piece) (end middle_end : ℕ) → IsComposing all backs ons pieces end middle_end → length backs ≡ 0 → length ons ≡ 0
    → pieces ≡ all
composing_all all [] [] pieces end middle_end w h k = sym (append-nil pieces) ∙ w.so_far
composing_all all [] (q ∷ ons) pieces end middle_end w h k = absurd (full k) where
  full : length (q ∷ ons) ≡ 0 → ⊥
  full k = omega (arith, k)
composing_all all (p ∷ backs) ons pieces end middle_end w h k = absurd (full h) where
  full : length (p ∷ backs) ≡ 0 → ⊥
  full h = omega (arith, h)

pub composing_same : (all backs more_backs ons more_ons pieces more_pieces : List Piece) (end more_end middle_end more_middle : ℕ) → more_backs ≡ backs → more_ons ≡ ons → more_pieces ≡ pieces
    → more_end ≡ end → more_middle ≡ middle_end → IsComposing all backs ons pieces end middle_end → IsComposing all more_backs more_ons more_pieces more_end more_middle
composing_same all backs more_backs ons more_ons pieces more_pieces end more_end middle_end more_middle b o p e m w =
    subst (λ (bs : List Piece). IsComposing all bs more_ons more_pieces more_end more_middle) (sym b)
    (subst (λ (os : List Piece). IsComposing all backs os more_pieces more_end more_middle) (sym o)
    (subst (λ (ps : List Piece). IsComposing all backs ons ps more_end more_middle) (sym p)
    (subst (λ (n : ℕ). IsComposing all backs ons pieces n more_middle) (sym e)
    (subst (λ (n : ℕ). IsComposing all backs ons pieces end n) (sym m) w))))
