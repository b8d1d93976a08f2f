-- The composed pieces lead from the text that the pieces back make of the text in the middle to the text that the pieces on
-- make.
use Rattle.history_spec.proofs.Words.{◌≡◌, ℕ, ◌+◌, ◌-◌, ◌≤◌, List, [], ◌∷◌, ◌++◌, length, take, drop, refl, sym, subst, ◌∙◌, ap, ap₂, arith, append-nil, between, flat_map, Text, Piece, Fit, applied_from, applied, reversed, BeginFrom, length-between, applied_from-begin, fit_back, applied-reversed}
use Rattle.history_spec.proofs.Words.{all_moved_back, in_order, Group, group_end, groups, group_old, group_new, composed_from, composed}
use Rattle.std.proofs.lemmas.List.{length-take-le}
use Rattle.std.proofs.Math.Seq.{take-add}
use Rattle.bib_spec.specs.Pieces.{Chunk, Kept, Replaced, old_of, new_of, pieces_from, pieces_of_chunks}
use Rattle.bib_spec.proofs.PieceLemmas.{begin_earlier, applied_from-append}
use Rattle.bib_spec.proofs.Chunks.{chunks-fit, chunks-lead}
use Rattle.history_spec.specs.Composing.{composed_pieces_fit, composed_pieces_lead}
use Rattle.history_spec.proofs.Shifts.{applied-from_after}
use Rattle.history_spec.proofs.Covered.{Covers, SideFits}
use Rattle.history_spec.proofs.Grouped.{AreGroups, are_groups, groups_backs, groups_ons}

-- ---- one group

-- the text up to the end of the covered bytes is the text before them, and then the covered bytes
up_to : (text : Text) (lo : ℕ) (covered : Text) → Covers text lo covered → take (lo + length covered) text ≡ take lo text ++ (covered ++ [])
up_to text lo covered c =
    let long : lo + length covered - lo ≡ length covered = omega arith in
    take-add lo (length covered) text
    ∙ ap (λ n. take lo text ++ take n (drop lo text)) (sym long)
    ∙ ap (λ t. take lo text ++ t) (c.there ∙ sym (append-nil covered))

group_applied : (text : Text) (lo : ℕ) (covered : Text) (ps rest : List Piece) → Covers text lo covered → SideFits lo (lo + length covered) ps covered → BeginFrom (lo + length covered) rest
    → applied_from lo (ps ++ rest) text ≡ applied (all_moved_back lo ps) covered ++ applied_from (lo + length covered) rest text
group_applied text lo covered ps rest c s b =
    let hi : ℕ = lo + length covered in
    let inside : hi ≤ length text = c.inside in
    let same : lo ≡ lo + 0 = omega arith in
    let before : length (take lo text) ≡ lo = length-take-le lo text (omega arith) in
    applied_from-append lo hi ps rest text (omega arith) s.ascending s.ended b
    ∙ ap (λ t. t ++ applied_from hi rest text)
    (ap (λ t. applied_from lo ps t) (up_to text lo covered c)
    ∙ ap (λ n. applied_from n ps (take lo text ++ (covered ++ []))) same
    ∙ applied-from_after (take lo text) covered [] lo 0 ps before (omega arith) s.fit.begin s.fit.fit.ascending s.fit.fit.standing
    ∙ append-nil (applied (all_moved_back lo ps) covered))

-- ---- all groups

-- the bytes in the place of each group, with the bytes between the groups
abbrev pub glued : (Group → Text) → ℕ → List Group → Text → Text
glued part at [] text = drop at text
glued part at (g ∷ gs) text = between at g.place text ++ (part g ++ glued part (group_end g) gs text)

begin_both : (n : ℕ) (ps rest : List Piece) → BeginFrom n ps → BeginFrom n rest → BeginFrom n (ps ++ rest)
begin_both n [] rest b c = c
begin_both n (p ∷ ps) rest b c = (b.0, begin_both n ps rest b.1 c)

backs_from_on : (text : Text) (at : ℕ) (gs : List Group) → AreGroups text at gs → BeginFrom at (flat_map (λ g. g.backs) gs)
backs_from_on text at [] w = tt
backs_from_on text at (g ∷ gs) w =
    let end : at ≤ group_end g = omega (arith, w.0) in
    begin_both at g.backs (flat_map (λ g. g.backs) gs) (begin_earlier at g.place g.backs w.0 w.1.backs.fit.begin)
    (begin_earlier at (group_end g) (flat_map (λ g. g.backs) gs) end (backs_from_on text (group_end g) gs w.2))

ons_from_on : (text : Text) (at : ℕ) (gs : List Group) → AreGroups text at gs → BeginFrom at (flat_map (λ g. g.ons) gs)
ons_from_on text at [] w = tt
ons_from_on text at (g ∷ gs) w =
    let end : at ≤ group_end g = omega (arith, w.0) in
    begin_both at g.ons (flat_map (λ g. g.ons) gs) (begin_earlier at g.place g.ons w.0 w.1.ons.fit.begin)
    (begin_earlier at (group_end g) (flat_map (λ g. g.ons) gs) end (ons_from_on text (group_end g) gs w.2))

pub backs_glued : (text : Text) (at : ℕ) (gs : List Group) → AreGroups text at gs → applied_from at (flat_map (λ g. g.backs) gs) text ≡ glued group_old at gs text
backs_glued text at [] w = refl
backs_glued text at (g ∷ gs) w =
    let later : List Piece = flat_map (λ g. g.backs) gs in
    let rest : BeginFrom (group_end g) later = backs_from_on text (group_end g) gs w.2 in
    applied_from-begin at g.place (g.backs ++ later) text w.0 (begin_both g.place g.backs later w.1.backs.fit.begin (begin_earlier g.place (group_end g) later (omega arith) rest))
    ∙ ap (λ t. between at g.place text ++ t)
    (group_applied text g.place g.covered g.backs later w.1.covers w.1.backs rest
    ∙ ap (λ t. group_old g ++ t) (backs_glued text (group_end g) gs w.2))

ons_glued : (text : Text) (at : ℕ) (gs : List Group) → AreGroups text at gs → applied_from at (flat_map (λ g. g.ons) gs) text ≡ glued group_new at gs text
ons_glued text at [] w = refl
ons_glued text at (g ∷ gs) w =
    let later : List Piece = flat_map (λ g. g.ons) gs in
    let rest : BeginFrom (group_end g) later = ons_from_on text (group_end g) gs w.2 in
    applied_from-begin at g.place (g.ons ++ later) text w.0 (begin_both g.place g.ons later w.1.ons.fit.begin (begin_earlier g.place (group_end g) later (omega arith) rest))
    ∙ ap (λ t. between at g.place text ++ t)
    (group_applied text g.place g.covered g.ons later w.1.covers w.1.ons rest
    ∙ ap (λ t. group_new g ++ t) (ons_glued text (group_end g) gs w.2))

-- ---- the chunks

-- the bytes between the groups are kept, and each group is replaced
abbrev chunks_of : ℕ → List Group → Text → List Chunk
chunks_of at [] text = Kept (drop at text) ∷ []
chunks_of at (g ∷ gs) text = Kept (between at g.place text) ∷ Replaced (group_old g) (group_new g) ∷ chunks_of (group_end g) gs text

old_glued : (at : ℕ) (gs : List Group) (text : Text) → old_of (chunks_of at gs text) ≡ glued group_old at gs text
old_glued at [] text = append-nil (drop at text)
old_glued at (g ∷ gs) text = ap (λ t. between at g.place text ++ (group_old g ++ t)) (old_glued (group_end g) gs text)

new_glued : (at : ℕ) (gs : List Group) (text : Text) → new_of (chunks_of at gs text) ≡ glued group_new at gs text
new_glued at [] text = append-nil (drop at text)
new_glued at (g ∷ gs) text = ap (λ t. between at g.place text ++ (group_new g ++ t)) (new_glued (group_end g) gs text)

pieces_composed : (at mid : ℕ) (gs : List Group) (text : Text) → AreGroups text mid gs → pieces_from at (chunks_of mid gs text) ≡ composed_from at mid gs
pieces_composed at mid [] text w = refl
pieces_composed at mid (g ∷ gs) text w =
    let inside : group_end g ≤ length text = w.1.covers.inside in
    let gap : length (between mid g.place text) ≡ g.place - mid = length-between mid g.place text w.0 (omega arith) in
    ap (λ n. record { place = at + n; old = group_old g; new = group_new g } ∷ pieces_from (at + n + length (group_old g)) (chunks_of (group_end g) gs text)) gap
    ∙ ap (λ ps. record { place = at + (g.place - mid); old = group_old g; new = group_new g } ∷ ps)
    (pieces_composed (at + (g.place - mid) + length (group_old g)) (group_end g) gs text w.2)

-- ---- the laws

-- both edits as the chunks of one
record AreBoth (chunks : List Chunk) (first second : List Piece) (text : Text) : Type 0 where
  pieces : pieces_of_chunks chunks ≡ composed first second
  before : old_of chunks ≡ text
  after : new_of chunks ≡ applied second (applied first text)

abbrev both_chunks : List Piece → List Piece → Text → List Chunk
both_chunks first second text = chunks_of 0 (groups (in_order (reversed first) second)) (applied first text)

are_both : (first second : List Piece) (text : Text) → Fit first text → Fit second (applied first text) → AreBoth (both_chunks first second text) first second text
are_both first second text f s =
    let middle : Text = applied first text in
    let backs : List Piece = reversed first in
    let gs : List Group = groups (in_order backs second) in
    let w : AreGroups middle 0 gs = are_groups middle backs second (fit_back first text f) s in
    record {
      pieces = pieces_composed 0 0 gs middle w;
      before = old_glued 0 gs middle ∙ sym (backs_glued middle 0 gs w) ∙ ap (λ ps. applied ps middle) (groups_backs backs second) ∙ applied-reversed first text f;
      after = new_glued 0 gs middle ∙ sym (ons_glued middle 0 gs w) ∙ ap (λ ps. applied ps middle) (groups_ons backs second);
    }

pub composed-fit : composed_pieces_fit
composed-fit first second text f s =
    let w : AreBoth (both_chunks first second text) first second text = are_both first second text f s in
    subst (λ (ps : List Piece). Fit ps text) w.pieces (subst (λ (t : Text). Fit (pieces_of_chunks (both_chunks first second text)) t) w.before (chunks-fit (both_chunks first second text)))

pub composed-lead : composed_pieces_lead
composed-lead first second text f s =
    let w : AreBoth (both_chunks first second text) first second text = are_both first second text f s in
    sym (ap₂ (λ ps t. applied ps t) w.pieces w.before) ∙ chunks-lead (both_chunks first second text) ∙ w.after
