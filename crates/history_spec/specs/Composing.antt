-- The pieces of two edits, one after the other, as the pieces of one edit. (The text in the middle is the text between
-- them.) (dialect)
use Rattle.std.specs.Prelude.{ℕ, ◌≡◌, ◌⊎◌, ◌<◌, ◌≤◌, ◌+◌, ◌-◌, nat_le, if◌then◌else◌, Bool, true, false, List, [], ◌∷◌, ◌++◌, map, length, take, drop, codes}
use Rattle.std.specs.List.{AllByRecursion, between, flat_map}
use Rattle.bib_spec.specs.Bytes.{file_limit}
use Rattle.bib_spec.specs.Text.{Text}
use Rattle.bib_spec.specs.Pieces.{Piece, end_of, AscendFrom, IsAscending, Fit, applied, reversed_from, reversed, BeginFrom, EndBy}
use Rattle.history_spec.specs.Shifting.{all_moved_back}

-- ---- what can be composed

-- the first pieces fit the text, and the second fit what the first make of it; neither text is longer than a file
pub record FitInTurn (first second : List Piece) (text : Text) : Type 0 where
  pub first_fit : Fit first text
  pub second_fit : Fit second (applied first text)
  pub short : length text ≤ file_limit
  pub short_middle : length (applied first text) ≤ file_limit

-- there is a text that the two edits fit in turn
abbrev pub IsComposable : List Piece → List Piece → Type 0
IsComposable first second = (text : Text) × FitInTurn first second text

-- ---- the members

-- A piece that covers a range of the text in the middle: a piece of the first edit, reversed so that it leads back, or a
-- piece of the second edit, which leads on.
pub data Member : Type 0 where
  Back : Piece → Member
  On : Piece → Member

-- the piece of a member, on either side
abbrev pub piece_of : Member → Piece
piece_of (Back p) = p
piece_of (On p) = p

-- a piece that leads back, put among the members after it: the pieces that lead on and begin before it come first
abbrev pub put_in : Piece → (List Piece → List Member) → List Piece → List Member
put_in p others [] = Back p ∷ others []
put_in p others (q ∷ qs) = if nat_le p.place q.place then Back p ∷ others (q ∷ qs) else On q ∷ put_in p others qs

-- all members by their places; at the same place a piece that leads back comes first
abbrev pub in_order : List Piece → List Piece → List Member
in_order [] ons = map On ons
in_order (p ∷ backs) ons = put_in p (in_order backs) ons

-- whether the first member is one that leads back
abbrev pub back_is_first : List Piece → List Piece → Bool
back_is_first [] ons = false
back_is_first (p ∷ backs) [] = true
back_is_first (p ∷ backs) (q ∷ ons) = nat_le p.place q.place

-- the place of the first member; 0 if there is none
abbrev pub first_place : List Member → ℕ
first_place [] = 0
first_place (m ∷ ms) = (piece_of m).place

-- ---- the groups

-- members whose ranges are connected: where they begin, the bytes of the text in the middle that they cover, and the
-- members
pub record Group : Type 0 where
  pub place : ℕ
  pub covered : Text
  pub backs : List Piece
  pub ons : List Piece

-- where the group ends in the text in the middle
abbrev pub group_end : Group → ℕ
group_end g = g.place + length g.covered

-- the bytes of a group and of a piece that joins it: the bytes of the piece that the group does not cover yet come last
abbrev pub covered_with : Group → Piece → Text
covered_with g p = g.covered ++ drop (group_end g - p.place) p.old

-- the group with one more member, the last one on its side
abbrev pub with_member : Group → Member → Group
with_member g (Back p) = record { place = g.place; covered = covered_with g p; backs = g.backs ++ p ∷ []; ons = g.ons }
with_member g (On p) = record { place = g.place; covered = covered_with g p; backs = g.backs; ons = g.ons ++ p ∷ [] }

-- a group at this place that has no member yet
abbrev pub begun_at : ℕ → Group
begun_at place = record { place = place; covered = []; backs = []; ons = [] }

-- the group of this member alone
abbrev pub alone : Member → Group
alone m = with_member (begun_at (piece_of m).place) m

-- the groups of these members, after the group `g` has begun: a member that begins at its end or before joins it, and any
-- other member begins the next group
abbrev pub groups_from : Group → List Member → List Group
groups_from g [] = g ∷ []
groups_from g (m ∷ ms) = if nat_le (piece_of m).place (group_end g) then groups_from (with_member g m) ms else g ∷ groups_from (alone m) ms

-- the groups of members in order: two members are in one group if their ranges share a point, even if only through others
abbrev pub groups : List Member → List Group
groups [] = []
groups (m ∷ ms) = groups_from (alone m) ms

-- ---- what the groups are

-- the piece covers the byte at this place of the text in the middle
abbrev pub CoversByte : ℕ → Piece → Type 0
CoversByte n p = (p.place ≤ n) × (n < end_of p)

-- one of the pieces covers the byte at this place
abbrev pub SomeCovers : ℕ → List Piece → Type 0
SomeCovers n [] = ⊥
SomeCovers n (p ∷ ps) = CoversByte n p ⊎ SomeCovers n ps

-- Each byte from the group's begin to its end is covered by a member, so any two members are connected by shared points.
abbrev pub HangsTogether : Group → Type 0
HangsTogether g = (n : ℕ) → g.place ≤ n → n < group_end g → SomeCovers n g.backs ⊎ SomeCovers n g.ons

-- the group has members, and they lie between its begin and its end
pub record HoldsItsMembers (g : Group) : Type 0 where
  pub some : 0 < length g.backs + length g.ons
  pub backs_begin : BeginFrom g.place g.backs
  pub backs_end : EndBy (group_end g) g.backs
  pub ons_begin : BeginFrom g.place g.ons
  pub ons_end : EndBy (group_end g) g.ons

-- each group begins after the end of the one before it, and the first one after this place
abbrev pub ApartFrom : ℕ → List Group → Type 0
ApartFrom n [] = Unit {0}
ApartFrom n (g ∷ gs) = (n < g.place) × ApartFrom (group_end g) gs

-- no two of the groups share a point
abbrev pub AreApart : List Group → Type 0
AreApart [] = Unit {0}
AreApart (g ∷ gs) = ApartFrom (group_end g) gs

-- the groups hold all members of both sides, over the text in the middle; the ranges of each group are connected, and no
-- two groups share a point
pub record PartMembers (middle : Text) (backs ons : List Piece) (gs : List Group) : Type 0 where
  pub all_back : flat_map (λ g. g.backs) gs ≡ backs
  pub all_on : flat_map (λ g. g.ons) gs ≡ ons
  pub covering : AllByRecursion (λ g. between g.place (group_end g) middle ≡ g.covered) gs
  pub holding : AllByRecursion HoldsItsMembers gs
  pub together : AllByRecursion HangsTogether gs
  pub apart : AreApart gs

-- ---- the composed pieces

-- the bytes in the group's place before the first edit
abbrev pub group_old : Group → Text
group_old g = applied (all_moved_back g.place g.backs) g.covered

-- the bytes in the group's place after the second edit
abbrev pub group_new : Group → Text
group_new g = applied (all_moved_back g.place g.ons) g.covered

-- a piece for each group, if the group before these ends at `at` in the text before, and at `mid` in the text in the middle
abbrev pub composed_from : ℕ → ℕ → List Group → List Piece
composed_from at mid [] = []
composed_from at mid (g ∷ gs) =
    record { place = at + (g.place - mid); old = group_old g; new = group_new g }
    ∷ composed_from (at + (g.place - mid) + length (group_old g)) (group_end g) gs

-- The pieces of both edits as the pieces of one edit. In the text in the middle each piece of the first edit covers its new
-- bytes, and each piece of the second its old bytes. Pieces whose closed ranges share a point, even if only through others,
-- become one piece, which covers them all.
abbrev pub composed : List Piece → List Piece → List Piece
composed first second = composed_from 0 0 (groups (in_order (reversed first) second))

-- ---- laws

-- the composed pieces fit the text before both edits
abbrev pub composed_pieces_fit : Type 0
composed_pieces_fit = (first second : List Piece) (text : Text) → Fit first text → Fit second (applied first text) → Fit (composed first second) text

-- the composed pieces lead at once to the text to which the two edits lead in turn
abbrev pub composed_pieces_lead : Type 0
composed_pieces_lead = (first second : List Piece) (text : Text) → Fit first text → Fit second (applied first text)
    → applied (composed first second) text ≡ applied second (applied first text)

-- the groups part the pieces of both edits
abbrev pub members_are_parted : Type 0
members_are_parted = (first second : List Piece) (text : Text) → Fit first text → Fit second (applied first text)
    → PartMembers (applied first text) (reversed first) second (groups (in_order (reversed first) second))

-- ---- what is not touched

-- where pieces end in the text that they fit, if the pieces before them end at `at`
abbrev pub old_end : ℕ → List Piece → ℕ
old_end at [] = at
old_end at (p ∷ ps) = old_end (end_of p) ps

-- where pieces end in the text that they make, if the pieces before them end at `at` in the old text and at `mid` in the
-- new
abbrev pub new_end : ℕ → ℕ → List Piece → ℕ
new_end at mid [] = mid
new_end at mid (p ∷ ps) = new_end (end_of p) (mid + (p.place - at) + length p.new) ps

-- the first of the pieces, if there is one, begins after this place
abbrev pub BeginsAfter : ℕ → List Piece → Type 0
BeginsAfter n [] = Unit {0}
BeginsAfter n (p ∷ ps) = n < p.place

-- each of the pieces ends before the next one begins, and the last one before the others begin
abbrev pub StandApart : List Piece → List Piece → Type 0
StandApart [] others = Unit {0}
StandApart (p ∷ ps) others = BeginsAfter (end_of p) (ps ++ others) × StandApart ps others

-- The pieces of both edits as the pieces of one, if the pieces before them end at `at` in the text before, and at `mid` in
-- the text in the middle.
abbrev pub composed_at : ℕ → ℕ → List Piece → List Piece → List Piece
composed_at at mid first second = composed_from at mid (groups (in_order (reversed_from at mid first) second))

-- the pieces of both edits as the pieces of one, after `front`: pieces of the first edit that stay unchanged
abbrev pub composed_after : List Piece → List Piece → List Piece → List Piece
composed_after front others second = composed_at (old_end 0 front) (new_end 0 0 front) others second

-- Pieces of the first edit are unchanged if no other piece of that edit touches them, and they end before the pieces of the
-- second edit begin.
abbrev pub untouched_pieces_stay : Type 0
untouched_pieces_stay = (front others second : List Piece) → IsAscending (front ++ others) → StandApart front others → BeginsAfter (new_end 0 0 front) second
    → composed (front ++ others) second ≡ front ++ composed_after front others second

-- the pieces end before the others begin, in the text that they make
abbrev pub EndBefore : List Piece → List Piece → Type 0
EndBefore [] others = Unit {0}
EndBefore (p ∷ ps) others = BeginsAfter (new_end 0 0 (p ∷ ps)) others

-- The pieces of `part` begin after the pieces of `front` end, and they end before the pieces of `back` and the other pieces
-- of the second edit begin, all in the text that the first edit makes. Between `front` and `back` are the pieces of
-- `middle`.
pub record LiesBetween (front middle back part others : List Piece) : Type 0 where
  pub begins : EndBefore front part
  pub before_back : BeginsAfter (old_end 0 part) (reversed_from (old_end 0 (front ++ middle)) (new_end 0 0 (front ++ middle)) back)
  pub before_others : BeginsAfter (old_end 0 part) others
  pub middle_before_others : EndBefore (front ++ middle) others

-- A replacement in a list of pieces: these pieces take the place of those from position `from` up to position `to`.
pub record Replacement : Type 0 where
  pub from : ℕ
  pub to : ℕ
  pub pieces : List Piece

-- the list after the replacement
abbrev pub replaced : Replacement → List Piece → List Piece
replaced r ps = take r.from ps ++ (r.pieces ++ drop r.to ps)

-- The first pieces of a second edit, `part`, change only the pieces of the first edit between `front` and `back`. So the
-- other pieces of the second edit can be composed before `part`.
abbrev pub parts_are_composed_in_turn : Type 0
parts_are_composed_in_turn = (front middle back part others : List Piece) (text : Text)
    → Fit (front ++ (middle ++ back)) text → Fit (part ++ others) (applied (front ++ (middle ++ back)) text)
    → StandApart (front ++ (middle ++ back)) [] → LiesBetween front middle back part others
    → composed (front ++ (middle ++ back)) (part ++ others)
    ≡ replaced (record { from = length front; to = length (front ++ middle); pieces = composed_after front middle part }) (composed (front ++ (middle ++ back)) others)

-- an edit without pieces leaves pieces that do not touch unchanged
abbrev pub nothing_changes_nothing : Type 0
nothing_changes_nothing = (first : List Piece) → IsAscending first → StandApart first [] → composed first [] ≡ first

-- no two composed pieces touch
abbrev pub composed_pieces_stand_apart : Type 0
composed_pieces_stand_apart = (first second : List Piece) → StandApart (composed first second) []

-- ---- where pieces end

-- where the pieces end in the text that they make
abbrev pub ends_of : List Piece → List ℕ
ends_of ps = map end_of (reversed ps)

-- no two pieces touch, and these are the places where they end in the text that they make
pub record AreEnds (ps : List Piece) (ends : List ℕ) : Type 0 where
  pub apart : StandApart ps []
  pub each : ends ≡ ends_of ps

-- ---- what can be composed after other pieces

-- The first pieces, reversed, and the second pieces fit the text in the middle, after pieces that end at `at` in the text
-- before and at `mid` in the text in the middle. No place is beyond the longest file.
pub record ComposableAt (at mid : ℕ) (first second : List Piece) (middle : Text) : Type 0 where
  pub ascending : AscendFrom at first
  pub turned_fit : Fit (reversed_from at mid first) middle
  pub second_fit : Fit second middle
  pub second_ascends : AscendFrom mid second
  pub short : EndBy file_limit first
  pub short_start : at ≤ file_limit
  pub inside : mid ≤ length middle
  pub short_middle : length middle ≤ file_limit
  pub short_composed : EndBy file_limit (composed_at at mid first second)

-- there is a text in the middle for which the pieces can be composed
abbrev pub IsComposableAt : ℕ → ℕ → List Piece → List Piece → Type 0
IsComposableAt at mid first second = (middle : Text) × ComposableAt at mid first second middle

-- ---- worked examples

-- an insertion directly after a new text joins it
abbrev pub an_insertion_after_joins : Type 0
an_insertion_after_joins =
    composed (record { place = 0; old = codes "ab"; new = codes "x" } ∷ []) (record { place = 1; old = []; new = codes "y" } ∷ [])
    ≡ record { place = 0; old = codes "ab"; new = codes "xy" } ∷ []

-- two pieces that do not touch are still two pieces
abbrev pub pieces_apart_stay : Type 0
pieces_apart_stay =
    composed (record { place = 0; old = codes "a"; new = codes "x" } ∷ []) (record { place = 2; old = codes "c"; new = codes "z" } ∷ [])
    ≡ record { place = 0; old = codes "a"; new = codes "x" } ∷ record { place = 2; old = codes "c"; new = codes "z" } ∷ []
