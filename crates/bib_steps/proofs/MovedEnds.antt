-- The ends of pieces, if what is before these pieces changes.
use Rattle.bib_steps.proofs.Words.{zero, suc, ◌≡◌, ℕ, ◌+◌, ◌-◌, ◌<◌, ◌≤◌, get_or, set, List, [], ◌∷◌, ◌++◌, length, map, take, drop, refl, sym, subst, ◌∙◌, ap, ap₂, arith, append_assoc, append-nil, take-append-drop, length-append, length-drop, take_at, drop_at, drop-drop, length-take-le, map-append}
use Rattle.bib_steps.proofs.Words.{drop_all, take-take, set_split, get_or_default_zero, file_limit, Piece, end_of, reversed_from, reversed, EndBy, old_end, new_end, ends_of, reversed_append, length-ends, ends_from, AreSomeEnds, moved, end_at}
use Rattle.std.proofs.lemmas.List.{drop-take, drop_more, take_all}
use Rattle.history_spec.proofs.Near.{ends_front}
use Rattle.bib_steps.specs.Amending.{next_end, CanMove}
use Rattle.bib_steps.proofs.Positions.{in_two, take-ends, end_at_take, end_at_new, later_ends_short, same_front_ends}

-- ---- ends of a part

-- where the pieces of a list from one position up to another end
abbrev pub ends_between : ℕ → ℕ → List Piece → List ℕ
ends_between from count ps = ends_from (old_end 0 (take from ps)) (new_end 0 0 (take from ps)) (take count (drop from ps))

pub ends_further : (ps : List Piece) (from to : ℕ) → from ≤ to → to ≤ length ps → take from (ends_of ps) ++ ends_between from (to - from) ps ≡ take to (ends_of ps)
ends_further ps from to h k =
    let front : List Piece = take from ps in
    let part : List Piece = take (to - from) (drop from ps) in
    ap (λ es. es ++ ends_between from (to - from) ps) (take-ends ps from (omega arith))
    ∙ sym (map-append end_of (reversed front) (reversed_from (old_end 0 front) (new_end 0 0 front) part))
    ∙ ap (map end_of) (sym (reversed_append 0 0 front part))
    ∙ ap ends_of (in_two ps from to h)
    ∙ sym (take-ends ps to k)

pub ends_there : (ps : List Piece) (from to : ℕ) → from ≤ to → to ≤ length ps → take (to - from) (drop from (ends_of ps)) ≡ ends_between from (to - from) ps
ends_there ps from to h k =
    let whole : from + (to - from) ≡ to = omega arith in
    let long : length (take from (ends_of ps)) ≡ from = length-take-le from (ends_of ps) (omega (arith, length-ends 0 0 ps)) in
    sym (drop-take from (to - from) (ends_of ps))
    ∙ ap (drop from) (ap (λ n. take n (ends_of ps)) whole ∙ sym (ends_further ps from to h k))
    ∙ drop_at (take from (ends_of ps)) (ends_between from (to - from) ps) from long

-- ---- ends that move

pub ends_move : (at mid more_mid old new : ℕ) (ps : List Piece) → old ≤ mid → more_mid ≡ moved old new mid → map (moved old new) (ends_from at mid ps) ≡ ends_from at more_mid ps
ends_move at mid more old new [] h e = refl
ends_move at mid more old new (p ∷ ps) h e =
    let here : moved old new (next_end at mid p) ≡ next_end at more p = omega (arith, h, e) in
    ap₂ (λ (n : ℕ) (ns : List ℕ). n ∷ ns) here (ends_move (end_of p) (next_end at mid p) (next_end at more p) old new ps (omega (arith, h)) (sym here))

can_move : (at mid more_mid old new : ℕ) (ps : List Piece) → old ≤ mid → more_mid ≡ moved old new mid → EndBy file_limit (reversed_from at more_mid ps) → CanMove old new (ends_from at mid ps)
can_move at mid more old new [] h e s = tt
can_move at mid more old new (p ∷ ps) h e s =
    let here : moved old new (next_end at mid p) ≡ next_end at more p = omega (arith, h, e) in
    ((omega (arith, h), omega (arith, here, s.0)), can_move (end_of p) (next_end at mid p) (next_end at more p) old new ps (omega (arith, h)) (sym here) s.1)

-- they move as the first of them does
pub first_leads : (at mid more_at more_mid : ℕ) (p : Piece) (ps : List Piece)
    → map (moved (next_end at mid p) (next_end more_at more_mid p)) (ends_from at mid (p ∷ ps)) ≡ ends_from more_at more_mid (p ∷ ps)
first_leads at mid more_at more_mid p ps =
    let old : ℕ = next_end at mid p in
    let new : ℕ = next_end more_at more_mid p in
    let here : moved old new old ≡ new = omega arith in
    ap₂ (λ (n : ℕ) (ns : List ℕ). n ∷ ns) here (ends_move (end_of p) old new old new ps (omega arith) (sym here))

pub first_can_lead : (at mid more_at more_mid : ℕ) (p : Piece) (ps : List Piece) → EndBy file_limit (reversed_from more_at more_mid (p ∷ ps))
    → CanMove (next_end at mid p) (next_end more_at more_mid p) (ends_from at mid (p ∷ ps))
first_can_lead at mid more_at more_mid p ps s =
    let old : ℕ = next_end at mid p in
    let new : ℕ = next_end more_at more_mid p in
    let here : moved old new old ≡ new = omega arith in
    ((omega arith, omega (arith, here, s.0)), can_move (end_of p) old new old new ps (omega arith) (sym here) s.1)

-- ---- as the code has them

pub mid_is : (ps : List Piece) (ends : List ℕ) (n mid : ℕ) → n ≤ length ps → take n ends ≡ take n (ends_of ps) → mid ≡ end_at ends n → mid ≡ new_end 0 0 (take n ps)
mid_is ps ends n mid h e is =
    is ∙ sym (end_at_take ends n) ∙ ap (λ es. end_at es n) e ∙ end_at_take (ends_of ps) n ∙ end_at_new ps (ends_of ps) n refl h

pub between_is : (ps part : List Piece) (n count at mid : ℕ) → at ≡ old_end 0 (take n ps) → mid ≡ new_end 0 0 (take n ps) → part ≡ take count (drop n ps) → ends_from at mid part ≡ ends_between n count ps
between_is ps part n count at mid a m p = ap₂ (λ k j. ends_from k j part) a m ∙ ap (ends_from (old_end 0 (take n ps)) (new_end 0 0 (take n ps))) p

pub short_between : (ps part : List Piece) (n count at mid : ℕ) → at ≡ old_end 0 (take n ps) → mid ≡ new_end 0 0 (take n ps) → part ≡ take count (drop n ps) → EndBy file_limit (reversed ps)
    → EndBy file_limit (reversed_from at mid part)
short_between ps part n count at mid a m p s =
    let first : ℕ = old_end 0 (take n ps) in
    let second : ℕ = new_end 0 0 (take n ps) in
    let rest : List Piece = drop n ps in
    let whole : EndBy file_limit (reversed_from first second (take count rest ++ drop count rest))
    = subst (λ (qs : List Piece). EndBy file_limit (reversed_from first second qs)) (sym (take-append-drop count rest)) (later_ends_short ps n s) in
    let all : EndBy file_limit (reversed_from first second (take count rest))
    = ends_front file_limit (reversed_from first second (take count rest)) (reversed_from (old_end first (take count rest)) (new_end first second (take count rest)) (drop count rest))
    (subst (EndBy file_limit) (reversed_append first second (take count rest) (drop count rest)) whole) in
    subst (λ (k : ℕ). EndBy file_limit (reversed_from k mid part)) (sym a)
    (subst (λ (k : ℕ). EndBy file_limit (reversed_from first k part)) (sym m)
    (subst (λ (qs : List Piece). EndBy file_limit (reversed_from first second qs)) (sym p) all))

-- the ends of the pieces from one position up to another can be moved as the first of them moves, and are right then
pub record MoveThere (ps : List Piece) (ends : List ℕ) (from until old new : ℕ) : Type 0 where
  pub moves : CanMove old new (take (until - from) (drop from ends))
  pub there : map (moved old new) (take (until - from) (drop from ends)) ≡ ends_between from (until - from) ps

-- a list that is not empty, by its first item
first_is : {X : Type 0} (xs : List X) (from k : ℕ) (x : X) → 0 < k → from < length xs → x ≡ get_or xs from x → take k (drop from xs) ≡ x ∷ take (k - 1) (drop (from + 1) xs)
first_is xs from zero x h l e = absurd (none h) where
  none : 0 < 0 → ⊥
  none h = omega (arith, h)
first_is xs from (suc k) x h l e =
    let same : k ≡ suc k - 1 = omega arith in
    ap (take (suc k)) (drop_more xs from x l ∙ ap (λ y. y ∷ drop (from + 1) xs) (sym e)) ∙ ap (λ n. x ∷ take n (drop (from + 1) xs)) same

pub next_short : (ps : List Piece) (from at mid : ℕ) (p : Piece) → from < length ps → p ≡ get_or ps from p → at ≡ old_end 0 (take from ps) → mid ≡ new_end 0 0 (take from ps)
    → EndBy file_limit (reversed ps) → next_end at mid p ≤ file_limit
next_short ps from at mid p h e a m s =
    (short_between ps (p ∷ []) from 1 at mid a m (sym (first_is ps from 1 p (omega arith) h e)) s).0

pub move_there : (ps : List Piece) (ends : List ℕ) (from until at mid old new : ℕ) (p : Piece) → from < until → until ≤ length ps → until ≤ length ends
    → p ≡ get_or ps from p → old ≡ get_or ends from 0 → new ≡ next_end at mid p → at ≡ old_end 0 (take from ps) → mid ≡ new_end 0 0 (take from ps)
    → AreSomeEnds (take (until - from) (drop from ps)) (take (until - from) (drop from ends)) → EndBy file_limit (reversed ps) → MoveThere ps ends from until old new
move_there ps ends from until at mid old new p h k l e o n a m some s =
    let count : ℕ = until - from in
    let rest : List Piece = take (count - 1) (drop (from + 1) ps) in
    let pieces : take count (drop from ps) ≡ p ∷ rest = first_is ps from count p (omega (arith, h)) (omega (arith, h, k)) e in
    let is : take count (drop from ends) ≡ ends_from some.0 some.1 (p ∷ rest) = some.2 ∙ ap (ends_from some.0 some.1) pieces in
    let first : old ≡ next_end some.0 some.1 p
    = o ∙ sym (ap (λ (ns : List ℕ). get_or ns 0 0) (first_is ends from count (get_or ends from 0) (omega (arith, h)) (omega (arith, h, l)) (sym (get_or_default_zero ends from (get_or ends from 0) (omega (arith, h, l))))))
    ∙ ap (λ (ns : List ℕ). get_or ns 0 0) is in
    let short : EndBy file_limit (reversed_from at mid (p ∷ rest)) = short_between ps (p ∷ rest) from count at mid a m (sym pieces) s in
    record {
      moves = subst (CanMove old new) (sym is)
          (subst (λ (k : ℕ). CanMove k new (ends_from some.0 some.1 (p ∷ rest))) (sym first)
          (subst (λ (k : ℕ). CanMove (next_end some.0 some.1 p) k (ends_from some.0 some.1 (p ∷ rest))) (sym n) (first_can_lead some.0 some.1 at mid p rest short)));
      there = ap₂ (λ k j. map (moved k j) (take count (drop from ends))) first n
          ∙ ap (map (moved (next_end some.0 some.1 p) (next_end at mid p))) is
          ∙ first_leads some.0 some.1 at mid p rest
          ∙ between_is ps (p ∷ rest) from count at mid a m (sym pieces);
    }

pub moved_so : (ps : List Piece) (ends more : List ℕ) (from until : ℕ) → from ≤ until → until ≤ length ps → take from ends ≡ take from (ends_of ps)
    → more ≡ take from ends ++ (ends_between from (until - from) ps ++ drop until ends) → more ≡ take until (ends_of ps) ++ drop until ends
moved_so ps ends more from until h k f is =
    is ∙ sym (append_assoc (take from ends) (ends_between from (until - from) ps) (drop until ends))
    ∙ ap (λ es. (es ++ ends_between from (until - from) ps) ++ drop until ends) f
    ∙ ap (λ es. es ++ drop until ends) (ends_further ps from until h k)

-- ends in place of others
pub record ArePut (ps : List Piece) (ends more : List ℕ) (from to count : ℕ) : Type 0 where
  pub front : take (from + count) more ≡ take (from + count) (ends_of ps)
  pub rest : drop (from + count) more ≡ drop to ends

pub are_put : (ps : List Piece) (ends more new : List ℕ) (from to count : ℕ) → from + count ≤ length ps → take from ends ≡ take from (ends_of ps) → new ≡ ends_between from count ps
    → more ≡ take from ends ++ (new ++ drop to ends) → ArePut ps ends more from to count
are_put ps ends more new from to count h f n is =
    let at : ℕ = from + count in
    let same : at - from ≡ count = omega arith in
    let so : more ≡ take at (ends_of ps) ++ drop to ends
    = is ∙ sym (append_assoc (take from ends) new (drop to ends))
    ∙ ap (λ es. es ++ drop to ends) (ap₂ (λ (es fs : List ℕ). es ++ fs) f (n ∙ ap (λ k. ends_between from k ps) (sym same)) ∙ ends_further ps from at (omega arith) h) in
    let long : length (take at (ends_of ps)) ≡ at = length-take-le at (ends_of ps) (omega (arith, h, length-ends 0 0 ps)) in
    record {
      front = ap (take at) so ∙ take_at (take at (ends_of ps)) (drop to ends) at long;
      rest = ap (drop at) so ∙ drop_at (take at (ends_of ps)) (drop to ends) at long;
    }

-- the end of one piece, in place of another, is right
pub end_put : (ps : List Piece) (ends : List ℕ) (n at mid end : ℕ) (p : Piece) → n < length ps → n < length ends → p ≡ get_or ps n p → at ≡ old_end 0 (take n ps) → mid ≡ new_end 0 0 (take n ps)
    → take n ends ≡ take n (ends_of ps) → end ≡ next_end at mid p → take (n + 1) (set ends n end) ≡ take (n + 1) (ends_of ps)
end_put ps ends n at mid end p h l e a m f is =
    let after : suc n ≡ n + 1 = omega arith in
    (are_put ps ends (set ends n end) (end ∷ []) n (n + 1) 1 (omega (arith, h)) f
    (ap (λ k. k ∷ []) is ∙ between_is ps (p ∷ []) n 1 at mid a m (sym (first_is ps n 1 p (omega arith) h e)))
    (set_split ends n end l ∙ ap (λ k. take n ends ++ end ∷ drop k ends) after)).front

pub put_further : {X : Type 0} (xs ys : List X) (at to until : ℕ) → at ≤ until → drop at ys ≡ drop to xs → drop until ys ≡ drop (to + (until - at)) xs
put_further xs ys at to until h e =
    let whole : at + (until - at) ≡ until = omega arith in
    ap (λ n. drop n ys) (sym whole) ∙ sym (drop-drop (until - at) at ys) ∙ ap (drop (until - at)) e ∙ drop-drop (until - at) to xs

-- ---- lists whose pieces are replaced

-- pieces before a position are replaced: up to there, their ends have to move
pub record ReplacedBefore (ps more : List Piece) (ends : List ℕ) (from to count position now : ℕ) : Type 0 where
  pub front : take from ends ≡ take from (ends_of more)
  pub moves : AreSomeEnds (take (now - (from + count)) (drop (from + count) more)) (take (now - (from + count)) (drop to ends))
  pub others : drop now more ≡ drop position ps

replaced_rest : {X : Type 0} (xs new more : List X) (from to count : ℕ) → from ≤ length xs → length new ≡ count → more ≡ take from xs ++ (new ++ drop to xs) → drop (from + count) more ≡ drop to xs
replaced_rest xs new more from to count h n is =
    ap (drop (from + count)) (is ∙ sym (append_assoc (take from xs) new (drop to xs)))
    ∙ drop_at (take from xs ++ new) (drop to xs) (from + count) (omega (arith, length-append (take from xs) new, length-take-le from xs h, n))

-- the items from one position up to another, if the list is cut off there first
cut_first : (es fs : List ℕ) (from to : ℕ) → from ≤ to → take to es ≡ take to fs → take (to - from) (drop from es) ≡ take (to - from) (drop from fs)
cut_first es fs from to h e =
    let whole : from + (to - from) ≡ to = omega (arith, h) in
    sym (drop-take from (to - from) es) ∙ ap (λ n. drop from (take n es)) whole ∙ ap (drop from) e
    ∙ ap (λ n. drop from (take n fs)) (sym whole) ∙ drop-take from (to - from) fs

pub replaced_before : (ps more new : List Piece) (ends : List ℕ) (from to count position now : ℕ) → from ≤ to → to ≤ position → position ≤ length ps
    → take position ends ≡ take position (ends_of ps) → length new ≡ count → more ≡ take from ps ++ (new ++ drop to ps) → now ≡ from + count + (position - to)
    → ReplacedBefore ps more ends from to count position now
replaced_before ps more new ends from to count position now h k l e n is now_is =
    let rest : drop (from + count) more ≡ drop to ps = replaced_rest ps new more from to count (omega (arith, h, k, l)) n is in
    let moved : now - (from + count) ≡ position - to = omega (arith, now_is) in
    let there : to + (now - (from + count)) ≡ position = omega (arith, now_is, k) in
    let long : from ≤ length more = omega (arith, ap length is, length-append (take from ps) (new ++ drop to ps), length-take-le from ps (omega (arith, h, k, l))) in
    let kept : take from more ≡ take from ps = ap (take from) is ∙ take_at (take from ps) (new ++ drop to ps) from (length-take-le from ps (omega (arith, h, k, l))) in
    record {
      front = sym (take-take from position ends (omega (arith, h, k))) ∙ ap (take from) e ∙ take-take from position (ends_of ps) (omega (arith, h, k))
          ∙ same_front_ends ps more from (omega (arith, h, k, l)) long (sym kept);
      moves = (
        old_end 0 (take to ps),
        new_end 0 0 (take to ps),
        ap (λ j. take j (drop to ends)) moved
            ∙ cut_first ends (ends_of ps) to position k e
            ∙ ends_there ps to position k l
            ∙ ap₂ (λ j qs. ends_from (old_end 0 (take to ps)) (new_end 0 0 (take to ps)) (take j qs)) (sym moved) (sym rest),
      );
      others = put_further ps more (from + count) to now (omega (arith, now_is)) rest ∙ ap (λ j. drop j ps) there;
    }

-- From a position on, the pieces are the new ones and then those of a list from `to` on. The ends are right up to the
-- position. Then they are those of the list from another position on.
pub record ReplacedLast (ps more : List Piece) (ends : List ℕ) (from cut count len : ℕ) : Type 0 where
  pub inside : from + cut + (len - (from + count)) ≡ length ends
  pub counted : from + count ≤ len
  pub front : take from ends ≡ take from (ends_of more)
  pub moves : AreSomeEnds (take (len - (from + count)) (drop (from + count) more)) (take (len - (from + count)) (drop (from + cut) ends))

pub replaced_last : (ps more new : List Piece) (ends : List ℕ) (from position to cut count len : ℕ) → position ≤ to → to ≤ length ps → cut ≡ to - position → length new ≡ count → len ≡ length more
    → from ≤ length more → drop from more ≡ new ++ drop to ps → ends ≡ take from (ends_of more) ++ drop position (ends_of ps) → ReplacedLast ps more ends from cut count len
replaced_last ps more new ends from position to cut count len h k cut_is n l f is e =
    let rest : drop (from + count) more ≡ drop to ps = sym (drop-drop count from more) ∙ ap (drop count) is ∙ drop_at new (drop to ps) count n in
    let long : len ≡ from + count + (length ps - to)
    = omega (arith, l, f, ap length is, length-drop from more, length-append new (drop to ps), length-drop to ps, n, k) in
    let left : len - (from + count) ≡ length ps - to = omega (arith, long) in
    let whole : position + cut ≡ to = omega (arith, cut_is, h) in
    let front_long : length (take from (ends_of more)) ≡ from = length-take-le from (ends_of more) (omega (arith, f, length-ends 0 0 more)) in
    let others : drop (from + cut) ends ≡ drop to (ends_of ps)
    = sym (drop-drop cut from ends) ∙ ap (drop cut) (ap (drop from) e ∙ drop_at (take from (ends_of more)) (drop position (ends_of ps)) from front_long)
    ∙ drop-drop cut position (ends_of ps) ∙ ap (λ j. drop j (ends_of ps)) whole in
    record {
      inside = omega (arith, left, ap length e, length-append (take from (ends_of more)) (drop position (ends_of ps)), front_long, length-drop position (ends_of ps), length-ends 0 0 ps, cut_is, h, k);
      counted = omega (arith, long);
      front = ap (take from) e ∙ take_at (take from (ends_of more)) (drop position (ends_of ps)) from front_long;
      moves = (
        old_end 0 (take to ps),
        new_end 0 0 (take to ps),
        ap₂ (λ (j : ℕ) (es : List ℕ). take j es) left others
            ∙ ends_there ps to (length ps) k (omega arith)
            ∙ ap₂ (λ j qs. ends_from (old_end 0 (take to ps)) (new_end 0 0 (take to ps)) (take j qs)) (sym left) (sym rest),
      );
    }

pub all_ends : (ps : List Piece) (ends more : List ℕ) (len past : ℕ) → len ≡ length ps → past ≡ length ends → more ≡ take len (ends_of ps) ++ drop past ends → more ≡ ends_of ps
all_ends ps ends more len past l p is =
    is ∙ ap₂ (λ (es fs : List ℕ). es ++ fs) (take_all len (ends_of ps) (omega (arith, l, length-ends 0 0 ps))) (drop_all past ends (omega (arith, p))) ∙ append-nil (ends_of ps)
