-- What a group covers of the text in the middle, and its pieces there.
use Rattle.history_spec.proofs.Words.{⊎_elim, ◌≡◌, ℕ, ◌+◌, ◌-◌, ◌<◌, ◌≤◌, nat_le, List, [], ◌∷◌, ◌++◌, length, take, drop, sym, subst, ◌∙◌, ap, ap₂, arith, append_assoc, append-nil, length-append, length-drop, cases_Bool, leb-true, leb-false, drop_all, drop-drop, AllByRecursion, between, Text}
use Rattle.history_spec.proofs.Words.{Piece, end_of, Stands, AscendFrom, BeginFrom, EndBy, length-between, moved_back, all_moved_back, FitAfter}
use Rattle.std.proofs.lemmas.List.{drop-take, take-take}
use Rattle.bib_spec.proofs.PieceLemmas.{between-split}
use Rattle.history_spec.proofs.Ordered.{ascend_earlier}

-- ---- the bytes

-- the text has these bytes from this place on
pub record Covers (text : Text) (place : ℕ) (covered : Text) : Type 0 where
  pub inside : place + length covered ≤ length text
  pub there : between place (place + length covered) text ≡ covered

-- the text has the rest of a piece's old bytes from a place within the piece on
piece_from : (text : Text) (p : Piece) (at : ℕ) → Stands text p → p.place ≤ at → at ≤ end_of p → drop (at - p.place) p.old ≡ between at (end_of p) text
piece_from text p at s h k =
    let n : ℕ = at - p.place in
    let m : ℕ = end_of p - at in
    let long : length p.old ≡ n + m = omega arith in
    let here : p.place + n ≡ at = omega arith in
    ap (drop n) (sym s.there)
    ∙ ap (λ l. drop n (take l (drop p.place text))) long
    ∙ drop-take n m (drop p.place text)
    ∙ ap (take m) (drop-drop n p.place text ∙ ap (λ a. drop a text) here)

-- the bytes of a group and of a piece that joins it are bytes of the text
pub record CoversMore (text : Text) (place : ℕ) (covered more : Text) (p : Piece) : Type 0 where
  pub covers : Covers text place more
  pub ends : end_of p ≤ place + length more
  pub longer : length covered ≤ length more

pub covers_more : (text : Text) (place : ℕ) (covered : Text) (p : Piece) → Covers text place covered → Stands text p → place ≤ p.place → p.place ≤ place + length covered
    → CoversMore text place covered (covered ++ drop (place + length covered - p.place) p.old) p
covers_more text place covered p c s h k =
    let end : ℕ = place + length covered in
    let inside : end_of p ≤ length text = s.inside in
    let long : length (covered ++ drop (end - p.place) p.old) ≡ length covered + (length p.old - (end - p.place))
    = length-append covered (drop (end - p.place) p.old) ∙ ap (λ n. length covered + n) (length-drop (end - p.place) p.old) in
    ⊎_elim (λ t. let below : end ≤ end_of p = leb-true end (end_of p) t in
    let stop : place + length (covered ++ drop (end - p.place) p.old) ≡ end_of p = omega (arith, long) in
    record {
      covers = record {
        inside = omega (arith, stop);
        there = ap (λ n. between place n text) stop
            ∙ sym (between-split place end (end_of p) text (omega arith) below)
            ∙ ap₂ (λ x y. x ++ y) c.there (sym (piece_from text p end s k below));
      };
      ends = omega (arith, stop);
      longer = omega (arith, long);
    })
    (λ f. let above : end_of p < end = leb-false end (end_of p) f in
    let same : covered ++ drop (end - p.place) p.old ≡ covered = ap (λ l. covered ++ l) (drop_all (end - p.place) p.old (omega arith)) ∙ append-nil covered in
    subst (λ (more : Text). CoversMore text place covered more p) (sym same)
    (record { covers = c; ends = omega arith; longer = omega arith }))
    (cases_Bool (nat_le end (end_of p)))

-- ---- the pieces

-- the pieces of one side in a group, which covers from `lo` to `hi`
pub record SideFits (lo hi : ℕ) (ps : List Piece) (covered : Text) : Type 0 where
  pub ascending : AscendFrom lo ps
  pub ended : EndBy hi ps
  pub fit : FitAfter lo ps covered

front_alone : (at : ℕ) (ps rest : List Piece) → AscendFrom at (ps ++ rest) → AscendFrom at ps
front_alone at [] rest a = tt
front_alone at (p ∷ ps) rest a = (a.0, front_alone (end_of p) ps rest a.1)

ascend_front : (at n : ℕ) (ps rest : List Piece) → AscendFrom at (ps ++ rest) → BeginFrom n ps → AscendFrom n ps
ascend_front at n [] rest a b = tt
ascend_front at n (p ∷ ps) rest a b = (b.0, front_alone (end_of p) ps rest a.1)

-- the later pieces are in order from the place where they begin
pub ascend_rest : (at n : ℕ) (ps rest : List Piece) → AscendFrom at (ps ++ rest) → BeginFrom n rest → AscendFrom n rest
ascend_rest at n [] [] a b = tt
ascend_rest at n [] (q ∷ rest) a b = (b.0, a.1)
ascend_rest at n (p ∷ ps) rest a b = ascend_rest (end_of p) n ps rest a.1 b

pub standing_rest : (text : Text) (ps rest : List Piece) → AllByRecursion (Stands text) (ps ++ rest) → AllByRecursion (Stands text) rest
standing_rest text [] rest s = s
standing_rest text (p ∷ ps) rest s = standing_rest text ps rest s.1

ascend_moved : (lo at e : ℕ) (ps rest : List Piece) → e ≤ at - lo → AscendFrom at (ps ++ rest) → BeginFrom lo ps → AscendFrom e (all_moved_back lo ps)
ascend_moved lo at e [] rest h a b = tt
ascend_moved lo at e (p ∷ ps) rest h a b =
    let begins : lo ≤ p.place = b.0 in
    let below : at ≤ p.place = a.0 in
    (omega arith, ascend_moved lo (end_of p) (end_of (moved_back lo p)) ps rest (omega arith) a.1 b.1)

stands_moved : (text : Text) (lo hi : ℕ) (p : Piece) → hi ≤ length text → lo ≤ p.place → end_of p ≤ hi → Stands text p → Stands (between lo hi text) (moved_back lo p)
stands_moved text lo hi p h b e s =
    let n : ℕ = p.place - lo in
    let r : ℕ = hi - p.place in
    let room : hi - lo ≡ n + r = omega arith in
    let here : lo + n ≡ p.place = omega arith in
    record {
      inside = omega (arith, length-between lo hi text (omega arith) h);
      there = ap (λ k. take (length p.old) (drop n (take k (drop lo text)))) room
          ∙ ap (take (length p.old)) (drop-take n r (drop lo text) ∙ ap (take r) (drop-drop n lo text ∙ ap (λ a. drop a text) here))
          ∙ take-take (length p.old) r (drop p.place text) (omega arith)
          ∙ s.there;
    }

standing_moved : (text : Text) (lo hi : ℕ) (ps rest : List Piece) → hi ≤ length text → BeginFrom lo ps → EndBy hi ps → AllByRecursion (Stands text) (ps ++ rest)
    → AllByRecursion (Stands (between lo hi text)) (all_moved_back lo ps)
standing_moved text lo hi [] rest h b e s = tt
standing_moved text lo hi (p ∷ ps) rest h b e s = (stands_moved text lo hi p h b.0 e.0 s.0, standing_moved text lo hi ps rest h b.1 e.1 s.1)

-- the pieces of one side: the pieces of the group, and the pieces after them
pub record SideGrows (text : Text) (at lo hi : ℕ) (ps rest : List Piece) : Type 0 where
  pub ascending : AscendFrom at (ps ++ rest)
  pub standing : AllByRecursion (Stands text) (ps ++ rest)
  pub begin : BeginFrom lo ps
  pub ended : EndBy hi ps

pub side_fits : (text : Text) (at lo : ℕ) (covered : Text) (ps rest : List Piece) → Covers text lo covered → SideGrows text at lo (lo + length covered) ps rest
    → SideFits lo (lo + length covered) ps covered
side_fits text at lo covered ps rest c g = record {
  ascending = ascend_front at lo ps rest g.ascending g.begin;
  ended = g.ended;
  fit = record {
    begin = g.begin;
    fit = record {
      ascending = ascend_moved lo at 0 ps rest (omega arith) g.ascending g.begin;
      standing = subst (λ (t : Text). AllByRecursion (Stands t) (all_moved_back lo ps)) c.there
          (standing_moved text lo (lo + length covered) ps rest c.inside g.begin g.ended g.standing);
    };
  };
}

begin_one : (n : ℕ) (ps : List Piece) (p : Piece) → BeginFrom n ps → n ≤ p.place → BeginFrom n (ps ++ p ∷ [])
begin_one n [] p b h = (h, tt)
begin_one n (q ∷ ps) p b h = (b.0, begin_one n ps p b.1 h)

end_one : (n k : ℕ) (ps : List Piece) (p : Piece) → n ≤ k → EndBy n ps → end_of p ≤ k → EndBy k (ps ++ p ∷ [])
end_one n k [] p h e g = (g, tt)
end_one n k (q ∷ ps) p h e g = (omega (arith, h, e.0), end_one n k ps p h e.1 g)

pub end_later : (n k : ℕ) (ps : List Piece) → n ≤ k → EndBy n ps → EndBy k ps
end_later n k [] h e = tt
end_later n k (q ∷ ps) h e = (omega (arith, h, e.0), end_later n k ps h e.1)

-- a piece joins the group
pub side_takes : (text : Text) (at lo hi more : ℕ) (ps rest : List Piece) (p : Piece) → SideGrows text at lo hi ps (p ∷ rest) → lo ≤ p.place → hi ≤ more → end_of p ≤ more
    → SideGrows text at lo more (ps ++ p ∷ []) rest
side_takes text at lo hi more ps rest p g h k e =
    let moved : ps ++ (p ∷ rest) ≡ (ps ++ p ∷ []) ++ rest = sym (append_assoc ps (p ∷ []) rest) in
    record {
      ascending = subst (λ (qs : List Piece). AscendFrom at qs) moved g.ascending;
      standing = subst (λ (qs : List Piece). AllByRecursion (Stands text) qs) moved g.standing;
      begin = begin_one lo ps p g.begin h;
      ended = end_one hi more ps p k g.ended e;
    }

-- a piece of the other side joins it
pub side_waits : (text : Text) (at lo hi more : ℕ) (ps rest : List Piece) → SideGrows text at lo hi ps rest → hi ≤ more → SideGrows text at lo more ps rest
side_waits text at lo hi more ps rest g k = record { ascending = g.ascending; standing = g.standing; begin = g.begin; ended = end_later hi more ps k g.ended }

-- the next group begins
pub side_begins : (text : Text) (at lo hi next : ℕ) (ps rest : List Piece) → SideGrows text at lo hi ps rest → BeginFrom next rest → SideGrows text next next next [] rest
side_begins text at lo hi next ps rest g b = record {
  ascending = ascend_rest at next ps rest g.ascending b;
  standing = standing_rest text ps rest g.standing;
  begin = tt;
  ended = tt;
}

-- the group before it ends earlier
pub side_earlier : (text : Text) (less at lo hi : ℕ) (ps rest : List Piece) → less ≤ at → SideGrows text at lo hi ps rest → SideGrows text less lo hi ps rest
side_earlier text less at lo hi ps rest h g =
    record { ascending = ascend_earlier less at (ps ++ rest) h g.ascending; standing = g.standing; begin = g.begin; ended = g.ended }
