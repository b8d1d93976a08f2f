-- What the loops over pieces keep, and how each continues.
use Rattle.std.proofs.Common.{◌≡◌, ℕ, ◌+◌, ◌-◌, ◌^◌, ◌≤◌, ◌<◌, min, List, [], ◌∷◌, ◌++◌, length, take, drop, get_or, sym, ◌∙◌, ap, subst, arith, refl, append_assoc, sum_by}
use Rattle.std.proofs.lemmas.List.{drop_more, drop_all, append-nil}
use Rattle.std.proofs.lemmas.List.Sums.{sum_by-cons}
use Rattle.std.specs.List.{AllByRecursion}
use Rattle.bib_spec.specs.Bytes.{file_limit}
use Rattle.bib_spec.specs.Text.{Text}
use Rattle.bib_spec.specs.Pieces.{Piece, end_of, Stands, AscendFrom, BeginFrom, applied_from, applied, reversed_from}
use Rattle.bib_pieces.specs.Reversing.{new_bytes_limit}
use Rattle.history_spec.specs.Shifting.{moved_back, all_moved_back, FitAfter}

-- what is left begins with the piece at i
pub drop-next : (ps : List Piece) (i : ℕ) (p : Piece) → i < length ps → p ≡ get_or ps i p → drop i ps ≡ p ∷ drop (i + 1) ps
drop-next ps i p h e = drop_more ps i p h ∙ ap (λ q. q ∷ drop (i + 1) ps) (sym e)

-- the pieces fit the bytes, which begin at `at`, from this place of them on
pub record FitFrom (at end : ℕ) (ps : List Piece) (bytes : Text) : Type 0 where
  pub begin : BeginFrom at ps
  pub ascending : AscendFrom end (all_moved_back at ps)
  pub standing : AllByRecursion (Stands bytes) (all_moved_back at ps)

-- what a fitting piece and those after it say
pub record NextFits (at end : ℕ) (p : Piece) (ps : List Piece) (bytes : Text) : Type 0 where
  pub begins : at ≤ p.place
  pub below : end ≤ p.place - at
  pub stands : Stands bytes (moved_back at p)
  pub others : FitFrom at (end_of (moved_back at p)) ps bytes

pub next_fits : (at end : ℕ) (p : Piece) (ps : List Piece) (bytes : Text) → FitFrom at end (p ∷ ps) bytes → NextFits at end p ps bytes
next_fits at end p ps bytes f = record {
  begins = f.begin.0;
  below = f.ascending.0;
  stands = f.standing.0;
  others = record { begin = f.begin.1; ascending = f.ascending.1; standing = f.standing.1 };
}

pub fits_next : (at end : ℕ) (p : Piece) (ps : List Piece) (bytes : Text) → NextFits at end p ps bytes → FitFrom at end (p ∷ ps) bytes
fits_next at end p ps bytes n = record { begin = (n.begins, n.others.begin); ascending = (n.below, n.others.ascending); standing = (n.stands, n.others.standing) }

pub next_at : (at end : ℕ) (ps : List Piece) (bytes : Text) (i : ℕ) (p : Piece) → FitFrom at end (drop i ps) bytes → i < length ps → p ≡ get_or ps i p
    → NextFits at end p (drop (i + 1) ps) bytes
next_at at end ps bytes i p f h e = next_fits at end p (drop (i + 1) ps) bytes (subst (λ (qs : List Piece). FitFrom at end qs bytes) (drop-next ps i p h e) f)

pub fit_from_start : (at : ℕ) (ps : List Piece) (bytes : Text) → FitAfter at ps bytes → FitFrom at 0 ps bytes
fit_from_start at ps bytes f = record { begin = f.begin; ascending = f.fit.ascending; standing = f.fit.standing }

pub fit_after : (at : ℕ) (ps : List Piece) (bytes : Text) → FitFrom at 0 ps bytes → FitAfter at ps bytes
fit_after at ps bytes f = record { begin = f.begin; fit = record { ascending = f.ascending; standing = f.standing } }

-- what is written, and what the pieces from i on make of the rest, is the new text
pub record IsApplied (at : ℕ) (ps : List Piece) (bytes out : Text) (end i : ℕ) : Type 0 where
  pub fit : FitFrom at end (drop i ps) bytes
  pub inside : end ≤ length bytes
  pub so_far : out ++ applied_from end (all_moved_back at (drop i ps)) bytes ≡ applied (all_moved_back at ps) bytes

pub applied_start : (at : ℕ) (ps : List Piece) (bytes : Text) → FitAfter at ps bytes → IsApplied at ps bytes [] 0 0
applied_start at ps bytes f = record { fit = fit_from_start at ps bytes f; inside = omega arith; so_far = refl }

pub applied_more : (at : ℕ) (ps : List Piece) (bytes out : Text) (end i : ℕ) (p : Piece) → IsApplied at ps bytes out end i → i < length ps → p ≡ get_or ps i p
    → IsApplied at ps bytes (out ++ take (p.place - at - end) (drop end bytes) ++ p.new) (p.place - at + length p.old) (i + 1)
applied_more at ps bytes out end i p w h e =
    let n : NextFits at end p (drop (i + 1) ps) bytes = next_at at end ps bytes i p w.fit h e in
    let g : Text = take (p.place - at - end) (drop end bytes) in
    let rest : Text = applied_from (end_of (moved_back at p)) (all_moved_back at (drop (i + 1) ps)) bytes in
    let regrouped : out ++ g ++ p.new ++ rest ≡ out ++ (g ++ p.new ++ rest) = simp append_assoc in
    record {
      fit = n.others;
      inside = n.stands.inside;
      so_far = regrouped ∙ sym (ap (λ qs. out ++ applied_from end (all_moved_back at qs) bytes) (drop-next ps i p h e)) ∙ w.so_far;
    }

pub applied_all : (at : ℕ) (ps : List Piece) (bytes out : Text) (end i : ℕ) → IsApplied at ps bytes out end i → length ps ≤ i → out ++ drop end bytes ≡ applied (all_moved_back at ps) bytes
applied_all at ps bytes out end i w h = sym (ap (λ qs. out ++ applied_from end (all_moved_back at qs) bytes) (drop_all i ps h)) ∙ w.so_far

-- all fit exactly if those from i on fit after this place
pub record IsFitting (at : ℕ) (ps : List Piece) (bytes : Text) (end i : ℕ) : Type 0 where
  pub whole : FitFrom at end (drop i ps) bytes → FitAfter at ps bytes
  pub rest : FitAfter at ps bytes → FitFrom at end (drop i ps) bytes
  pub inside : end ≤ length bytes

pub fitting_start : (at : ℕ) (ps : List Piece) (bytes : Text) → IsFitting at ps bytes 0 0
fitting_start at ps bytes = record { whole = fit_after at ps bytes; rest = fit_from_start at ps bytes; inside = omega arith }

pub fitting_more : (at : ℕ) (ps : List Piece) (bytes : Text) (end i : ℕ) (p : Piece) → IsFitting at ps bytes end i → i < length ps → p ≡ get_or ps i p
    → at ≤ p.place → end ≤ p.place - at → Stands bytes (moved_back at p) → IsFitting at ps bytes (p.place - at + length p.old) (i + 1)
fitting_more at ps bytes end i p w h e begins below s = record {
  whole = λ f. w.whole (subst (λ (qs : List Piece). FitFrom at end qs bytes) (sym (drop-next ps i p h e)) (fits_next at end p (drop (i + 1) ps) bytes (record { begins = begins; below = below; stands = s; others = f })));
  rest = λ f. (next_at at end ps bytes i p (w.rest f) h e).others;
  inside = s.inside;
}

pub fitting_all : (at : ℕ) (ps : List Piece) (bytes : Text) (end i : ℕ) → IsFitting at ps bytes end i → length ps ≤ i → FitAfter at ps bytes
fitting_all at ps bytes end i w h = w.whole (subst (λ (qs : List Piece). FitFrom at end qs bytes) (sym (drop_all i ps h)) (record { begin = tt; ascending = tt; standing = tt }))

-- the largest u64
abbrev cap : ℕ
cap = 2 ^ 64 - 1

-- what is turned round, and the pieces from i on, are the way back
pub record IsReversed (from new_from : ℕ) (ps back : List Piece) (end new_end i : ℕ) : Type 0 where
  pub exact_end : ℕ
  pub capped : end ≡ min exact_end cap
  pub ascending : AscendFrom exact_end (drop i ps)
  pub small : new_end + sum_by (λ p. length p.new) (drop i ps) < exact_end + new_bytes_limit
  pub so_far : back ++ reversed_from exact_end new_end (drop i ps) ≡ reversed_from from new_from ps

pub reversed_start : (from new_from : ℕ) (ps : List Piece) → AscendFrom from ps → from ≤ file_limit → new_from + sum_by (λ p. length p.new) ps < new_bytes_limit
    → IsReversed from new_from ps [] from new_from 0
reversed_start from new_from ps a h s = record { exact_end = from; capped = omega arith; ascending = a; small = omega (arith, s); so_far = refl }

-- what the next piece's place needs
pub record NextTurns (end new_end : ℕ) (p : Piece) : Type 0 where
  pub below : end ≤ p.place
  pub small : new_end + (p.place - end) + length p.new < p.place + new_bytes_limit

pub next_turns : (from new_from : ℕ) (ps back : List Piece) (end new_end i : ℕ) (p : Piece) → IsReversed from new_from ps back end new_end i → i < length ps → p ≡ get_or ps i p → p.place ≤ file_limit
    → NextTurns end new_end p
next_turns from new_from ps back end new_end i p w h e bound =
    let next : drop i ps ≡ p ∷ drop (i + 1) ps = drop-next ps i p h e in
    let a : AscendFrom w.exact_end (p ∷ drop (i + 1) ps) = subst (λ (qs : List Piece). AscendFrom w.exact_end qs) next w.ascending in
    let s : new_end + sum_by (λ p. length p.new) (p ∷ drop (i + 1) ps) < w.exact_end + new_bytes_limit
    = subst (λ (qs : List Piece). new_end + sum_by (λ p. length p.new) qs < w.exact_end + new_bytes_limit) next w.small in
    let below : w.exact_end ≤ p.place = a.0 in
    let capped : end ≡ min w.exact_end cap = w.capped in
    let total : sum_by (λ p. length p.new) (p ∷ drop (i + 1) ps) ≡ length p.new + sum_by (λ p. length p.new) (drop (i + 1) ps) = sum_by-cons (λ p. length p.new) p (drop (i + 1) ps) in
    record { below = omega arith; small = omega arith }

pub reversed_more : (from new_from : ℕ) (ps back : List Piece) (end new_end i : ℕ) (p : Piece) → IsReversed from new_from ps back end new_end i → i < length ps → p ≡ get_or ps i p → p.place ≤ file_limit
    → IsReversed from new_from ps (back ++ record { place = new_end + (p.place - end); old = p.new; new = p.old } ∷ []) (min (p.place + length p.old) cap) (new_end + (p.place - end) + length p.new) (i + 1)
reversed_more from new_from ps back end new_end i p w h e bound =
    let next : drop i ps ≡ p ∷ drop (i + 1) ps = drop-next ps i p h e in
    let a : AscendFrom w.exact_end (p ∷ drop (i + 1) ps) = subst (λ (qs : List Piece). AscendFrom w.exact_end qs) next w.ascending in
    let s : new_end + sum_by (λ p. length p.new) (p ∷ drop (i + 1) ps) < w.exact_end + new_bytes_limit
    = subst (λ (qs : List Piece). new_end + sum_by (λ p. length p.new) qs < w.exact_end + new_bytes_limit) next w.small in
    let below : w.exact_end ≤ p.place = a.0 in
    let capped : end ≡ min w.exact_end cap = w.capped in
    let total : sum_by (λ p. length p.new) (p ∷ drop (i + 1) ps) ≡ length p.new + sum_by (λ p. length p.new) (drop (i + 1) ps) = sum_by-cons (λ p. length p.new) p (drop (i + 1) ps) in
    let same : end ≡ w.exact_end = omega arith in
    let after : List Piece = reversed_from (end_of p) (new_end + (p.place - w.exact_end) + length p.new) (drop (i + 1) ps) in
    let turned : Piece = record { place = new_end + (p.place - w.exact_end); old = p.new; new = p.old } in
    record {
      exact_end = end_of p;
      capped = refl;
      ascending = a.1;
      small = omega arith;
      so_far =
          ap (λ n. (back ++ record { place = new_end + (p.place - n); old = p.new; new = p.old } ∷ []) ++ reversed_from (end_of p) (new_end + (p.place - n) + length p.new) (drop (i + 1) ps)) same
          ∙ append_assoc back (turned ∷ []) after
          ∙ sym (ap (λ qs. back ++ reversed_from w.exact_end new_end qs) next)
          ∙ w.so_far;
    }

pub reversed_all : (from new_from : ℕ) (ps back : List Piece) (end new_end i : ℕ) → IsReversed from new_from ps back end new_end i → length ps ≤ i → back ≡ reversed_from from new_from ps
reversed_all from new_from ps back end new_end i w h =
    sym (append-nil back) ∙ sym (ap (λ qs. back ++ reversed_from w.exact_end new_end qs) (drop_all i ps h)) ∙ w.so_far
