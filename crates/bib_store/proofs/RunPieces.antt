-- Pieces in two parts: the later ones lie after the text that the earlier ones fit.
use Rattle.bib_store.proofs.Words.{◌≡◌, ℕ, ◌+◌, ◌≤◌, List, [], ◌∷◌, ◌++◌, length, drop, refl, sym, ◌∙◌, ap, ap₂, arith, append_assoc, length-append, take_at, drop-append-le, AllByRecursion, Text, Piece, Fit, applied, all_moved_back, FitAfter, fit-after}
use Rattle.bib_spec.specs.Pieces.{end_of, Stands, AscendFrom, EndBy, BeginFrom, applied_from}
use Rattle.bib_spec.proofs.PieceLemmas.{drop-place, stands_before, applied_from-append}
use Rattle.history_spec.proofs.Shifts.{applied-from_after}

-- a piece that fits a text fits a longer one
stands_longer : (text more : Text) (p : Piece) → Stands text p → Stands (text ++ more) p
stands_longer text more p s =
    let inside = s.inside in
    stands_before (text ++ more) (drop (end_of p) text ++ more) p
    (omega (arith, inside, length-append text more))
    (drop-append-le p.place text more (omega (arith, inside)) ∙ ap (λ l. l ++ more) (drop-place text p s) ∙ append_assoc p.old (drop (end_of p) text) more)

all_stand : (text more : Text) (ps qs : List Piece) → AllByRecursion (Stands text) ps → AllByRecursion (Stands (text ++ more)) qs → AllByRecursion (Stands (text ++ more)) (ps ++ qs)
all_stand text more [] qs a b = b
all_stand text more (p ∷ ps) qs a b = (stands_longer text more p a.0, all_stand text more ps qs a.1 b)

end_within : (text : Text) (ps : List Piece) → AllByRecursion (Stands text) ps → EndBy (length text) ps
end_within text [] a = tt
end_within text (p ∷ ps) a = (a.0.inside, end_within text ps a.1)

ascend_both : (at mid : ℕ) (ps qs : List Piece) → at ≤ mid → AscendFrom at ps → EndBy mid ps → BeginFrom mid qs → AscendFrom 0 qs → AscendFrom at (ps ++ qs)
ascend_both at mid [] [] h a e b c = tt
ascend_both at mid [] (q ∷ qs) h a e b c = (omega (arith, h, b.0), c.1)
ascend_both at mid (p ∷ ps) qs h a e b c = (a.0, ascend_both (end_of p) mid ps qs e.0 a.1 e.1 b c)

-- what fits the text before, and what lies in the bytes after it, fit both
pub both_fit : (before bytes after : Text) (ps qs : List Piece) → Fit ps before → FitAfter (length before) qs bytes → Fit (ps ++ qs) (before ++ (bytes ++ after))
both_fit before bytes after ps qs f g =
    let later = fit-after before bytes after (length before) qs refl g in
    record {
      ascending = ascend_both 0 (length before) ps qs (omega arith) f.ascending (end_within before ps f.standing) g.begin later.ascending;
      standing = all_stand before (bytes ++ after) ps qs f.standing later.standing;
    }

-- each makes of its part what it makes of it alone
pub both_applied : (before bytes after : Text) (ps qs : List Piece) → Fit ps before → FitAfter (length before) qs bytes
    → applied (ps ++ qs) (before ++ (bytes ++ after)) ≡ applied ps before ++ (applied (all_moved_back (length before) qs) bytes ++ after)
both_applied before bytes after ps qs f g =
    let same : length before + 0 ≡ length before = omega arith in
    applied_from-append 0 (length before) ps qs (before ++ (bytes ++ after)) (omega arith) f.ascending (end_within before ps f.standing) g.begin
    ∙ ap₂ (λ (x y : Text). applied ps x ++ y)
    (take_at before (bytes ++ after) (length before) refl)
    (ap (λ n. applied_from n qs (before ++ (bytes ++ after))) (sym same)
    ∙ applied-from_after before bytes after (length before) 0 qs refl (omega arith) g.begin g.fit.ascending g.fit.standing)
