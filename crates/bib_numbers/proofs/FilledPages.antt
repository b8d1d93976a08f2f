-- Pages that have a member each, and how many members stand before each.
use Rattle.bib_numbers.proofs.Words.{◌≡◌, ℕ, zero, suc, ◌+◌, ◌-◌, ◌≤◌, ◌<◌, List, [], ◌∷◌, ◌++◌, length, map, take, drop, get_or, set, insert, remove, sym, subst, ap, ap₂, ◌∙◌, refl, arith, length-append, zero-add, length-map, joined, page_at, IsOnWay, IsPlace, IsGap, all_append, all_back}
use Rattle.bib_numbers.proofs.Words.{joined-past, moved_from, shifted, starts, AreFilled}
use Rattle.std.proofs.Common.{length-drop}
use Rattle.std.specs.Prelude.{Result, Ok, Err, OnOk, OnErr, slice_get}
use Rattle.std.proofs.lemmas.List.{length-take-le, set_split}
use Rattle.std.proofs.lemmas.List.Edits.{length-insert}
use Rattle.bib_pages.specs.Pages.{parted_at}
use Rattle.bib_pages.proofs.Paging.{all_front, split_pages, length-joined-more, length-joined-take}
use Rattle.bib_numbers.proofs.Moves.{length-moved_from}

module _ {X : Type 0} where
  -- ---- a member each

  pub record IsAround (pages : List (List X)) (p : ℕ) : Type 0 where
    pub before : AreFilled (take p pages)
    pub page : 1 ≤ length (page_at pages p)
    pub after : AreFilled (drop (suc p) pages)

  pub around : (pages : List (List X)) (p : ℕ) → AreFilled pages → p < length pages → IsAround pages p
  around pages p all h =
      let whole = subst AreFilled (split_pages pages p h) all in
      let after = all_back (λ (page : List X). 1 ≤ length page) (take p pages) (page_at pages p ∷ drop (suc p) pages) whole in
      record { before = all_front (λ (page : List X). 1 ≤ length page) (take p pages) (page_at pages p ∷ drop (suc p) pages) whole; page = after.0; after = after.1 }

  pub filled_set : (pages : List (List X)) (p : ℕ) (q : List X) → AreFilled pages → p < length pages → 1 ≤ length q → AreFilled (set pages p q)
  filled_set pages p q all h is =
      let r = around pages p all h in
      subst AreFilled (sym (set_split pages p q h)) (all_append (λ (page : List X). 1 ≤ length page) (take p pages) (q ∷ drop (suc p) pages) r.before (is, r.after))

  pub filled_put : (pages : List (List X)) (p k : ℕ) (x : X) → AreFilled pages → p < length pages → k ≤ length (page_at pages p) → AreFilled (set pages p (insert (page_at pages p) k x))
  filled_put pages p k x all h le = filled_set pages p (insert (page_at pages p) k x) all h (let e = length-insert (page_at pages p) k x le in omega arith)

  pub filled_remove : (pages : List (List X)) (p : ℕ) → AreFilled pages → p < length pages → AreFilled (remove pages p)
  filled_remove pages p all h =
      let r = around pages p all h in
      all_append (λ (page : List X). 1 ≤ length page) (take p pages) (drop (suc p) pages) r.before r.after

  pub filled_parted : (pages : List (List X)) (p half : ℕ) → AreFilled pages → p < length pages → 1 ≤ half → half < length (page_at pages p) → AreFilled (parted_at half p pages)
  filled_parted pages p half all h some long =
      let r = around pages p all h in
      let page = page_at pages p in
      let front : length (take half page) ≡ half = length-take-le half page (omega (arith, long)) in
      let back = length-drop half page in
      let first : 1 ≤ length (take half page) = omega (arith, some) in
      let second : 1 ≤ length (drop half page) = omega (arith, long) in
      all_append (λ (page : List X). 1 ≤ length page) (take p pages) (take half page ∷ (drop half page ∷ drop (suc p) pages)) r.before (first, (second, r.after))

  pub length-parted : (pages : List (List X)) (p half : ℕ) → p < length pages → length (parted_at half p pages) ≡ length pages + 1
  length-parted pages p half h =
      let front : length (take p pages) ≡ p = length-take-le p pages (omega (arith, h)) in
      omega (arith, h, length-append (take p pages) (take half (page_at pages p) ∷ (drop half (page_at pages p) ∷ drop (suc p) pages)), length-drop (suc p) pages)

  pub filled_shifted : (move : X → X) (pages : List (List X)) (p k : ℕ) → AreFilled pages → AreFilled (shifted move p k pages)
  filled_shifted move [] p k all = tt
  filled_shifted move (page ∷ pages) zero k all = (let some = all.0 in omega (arith, some, length-moved_from move k page), each pages all.1)
    where
      each : (pages : List (List X)) → AreFilled pages → AreFilled (map (map move) pages)
      each [] all = tt
      each (page ∷ pages) all = (let some = all.0 in omega (arith, some, length-map page move), each pages all.1)
  filled_shifted move (page ∷ pages) (suc p) k all = (all.0, filled_shifted move pages p k all.1)

  -- ---- how many before each

  pub length-starts : (k : ℕ) (pages : List (List X)) → length (starts k pages) ≡ length pages
  length-starts k [] = refl
  length-starts k (page ∷ pages) = ap suc (length-starts (k + length page) pages)

  pub start_at : (k : ℕ) (pages : List (List X)) (p : ℕ) → p < length pages → get_or (starts k pages) p 0 ≡ k + length (joined (take p pages))
  start_at k [] p h = absurd (omega (arith, h))
  start_at k (page ∷ pages) zero h = omega arith
  start_at k (page ∷ pages) (suc p) h =
      let e : k + length page + length (joined (take p pages)) ≡ k + length (page ++ joined (take p pages)) = omega (arith, length-append page (joined (take p pages))) in
      start_at (k + length page) pages p (omega (arith, h)) ∙ e

  pub start_read : (pages : List (List X)) (firsts : List ℕ) (p : ℕ) → firsts ≡ starts 0 pages → p < length pages → get_or firsts p 0 ≡ length (joined (take p pages))
  start_read pages firsts p are h = ap (λ (l : List ℕ). get_or l p 0) are ∙ start_at 0 pages p h ∙ zero-add (length (joined (take p pages)))

  pub starts-shifted : (move : X → X) (j : ℕ) (pages : List (List X)) (p k : ℕ) → starts j (shifted move p k pages) ≡ starts j pages
  starts-shifted move j [] p k = refl
  starts-shifted move j (page ∷ pages) zero k =
      ap (λ (l : List ℕ). j ∷ l) (each (j + length (moved_from move k page)) pages ∙ ap (λ (n : ℕ). starts (j + n) pages) (length-moved_from move k page))
    where
      each : (j : ℕ) (pages : List (List X)) → starts j (map (map move) pages) ≡ starts j pages
      each j [] = refl
      each j (page ∷ pages) = ap (λ (l : List ℕ). j ∷ l) (each (j + length (map move page)) pages ∙ ap (λ (n : ℕ). starts (j + n) pages) (length-map page move))
  starts-shifted move j (page ∷ pages) (suc p) k = ap (λ (l : List ℕ). j ∷ l) (starts-shifted move (j + length page) pages p k)

  -- the last page is another, or one comes after it
  pub starts-last : (j : ℕ) (pages : List (List X)) (p : ℕ) (q : List X) → p + 1 ≡ length pages → starts j (set pages p q) ≡ starts j pages
  starts-last j [] p q h = absurd (omega (arith, h))
  starts-last j (page ∷ []) zero q h = refl
  starts-last j (page ∷ next ∷ pages) zero q h = absurd (omega (arith, h))
  starts-last j (page ∷ pages) (suc p) q h = ap (λ (l : List ℕ). j ∷ l) (starts-last (j + length page) pages p q (omega (arith, h)))

  pub starts-added : (j : ℕ) (pages : List (List X)) (q : List X) → starts j (pages ++ q ∷ []) ≡ starts j pages ++ (j + length (joined pages)) ∷ []
  starts-added j [] q = let e : j ≡ j + 0 = omega arith in ap (λ (n : ℕ). n ∷ []) e
  starts-added j (page ∷ pages) q =
      let e : j + length page + length (joined pages) ≡ j + length (page ++ joined pages) = omega (arith, length-append page (joined pages)) in
      ap (λ (l : List ℕ). j ∷ l) (starts-added (j + length page) pages q ∙ ap (λ (n : ℕ). starts (j + length page) pages ++ n ∷ []) e)

  -- from a page whose start is known
  pub way_start : (pages : List (List X)) (k : ℕ) → IsOnWay pages 0 k k
  way_start [] k = record { at = omega arith }
  way_start (page ∷ pages) k = record { at = omega arith }

  pub way_near : (pages : List (List X)) (firsts : List ℕ) (p k first : ℕ) → firsts ≡ starts 0 pages → p < length firsts → first ≡ get_or firsts p 0 → first ≤ k → IsOnWay pages p k (k - first)
  way_near pages firsts p k first are h is low =
      let within : p < length pages = omega (arith, h, ap (length {A = ℕ}) are, length-starts 0 pages) in
      let number : first ≡ length (joined (take p pages)) = is ∙ start_read pages firsts p are within in
      record { at = omega (arith, number, low) }

-- ---- counted one after another

-- the members before each of the first p pages are counted, and `first` members come before page p
pub record AreCounted {X : Type 0} (pages : List (List X)) (old firsts : List ℕ) (p first : ℕ) : Type 0 where
  pub are : firsts ≡ take p (starts 0 pages) ++ drop p old
  pub number : first ≡ length (joined (take p pages))

put_more : (all old : List ℕ) (p : ℕ) → length old ≡ length all → p < length all → set (take p all ++ drop p old) p (get_or all p 0) ≡ take (p + 1) all ++ drop (p + 1) old
put_more [] old p same h = absurd (omega (arith, h))
put_more (n ∷ all) [] p same h = absurd (omega (arith, same))
put_more (n ∷ all) (m ∷ old) zero same h = refl
put_more (n ∷ all) (m ∷ old) (suc p) same h =
    let e : suc (p + 1) ≡ suc p + 1 = omega arith in
    ap (λ (l : List ℕ). n ∷ l) (put_more all old p (omega (arith, same)) (omega (arith, h))) ∙ ap (λ (j : ℕ). take j (n ∷ all) ++ drop j (m ∷ old)) e

put_all : (all old : List ℕ) (p : ℕ) → length old ≡ length all → length all ≤ p → take p all ++ drop p old ≡ all
put_all [] [] zero same h = refl
put_all [] [] (suc p) same h = refl
put_all [] (m ∷ old) p same h = absurd (omega (arith, same))
put_all (n ∷ all) [] p same h = absurd (omega (arith, same))
put_all (n ∷ all) (m ∷ old) zero same h = absurd (omega (arith, h))
put_all (n ∷ all) (m ∷ old) (suc p) same h = ap (λ (l : List ℕ). n ∷ l) (put_all all old p (omega (arith, same)) (omega (arith, h)))

length-put : (all old : List ℕ) (p : ℕ) → length old ≡ length all → length (take p all ++ drop p old) ≡ length all
length-put [] [] zero same = refl
length-put [] [] (suc p) same = refl
length-put [] (m ∷ old) p same = absurd (omega (arith, same))
length-put (n ∷ all) [] p same = absurd (omega (arith, same))
length-put (n ∷ all) (m ∷ old) zero same = same
length-put (n ∷ all) (m ∷ old) (suc p) same = ap suc (length-put all old p (omega (arith, same)))

module _ {X : Type 0} (pages : List (List X)) (old : List ℕ) (same : length old ≡ length pages) where
  as_long : length old ≡ length (starts 0 pages)
  as_long = same ∙ sym (length-starts 0 pages)

  pub counted_start : AreCounted pages old old 0 0
  counted_start = record { are = refl; number = none pages }
    where
      none : (pages : List (List X)) → 0 ≡ length (joined (take 0 pages))
      none [] = refl
      none (page ∷ pages) = refl

  pub counted_long : (firsts : List ℕ) (p first : ℕ) → AreCounted pages old firsts p first → length firsts ≡ length pages
  counted_long firsts p first w = ap (length {A = ℕ}) w.are ∙ length-put (starts 0 pages) old p as_long ∙ length-starts 0 pages

  pub counted_more : (firsts : List ℕ) (p first len : ℕ) → p < length pages → len ≡ length (page_at pages p) → AreCounted pages old firsts p first → AreCounted pages old (set firsts p first) (p + 1) (first + len)
  counted_more firsts p first len h e w = record {
    are =
        let is : first ≡ get_or (starts 0 pages) p 0 = w.number ∙ sym (start_at 0 pages p h ∙ zero-add (length (joined (take p pages)))) in
        ap₂ (λ (l : List ℕ) (n : ℕ). set l p n) w.are is ∙ put_more (starts 0 pages) old p as_long (omega (arith, h, length-starts 0 pages));
    number = let f : first ≡ length (joined (take p pages)) = w.number in omega (arith, f, e, length-joined-more pages p h);
  }

  pub counted_all : (firsts : List ℕ) (p first : ℕ) → length pages ≤ p → AreCounted pages old firsts p first → firsts ≡ starts 0 pages
  counted_all firsts p first h w = w.are ∙ put_all (starts 0 pages) old p as_long (omega (arith, h, length-starts 0 pages))

  -- no count is larger than that of all
  pub count_fits : (firsts : List ℕ) (p first len : ℕ) → p < length pages → len ≡ length (page_at pages p) → AreCounted pages old firsts p first → first + len ≤ length (joined pages)
  count_fits firsts p first len h e w =
      let f : first ≡ length (joined (take p pages)) = w.number in
      omega (arith, f, e, length-joined-more pages p h, length-joined-take pages (p + 1))

-- ---- the last page

pub last_gap : {X : Type 0} (pages : List (List X)) (p : ℕ) → p + 1 ≡ length pages → IsGap pages (length (joined pages)) p (length (page_at pages p))
last_gap {X} pages p h =
    let all : length (joined (take (p + 1) pages)) ≡ length (joined pages) = ap (length {A = X}) (joined-past pages (p + 1) (omega (arith, h))) in
    record { page = omega (arith, h); within = omega arith; at = omega (arith, all, length-joined-more pages p (omega (arith, h))) }

pub insert-last : {X : Type 0} (l : List X) (x : X) → insert l (length l) x ≡ l ++ x ∷ []
insert-last [] x = refl
insert-last {X} (y ∷ l) x = ap (λ (rest : List X). y ∷ rest) (insert-last l x)

-- what follows from two clauses
pub both_ok : {T E P Q R : Type 0} (r : Result T E) → (P → Q → R) → OnOk r P → OnOk r Q → OnOk r R
both_ok (Ok x) f p q = f p q
both_ok (Err e) f p q = p

pub both_err : {T E P Q R : Type 0} (r : Result T E) → (P → Q → R) → OnErr r P → OnErr r Q → OnErr r R
both_err (Ok x) f p q = p
both_err (Err e) f p q = f p q

-- member n of the list, in its page
pub get_at : {X : Type 0} (pages : List (List X)) (n p k : ℕ) → IsPlace pages n p k → slice_get (joined pages) n ≡ slice_get (page_at pages p) k
get_at {X} pages n p k place = along pages p n place.page place.within place.at
  where
    inside : (page rest : List X) (k : ℕ) → k < length page → slice_get (page ++ rest) k ≡ slice_get page k
    inside [] rest k h = absurd (omega (arith, h))
    inside (x ∷ page) rest zero h = refl
    inside (x ∷ page) rest (suc k) h = inside page rest k (omega (arith, h))

    past : (page rest : List X) (n j : ℕ) → n ≡ length page + j → slice_get (page ++ rest) n ≡ slice_get rest j
    past [] rest n j e = ap (λ (m : ℕ). slice_get rest m) (e ∙ zero-add j)
    past (x ∷ page) rest zero j e = absurd (omega (arith, e))
    past (x ∷ page) rest (suc n) j e = past page rest n j (omega (arith, e))

    along : (pages : List (List X)) (p n : ℕ) → p < length pages → k < length (page_at pages p) → n ≡ length (joined (take p pages)) + k → slice_get (joined pages) n ≡ slice_get (page_at pages p) k
    along [] p n h lt e = absurd (omega (arith, h))
    along (page ∷ pages) zero n h lt e = past [] (page ++ joined pages) n k e ∙ inside page (joined pages) k lt
    along (page ∷ pages) (suc p) n h lt e =
        past page (joined pages) n (length (joined (take p pages)) + k) (omega (arith, e, length-append page (joined (take p pages))))
        ∙ along pages p (length (joined (take p pages)) + k) (omega (arith, h)) lt refl
