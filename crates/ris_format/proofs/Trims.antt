-- Texts without some bytes at their ends, as parts of the whole.
use Rattle.ris_format.proofs.Words.{◌≡◌, ℕ, suc, ◌+◌, Bool, true, false, cond, ◌||◌, [], ◌∷◌, ◌++◌, take, drop, refl, sym, ap, ◌∙◌, arith, ⊎_elim, cases_Bool, both_ways, not-true, or_right, take-append-drop, prefix_len, list_any, Text, is_space, after_run, up_to_last, before_run, trimmed, neat}
use Rattle.ris_format.proofs.Words.{has_bytes}
use Rattle.std.proofs.Common.{not, append_assoc}
use Rattle.ris_format.proofs.Neat.{begins_plain, ends_plain, neat-slice, neat-begins, neat-ends}

-- the first byte, if there is one, fails the test
abbrev pub begins_not : (ℕ → Bool) → Text → Bool
begins_not test [] = true
begins_not test (b ∷ t) = not (test b)

abbrev pub ends_not : (ℕ → Bool) → Text → Bool
ends_not test [] = true
ends_not test (b ∷ []) = not (test b)
ends_not test (b ∷ c ∷ t) = ends_not test (c ∷ t)

one_more : (n : ℕ) (b : ℕ) (t : Text) → drop (1 + n) (b ∷ t) ≡ drop n t
one_more n b t = let e : 1 + n ≡ suc n = omega arith in ap (λ k. drop k (b ∷ t)) e

pub after_run-yes : (test : ℕ → Bool) (b : ℕ) (t : Text) → test b ≡ true → after_run test (b ∷ t) ≡ after_run test t
after_run-yes test b t h = ap (λ c. drop (cond c (1 + prefix_len test t) 0) (b ∷ t)) h ∙ one_more (prefix_len test t) b t

pub after_run-no : (test : ℕ → Bool) (b : ℕ) (t : Text) → test b ≡ false → after_run test (b ∷ t) ≡ b ∷ t
after_run-no test b t h = ap (λ c. drop (cond c (1 + prefix_len test t) 0) (b ∷ t)) h

pub after_run-begins : (test : ℕ → Bool) (t : Text) → begins_not test (after_run test t) ≡ true
after_run-begins test [] = refl
after_run-begins test (b ∷ t) =
    ⊎_elim
    (λ h. ap (begins_not test) (after_run-yes test b t h) ∙ after_run-begins test t)
    (λ h. ap (begins_not test) (after_run-no test b t h) ∙ ap not h)
    (cases_Bool (test b))

-- a text whose first byte fails the test is as it was
pub after_run-same : (test : ℕ → Bool) (t : Text) → begins_not test t ≡ true → after_run test t ≡ t
after_run-same test [] h = refl
after_run-same test (b ∷ t) h = after_run-no test b t (not-true (test b) h)

-- ---- the end

abbrev pub fails : (ℕ → Bool) → ℕ → Bool
fails test b = not (test b)

pub before_run-cons : (test : ℕ → Bool) (b : ℕ) (t : Text) → list_any (fails test) (b ∷ t) ≡ true → before_run test (b ∷ t) ≡ b ∷ before_run test t
before_run-cons test b t some = ap (λ c. take (cond c (suc (up_to_last (fails test) t)) 0) (b ∷ t)) some

pub before_run-none : (test : ℕ → Bool) (t : Text) → list_any (fails test) t ≡ false → before_run test t ≡ []
before_run-none test [] none = refl
before_run-none test (b ∷ t) none = ap (λ c. take (cond c (suc (up_to_last (fails test) t)) 0) (b ∷ t)) none

-- where some byte fails, the last that is left is one
pub ends-before : (test : ℕ → Bool) (t : Text) → list_any (fails test) t ≡ true → (ends_not test (before_run test t) ≡ true) × (has_bytes (before_run test t) ≡ true)
ends-before test [] some = absurd (cc)
ends-before test (b ∷ t) some =
    ⊎_elim
    (λ more. let rest = ends-before test t more in
    (ap (ends_not test) (before_run-cons test b t some) ∙ longer b (before_run test t) rest.1 ∙ rest.0, ap has_bytes (before_run-cons test b t some)))
    (λ none.
    (ap (ends_not test) (before_run-cons test b t some ∙ ap (λ (u : Text). b ∷ u) (before_run-none test t none)) ∙ only (fails test b) (list_any (fails test) t) some none, ap has_bytes (before_run-cons test b t some)))
    (cases_Bool (list_any (fails test) t))
  where
    longer : (b : ℕ) (u : Text) → has_bytes u ≡ true → ends_not test (b ∷ u) ≡ ends_not test u
    longer b [] h = absurd (cc)
    longer b (c ∷ u) h = refl

    only : (x y : Bool) → (x || y) ≡ true → y ≡ false → x ≡ true
    only true y h none = refl
    only false y h none = sym none ∙ h ∙ sym h ∙ h

pub before_run-ends : (test : ℕ → Bool) (t : Text) → ends_not test (before_run test t) ≡ true
before_run-ends test t =
    ⊎_elim
    (λ some. (ends-before test t some).0)
    (λ none. ap (ends_not test) (before_run-none test t none))
    (cases_Bool (list_any (fails test) t))

-- the first byte stays
pub before_run-begins : (test : ℕ → Bool) (t : Text) → begins_not test t ≡ true → begins_not test (before_run test t) ≡ true
before_run-begins test [] h = refl
before_run-begins test (b ∷ t) h = ap (begins_not test) (before_run-cons test b t (ap (λ c. c || list_any (fails test) t) h)) ∙ h

-- a text whose last byte fails the test is as it was
pub before_run-same : (test : ℕ → Bool) (t : Text) → ends_not test t ≡ true → before_run test t ≡ t
before_run-same test [] h = refl
before_run-same test (b ∷ []) h = before_run-cons test b [] (ap (λ c. c || false) h)
before_run-same test (b ∷ c ∷ t) h =
    before_run-cons test b (c ∷ t) (or_right (fails test b) (list_any (fails test) (c ∷ t)) (some test c t h))
    ∙ ap (λ (u : Text). b ∷ u) (before_run-same test (c ∷ t) h)
  where
    some : (test : ℕ → Bool) (c : ℕ) (t : Text) → ends_not test (c ∷ t) ≡ true → list_any (fails test) (c ∷ t) ≡ true
    some test c [] h = ap (λ d. d || false) h
    some test c (e ∷ t) h = or_right (fails test c) (list_any (fails test) (e ∷ t)) (some test e t h)

-- ---- both ends

-- a text is what is cut off at its front, what is left and what is cut off at its end
pub record IsCutOut (whole left : Text) : Type 0 where
  pub front : Text
  pub rest : Text
  pub is : whole ≡ front ++ (left ++ rest)

abbrev pub cut_out : (test : ℕ → Bool) (t : Text) → IsCutOut t (before_run test (after_run test t))
cut_out test t = record {
  front = take (prefix_len test t) t;
  rest = drop (up_to_last (fails test) (after_run test t)) (after_run test t);
  is = sym (take-append-drop (prefix_len test t) t) ∙ ap (λ (u : Text). take (prefix_len test t) t ++ u) (sym (take-append-drop (up_to_last (fails test) (after_run test t)) (after_run test t)));
}

-- every white byte passes the test
abbrev pub TakesSpace : (ℕ → Bool) → Type 0
TakesSpace test = (b : ℕ) → is_space b ≡ true → test b ≡ true

plain_from : (test : ℕ → Bool) (b : ℕ) → TakesSpace test → not (test b) ≡ true → not (is_space b) ≡ true
plain_from test b takes h =
    ⊎_elim (λ s. absurd (both_ways (test b) (not-true (test b) h) (takes b s))) (λ s. ap not s) (cases_Bool (is_space b))

begins-plain : (test : ℕ → Bool) (t : Text) → TakesSpace test → begins_not test t ≡ true → has_bytes t ≡ true → begins_plain t ≡ true
begins-plain test [] takes h some = absurd (cc)
begins-plain test (b ∷ t) takes h some = plain_from test b takes h

ends-plain : (test : ℕ → Bool) (t : Text) → TakesSpace test → ends_not test t ≡ true → has_bytes t ≡ true → ends_plain t ≡ true
ends-plain test [] takes h some = absurd (cc)
ends-plain test (b ∷ []) takes h some = plain_from test b takes h
ends-plain test (b ∷ c ∷ t) takes h some = ends-plain test (c ∷ t) takes h refl

-- what is left of a stretch of a neat text, if anything is, is neat
pub neat-cut : (test : ℕ → Bool) (apart : Bool) (x u y : Text) → TakesSpace test → neat apart (x ++ (u ++ y)) ≡ true → has_bytes (before_run test (after_run test u)) ≡ true → neat true (before_run test (after_run test u)) ≡ true
neat-cut test apart x u y takes n some =
    let v = before_run test (after_run test u) in
    let cut = cut_out test u in
    let whole : x ++ (u ++ y) ≡ (x ++ cut.front) ++ (v ++ (cut.rest ++ y)) = ap (λ (w : Text). x ++ (w ++ y)) cut.is ∙ simp append_assoc in
    neat-slice apart (x ++ cut.front) v (cut.rest ++ y) (ap (neat apart) (sym whole) ∙ n)
    (begins-plain test v takes (before_run-begins test (after_run test u) (after_run-begins test u)) some)
    (ends-plain test v takes (before_run-ends test (after_run test u)) some)

-- ---- white space alone

pub trimmed-neat : (t : Text) → neat true t ≡ true → trimmed t ≡ t
trimmed-neat t n =
    ap (before_run is_space) (after_run-same is_space t (begins t (neat-begins t n)))
    ∙ before_run-same is_space t (ends t n)
  where
    begins : (t : Text) → begins_plain t ≡ true → begins_not is_space t ≡ true
    begins [] h = refl
    begins (b ∷ t) h = h

    same : (b : ℕ) (t : Text) → ends_plain (b ∷ t) ≡ ends_not is_space (b ∷ t)
    same b [] = refl
    same b (c ∷ t) = same c t

    ends : (t : Text) → neat true t ≡ true → ends_not is_space t ≡ true
    ends [] n = refl
    ends (b ∷ t) n = sym (same b t) ∙ neat-ends true b t n
