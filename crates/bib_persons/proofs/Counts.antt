-- How many bytes of a class are in the parts of a text.
use Rattle.std.proofs.Common.{◌≡◌, ◌∙◌, ℕ, ◌+◌, ◌-◌, ◌≤◌, Bool, true, false, cond, List, [], ◌∷◌, ◌++◌, take, drop, count_by, filter, sym, ap, arith, not}
use Rattle.std.specs.List.{join_with_byte, prefix_len, slice_range}
use Rattle.std.proofs.lemmas.List.{take-append-drop}
use Rattle.std.proofs.lemmas.List.Sums.{sum_by-cons, sum_by-append}
use Rattle.bib_spec.specs.Bytes.{space}
use Rattle.bib_spec.specs.Text.{Text, is_space, after_run}
use Rattle.bib_spec.specs.Texts.{is_empty, onto_first, words, field_text}
use Rattle.bib_text.specs.Trimming.{trimmed, up_to_last}

module _ (p : ℕ → Bool) where
  pub count-cons : (b : ℕ) (t : Text) → count_by p (b ∷ t) ≡ cond (p b) 1 0 + count_by p t
  count-cons = sum_by-cons (λ b. cond (p b) 1 0)

  pub count-append : (s t : Text) → count_by p (s ++ t) ≡ count_by p s + count_by p t
  count-append = sum_by-append (λ b. cond (p b) 1 0)

  count-parts : (n : ℕ) (t : Text) → count_by p (take n t) + count_by p (drop n t) ≡ count_by p t
  count-parts n t = sym (count-append (take n t) (drop n t)) ∙ ap (count_by p) (take-append-drop n t)

  pub count-take : (n : ℕ) (t : Text) → count_by p (take n t) ≤ count_by p t
  count-take n t = let e = count-parts n t in omega (arith, e)

  pub count-drop : (n : ℕ) (t : Text) → count_by p (drop n t) ≤ count_by p t
  count-drop n t = let e = count-parts n t in omega (arith, e)

  pub count-range : (t : Text) (a b : ℕ) → count_by p (slice_range t a b) ≤ count_by p t
  count-range t a b = let e = count-take (b - a) (drop a t) in let f = count-drop a t in omega (arith, e, f)

  pub count-trimmed : (t : Text) → count_by p (trimmed t) ≤ count_by p t
  count-trimmed t =
      let inner : Text = after_run is_space t in
      let e = count-take (up_to_last (λ byte. not (is_space byte)) inner) inner in
      let f = count-drop (prefix_len is_space t) t in
      let g : count_by p (trimmed t) ≤ count_by p inner = e in
      let h : count_by p inner ≤ count_by p t = f in
      omega (arith, g, h)

  -- ---- field texts

  -- how many there are in all words
  abbrev total : List Text → ℕ
  total [] = 0
  total (w ∷ ws) = count_by p w + total ws

  total-onto : (b : ℕ) (ws : List Text) → total (onto_first b ws) ≡ cond (p b) 1 0 + total ws
  total-onto b [] = let e : count_by p (b ∷ []) + 0 ≡ cond (p b) 1 0 + 0 = omega (arith, count-cons b []) in e
  total-onto b (w ∷ ws) = let e : count_by p (b ∷ w) + total ws ≡ cond (p b) 1 0 + (count_by p w + total ws) = omega (arith, count-cons b w) in e

  total-words : (t : Text) → total (words t) ≤ count_by p t
  total-words [] = let e : 0 ≤ 0 = omega arith in e
  total-words (b ∷ t) = go (is_space b) (total-words t)
    where
      go : (is : Bool) → total (words t) ≤ count_by p t → total (cond is ([] ∷ words t) (onto_first b (words t))) ≤ count_by p (b ∷ t)
      go true later = let e : 0 + total (words t) ≤ count_by p (b ∷ t) = omega (arith, count-cons b t, later) in e
      go false later = let e = count-cons b t in let f = total-onto b (words t) in let g : total (onto_first b (words t)) ≤ count_by p (b ∷ t) = omega (arith, e, f, later) in g

  total-filter : (test : Text → Bool) (ws : List Text) → total (filter test ws) ≤ total ws
  total-filter test [] = let e : 0 ≤ 0 = omega arith in e
  total-filter test (w ∷ ws) = go (test w) (total-filter test ws)
    where
      go : (is : Bool) → total (filter test ws) ≤ total ws → total (cond is (w ∷ filter test ws) (filter test ws)) ≤ count_by p w + total ws
      go true later = let e : count_by p w + total (filter test ws) ≤ count_by p w + total ws = omega (arith, later) in e
      go false later = let e : total (filter test ws) ≤ count_by p w + total ws = omega (arith, later) in e

  count-join : (c : ℕ) (ws : List Text) → p c ≡ false → count_by p (join_with_byte c ws) ≤ total ws
  count-join c [] none = let e : 0 ≤ 0 = omega arith in e
  count-join c (w ∷ []) none = let e : count_by p w ≤ count_by p w + 0 = omega arith in e
  count-join c (w ∷ v ∷ ws) none =
      let rest = count-join c (v ∷ ws) none in
      let e = count-append w (c ∷ join_with_byte c (v ∷ ws)) in
      let f = count-cons c (join_with_byte c (v ∷ ws)) in
      let g : cond {A = ℕ} (p c) 1 0 ≡ 0 = ap (λ (b : Bool). cond {A = ℕ} b 1 0) none in
      let h : count_by p (w ++ (c ∷ join_with_byte c (v ∷ ws))) ≤ count_by p w + total (v ∷ ws) = omega (arith, rest, e, f, g) in
      h

  -- a field text has no more of them than the raw text, if a space is none of them
  pub count-field_text : (t : Text) → p space ≡ false → count_by p (field_text t) ≤ count_by p t
  unfolding field_text
  count-field_text t none =
      let e = count-join space (filter (λ word. not (is_empty word)) (words t)) none in
      let f = total-filter (λ word. not (is_empty word)) (words t) in
      let g = total-words t in
      omega (arith, e, f, g)
