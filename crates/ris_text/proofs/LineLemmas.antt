-- The first line of a text, and the lines after it.
use Rattle.ris_text.proofs.Words.{◌≡◌, ℕ, suc, ◌+◌, ◌≤◌, ◌<◌, true, false, [], ◌∷◌, length, take, drop, min, refl, sym, ap, ◌∙◌, arith, inl, inr, prefix_len, cases_Bool, cases_lt, take_all, length-take, line_feed, Text, onto_first, Line, line_at, line_texts, lines_from, lines_of, mark_len}
use Rattle.std.proofs.Common.{List}
use Rattle.std.specs.Prelude.{not, ◌==◌}
use Rattle.std.proofs.lemmas.List.{drop_all, drop-drop, length-drop}

-- how many bytes are before the first line feed
abbrev pub line_len : Text → ℕ
line_len t = prefix_len (λ b. not (b == line_feed)) t

-- the line feed is the first byte, or comes after the first
pub ends_here : (b : ℕ) (t : Text) → (b == line_feed) ≡ true → (line_len (b ∷ t) ≡ 0) × (line_texts (b ∷ t) ≡ [] ∷ line_texts t)
ends_here b t is = (rw is refl, rw is refl)

pub ends_later : (b : ℕ) (t : Text) → (b == line_feed) ≡ false → (line_len (b ∷ t) ≡ suc (line_len t)) × (line_texts (b ∷ t) ≡ onto_first b (line_texts t))
ends_later b t is = (rw is (omega arith), rw is refl)

-- a line that ends in a line feed
pub line_more : (t : Text) → line_len t < length t → line_texts t ≡ take (line_len t) t ∷ line_texts (drop (line_len t + 1) t)
line_more [] some = absurd (omega (arith, some))
line_more (b ∷ t) some =
    elim (cases_Bool (b == line_feed)) [
      | inl is ↦
          let here = ends_here b t is in
          here.1 ∙ ap (λ n. take n (b ∷ t) ∷ line_texts (drop (n + 1) (b ∷ t))) (sym here.0)
      | inr is ↦
          let there = ends_later b t is in
          let rest : line_texts t ≡ take (line_len t) t ∷ line_texts (drop (line_len t + 1) t) = line_more t (omega (arith, some, there.0)) in
          let len : suc (line_len t) + 1 ≡ suc (line_len t + 1) = omega arith in
          there.1 ∙ ap (onto_first b) rest ∙ ap (λ n. (b ∷ take (line_len t) t) ∷ line_texts (drop n (b ∷ t))) (sym len)
          ∙ ap (λ n. take n (b ∷ t) ∷ line_texts (drop (n + 1) (b ∷ t))) (sym there.0)
    ]

-- a line that does not
pub line_last : (t : Text) → 0 < length t → length t ≤ line_len t → line_texts t ≡ t ∷ []
line_last [] some all = absurd (omega (arith, some))
line_last (b ∷ []) some all =
    elim (cases_Bool (b == line_feed)) [
      | inl is ↦ absurd (omega (arith, all, (ends_here b [] is).0))
      | inr is ↦ (ends_later b [] is).1
    ]
line_last (b ∷ c ∷ t) some all =
    elim (cases_Bool (b == line_feed)) [
      | inl is ↦ absurd (omega (arith, all, (ends_here b (c ∷ t) is).0))
      | inr is ↦ (ends_later b (c ∷ t) is).1 ∙ ap (onto_first b) (line_last (c ∷ t) (omega arith) (omega (arith, all, (ends_later b (c ∷ t) is).0)))
    ]

-- the first line, of `len` bytes, and the lines after its line feed, which begin `after` bytes later
pub first_line : (place : ℕ) (t : Text) (len after : ℕ) → 0 < length t → len ≡ line_len t → after ≡ min (length t) (len + 1)
    → lines_from place (line_texts t) ≡ line_at place (take len t) ∷ lines_from (place + after) (line_texts (drop after t))
first_line place t len after some is next =
    elim (cases_lt (line_len t) (length t)) [
      | inl ends ↦
          let step : after ≡ line_len t + 1 = omega arith in
          let at : place + length (take (line_len t) t) + 1 ≡ place + after = omega (arith, length-take (line_len t) t) in
          ap (lines_from place) (line_more t ends)
          ∙ ap (λ n. line_at place (take (line_len t) t) ∷ lines_from n (line_texts (drop (line_len t + 1) t))) at
          ∙ ap (λ n. line_at place (take (line_len t) t) ∷ lines_from (place + after) (line_texts (drop n t))) (sym step)
          ∙ ap (λ n. line_at place (take n t) ∷ lines_from (place + after) (line_texts (drop after t))) (sym is)
      | inr lasts ↦
          ap (lines_from place) (line_last t some lasts)
          ∙ ap (λ (u : Text). line_at place u ∷ []) (sym (take_all len t (omega arith)))
          ∙ ap (λ (u : Text). line_at place (take len t) ∷ lines_from (place + after) (line_texts u)) (sym (drop_all after t (omega arith)))
    ]

-- the same of the bytes of a file from a place on
pub first_seen : (file rest front : Text) (place len after : ℕ) (line : Line) → 0 < length rest → rest ≡ drop place file → len ≡ line_len rest → front ≡ take len rest
    → after ≡ min (length rest) (len + 1) → line ≡ line_at place front
    → lines_from place (line_texts (drop place file)) ≡ line ∷ lines_from (place + after) (line_texts (drop (place + after) file))
first_seen file rest front place len after line some here is first next seen =
    ap (λ (u : Text). lines_from place (line_texts u)) (sym here) ∙ first_line place rest len after some is next
    ∙ ap (λ (l : Line). l ∷ lines_from (place + after) (line_texts (drop after rest))) (ap (line_at place) (sym first) ∙ sym seen)
    ∙ ap (λ (u : Text). line ∷ lines_from (place + after) (line_texts u)) (ap (drop after) here ∙ drop-drop after place file)

-- ---- how many lines there are

length-onto_first : (b : ℕ) (ts : List Text) → length (onto_first b ts) ≤ suc (length ts)
length-onto_first b [] = omega arith
length-onto_first b (t ∷ ts) = omega arith

length-line_texts : (t : Text) → length (line_texts t) ≤ length t
length-line_texts [] = omega arith
length-line_texts (b ∷ t) =
    elim (cases_Bool (b == line_feed)) [
      | inl is ↦ omega (arith, ap length (ends_here b t is).1, length-line_texts t)
      | inr is ↦ omega (arith, ap length (ends_later b t is).1, length-onto_first b (line_texts t), length-line_texts t)
    ]

length-lines_from : (place : ℕ) (ts : List Text) → length (lines_from place ts) ≡ length ts
length-lines_from place [] = refl
length-lines_from place (t ∷ ts) = ap suc (length-lines_from (place + length t + 1) ts)

-- no more than bytes
pub length-lines_of : (file : Text) → length (lines_of file) ≤ length file
length-lines_of file =
    omega (arith, length-lines_from (mark_len file) (line_texts (drop (mark_len file) file)), length-line_texts (drop (mark_len file) file), length-drop (mark_len file) file)
