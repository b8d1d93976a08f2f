-- Braced and quoted text: what is read is balanced, and what is balanced is read.
use Rattle.bib_scan.proofs.Words.{◌≡◌, ℕ, zero, suc, ◌+◌, ◌-◌, ◌<◌, ◌≤◌, false, cond, eqb, [], ◌∷◌, ◌++◌, length, take, refl, sym, ap, subst, ◌∙◌, arith, inl, inr, Ok, Err, slice_index, eq-eqb, ne_eqb, or_from, cases_eq, is_byte3, Text, opened_before, closed_before, Read, with_front, read_braced}
use Rattle.bib_scan.proofs.Words.{read_quoted}
use Rattle.std.proofs.lemmas.List.Sums.{sum_by-cons}
use Rattle.bib_spec.specs.Text.{IsBalanced, QuotesAreBraced}
use Rattle.bib_scan.proofs.BraceLemmas.{braced_takes, quoted_takes, braced_opens, braced_closes, braced_ends, braced_nil, quoted_opens, quoted_closes, quoted_ends, quoted_inside, quoted_unbalanced, quoted_nil}
use Rattle.bib_scan.proofs.RunLaws.{ok_same, not_ok}

-- the text closes all braces that it opens and `depth` more, and no prefix closes more than that
pub record Closes (depth : ℕ) (t : Text) : Type 0 where
  pub never_negative : (n : ℕ) → closed_before t n ≤ depth + opened_before t n
  pub all_closed : closed_before t (length t) ≡ depth + opened_before t (length t)

opened-cons : (b : ℕ) (t : Text) (n : ℕ) → opened_before (b ∷ t) (suc n) ≡ cond (eqb b 123) 1 0 + opened_before t n
opened-cons b t n = sum_by-cons (λ x. cond (eqb x 123) 1 0) b (take n t)

closed-cons : (b : ℕ) (t : Text) (n : ℕ) → closed_before (b ∷ t) (suc n) ≡ cond (eqb b 125) 1 0 + closed_before t n
closed-cons b t n = sum_by-cons (λ x. cond (eqb x 125) 1 0) b (take n t)

Closes_nil : Closes 0 []
Closes_nil = record { never_negative = λ n. go n; all_closed = refl }
  where
    go : (n : ℕ) → closed_before [] n ≤ 0 + opened_before [] n
    go zero = omega arith
    go (suc n) = omega arith

-- one more byte in front
Closes_cons : (d e b : ℕ) (t : Text) → cond (eqb b 125) 1 0 + e ≡ d + cond (eqb b 123) 1 0 → Closes e t → Closes d (b ∷ t)
Closes_cons d e b t sum c = record {
  never_negative = λ n. go n;
  all_closed = omega (arith, opened-cons b t (length t), closed-cons b t (length t), c.all_closed);
}
  where
    go : (n : ℕ) → closed_before (b ∷ t) n ≤ d + opened_before (b ∷ t) n
    go zero = omega arith
    go (suc n) = omega (arith, opened-cons b t n, closed-cons b t n, c.never_negative n)

-- the text after the first byte
Closes_tail : (d e b : ℕ) (t : Text) → cond (eqb b 125) 1 0 + e ≡ d + cond (eqb b 123) 1 0 → Closes d (b ∷ t) → Closes e t
Closes_tail d e b t sum c = record {
  never_negative = λ n. omega (arith, opened-cons b t n, closed-cons b t n, c.never_negative (suc n));
  all_closed = omega (arith, opened-cons b t (length t), closed-cons b t (length t), c.all_closed);
}

opens_one : (d b : ℕ) → b ≡ 123 → cond (eqb b 125) 1 0 + (d + 1) ≡ d + cond (eqb b 123) 1 0
opens_one d b is = rw (eq-eqb b 123 is, ne_eqb b 125 (λ e. omega arith)) (omega arith)

closes_one : (d b : ℕ) → (d ≡ 0 → ⊥) → b ≡ 125 → cond (eqb b 125) 1 0 + (d - 1) ≡ d + cond (eqb b 123) 1 0
closes_one d b some is = rw (eq-eqb b 125 is, ne_eqb b 123 (λ e. omega arith)) (omega arith)

keeps : (d b : ℕ) → (b ≡ 123 → ⊥) → (b ≡ 125 → ⊥) → cond (eqb b 125) 1 0 + d ≡ d + cond (eqb b 123) 1 0
keeps d b no_open no_close = rw (ne_eqb b 125 no_close, ne_eqb b 123 no_open) (omega arith)

front_ok : (b : ℕ) (r : Read Text) (x : Text × Text) → with_front (b ∷ []) r ≡ Ok x → (y : Text × Text) × (r ≡ Ok y) × ((b ∷ y.0, y.1) ≡ x)
front_ok b (Ok y) x e = (y, refl, cc)
front_ok b (Err h) x e = cc

-- ---- braced text

abbrev pub IsBracedAt : ℕ → Text → Text × Text → Type 0
IsBracedAt d t x = (t ≡ x.0 ++ 125 ∷ x.1) × Closes d x.0

braced_cons : (d e b : ℕ) (t : Text) (x : Text × Text) (r : Read Text) → cond (eqb b 125) 1 0 + e ≡ d + cond (eqb b 123) 1 0 → ((y : Text × Text) → r ≡ Ok y → IsBracedAt e t y) → with_front (b ∷ []) r ≡ Ok x → IsBracedAt d (b ∷ t) x
braced_cons d e b t x r sum later is =
    let y = front_ok b r x is in
    let h = later y.0 y.1 in
    subst (IsBracedAt d (b ∷ t)) y.2 (ap (λ (u : Text). b ∷ u) h.0, Closes_cons d e b y.0.0 sum h.1)

pub braced_ok : (d : ℕ) (t : Text) (x : Text × Text) → read_braced d t ≡ Ok x → IsBracedAt d t x
braced_ok d [] x is = absurd (not_ok x _ _ (braced_nil d) is)
braced_ok d (b ∷ t) x is =
    elim (cases_eq b 123) [
      | inl opens_body ↦ braced_cons d (d + 1) b t x _ (opens_one d b opens_body) (λ y e. braced_ok (d + 1) t y e) (sym (braced_opens d b t opens_body) ∙ is)
      | inr no_open ↦ elim (cases_eq b 125) [
        | inl closes ↦ elim (cases_eq d 0) [
          | inl none ↦
              let done : ([], t) ≡ x = ok_same ([], t) x _ (ap (λ (n : ℕ). read_braced n (b ∷ t)) none ∙ braced_ends b t closes) is in
              subst (IsBracedAt d (b ∷ t)) done (ap (λ (c : ℕ). c ∷ t) closes, subst (λ (n : ℕ). Closes n []) (sym none) Closes_nil)
          | inr some ↦ braced_cons d (d - 1) b t x _ (closes_one d b some closes) (λ y e. braced_ok (d - 1) t y e) (sym (braced_closes d b t some closes) ∙ is)
        ]
        | inr no_close ↦ braced_cons d d b t x _ (keeps d b no_open no_close) (λ y e. braced_ok d t y e) (sym (braced_takes d b t (or_from _ _ (ne_eqb b 123 no_open) (ne_eqb b 125 no_close))) ∙ is)
      ]
    ]

pub braced_again : (d : ℕ) (c r : Text) → Closes d c → read_braced d (c ++ 125 ∷ r) ≡ Ok (c, r)
braced_again d [] r bal =
    let none : d ≡ 0 = omega (arith, bal.all_closed) in
    ap (λ (n : ℕ). read_braced n (125 ∷ r)) none ∙ braced_ends 125 r refl
braced_again d (b ∷ c) r bal =
    elim (cases_eq b 123) [
      | inl opens_body ↦ braced_opens d b _ opens_body ∙ ap (with_front (b ∷ [])) (braced_again (d + 1) c r (Closes_tail d (d + 1) b c (opens_one d b opens_body) bal))
      | inr no_open ↦ elim (cases_eq b 125) [
        | inl closes ↦
            let some : d ≡ 0 → ⊥ = λ none. positive none closes in
            braced_closes d b _ some closes ∙ ap (with_front (b ∷ [])) (braced_again (d - 1) c r (Closes_tail d (d - 1) b c (closes_one d b some closes) bal))
        | inr no_close ↦ braced_takes d b _ (or_from _ _ (ne_eqb b 123 no_open) (ne_eqb b 125 no_close)) ∙ ap (with_front (b ∷ [])) (braced_again d c r (Closes_tail d d b c (keeps d b no_open no_close) bal))
      ]
    ]
  where
    positive : d ≡ 0 → b ≡ 125 → ⊥
    positive none closes =
        let one : closed_before (b ∷ c) 1 ≡ 1 + closed_before c 0 = closed-cons b c 0 ∙ rw (eq-eqb b 125 closes) refl in
        let zero_open : opened_before (b ∷ c) 1 ≡ 0 + opened_before c 0 = opened-cons b c 0 ∙ rw (ne_eqb b 123 (λ e. omega arith)) refl in
        omega (arith, one, zero_open, bal.never_negative 1)

-- ---- quoted text

-- a quotation mark is only in open braces
abbrev pub QuotesInside : ℕ → Text → Type 0
QuotesInside d t = (n : ℕ) → n < length t → slice_index t n ≡ 34 → closed_before t n < d + opened_before t n

abbrev pub IsQuotedAt : ℕ → Text → Text × Text → Type 0
IsQuotedAt d t x = (t ≡ x.0 ++ 34 ∷ x.1) × Closes d x.0 × QuotesInside d x.0

QuotesInside_cons : (d e b : ℕ) (t : Text) → cond (eqb b 125) 1 0 + e ≡ d + cond (eqb b 123) 1 0 → (b ≡ 34 → 0 < d) → QuotesInside e t → QuotesInside d (b ∷ t)
QuotesInside_cons d e b t sum first q zero lt is = let some = first is in omega arith
QuotesInside_cons d e b t sum first q (suc n) lt is =
    let later = q n (omega arith) is in
    omega (arith, opened-cons b t n, closed-cons b t n)

QuotesInside_tail : (d e b : ℕ) (t : Text) → cond (eqb b 125) 1 0 + e ≡ d + cond (eqb b 123) 1 0 → QuotesInside d (b ∷ t) → QuotesInside e t
QuotesInside_tail d e b t sum q n lt is =
    let whole = q (suc n) (omega arith) is in
    omega (arith, opened-cons b t n, closed-cons b t n)

pub plain_byte : (b : ℕ) → (b ≡ 123 → ⊥) → (b ≡ 125 → ⊥) → (b ≡ 34 → ⊥) → is_byte3 123 125 34 b ≡ false
plain_byte b no_open no_close no_mark = or_from _ _ (or_from _ _ (ne_eqb b 123 no_open) (ne_eqb b 125 no_close)) (ne_eqb b 34 no_mark)

-- at a closing brace and a mark some brace is open
open_at_close : (d b : ℕ) (c : Text) → Closes d (b ∷ c) → b ≡ 125 → d ≡ 0 → ⊥
open_at_close d b c bal closes none =
    let one : closed_before (b ∷ c) 1 ≡ 1 + closed_before c 0 = closed-cons b c 0 ∙ rw (eq-eqb b 125 closes) refl in
    let zero_open : opened_before (b ∷ c) 1 ≡ 0 + opened_before c 0 = opened-cons b c 0 ∙ rw (ne_eqb b 123 (λ e. omega arith)) refl in
    omega (arith, one, zero_open, bal.never_negative 1)

quoted_cons : (d e b : ℕ) (t : Text) (x : Text × Text) (r : Read Text) → cond (eqb b 125) 1 0 + e ≡ d + cond (eqb b 123) 1 0 → (b ≡ 34 → 0 < d) → ((y : Text × Text) → r ≡ Ok y → IsQuotedAt e t y) → with_front (b ∷ []) r ≡ Ok x → IsQuotedAt d (b ∷ t) x
quoted_cons d e b t x r sum first later is =
    let y = front_ok b r x is in
    let h = later y.0 y.1 in
    subst (IsQuotedAt d (b ∷ t)) y.2 (ap (λ (u : Text). b ∷ u) h.0, Closes_cons d e b y.0.0 sum h.1, QuotesInside_cons d e b y.0.0 sum first h.2)

pub quoted_ok : (d : ℕ) (t : Text) (x : Text × Text) → read_quoted d t ≡ Ok x → IsQuotedAt d t x
quoted_ok d [] x is = absurd (not_ok x _ _ (quoted_nil d) is)
quoted_ok d (b ∷ t) x is =
    elim (cases_eq b 123) [
      | inl opens_body ↦ quoted_cons d (d + 1) b t x _ (opens_one d b opens_body) (λ q. absurd (omega arith)) (λ y e. quoted_ok (d + 1) t y e) (sym (quoted_opens d b t opens_body) ∙ is)
      | inr no_open ↦ elim (cases_eq b 125) [
        | inl closes ↦ elim (cases_eq d 0) [
          | inl none ↦ absurd (not_ok x _ _ (ap (λ (n : ℕ). read_quoted n (b ∷ t)) none ∙ quoted_unbalanced b t closes) is)
          | inr some ↦ quoted_cons d (d - 1) b t x _ (closes_one d b some closes) (λ q. absurd (omega arith)) (λ y e. quoted_ok (d - 1) t y e) (sym (quoted_closes d b t some closes) ∙ is)
        ]
        | inr no_close ↦ elim (cases_eq b 34) [
          | inl mark ↦ elim (cases_eq d 0) [
            | inl none ↦
                let done : ([], t) ≡ x = ok_same ([], t) x _ (ap (λ (n : ℕ). read_quoted n (b ∷ t)) none ∙ quoted_ends b t mark) is in
                subst (IsQuotedAt d (b ∷ t)) done (ap (λ (c : ℕ). c ∷ t) mark, subst (λ (n : ℕ). Closes n []) (sym none) Closes_nil, λ n lt e. absurd (omega arith))
            | inr some ↦ quoted_cons d d b t x _ (keeps d b no_open no_close) (λ q. omega arith) (λ y e. quoted_ok d t y e) (sym (quoted_inside d b t some mark) ∙ is)
          ]
          | inr no_mark ↦ quoted_cons d d b t x _ (keeps d b no_open no_close) (λ q. absurd (no_mark q)) (λ y e. quoted_ok d t y e) (sym (quoted_takes d b t (plain_byte b no_open no_close no_mark)) ∙ is)
        ]
      ]
    ]

pub quoted_again : (d : ℕ) (c r : Text) → Closes d c → QuotesInside d c → read_quoted d (c ++ 34 ∷ r) ≡ Ok (c, r)
quoted_again d [] r bal q =
    let none : d ≡ 0 = omega (arith, bal.all_closed) in
    ap (λ (n : ℕ). read_quoted n (34 ∷ r)) none ∙ quoted_ends 34 r refl
quoted_again d (b ∷ c) r bal q =
    elim (cases_eq b 123) [
      | inl opens_body ↦
          let sum = opens_one d b opens_body in
          quoted_opens d b _ opens_body ∙ ap (with_front (b ∷ [])) (quoted_again (d + 1) c r (Closes_tail d (d + 1) b c sum bal) (QuotesInside_tail d (d + 1) b c sum q))
      | inr no_open ↦ elim (cases_eq b 125) [
        | inl closes ↦
            let some : d ≡ 0 → ⊥ = open_at_close d b c bal closes in
            let sum = closes_one d b some closes in
            quoted_closes d b _ some closes ∙ ap (with_front (b ∷ [])) (quoted_again (d - 1) c r (Closes_tail d (d - 1) b c sum bal) (QuotesInside_tail d (d - 1) b c sum q))
        | inr no_close ↦
            let sum = keeps d b no_open no_close in
            let later = ap (with_front (b ∷ [])) (quoted_again d c r (Closes_tail d d b c sum bal) (QuotesInside_tail d d b c sum q)) in
            elim (cases_eq b 34) [
              | inl mark ↦
                  let inside : 0 < d = let h = q 0 (omega arith) mark in omega arith in
                  quoted_inside d b _ (λ none. omega arith) mark ∙ later
              | inr no_mark ↦ quoted_takes d b _ (plain_byte b no_open no_close no_mark) ∙ later
            ]
      ]
    ]

-- ---- the words of the grammar

pub balanced_closes : (t : Text) → IsBalanced t → Closes 0 t
balanced_closes t h = record { never_negative = λ n. omega (arith, h.never_negative n); all_closed = omega (arith, h.all_closed) }

pub closes_balanced : (t : Text) → Closes 0 t → IsBalanced t
closes_balanced t h = record { never_negative = λ n. omega (arith, h.never_negative n); all_closed = omega (arith, h.all_closed) }

pub quotes_inside : (t : Text) → QuotesAreBraced t → QuotesInside 0 t
quotes_inside t q n lt is = omega (arith, q n lt is)

pub quotes_braced : (t : Text) → QuotesInside 0 t → QuotesAreBraced t
quotes_braced t q n lt is = omega (arith, q n lt is)
