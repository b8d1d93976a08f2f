-- Pages of the profile are read back.
use Rattle.ris_format.proofs.Words.{◌≡◌, ℕ, suc, ◌+◌, ◌<◌, true, false, ◌&&◌, eqb, ltb, [], ◌∷◌, ◌++◌, length, take, drop, refl, sym, ap, ◌∙◌, arith, ⊎_elim, append-nil, prefix_len, list_all, cases_Bool, cond-true, cond-false, and_parts, and_from, and_right, or_left, or_cases, not-true, eqb-true}
use Rattle.ris_format.proofs.Words.{ltb-true, lt-ltb, le-ltb, drop_all, Text, is_space, eq-true, neat, has_bytes, is_no_hyphen, before_dash, has_dash, before_cut, after_cut, is_margin, page, are_two, written_start, written_end, read_pages}
use Rattle.std.proofs.Common.{not, append_assoc}
use Rattle.ris_format.specs.Pages.{begins_with_hyphen, is_plain_page, are_plain_pages}
use Rattle.ris_format.proofs.Trims.{neat-cut}
use Rattle.ris_format.proofs.Values.{first, are_neat}

pub record PagesAreKept (text : Text) : Type 0 where
  pub is : read_pages (first (written_start text)) (first (written_end text)) ≡ text
  pub start_neat : are_neat (written_start text) ≡ true
  pub end_neat : are_neat (written_end text) ≡ true

-- ---- no hyphen

no-dash : (text : Text) → list_all is_no_hyphen text ≡ true → before_dash text ≡ length text
no-dash [] h = refl
no-dash (b ∷ t) h =
    let p = and_parts (is_no_hyphen b) (list_all is_no_hyphen t) h in
    let none : (eqb b 45 && begins_with_hyphen t) ≡ false = ap (λ c. c && begins_with_hyphen t) (not-true (eqb b 45) p.0) in
    let rest = no-dash t p.1 in
    cond-false (eqb b 45 && begins_with_hyphen t) 0 (1 + before_dash t) none ∙ omega (arith, rest)

all_run : (text : Text) → list_all is_no_hyphen text ≡ true → prefix_len is_no_hyphen text ≡ length text
all_run [] h = refl
all_run (b ∷ t) h =
    let p = and_parts (is_no_hyphen b) (list_all is_no_hyphen t) h in
    let rest = all_run t p.1 in
    cond-true (is_no_hyphen b) (1 + prefix_len is_no_hyphen t) 0 p.0 ∙ omega (arith, rest)

nothing-after : (text : Text) → list_all is_no_hyphen text ≡ true → after_cut text ≡ []
nothing-after text h =
    let none : has_dash text ≡ false = le-ltb (before_dash text) (length text) (omega (arith, no-dash text h)) in
    cond-false (has_dash text) _ _ none ∙ drop_all (prefix_len is_no_hyphen text + 1) text (omega (arith, all_run text h))

kept-one : (text : Text) → has_bytes text ≡ true → neat true text ≡ true → list_all is_no_hyphen text ≡ true → PagesAreKept text
kept-one [] some n h = absurd (cc)
kept-one (b ∷ t) some n h =
    let text : Text = b ∷ t in
    let one : are_two text ≡ false = and_right (has_bytes (page (before_cut text))) _ (ap (λ (u : Text). has_bytes (page u)) (nothing-after text h)) in
    let start : written_start text ≡ text ∷ [] = cond-false (are_two text) (page (before_cut text) ∷ []) (text ∷ []) one in
    let end : written_end text ≡ [] = cond-false (are_two text) (page (after_cut text) ∷ []) [] one in
    record {
      is = ap (λ vs. read_pages (first vs) (first (written_end text))) start ∙ ap (λ vs. read_pages text (first vs)) end;
      start_neat = ap are_neat start ∙ ap (λ c. c && true) n;
      end_neat = ap are_neat end;
    }

-- ---- two pages

-- a text is the text before its first `--`, the `--`, and the text after it
dash-parts : (text : Text) → has_dash text ≡ true → text ≡ take (before_dash text) text ++ (45 ∷ 45 ∷ drop (before_dash text + 2) text)
dash-parts [] h = absurd (cc)
dash-parts (b ∷ []) h =
    ⊎_elim
    (λ c. absurd (let f = and_parts (eqb b 45) false c in cc))
    (λ c. absurd (let len : 1 < 1 = ltb-true 1 1 (ap (λ n. ltb n 1) (sym (cond-false (eqb b 45 && false) 0 1 c)) ∙ h) in omega arith))
    (cases_Bool (eqb b 45 && false))
dash-parts (b ∷ c ∷ t) h =
    ⊎_elim
    (λ two.
    let p = and_parts (eqb b 45) (eqb c 45) two in
    let n : before_dash (b ∷ c ∷ t) ≡ 0 = cond-true (eqb b 45 && eqb c 45) 0 (1 + before_dash (c ∷ t)) two in
    let e : b ∷ c ∷ t ≡ 45 ∷ 45 ∷ t = ap (λ (x : ℕ). x ∷ c ∷ t) (eqb-true b 45 p.0) ∙ ap (λ (x : ℕ). 45 ∷ x ∷ t) (eqb-true c 45 p.1) in
    e ∙ sym (ap (λ k. take k (b ∷ c ∷ t) ++ (45 ∷ 45 ∷ drop (k + 2) (b ∷ c ∷ t))) n))
    (λ not_two.
    let n : before_dash (b ∷ c ∷ t) ≡ suc (before_dash (c ∷ t)) = cond-false (eqb b 45 && eqb c 45) 0 (1 + before_dash (c ∷ t)) not_two ∙ omega arith in
    let within : has_dash (c ∷ t) ≡ true = lt-ltb (before_dash (c ∷ t)) (length (c ∷ t)) (omega (arith, ltb-true (before_dash (b ∷ c ∷ t)) (length (b ∷ c ∷ t)) h, n)) in
    let k : suc (before_dash (c ∷ t)) + 2 ≡ suc (before_dash (c ∷ t) + 2) = omega arith in
    ap (λ (u : Text). b ∷ u) (dash-parts (c ∷ t) within)
    ∙ ap (λ m. b ∷ take (before_dash (c ∷ t)) (c ∷ t) ++ (45 ∷ 45 ∷ drop m (b ∷ c ∷ t))) (sym k)
    ∙ sym (ap (λ m. take m (b ∷ c ∷ t) ++ (45 ∷ 45 ∷ drop (m + 2) (b ∷ c ∷ t))) n))
    (cases_Bool (eqb b 45 && eqb c 45))

pub takes-space : (b : ℕ) → is_space b ≡ true → is_margin b ≡ true
takes-space b h = or_left (is_space b) (eqb b 45) h

both-pages : (a b : Text) → has_bytes a ≡ true → has_bytes b ≡ true → read_pages a b ≡ a ++ (45 ∷ 45 ∷ b)
both-pages [] b p q = absurd (cc)
both-pages (x ∷ a) [] p q = absurd (cc)
both-pages (x ∷ a) (y ∷ b) p q = refl

-- the two pages of a text that is cut at its first `--`
record AreTwo (text a b : Text) : Type 0 where
  whole : text ≡ a ++ (45 ∷ 45 ∷ b)
  dash : has_dash text ≡ true
  before : take (before_dash text) text ≡ a
  after : drop (before_dash text + 2) text ≡ b
  a_page : page a ≡ a
  b_page : page b ≡ b
  a_some : has_bytes a ≡ true
  b_some : has_bytes b ≡ true

kept-two : (text a b : Text) → neat true text ≡ true → AreTwo text a b → PagesAreKept text
kept-two text a b n are =
    let front : page (before_cut text) ≡ a = ap page (cond-true (has_dash text) _ _ are.dash ∙ are.before) ∙ are.a_page in
    let back : page (after_cut text) ≡ b = ap page (cond-true (has_dash text) _ _ are.dash ∙ are.after) ∙ are.b_page in
    let two : are_two text ≡ true = and_from _ _ (ap has_bytes front ∙ are.a_some) (ap has_bytes back ∙ are.b_some) in
    let start : written_start text ≡ a ∷ [] = cond-true (are_two text) _ _ two ∙ ap (λ (u : Text). u ∷ []) front in
    let end : written_end text ≡ b ∷ [] = cond-true (are_two text) _ _ two ∙ ap (λ (u : Text). u ∷ []) back in
    let first_neat : neat true (page a) ≡ true = neat-cut is_margin true [] a (45 ∷ 45 ∷ b) takes-space (ap (neat true) (sym are.whole) ∙ n) (ap has_bytes are.a_page ∙ are.a_some) in
    let as_last : (a ++ (45 ∷ 45 ∷ [])) ++ (b ++ []) ≡ a ++ (45 ∷ 45 ∷ b) = append_assoc a (45 ∷ 45 ∷ []) (b ++ []) ∙ ap (λ (u : Text). a ++ (45 ∷ 45 ∷ u)) (append-nil b) in
    let last_neat : neat true (page b) ≡ true = neat-cut is_margin true (a ++ (45 ∷ 45 ∷ [])) b [] takes-space (ap (neat true) (as_last ∙ sym are.whole) ∙ n) (ap has_bytes are.b_page ∙ are.b_some) in
    record {
      is = ap (λ vs. read_pages (first vs) (first (written_end text))) start ∙ ap (λ vs. read_pages a (first vs)) end ∙ both-pages a b are.a_some are.b_some ∙ sym are.whole;
      start_neat = ap are_neat start ∙ ap (λ c. c && true) (ap (neat true) (sym are.a_page) ∙ first_neat);
      end_neat = ap are_neat end ∙ ap (λ c. c && true) (ap (neat true) (sym are.b_page) ∙ last_neat);
    }

-- ---- the law

plain-page : (text : Text) → is_plain_page text ≡ true → (has_bytes text ≡ true) × (page text ≡ text)
plain-page text h =
    let p = and_parts (has_bytes text && not (has_dash text)) _ h in
    ((and_parts (has_bytes text) (not (has_dash text)) p.0).0, eq-true (page text) text p.1)

kept-dashed : (text : Text) → neat true text ≡ true → (has_dash text && is_plain_page (take (before_dash text) text) && is_plain_page (drop (before_dash text + 2) text)) ≡ true → PagesAreKept text
kept-dashed text n h =
    let p = and_parts (has_dash text && is_plain_page (take (before_dash text) text)) _ h in
    let q = and_parts (has_dash text) _ p.0 in
    let a = plain-page (take (before_dash text) text) q.1 in
    let b = plain-page (drop (before_dash text + 2) text) p.1 in
    kept-two text (take (before_dash text) text) (drop (before_dash text + 2) text) n (record {
      whole = dash-parts text q.0;
      dash = q.0;
      before = refl;
      after = refl;
      a_page = a.1;
      b_page = b.1;
      a_some = a.0;
      b_some = b.0;
    })

pub pages_kept : (text : Text) → (has_bytes text ≡ true → (neat true text ≡ true) × (are_plain_pages text ≡ true)) → PagesAreKept text
pages_kept [] fit = record { is = refl; start_neat = refl; end_neat = refl }
pages_kept (b ∷ t) fit =
    let f = fit refl in
    ⊎_elim
    (λ h. kept-one (b ∷ t) refl f.0 h)
    (λ h. kept-dashed (b ∷ t) f.0 h)
    (or_cases (list_all is_no_hyphen (b ∷ t)) _ f.1)
