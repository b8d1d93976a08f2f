-- Locality of the readers of parts and values.
use Rattle.bib_scan.proofs.Words.{◌≡◌, ℕ, ◌+◌, ◌-◌, Bool, false, cond, eqb, [], ◌∷◌, refl, sym, ap, subst, ◌∙◌, inl, inr, Ok, Err, cases_eq, or_from, ne_eqb, is_ascii_digit, Unended, UnbalancedBrace, ExpectedValue, ExpectedName, Text, is_name_byte, Part, Braced, Quoted, Macro, Read, stop, expected}
use Rattle.bib_scan.proofs.Words.{read_run, with_front, read_braced, read_quoted, begins_name, read_name, read_part, ◌>>=◌}
use Rattle.bib_spec.specs.Tree.{Digits}
use Rattle.bib_scan.proofs.RunLaws.{cons_nil}
use Rattle.bib_scan.proofs.BraceLemmas.{braced_takes, quoted_takes, braced_opens, braced_closes, braced_ends, braced_nil, quoted_opens, quoted_closes, quoted_ends, quoted_inside, quoted_unbalanced, quoted_nil}
use Rattle.bib_scan.proofs.BraceLaws.{plain_byte}
use Rattle.bib_scan.proofs.LocalLaws.{LocalAt, Local, local_bind, local_same, local_cond, after_first, local_beyond, local_ok, local_expected, run, local_run, local_limited}

-- ---- braced and quoted text

local_front : (b : ℕ) (p q : Text → Read Text) (t : Text) → ((u : Text) → p (b ∷ u) ≡ with_front (b ∷ []) (q u)) → LocalAt q t (q t) → LocalAt p (b ∷ t) (p (b ∷ t))
local_front b p q t step l = subst (LocalAt p (b ∷ t)) (sym (step t)) (go (q t) l)
  where
    go : (m : Read Text) → LocalAt q t m → LocalAt p (b ∷ t) (with_front (b ∷ []) m)
    go (Ok x) at = record { front = b ∷ at.front; split = ap (λ (u : Text). b ∷ u) at.split; same = λ c v w is. step _ ∙ ap (with_front (b ∷ [])) (at.same c v w is) }
    go (Err h) at = record { front = b ∷ at.front; split = ap (λ (u : Text). b ∷ u) at.split; same = λ c v w is. step _ ∙ ap (with_front (b ∷ [])) (at.same c v w is) }

local_end : (b : ℕ) (p : Text → Read Text) (t : Text) → ((u : Text) → p (b ∷ u) ≡ Ok ([], u)) → LocalAt p (b ∷ t) (p (b ∷ t))
local_end b p t step = subst (LocalAt p (b ∷ t)) (sym (step t)) (record { front = b ∷ []; split = refl; same = λ c v w is. step (c ∷ w) })

local_unended : (p : Text → Read Text) → p [] ≡ Err (stop Unended []) → LocalAt p [] (p [])
local_unended p is = subst (LocalAt p []) (sym is) (record { front = []; split = refl; same = λ c v w e. absurd (cons_nil c v (sym e)) })

pub local_braced : (d : ℕ) → Local (read_braced d)
local_braced d [] = local_unended (read_braced d) (braced_nil d)
local_braced d (b ∷ t) =
    elim (cases_eq b 123) [
      | inl opens ↦ local_front b (read_braced d) (read_braced (d + 1)) t (λ u. braced_opens d b u opens) (local_braced (d + 1) t)
      | inr no_open ↦ elim (cases_eq b 125) [
        | inl closes ↦ elim (cases_eq d 0) [
          | inl none ↦ local_end b (read_braced d) t (λ u. ap (λ (n : ℕ). read_braced n (b ∷ u)) none ∙ braced_ends b u closes)
          | inr some ↦ local_front b (read_braced d) (read_braced (d - 1)) t (λ u. braced_closes d b u some closes) (local_braced (d - 1) t)
        ]
        | inr no_close ↦ local_front b (read_braced d) (read_braced d) t (λ u. braced_takes d b u (or_from _ _ (ne_eqb b 123 no_open) (ne_eqb b 125 no_close))) (local_braced d t)
      ]
    ]

local_wrong : (b : ℕ) (p : Text → Read Text) (t : Text) → ((u : Text) → p (b ∷ u) ≡ Err (stop UnbalancedBrace (b ∷ u))) → LocalAt p (b ∷ t) (p (b ∷ t))
local_wrong b p t step = subst (LocalAt p (b ∷ t)) (sym (step t)) (record { front = []; split = refl; same = λ c v w is. go c v w is })
  where
    go : (c : ℕ) (v w : Text) → ◌≡◌ {A = Text} (b ∷ t) (c ∷ v) → p (c ∷ w) ≡ Err (stop UnbalancedBrace (c ∷ w))
    go c v w is = let same : b ≡ c = cc in subst (λ (n : ℕ). p (n ∷ w) ≡ Err (stop UnbalancedBrace (n ∷ w))) same (step w)

pub local_quoted : (d : ℕ) → Local (read_quoted d)
local_quoted d [] = local_unended (read_quoted d) (quoted_nil d)
local_quoted d (b ∷ t) =
    elim (cases_eq b 123) [
      | inl opens ↦ local_front b (read_quoted d) (read_quoted (d + 1)) t (λ u. quoted_opens d b u opens) (local_quoted (d + 1) t)
      | inr no_open ↦ elim (cases_eq b 125) [
        | inl closes ↦ elim (cases_eq d 0) [
          | inl none ↦ local_wrong b (read_quoted d) t (λ u. ap (λ (n : ℕ). read_quoted n (b ∷ u)) none ∙ quoted_unbalanced b u closes)
          | inr some ↦ local_front b (read_quoted d) (read_quoted (d - 1)) t (λ u. quoted_closes d b u some closes) (local_quoted (d - 1) t)
        ]
        | inr no_close ↦ elim (cases_eq b 34) [
          | inl mark ↦ elim (cases_eq d 0) [
            | inl none ↦ local_end b (read_quoted d) t (λ u. ap (λ (n : ℕ). read_quoted n (b ∷ u)) none ∙ quoted_ends b u mark)
            | inr some ↦ local_front b (read_quoted d) (read_quoted d) t (λ u. quoted_inside d b u some mark) (local_quoted d t)
          ]
          | inr no_mark ↦ local_front b (read_quoted d) (read_quoted d) t (λ u. quoted_takes d b u (plain_byte b no_open no_close no_mark)) (local_quoted d t)
        ]
      ]
    ]

-- ---- names and parts

abbrev pub first_is : (ℕ → Bool) → Text → Bool
first_is test [] = false
first_is test (b ∷ t) = test b

pub local_name : (limit : ℕ) → Local (read_name limit)
local_name limit = local_cond begins_name (read_run limit is_name_byte) (λ t. Err (expected ExpectedName t)) (λ b t u. refl) (local_limited limit is_name_byte) (local_expected ExpectedName)

abbrev pub part_by_first : (limit : ℕ) → Text → Read Part
part_by_first limit t =
    cond (first_is (λ b. eqb b 123) t) (after_first (λ u. read_braced 0 u >>= λ x. Ok (Braced x.0, x.1)) t)
    (cond (first_is (λ b. eqb b 34) t) (after_first (λ u. read_quoted 0 u >>= λ x. Ok (Quoted x.0, x.1)) t)
    (cond (first_is is_ascii_digit t) (run is_ascii_digit t >>= λ x. Ok (Digits x.0, x.1))
    (cond (first_is is_name_byte t) (read_run limit is_name_byte t >>= λ x. Ok (Macro x.0, x.1)) (Err (expected ExpectedValue t)))))

pub part_is : (limit : ℕ) (t : Text) → read_part limit t ≡ part_by_first limit t
unfolding read_part
part_is limit [] = refl
part_is limit (b ∷ t) = refl

pub local_part : (limit : ℕ) → Local (read_part limit)
local_part limit = local_same (read_part limit) (part_by_first limit) (part_is limit)
    (local_cond (first_is (λ b. eqb b 123)) _ _ (λ b t u. refl) (local_beyond _ (local_bind (read_braced 0) (λ c u. Ok (Braced c, u)) (local_braced 0) (λ c. local_ok (Braced c))))
    (local_cond (first_is (λ b. eqb b 34)) _ _ (λ b t u. refl) (local_beyond _ (local_bind (read_quoted 0) (λ c u. Ok (Quoted c, u)) (local_quoted 0) (λ c. local_ok (Quoted c))))
    (local_cond (first_is is_ascii_digit) _ _ (λ b t u. refl) (local_bind (run is_ascii_digit) (λ c u. Ok (Digits c, u)) (local_run is_ascii_digit) (λ c. local_ok (Digits c)))
    (local_cond (first_is is_name_byte) _ _ (λ b t u. refl) (local_bind (read_run limit is_name_byte) (λ c u. Ok (Macro c, u)) (local_limited limit is_name_byte) (λ c. local_ok (Macro c))) (local_expected ExpectedValue)))))
