-- Texts that are their own field texts.
use Rattle.std.proofs.Common.{◌≡◌, ◌∙◌, ◌≤◌, ◌<◌, ◌+◌, ◌-◌, ℕ, length, drop, get_or, arith, Bool, true, false, cond, not, ◌&&◌, ◌||◌, eqb, [], ◌∷◌, refl, sym, ap, ⊎_elim}
use Rattle.std.proofs.lemmas.Bool.{not-true, cases_Bool, cond-true, cond-false, eqb-true, and_parts}
use Rattle.bib_spec.specs.Text.{Text, is_space}
use Rattle.bib_spec.specs.Texts.{field_text}
use Rattle.bib_value.specs.Spacing.{can_go_on, neat}
use Rattle.std.proofs.Math.ListN.{drop_of_length-le}
use Rattle.bib_value.proofs.FieldTextLemmas.{more_text, more_text-all, rest_is}

pub space_is : is_space 32 ≡ true
unfolding is_space
space_is = refl

-- a neat text that continues with white space: a space, and a word after it
pub neat-space : (apart : Bool) (b : ℕ) (t : Text) → is_space b ≡ true → neat apart (b ∷ t) ≡ true → (b ≡ 32) × (apart ≡ false) × (neat true t ≡ true)
neat-space apart b t h n =
    let p = and_parts (eqb b 32) (not apart && neat true t) (sym (cond-true (is_space b) _ _ h) ∙ n) in
    let q = and_parts (not apart) (neat true t) p.1 in
    (eqb-true b 32 p.0, not-true apart q.0, q.1)

pub neat-word : (apart : Bool) (b : ℕ) (t : Text) → is_space b ≡ false → neat apart (b ∷ t) ≡ neat false t
neat-word apart b t h = cond-false (is_space b) _ _ h

pub neat-gap : (t : Text) → neat false (32 ∷ t) ≡ neat true t
neat-gap t = cond-true (is_space 32) (neat true t) _ space_is

more-neat : (apart : Bool) (t : Text) → neat apart t ≡ true → more_text apart true t ≡ cond apart (32 ∷ t) t
more-neat true [] n = absurd (cc)
more-neat false [] n = refl
more-neat true (b ∷ t) n =
    ⊎_elim
    (λ h. let s = neat-space true b t h n in absurd (cc))
    (λ h. rw h (ap (λ (u : Text). 32 ∷ b ∷ u) (more-neat false t (sym (neat-word true b t h) ∙ n))))
    (cases_Bool (is_space b))
more-neat false (b ∷ t) n =
    ⊎_elim
    (λ h. let s = neat-space false b t h n in cond-true (is_space b) _ _ h ∙ more-neat true t s.2 ∙ ap (λ (c : ℕ). c ∷ t) (sym s.0))
    (λ h. rw h (ap (λ (u : Text). b ∷ u) (more-neat false t (sym (neat-word false b t h) ∙ n))))
    (cases_Bool (is_space b))

whole-neat : (t : Text) → neat true t ≡ true → more_text false false t ≡ t
whole-neat [] n = absurd (cc)
whole-neat (b ∷ t) n =
    ⊎_elim
    (λ h. let s = neat-space true b t h n in absurd (cc))
    (λ h. rw h (ap (λ (u : Text). b ∷ u) (more-neat false t (sym (neat-word true b t h) ∙ n))))
    (cases_Bool (is_space b))

pub field_text-neat : (t : Text) → neat true t ≡ true → field_text t ≡ t
field_text-neat t n = sym (more_text-all t) ∙ whole-neat t n

-- a neat text is neat byte by byte
pub neat_step : (so_far apart : Bool) (b : ℕ) (t : Text) → so_far && neat apart (b ∷ t) ≡ (so_far && can_go_on apart b) && neat (eqb b 32) t
neat_step so_far apart b t =
    ⊎_elim
    (λ (h : is_space b ≡ true). ⊎_elim
    (λ (e : eqb b 32 ≡ true). rw (h, e) (gap so_far apart (neat true t)))
    (λ (e : eqb b 32 ≡ false). rw (h, e) (none so_far (neat false t)))
    (cases_Bool (eqb b 32)))
    (λ (h : is_space b ≡ false). let e : eqb b 32 ≡ false = other b h in rw (h, e) (word so_far (neat false t)))
    (cases_Bool (is_space b))
  where
    gap : (s a n : Bool) → s && (true && (not a && n)) ≡ (s && (false || (true && not a))) && n
    gap true a n = refl
    gap false a n = refl

    none : (s n : Bool) → s && (false && (not apart && neat true t)) ≡ (s && (false || (false && not apart))) && n
    none true n = refl
    none false n = refl

    word : (s n : Bool) → s && n ≡ (s && (true || (false && not apart))) && n
    word true n = refl
    word false n = refl

    other : (b : ℕ) → is_space b ≡ false → eqb b 32 ≡ false
    other b h = ⊎_elim (λ (e : eqb b 32 ≡ true). let both : false ≡ true = sym h ∙ ap is_space (eqb-true b 32 e) ∙ space_is in absurd (cc)) (λ e. e) (cases_Bool (eqb b 32))

-- testing the first byte, and then the rest, tests the whole text
pub neat_begins : (text : Text) → 1 ≤ length text → can_go_on true (get_or text 0 0) && neat (eqb (get_or text 0 0) 32) (drop 1 text) ≡ neat true text
neat_begins [] within = absurd (omega (arith, within))
neat_begins (b ∷ t) within = sym (neat_step true true b t)

-- one more byte
pub neat_more : (so_far : Bool) (text : Text) (n : ℕ) → 1 ≤ n → n < length text → so_far && neat (eqb (get_or text (n - 1) 0) 32) (drop n text) ≡ neat true text
    → (so_far && can_go_on (eqb (get_or text (n - 1) 0) 32) (get_or text n 0)) && neat (eqb (get_or text (n + 1 - 1) 0) 32) (drop (n + 1) text) ≡ neat true text
neat_more so_far text n begun within is =
    let here : n + 1 - 1 ≡ n = omega arith in
    let apart = eqb (get_or text (n - 1) 0) 32 in
    ap (λ (k : ℕ). (so_far && can_go_on apart (get_or text n 0)) && neat (eqb (get_or text k 0) 32) (drop (n + 1) text)) here
    ∙ sym (neat_step so_far apart (get_or text n 0) (drop (n + 1) text))
    ∙ ap (λ (t : Text). so_far && neat apart t) (sym (rest_is text n within))
    ∙ is

-- the last byte
pub neat_ends : (so_far : Bool) (text : Text) (n : ℕ) → n ≤ length text → length text ≤ n → so_far && neat (eqb (get_or text (n - 1) 0) 32) (drop n text) ≡ neat true text
    → so_far && not (eqb (get_or text (length text - 1) 0) 32) ≡ neat true text
neat_ends so_far text n within end is =
    let all : n ≡ length text = omega (arith, within, end) in
    let none : drop n text ≡ [] = drop_of_length-le text end in
    ap (λ (k : ℕ). so_far && not (eqb (get_or text (k - 1) 0) 32)) (sym all)
    ∙ ap (λ (t : Text). so_far && neat (eqb (get_or text (n - 1) 0) 32) t) (sym none)
    ∙ is
