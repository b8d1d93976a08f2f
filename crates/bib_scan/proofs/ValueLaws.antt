-- Values and rows: what is read is a value or a row, and a value or row that is written is read again.
use Rattle.bib_scan.proofs.Words.{◌≡◌, ℕ, zero, suc, ◌-◌, Bool, true, false, cond, eqb, List, [], ◌∷◌, ◌++◌, length, take, refl, sym, ap, subst, ◌∙◌, arith, append_assoc, inl, inr, ◌⊎◌, Option, None, Some, Ok, eqb-true, length-append, take_at, All-nil, All-cons, take_while, flat_map, All, Text}
use Rattle.bib_scan.proofs.Words.{is_space, does_not_begin_with, after_run, Part, Link, Value, part_bytes, link_bytes, value_bytes, IsSpace, IsLink, IsValue, read_part, past_hash, go_on, read_links, read_value_rest, read_value, ◌>>=◌}
use Rattle.bib_scan.proofs.RunLaws.{bind_ok, ok_same, run_split, run_passes, run_rest}
use Rattle.bib_scan.proofs.PartLaws.{part_ok}

-- ---- white space

-- a text that does not begin with white space
abbrev pub Stands : Text → Type 0
Stands r = does_not_begin_with is_space r ≡ true

pub space_split : (t : Text) → t ≡ take_while is_space t ++ after_run is_space t
space_split t = sym (run_split is_space t)

pub skip_space : (s r : Text) → IsSpace s → Stands r → after_run is_space (s ++ r) ≡ r
skip_space s r = run_rest is_space s r

-- ---- links

pub joined_ok : (t u : Text) → past_hash t ≡ Some u → (s : Text) × IsSpace s × (t ≡ 35 ∷ s ++ u)
joined_ok [] u is = cc
joined_ok (b ∷ t) u is =
    elim (which (eqb b 35) _ is) [
      | inl hash ↦ (take_while is_space t, run_passes is_space t, ap (λ (c : ℕ). c ∷ t) (eqb-true b 35 hash.0) ∙ ap (λ (v : Text). 35 ∷ v) (space_split t ∙ ap (λ (v : Text). take_while is_space t ++ v) hash.1))
      | inr none ↦ absurd none
    ]
  where
    which : (c : Bool) (v : Text) → cond c (Some v) None ≡ Some u → ((c ≡ true) × (v ≡ u)) ⊎ ⊥
    which true v e = inl (refl, cc)
    which false v e = cc

abbrev pub AreLinks : ℕ → Text → Text → Type 0
AreLinks limit t rest = (ls : List Link) × All (IsLink limit) ls × (t ≡ flat_map link_bytes ls ++ rest)

-- one link in front of others
links_cons : (limit : ℕ) (t u rest : Text) (p : Part × Text) → past_hash (after_run is_space t) ≡ Some u → read_part limit u ≡ Ok p → AreLinks limit p.1 rest → AreLinks limit t rest
links_cons limit t u rest p o_is read later =
    let hash = joined_ok _ u o_is in
    let first = part_ok limit u p read in
    let l : Link = record { space_before_hash = take_while is_space t; space_after_hash = hash.0; part = p.0 } in
    let ok : IsLink limit l = record { space_before_hash = run_passes is_space t; space_after_hash = hash.1; part = first.1 } in
    let split : t ≡ l.space_before_hash ++ (35 ∷ hash.0 ++ (part_bytes p.0 ++ (flat_map link_bytes later.0 ++ rest))) = space_split t ∙ ap (λ (v : Text). l.space_before_hash ++ v) (hash.2 ∙ ap (λ (v : Text). 35 ∷ hash.0 ++ v) (first.0 ∙ ap (λ (v : Text). part_bytes p.0 ++ v) later.2)) in
    (l ∷ later.0, All-cons (IsLink limit) l later.0 ok later.1, split ∙ sym (simp append_assoc))

links_step : (limit n : ℕ) (t rest : Text) (o : Option Text) → past_hash (after_run is_space t) ≡ o → ((u v : Text) → read_links limit n u ≡ Ok v → AreLinks limit u v) → go_on (Ok t) (λ u. read_part limit u >>= λ p. read_links limit n p.1) o ≡ Ok rest → AreLinks limit t rest
links_step limit n t rest None o_is later read = ([], All-nil (IsLink limit), ok_same t rest _ refl read)
links_step limit n t rest (Some u) o_is later read =
    let p = bind_ok (read_part limit u) _ rest read in
    links_cons limit t u rest p.0 o_is p.1 (later p.0.1 rest p.2)

pub links_ok : (limit n : ℕ) (t rest : Text) → read_links limit n t ≡ Ok rest → AreLinks limit t rest
unfolding read_links
links_ok limit zero t rest is = ([], All-nil (IsLink limit), ok_same t rest _ refl is)
links_ok limit (suc n) t rest is = links_step limit n t rest (past_hash (after_run is_space t)) refl (λ u v e. links_ok limit n u v e) is

-- ---- values

abbrev pub IsValueOf : ℕ → Text → Text × Text → Type 0
IsValueOf limit t x = (v : Value) × IsValue limit v × (x.0 ≡ value_bytes v) × (t ≡ x.0 ++ x.1)

pub value_ok : (limit : ℕ) (t : Text) (x : Text × Text) → read_value limit t ≡ Ok x → IsValueOf limit t x
value_ok limit t x is =
    let whole = bind_ok (read_value_rest limit t) _ x is in
    let first = bind_ok (read_part limit t) _ whole.0 whole.1 in
    let p = part_ok limit t first.0 first.1 in
    let more = links_ok limit _ _ _ first.2 in
    let v : Value = record { first = first.0.0; links = more.0 } in
    let split : t ≡ value_bytes v ++ whole.0 = p.0 ∙ ap (λ (u : Text). part_bytes first.0.0 ++ u) more.2 ∙ sym (append_assoc (part_bytes first.0.0) (flat_map link_bytes more.0) whole.0) in
    let len : length t - length whole.0 ≡ length (value_bytes v) = omega (arith, ap (length {A = ℕ}) split, length-append (value_bytes v) whole.0) in
    let bytes : take (length t - length whole.0) t ≡ value_bytes v = ap (λ (u : Text). take (length t - length whole.0) u) split ∙ take_at (value_bytes v) whole.0 _ (sym len) in
    subst (IsValueOf limit t) (ok_same _ x _ refl whole.2) (v, record { first = p.1; links = more.1 }, bytes, split ∙ ap (λ (u : Text). u ++ whole.0) (sym bytes))
