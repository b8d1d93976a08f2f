-- Keywords of the profile are read back.
use Rattle.ris_format.proofs.Words.{◌≡◌, ℕ, Bool, true, [], ◌∷◌, ◌++◌, refl, sym, ap, ◌∙◌, ⊎_elim, append-nil, slice_split, onto_first, cases_Bool, cond-true, cond-false, Text, is_space, eq-true, trimmed, neat, has_bytes, with_front, is_comma_byte, written_keywords, read_keywords}
use Rattle.std.proofs.Common.{List, append_assoc}
use Rattle.std.specs.Prelude.{map, filter}
use Rattle.ris_format.specs.Keywords.{are_plain_keywords}
use Rattle.ris_format.proofs.Trims.{neat-cut}
use Rattle.ris_format.proofs.Values.{are_neat, filled-neat}

abbrev kept_pieces : List Text → List Text
kept_pieces pieces = filter has_bytes (map trimmed pieces)

pub front-onto : (w : Text) (b : ℕ) (pieces : List Text) → with_front w (onto_first b pieces) ≡ with_front (w ++ b ∷ []) pieces
front-onto w b [] = refl
front-onto w b (u ∷ us) = ap (λ (v : Text). v ∷ us) (sym (append_assoc w (b ∷ []) u))

front-none : (pieces : List Text) (b : ℕ) (t : Text) → pieces ≡ slice_split is_comma_byte t → with_front [] pieces ≡ pieces
front-none [] b [] e = absurd (cc)
front-none [] b (c ∷ t) e = ⊎_elim (λ h. absurd (let f = e ∙ cond-true (is_comma_byte c) _ _ h in cc)) (λ h. absurd (let f = e ∙ cond-false (is_comma_byte c) _ _ h in no (slice_split is_comma_byte t) f)) (cases_Bool (is_comma_byte c))
  where
    no : (ps : List Text) → [] ≡ onto_first c ps → ⊥
    no [] f = cc
    no (p ∷ ps) f = cc
front-none (u ∷ us) b t e = refl

pub front-split : (t : Text) → with_front [] (slice_split is_comma_byte t) ≡ slice_split is_comma_byte t
front-split t = front-none (slice_split is_comma_byte t) 0 t refl

piece-neat : (apart : Bool) (x w y : Text) → neat apart (x ++ (w ++ y)) ≡ true → has_bytes (trimmed w) ≡ true → neat true (trimmed w) ≡ true
piece-neat apart x w y n some = neat-cut is_space apart x w y (λ b h. h) n some

pieces-neat : (apart : Bool) (x w t : Text) → neat apart (x ++ (w ++ t)) ≡ true → are_neat (kept_pieces (with_front w (slice_split is_comma_byte t))) ≡ true
pieces-neat apart x w [] n =
    let e : w ++ [] ≡ w = append-nil w in
    filled-neat (trimmed (w ++ [])) [] (λ some. ap (λ (v : Text). neat true (trimmed v)) e ∙ piece-neat apart x w [] n (ap (λ (v : Text). has_bytes (trimmed v)) (sym e) ∙ some)) refl
pieces-neat apart x w (b ∷ t) n =
    ⊎_elim
    (λ h.
    let split : slice_split is_comma_byte (b ∷ t) ≡ [] ∷ slice_split is_comma_byte t = cond-true (is_comma_byte b) _ _ h in
    let e : w ++ [] ≡ w = append-nil w in
    let whole : (x ++ (w ++ b ∷ [])) ++ ([] ++ t) ≡ x ++ (w ++ (b ∷ t)) = simp append_assoc in
    let rest = pieces-neat apart (x ++ (w ++ b ∷ [])) [] t (ap (neat apart) whole ∙ n) in
    ap (λ ps. are_neat (kept_pieces (with_front w ps))) split
    ∙ filled-neat (trimmed (w ++ [])) (map trimmed (slice_split is_comma_byte t))
    (λ some. ap (λ (v : Text). neat true (trimmed v)) e ∙ piece-neat apart x w (b ∷ t) n (ap (λ (v : Text). has_bytes (trimmed v)) (sym e) ∙ some))
    (ap (λ ps. are_neat (kept_pieces ps)) (sym (front-none (slice_split is_comma_byte t) b t refl)) ∙ rest))
    (λ h.
    let split : slice_split is_comma_byte (b ∷ t) ≡ onto_first b (slice_split is_comma_byte t) = cond-false (is_comma_byte b) _ _ h in
    let whole : x ++ ((w ++ b ∷ []) ++ t) ≡ x ++ (w ++ (b ∷ t)) = ap (λ (u : Text). x ++ u) (append_assoc w (b ∷ []) t) in
    ap (λ ps. are_neat (kept_pieces (with_front w ps))) split
    ∙ ap (λ ps. are_neat (kept_pieces ps)) (front-onto w b (slice_split is_comma_byte t))
    ∙ pieces-neat apart x (w ++ b ∷ []) t (ap (neat apart) whole ∙ n))
    (cases_Bool (is_comma_byte b))

pub keywords-neat : (text : Text) → (has_bytes text ≡ true → neat true text ≡ true) → are_neat (written_keywords text) ≡ true
keywords-neat [] fit = refl
keywords-neat (b ∷ t) fit =
    ap (λ ps. are_neat (kept_pieces ps)) (sym (front-none (slice_split is_comma_byte (b ∷ t)) b (b ∷ t) refl))
    ∙ pieces-neat true [] [] (b ∷ t) (fit refl)

pub keywords_kept : (text : Text) → (has_bytes text ≡ true → are_plain_keywords text ≡ true) → read_keywords (written_keywords text) ≡ text
keywords_kept [] fit = refl
keywords_kept (b ∷ t) fit = eq-true (read_keywords (written_keywords (b ∷ t))) (b ∷ t) (fit refl)
