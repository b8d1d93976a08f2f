-- Field texts are neat, and so are parts of neat texts.
use Rattle.ris_format.proofs.Words.{◌≡◌, ℕ, Bool, true, false, [], ◌∷◌, ◌++◌, refl, sym, ap, ◌∙◌, ⊎_elim, cases_Bool, cond-true, not-true, Text, is_space, field_text, neat, more_text, more_text-all, neat-space, neat-word, neat-gap, has_bytes}
use Rattle.std.proofs.Common.{not}

-- ---- field texts are neat

neat-more : (apart : Bool) (t : Text) → neat false (more_text apart true t) ≡ true
neat-more apart [] = refl
neat-more true (b ∷ t) =
    ⊎_elim
    (λ h. rw h (neat-more true t))
    (λ h. rw h (neat-gap (b ∷ more_text false true t) ∙ neat-word true b (more_text false true t) h ∙ neat-more false t))
    (cases_Bool (is_space b))
neat-more false (b ∷ t) =
    ⊎_elim
    (λ h. rw h (neat-more true t))
    (λ h. rw h (neat-word false b (more_text false true t) h ∙ neat-more false t))
    (cases_Bool (is_space b))

pub neat-whole : (apart : Bool) (t : Text) → has_bytes (more_text apart false t) ≡ true → neat true (more_text apart false t) ≡ true
neat-whole apart [] some = absurd (cc)
neat-whole true (b ∷ t) some =
    ⊎_elim
    (λ h. rw h (neat-whole true t (ap has_bytes (sym (cond-true (is_space b) (more_text true false t) _ h)) ∙ some)))
    (λ h. rw h (neat-word true b (more_text false true t) h ∙ neat-more false t))
    (cases_Bool (is_space b))
neat-whole false (b ∷ t) some =
    ⊎_elim
    (λ h. rw h (neat-whole true t (ap has_bytes (sym (cond-true (is_space b) (more_text true false t) _ h)) ∙ some)))
    (λ h. rw h (neat-word true b (more_text false true t) h ∙ neat-more false t))
    (cases_Bool (is_space b))

pub neat-field_text : (t : Text) → field_text t ≡ t → has_bytes t ≡ true → neat true t ≡ true
neat-field_text t own some =
    let e : more_text false false t ≡ t = more_text-all t ∙ own in
    ap (neat true) (sym e) ∙ neat-whole false t (ap has_bytes e ∙ some)

-- ---- parts of neat texts

-- the text begins with no white space, and with some byte
abbrev pub begins_plain : Text → Bool
begins_plain [] = false
begins_plain (b ∷ t) = not (is_space b)

abbrev pub ends_plain : Text → Bool
ends_plain [] = false
ends_plain (b ∷ []) = not (is_space b)
ends_plain (b ∷ c ∷ t) = ends_plain (c ∷ t)

-- after a neat text the rest is neat if it is neat inside a word
pub neat-append : (apart : Bool) (x y : Text) → neat apart x ≡ true → neat apart (x ++ y) ≡ neat false y
neat-append true [] y n = absurd (cc)
neat-append false [] y n = refl
neat-append apart (b ∷ x) y n =
    ⊎_elim
    (λ h. let s = neat-space apart b x h n in rw (h, s.0, s.1) (neat-append true x y s.2))
    (λ h. rw h (neat-append false x y (sym (neat-word apart b x h) ∙ n)))
    (cases_Bool (is_space b))

-- what follows a front of a neat text and begins with no white space is neat
pub neat-after : (apart : Bool) (x z : Text) → neat apart (x ++ z) ≡ true → begins_plain z ≡ true → neat true z ≡ true
neat-after apart [] [] n p = absurd (cc)
neat-after apart [] (b ∷ z) n p =
    let h = not-true (is_space b) p in
    neat-word true b z h ∙ sym (neat-word apart b z h) ∙ n
neat-after apart (b ∷ x) z n p =
    ⊎_elim
    (λ h. neat-after true x z (neat-space apart b (x ++ z) h n).2 p)
    (λ h. neat-after false x z (sym (neat-word apart b (x ++ z) h) ∙ n) p)
    (cases_Bool (is_space b))

-- a front of a neat text that ends with no white space is neat
pub neat-front : (apart : Bool) (v y : Text) → neat apart (v ++ y) ≡ true → ends_plain v ≡ true → neat apart v ≡ true
neat-front apart [] y n p = absurd (cc)
neat-front apart (b ∷ []) y n p = neat-word apart b [] (not-true (is_space b) p)
neat-front apart (b ∷ c ∷ v) y n p =
    ⊎_elim
    (λ h. let s = neat-space apart b ((c ∷ v) ++ y) h n in rw (h, s.0, s.1) (neat-front true (c ∷ v) y s.2 p))
    (λ h. rw h (neat-front false (c ∷ v) y (sym (neat-word apart b ((c ∷ v) ++ y) h) ∙ n) p))
    (cases_Bool (is_space b))

pub begins-append : (v y : Text) → begins_plain v ≡ true → begins_plain (v ++ y) ≡ true
begins-append [] y p = absurd (cc)
begins-append (b ∷ v) y p = p

-- a stretch of a neat text with no white space at its ends is neat
pub neat-slice : (apart : Bool) (x v y : Text) → neat apart (x ++ (v ++ y)) ≡ true → begins_plain v ≡ true → ends_plain v ≡ true → neat true v ≡ true
neat-slice apart x v y n front end = neat-front true v y (neat-after apart x (v ++ y) n (begins-append v y front)) end

-- a neat text begins and ends with no white space, and is not empty
pub neat-begins : (t : Text) → neat true t ≡ true → begins_plain t ≡ true
neat-begins [] n = absurd (cc)
neat-begins (b ∷ t) n =
    ⊎_elim
    (λ h. let s = neat-space true b t h n in absurd (cc))
    (λ h. ap not h)
    (cases_Bool (is_space b))

pub neat-ends : (apart : Bool) (b : ℕ) (t : Text) → neat apart (b ∷ t) ≡ true → ends_plain (b ∷ t) ≡ true
neat-ends apart b [] n =
    ⊎_elim
    (λ h. let s = neat-space apart b [] h n in absurd (cc))
    (λ h. ap not h)
    (cases_Bool (is_space b))
neat-ends apart b (c ∷ t) n =
    ⊎_elim
    (λ h. neat-ends true c t (neat-space apart b (c ∷ t) h n).2)
    (λ h. neat-ends false c t (sym (neat-word apart b (c ∷ t) h) ∙ n))
    (cases_Bool (is_space b))

pub neat-has_bytes : (t : Text) → neat true t ≡ true → has_bytes t ≡ true
neat-has_bytes [] n = absurd (cc)
neat-has_bytes (b ∷ t) n = refl
