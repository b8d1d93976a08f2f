-- A field text is found from left to right.
use Rattle.std.proofs.Common.{◌≡◌, ℕ, ◌+◌, ◌<◌, eqb, drop, get_or, add-one, drop-cons, arith, Bool, true, false, not, ◌&&◌, List, [], ◌∷◌, ◌++◌, length, filter, refl, sym, ap, subst, ◌∙◌, ⊎_elim, if◌then◌else◌, append-nil, append_assoc}
use Rattle.std.proofs.lemmas.Bool.{cases_Bool, cond-true, cond-false, and_from, both_ways, eq-eqb, eqb-true}
use Rattle.std.specs.List.{join_with_byte}
use Rattle.bib_spec.specs.Bytes.{space}
use Rattle.bib_spec.specs.Text.{Text, is_space}
use Rattle.bib_spec.specs.Texts.{is_empty, words, onto_first, field_text}

-- What the bytes add to a field text, given whether the field text has begun, and whether white space came last.
abbrev pub more_text : Bool → Bool → Text → Text
more_text apart begun [] = []
more_text apart begun (b ∷ t) = if is_space b then more_text true begun t else (if apart && begun then space ∷ b ∷ more_text false true t else b ∷ more_text false true t)

abbrev filled : List Text → List Text
filled ws = filter (λ word. not (is_empty word)) ws

-- words, each with a space before it
abbrev after_word : List Text → Text
after_word [] = []
after_word (w ∷ ws) = space ∷ join_with_byte space (w ∷ ws)

abbrev first_word : List Text → Text
first_word [] = []
first_word (w ∷ ws) = w

abbrev other_words : List Text → List Text
other_words [] = []
other_words (w ∷ ws) = ws

join-word : (w : Text) (ws : List Text) → join_with_byte space (w ∷ ws) ≡ w ++ after_word ws
join-word w [] = sym (append-nil w)
join-word w (x ∷ xs) = refl

record MoreText (t : Text) : Type 0 where
  inside : more_text false true t ≡ first_word (words t) ++ after_word (filled (other_words (words t)))
  after : more_text true true t ≡ after_word (filled (words t))
  before : (apart : Bool) → more_text apart false t ≡ join_with_byte space (filled (words t))

onto : (b : ℕ) (u : Text) (ws : List Text) → u ≡ first_word ws ++ after_word (filled (other_words ws)) → (b ∷ u ≡ first_word (onto_first b ws) ++ after_word (filled (other_words (onto_first b ws)))) × (space ∷ b ∷ u ≡ after_word (filled (onto_first b ws))) × (b ∷ u ≡ join_with_byte space (filled (onto_first b ws)))
onto b u [] h = (ap (λ (x : Text). b ∷ x) h, ap (λ (x : Text). space ∷ b ∷ x) h, ap (λ (x : Text). b ∷ x) h)
onto b u (w ∷ ws) h =
    let e : b ∷ u ≡ join_with_byte space ((b ∷ w) ∷ filled ws) = ap (λ (x : Text). b ∷ x) h ∙ sym (join-word (b ∷ w) (filled ws)) in
    (ap (λ (x : Text). b ∷ x) h, ap (λ (x : Text). space ∷ x) e, e)

more_spaced : (b : ℕ) (t : Text) → MoreText t → is_space b ≡ true → MoreText (b ∷ t)
more_spaced b t m h = record {
  inside = rw h m.after;
  after = rw h m.after;
  before = λ apart. rw h (m.before true);
}

more_worded : (b : ℕ) (t : Text) → MoreText t → is_space b ≡ false → MoreText (b ∷ t)
more_worded b t m h =
    let o = onto b (more_text false true t) (words t) m.inside in
    record {
      inside = rw h o.0;
      after = rw h o.1;
      before = elim [ true ↦ rw h o.2 | false ↦ rw h o.2 ];
    }

more : (t : Text) → MoreText t
more [] = record { inside = refl; after = refl; before = elim [ true ↦ refl | false ↦ refl ] }
more (b ∷ t) = ⊎_elim (more_spaced b t (more t)) (more_worded b t (more t)) (cases_Bool (is_space b))

-- the whole, from the start
pub more_text-all : (t : Text) → more_text false false t ≡ field_text t
unfolding field_text
more_text-all t = (more t).before false

-- ---- the loop

abbrev pub is_begun : Text → Bool
is_begun t = not (is_empty t)

-- the text is the field text of the bytes before the rest; `apart` says whether white space came last
pub record InText (text : Text) (apart : Bool) (rest whole : Text) : Type 0 where
  pub joined : text ++ more_text apart (is_begun text) rest ≡ field_text whole

begun_push : (t : Text) (b : ℕ) → is_begun (t ++ b ∷ []) ≡ true
begun_push [] b = refl
begun_push (a ∷ t) b = refl

pub in_text_start : (whole : Text) → InText [] false whole whole
in_text_start whole = record { joined = more_text-all whole }

pub in_text_space : (text : Text) (apart : Bool) (b : ℕ) (rest whole : Text) → is_space b ≡ true → InText text apart (b ∷ rest) whole → InText text true rest whole
in_text_space text apart b rest whole h is = record { joined = ap (λ (u : Text). text ++ u) (sym (cond-true (is_space b) (more_text true (is_begun text) rest) _ h)) ∙ is.joined }

pub in_text_word : (text : Text) (apart : Bool) (b : ℕ) (rest whole : Text) → is_space b ≡ false → (apart && is_begun text) ≡ false → InText text apart (b ∷ rest) whole → InText (text ++ b ∷ []) false rest whole
in_text_word text apart b rest whole h joins is = record {
  joined =
      append_assoc text (b ∷ []) _
      ∙ ap (λ (u : Bool). text ++ b ∷ more_text false u rest) (begun_push text b)
      ∙ ap (λ (u : Text). text ++ u) (sym (cond-false (apart && is_begun text) _ _ joins) ∙ sym (cond-false (is_space b) (more_text true (is_begun text) rest) _ h))
      ∙ is.joined;
}

pub in_text_gap : (text : Text) (apart : Bool) (b : ℕ) (rest whole : Text) → is_space b ≡ false → (apart && is_begun text) ≡ true → InText text apart (b ∷ rest) whole → InText ((text ++ space ∷ []) ++ b ∷ []) false rest whole
in_text_gap text apart b rest whole h joins is = record {
  joined =
      append_assoc (text ++ space ∷ []) (b ∷ []) _
      ∙ append_assoc text (space ∷ []) _
      ∙ ap (λ (u : Bool). text ++ space ∷ b ∷ more_text false u rest) (begun_push (text ++ space ∷ []) b)
      ∙ ap (λ (u : Text). text ++ u) (sym (cond-true (apart && is_begun text) _ _ joins) ∙ sym (cond-false (is_space b) (more_text true (is_begun text) rest) _ h))
      ∙ is.joined;
}

pub in_text_all : (text : Text) (apart : Bool) (whole : Text) → InText text apart [] whole → text ≡ field_text whole
in_text_all text apart whole is = sym (append-nil text) ∙ is.joined

pub rest_is : (bytes : Text) (i : ℕ) → i < length bytes → drop i bytes ≡ get_or bytes i 0 ∷ drop (i + 1) bytes
rest_is bytes i inside = rw (add-one, drop-cons bytes i 0) refl

pub in_text_is : (t u : Text) (a b : Bool) (rest whole : Text) → t ≡ u → a ≡ b → InText u b rest whole → InText t a rest whole
in_text_is t u a b rest whole e f is = subst (λ (x : Text). InText x a rest whole) (sym e) (subst (λ (x : Bool). InText u x rest whole) (sym f) is)

at : (text : Text) (apart : Bool) (bytes : Text) (i : ℕ) → i < length bytes → InText text apart (drop i bytes) bytes → InText text apart (get_or bytes i 0 ∷ drop (i + 1) bytes) bytes
at text apart bytes i inside is = subst (λ (r : Text). InText text apart r bytes) (rest_is bytes i inside) is

pub step_space : (text : Text) (apart : Bool) (bytes : Text) (i : ℕ) → i < length bytes → is_space (get_or bytes i 0) ≡ true → InText text apart (drop i bytes) bytes → InText text true (drop (i + 1) bytes) bytes
step_space text apart bytes i inside h is = in_text_space text apart (get_or bytes i 0) (drop (i + 1) bytes) bytes h (at text apart bytes i inside is)

pub step_word : (text : Text) (apart : Bool) (bytes : Text) (i : ℕ) → i < length bytes → is_space (get_or bytes i 0) ≡ false → (apart && is_begun text) ≡ false → InText text apart (drop i bytes) bytes → InText (text ++ get_or bytes i 0 ∷ []) false (drop (i + 1) bytes) bytes
step_word text apart bytes i inside h joins is = in_text_word text apart (get_or bytes i 0) (drop (i + 1) bytes) bytes h joins (at text apart bytes i inside is)

pub step_gap : (text : Text) (apart : Bool) (bytes : Text) (i : ℕ) → i < length bytes → is_space (get_or bytes i 0) ≡ false → apart ≡ true → is_begun text ≡ true → InText text apart (drop i bytes) bytes → InText ((text ++ space ∷ []) ++ get_or bytes i 0 ∷ []) false (drop (i + 1) bytes) bytes
step_gap text apart bytes i inside h a b is = in_text_gap text apart (get_or bytes i 0) (drop (i + 1) bytes) bytes h (and_from apart (is_begun text) a b) (at text apart bytes i inside is)

pub begun_from_len : (t : Text) (n : ℕ) → n ≡ length t → eqb n 0 ≡ false → is_begun t ≡ true
begun_from_len [] n e h = absurd (both_ways (eqb n 0) h (eq-eqb n 0 e))
begun_from_len (b ∷ t) n e h = refl

pub not_begun_from_len : (t : Text) (n : ℕ) → n ≡ length t → eqb n 0 ≡ true → is_begun t ≡ false
not_begun_from_len [] n e h = refl
not_begun_from_len (b ∷ t) n e h = absurd (omega (arith, e, eqb-true n 0 h))
