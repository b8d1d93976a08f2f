-- What is read of a template is one, and what is a template is read as that one.
use Rattle.bib_names.proofs.Words.{◌≡◌, ℕ, suc, ◌+◌, ◌<◌, Bool, true, false, cond, eqb, List, [], ◌∷◌, ◌++◌, length, take, drop, refl, sym, ap, ◌∙◌, subst, arith, append-nil, ◌&&◌, prefix_len, flat_map, list_all, take-append-drop, length-append, eqb-true, and_parts, not-true, Text, Pattern, Part}
use Rattle.bib_names.proofs.Words.{Von, Last, Initials, Group}
use Rattle.std.proofs.Common.{append_assoc, Option, Some, None}
use Rattle.std.specs.Prelude.{not, option_map, option_and_then}
use Rattle.std.specs.List.{take_while, AllByRecursion}
use Rattle.std.specs.Char.{is_ascii_alphabetic}
use Rattle.std.proofs.lemmas.Bool.{ne_eqb}
use Rattle.std.proofs.lemmas.Grind.{flat_map-append}
use Rattle.std.proofs.Math.Seq.{take-append_seam, drop-append_seam}
use Rattle.std.proofs.lemmas.Option.{none-some, same_Some}
use Rattle.bib_spec.specs.Text.{does_not_begin_with, after_run}
use Rattle.bib_names.specs.Template.{is_no_brace, is_ornament, letter_of, letters_of, between_bytes, group_inside, group_bytes, spelling, is_between, IsGroup, IsTemplate, OneTemplate}
use Rattle.bib_names.specs.TemplateReading.{after_byte, part_named, form_at, letters_at, between_inside, between_at, group_closed, group_after_between, group_after_letters, group_after, group_at}
use Rattle.bib_names.specs.declared.template.Part.TheVariants.{First, Jr}
use Rattle.bib_names.specs.declared.template.Form.{Form}
use Rattle.bib_names.specs.declared.template.Form.TheVariants.{Words}
use Rattle.bib_scan.proofs.RunLaws.{run_stops}

-- ---- longest runs of bytes

run_len : (p : ℕ → Bool) (xs ys : Text) → list_all p xs ≡ true → does_not_begin_with p ys ≡ true → prefix_len p (xs ++ ys) ≡ length xs
run_len p [] [] all stops = refl
run_len p [] (y ∷ ys) all stops = rw (not-true (p y) stops) refl
run_len p (x ∷ xs) ys all stops =
    let parts = and_parts (p x) (list_all p xs) all in
    let rest = run_len p xs ys parts.1 stops in
    rw parts.0 (omega (arith, rest))

run_front : (p : ℕ → Bool) (xs ys : Text) → list_all p xs ≡ true → does_not_begin_with p ys ≡ true → take_while p (xs ++ ys) ≡ xs
run_front p xs ys all stops = ap (λ n. take n (xs ++ ys)) (run_len p xs ys all stops) ∙ take-append_seam xs ys

run_after : (p : ℕ → Bool) (xs ys : Text) → list_all p xs ≡ true → does_not_begin_with p ys ≡ true → after_run p (xs ++ ys) ≡ ys
run_after p xs ys all stops = ap (λ n. drop n (xs ++ ys)) (run_len p xs ys all stops) ∙ drop-append_seam xs ys

run_whole : (p : ℕ → Bool) (t : Text) → t ≡ take_while p t ++ after_run p t
run_whole p t = sym (take-append-drop (prefix_len p t) t)

run_passes : (p : ℕ → Bool) (t : Text) → list_all p (take_while p t) ≡ true
run_passes p [] = refl
run_passes p (x ∷ xs) = go (p x) refl (run_passes p xs)
  where
    go : (b : Bool) → p x ≡ b → list_all p (take_while p xs) ≡ true → list_all p (take (cond b (1 + prefix_len p xs) 0) (x ∷ xs)) ≡ true
    go false e later = refl
    go true e later = let n : 1 + prefix_len p xs ≡ suc (prefix_len p xs) = omega arith in ap (λ m. list_all p (take m (x ∷ xs))) n ∙ ap (λ b. b && list_all p (take_while p xs)) e ∙ later

-- ---- what was found

map_some : {A B : Type 0} (f : A → B) (o : Option A) (y : B) → option_map f o ≡ Some y → (x : A) × (o ≡ Some x) × (f x ≡ y)
map_some f None y e = absurd (cc)
map_some f (Some x) y e = (x, refl, cc)

then_some : {A B : Type 0} (f : A → Option B) (o : Option A) (y : B) → option_and_then f o ≡ Some y → (x : A) × (o ≡ Some x) × (f x ≡ Some y)
then_some f None y e = absurd (cc)
then_some f (Some x) y e = (x, refl, e)

pub after_byte-found : (byte : ℕ) (t rest : Text) → after_byte byte t ≡ Some rest → t ≡ byte ∷ rest
after_byte-found byte [] rest e = absurd (cc)
after_byte-found byte (x ∷ xs) rest e = go (eqb x byte) refl e
  where
    go : (b : Bool) → eqb x byte ≡ b → cond b (Some xs) None ≡ Some rest → x ∷ xs ≡ byte ∷ rest
    go false h e = absurd (cc)
    go true h e = let same : xs ≡ rest = cc in ap (λ y. y ∷ xs) (eqb-true x byte h) ∙ ap (λ t. byte ∷ t) same

part_named-found : (letter : ℕ) (part : Part) → part_named letter ≡ Some part → letter ≡ letter_of part
part_named-found letter part e = go (eqb letter 102) (eqb letter 118) (eqb letter 108) (eqb letter 106) refl refl refl refl e
  where
    go : (f v l j : Bool) → eqb letter 102 ≡ f → eqb letter 118 ≡ v → eqb letter 108 ≡ l → eqb letter 106 ≡ j
        → cond f (Some First) (cond v (Some Von) (cond l (Some Last) (cond j (Some Jr) None))) ≡ Some part → letter ≡ letter_of part
    go true v l j hf hv hl hj e = let same : First ≡ part = cc in eqb-true letter 102 hf ∙ ap letter_of same
    go false true l j hf hv hl hj e = let same : Von ≡ part = cc in eqb-true letter 118 hv ∙ ap letter_of same
    go false false true j hf hv hl hj e = let same : Last ≡ part = cc in eqb-true letter 108 hl ∙ ap letter_of same
    go false false false true hf hv hl hj e = let same : Jr ≡ part = cc in eqb-true letter 106 hj ∙ ap letter_of same
    go false false false false hf hv hl hj e = absurd (cc)

form_at-found : (part : Part) (letter : ℕ) (t : Text) → letter ≡ letter_of part → letter ∷ t ≡ letters_of (form_at part letter t).0 (form_at part letter t).1 ++ (form_at part letter t).2
form_at-found part letter [] is = ap (λ l. l ∷ []) is
form_at-found part letter (next ∷ after) is = go (eqb next letter) refl
  where
    found : Part × Form × Text → Type 0
    found f = letter ∷ next ∷ after ≡ letters_of f.0 f.1 ++ f.2

    go : (b : Bool) → eqb next letter ≡ b → found (cond b (part, Words, after) (part, Initials, next ∷ after))
    go true h = ap (λ n. letter ∷ n ∷ after) (eqb-true next letter h) ∙ ap (λ l. l ∷ l ∷ after) is
    go false h = ap (λ l. l ∷ next ∷ after) is

letters_at-found : (t : Text) (l : Part × Form × Text) → letters_at t ≡ Some l → t ≡ letters_of l.0 l.1 ++ l.2
letters_at-found [] l e = absurd (cc)
letters_at-found (letter ∷ rest) l e =
    let named = map_some (λ part. form_at part letter rest) (part_named letter) l e in
    subst (λ (f : Part × Form × Text). letter ∷ rest ≡ letters_of f.0 f.1 ++ f.2) named.2
    (form_at-found named.0 letter rest (part_named-found letter named.0 named.1))

-- the text between words has no brace, and what follows it was found
AreBetween : Text → Option Text × Text → Type 0
AreBetween t b = (is_between b.0 ≡ true) × (t ≡ between_bytes b.0 ++ b.1)

between_inside-found : (inside : Text) (b : Option Text × Text) → between_inside inside ≡ Some b → AreBetween (123 ∷ inside) b
unfolding AreBetween
between_inside-found inside b e =
    let closed = map_some (λ after. (Some (take_while is_no_brace inside), after)) (after_byte 125 (after_run is_no_brace inside)) b e in
    let between = take_while is_no_brace inside in
    let after = closed.0 in
    let rest : after_run is_no_brace inside ≡ 125 ∷ after = after_byte-found 125 (after_run is_no_brace inside) after closed.1 in
    let whole : inside ≡ between ++ 125 ∷ after = run_whole is_no_brace inside ∙ ap (λ t. between ++ t) rest in
    let joined : between ++ 125 ∷ after ≡ (between ++ 125 ∷ []) ++ after = simp append_assoc in
    subst (λ (p : Option Text × Text). (is_between p.0 ≡ true) × (123 ∷ inside ≡ between_bytes p.0 ++ p.1)) closed.2
    (run_passes is_no_brace inside, ap (λ t. 123 ∷ t) (whole ∙ joined))

between_at-found : (t : Text) (b : Option Text × Text) → between_at t ≡ Some b → AreBetween t b
unfolding AreBetween
between_at-found [] b e = let same : (None, []) ≡ b = cc in subst (λ (p : Option Text × Text). (is_between p.0 ≡ true) × ([] ≡ between_bytes p.0 ++ p.1)) same (refl, refl)
between_at-found (first ∷ rest) b e = go (eqb first 123) refl e
  where
    go : (x : Bool) → eqb first 123 ≡ x → cond x (between_inside rest) (Some (None, first ∷ rest)) ≡ Some b → (is_between b.0 ≡ true) × (first ∷ rest ≡ between_bytes b.0 ++ b.1)
    go true h e = subst (λ n. (is_between b.0 ≡ true) × (n ∷ rest ≡ between_bytes b.0 ++ b.1)) (sym (eqb-true first 123 h)) (between_inside-found rest b e)
    go false h e = let same : (None, first ∷ rest) ≡ b = cc in subst (λ (p : Option Text × Text). (is_between p.0 ≡ true) × (first ∷ rest ≡ between_bytes p.0 ++ p.1)) same (refl, refl)

-- ---- a group that was found

-- the group is one of the grammar, and what follows it ended the text after it
pub record IsFound (inside : Text) (g : Group) (rest : Text) : Type 0 where
  pub group : IsGroup g
  pub spelled : inside ≡ group_inside g ++ rest
  pub stops : does_not_begin_with is_no_brace rest ≡ true

found_after : (pre post after : Text) (l : Part × Form × Text) (b : Option Text × Text) (inside : Text) → list_all is_ornament pre ≡ true → list_all is_ornament post ≡ true
    → inside ≡ pre ++ (letters_of l.0 l.1 ++ l.2) → AreBetween l.2 b → b.1 ≡ post ++ 125 ∷ after
    → IsFound inside (record { pre = pre; part = l.0; form = l.1; between = b.0; post = post; trail = take_while is_no_brace after }) (after_run is_no_brace after)
unfolding AreBetween
found_after pre post after l b inside pre_is post_is whole in_between rest =
    let trail = take_while is_no_brace after in
    let more = after_run is_no_brace after in
    let apart : pre ++ (letters_of l.0 l.1 ++ (between_bytes b.0 ++ (post ++ (125 ∷ (trail ++ more))))) ≡ (pre ++ (letters_of l.0 l.1 ++ (between_bytes b.0 ++ (post ++ (125 ∷ trail))))) ++ more = simp append_assoc in
    record {
      group = record { pre = pre_is; between = in_between.0; post = post_is; trail = run_passes is_no_brace after };
      spelled = whole ∙ ap (λ t. pre ++ (letters_of l.0 l.1 ++ t)) (in_between.1 ∙ ap (λ t. between_bytes b.0 ++ t) (rest ∙ ap (λ t. post ++ 125 ∷ t) (run_whole is_no_brace after))) ∙ apart;
      stops = run_stops is_no_brace after;
    }

closed_found : (inside pre : Text) (l : Part × Form × Text) (b : Option Text × Text) (g : Group) (rest : Text) → list_all is_ornament pre ≡ true → inside ≡ pre ++ (letters_of l.0 l.1 ++ l.2) → AreBetween l.2 b
    → group_after_between pre l b ≡ Some (g, rest) → IsFound inside g rest
closed_found inside pre l b g rest pre_is whole in_between e =
    let post = take_while is_ornament b.1 in
    let t = after_run is_ornament b.1 in
    let closed = map_some (λ after. (record { pre = pre; part = l.0; form = l.1; between = b.0; post = post; trail = take_while is_no_brace after }, after_run is_no_brace after)) (after_byte 125 t) (g, rest) e in
    let there : b.1 ≡ post ++ 125 ∷ closed.0 = run_whole is_ornament b.1 ∙ ap (λ u. post ++ u) (after_byte-found 125 t closed.0 closed.1) in
    subst (λ (p : Group × Text). IsFound inside p.0 p.1) closed.2
    (found_after pre post closed.0 l b inside pre_is (run_passes is_ornament b.1) whole in_between there)

pub group_at-found : (inside : Text) (g : Group) (rest : Text) → group_at inside ≡ Some (g, rest) → IsFound inside g rest
group_at-found inside g rest e =
    let pre = take_while is_ornament inside in
    let t = after_run is_ornament inside in
    let letters = then_some (group_after_letters pre) (letters_at t) (g, rest) e in
    let between = then_some (group_after_between pre letters.0) (between_at letters.0.2) (g, rest) letters.2 in
    let whole = run_whole is_ornament inside ∙ ap (λ u. pre ++ u) (letters_at-found t letters.0 letters.1) in
    closed_found inside pre letters.0 between.0 g rest (run_passes is_ornament inside) whole (between_at-found letters.0.2 between.0 between.1) between.2

-- ---- a group that is there

ornament_no_letter : (b : ℕ) → is_ornament b ≡ true → is_ascii_alphabetic b ≡ false
ornament_no_letter b passes = not-true (is_ascii_alphabetic b) (and_parts (is_no_brace b) (not (is_ascii_alphabetic b)) passes).1

ornament_no_open : (b : ℕ) → is_ornament b ≡ true → eqb b 123 ≡ false
ornament_no_open b passes = ne_eqb b 123 (λ e. let computed : is_ornament 123 ≡ true = ap is_ornament (sym e) ∙ passes in absurd (cc))

letter_no_ornament : (part : Part) → is_ornament (letter_of part) ≡ false
letter_no_ornament First = refl
letter_no_ornament Von = refl
letter_no_ornament Last = refl
letter_no_ornament Jr = refl

letter_is_letter : (part : Part) → is_ascii_alphabetic (letter_of part) ≡ true
letter_is_letter First = refl
letter_is_letter Von = refl
letter_is_letter Last = refl
letter_is_letter Jr = refl

named_by_letter : (part : Part) → part_named (letter_of part) ≡ Some part
named_by_letter First = refl
named_by_letter Von = refl
named_by_letter Last = refl
named_by_letter Jr = refl

letters_stop : (part : Part) (form : Form) (t : Text) → does_not_begin_with is_ornament (letters_of part form ++ t) ≡ true
letters_stop part Initials t = ap not (letter_no_ornament part)
letters_stop part Words t = ap not (letter_no_ornament part)

-- no letter follows the letters of a group
ornament_after : (post t : Text) → list_all is_ornament post ≡ true → does_not_begin_with is_ascii_alphabetic (post ++ 125 ∷ t) ≡ true
ornament_after [] t all = refl
ornament_after (x ∷ xs) t all = ap not (ornament_no_letter x (and_parts (is_ornament x) (list_all is_ornament xs) all).0)

no_letter_after : (between : Option Text) (post t : Text) → list_all is_ornament post ≡ true → does_not_begin_with is_ascii_alphabetic (between_bytes between ++ (post ++ 125 ∷ t)) ≡ true
no_letter_after None post t all = ornament_after post t all
no_letter_after (Some between) post t all = refl

form_at-one : (part : Part) (t : Text) → does_not_begin_with is_ascii_alphabetic t ≡ true → form_at part (letter_of part) t ≡ (part, Initials, t)
form_at-one part [] none = refl
form_at-one part (next ∷ after) none =
    let other : eqb next (letter_of part) ≡ false = ne_eqb next (letter_of part) (λ e. let computed : not true ≡ true = ap not (sym (letter_is_letter part)) ∙ ap (λ n. not (is_ascii_alphabetic n)) (sym e) ∙ none in absurd (cc)) in
    ap (λ b. cond b (part, Words, after) (part, Initials, next ∷ after)) other

letter_twice : (part : Part) → eqb (letter_of part) (letter_of part) ≡ true
letter_twice First = refl
letter_twice Von = refl
letter_twice Last = refl
letter_twice Jr = refl

letters_at-there : (part : Part) (form : Form) (t : Text) → does_not_begin_with is_ascii_alphabetic t ≡ true → letters_at (letters_of part form ++ t) ≡ Some (part, form, t)
letters_at-there part Initials t none =
    ap (option_map (λ p. form_at p (letter_of part) t)) (named_by_letter part) ∙ ap (λ f. Some f) (form_at-one part t none)
letters_at-there part Words t none =
    ap (option_map (λ p. form_at p (letter_of part) (letter_of part ∷ t))) (named_by_letter part)
    ∙ ap (λ b. Some (cond b (part, Words, t) (part, Initials, letter_of part ∷ t))) (letter_twice part)

between_at-none : (post t : Text) → list_all is_ornament post ≡ true → between_at (post ++ 125 ∷ t) ≡ Some (None, post ++ 125 ∷ t)
between_at-none [] t all = refl
between_at-none (x ∷ xs) t all =
    ap (λ b. cond b (between_inside (xs ++ 125 ∷ t)) (Some (None, x ∷ xs ++ 125 ∷ t))) (ornament_no_open x (and_parts (is_ornament x) (list_all is_ornament xs) all).0)

between_at-there : (between : Option Text) (post t : Text) → is_between between ≡ true → list_all is_ornament post ≡ true → between_at (between_bytes between ++ (post ++ 125 ∷ t)) ≡ Some (between, post ++ 125 ∷ t)
between_at-there None post t plain all = between_at-none post t all
between_at-there (Some between) post t plain all =
    let rest = post ++ 125 ∷ t in
    let apart : (between ++ 125 ∷ []) ++ rest ≡ between ++ 125 ∷ rest = simp append_assoc in
    let front = run_front is_no_brace between (125 ∷ rest) plain refl in
    let after = run_after is_no_brace between (125 ∷ rest) plain refl in
    ap between_inside apart
    ∙ ap (λ t. option_map (λ after. (Some (take_while is_no_brace (between ++ 125 ∷ rest)), after)) (after_byte 125 t)) after
    ∙ ap (λ t. Some (Some t, rest)) front

pub group_at-there : (g : Group) (rest : Text) → IsGroup g → does_not_begin_with is_no_brace rest ≡ true → group_at (group_inside g ++ rest) ≡ Some (g, rest)
group_at-there g rest is stops =
    let e5 = g.trail ++ rest in
    let e4 = 125 ∷ e5 in
    let e3 = g.post ++ e4 in
    let e2 = between_bytes g.between ++ e3 in
    let e1 = letters_of g.part g.form ++ e2 in
    let e0 = g.pre ++ e1 in
    let l : Part × Form × Text = (g.part, g.form, e2) in
    let apart : group_inside g ++ rest ≡ e0 = simp append_assoc in
    let pre = run_front is_ornament g.pre e1 is.pre (letters_stop g.part g.form e2) in
    let after_pre = run_after is_ornament g.pre e1 is.pre (letters_stop g.part g.form e2) in
    let letters = letters_at-there g.part g.form e2 (no_letter_after g.between g.post e5 is.post) in
    let between = between_at-there g.between g.post e5 is.between is.post in
    let post = run_front is_ornament g.post e4 is.post refl in
    let after_post = run_after is_ornament g.post e4 is.post refl in
    let trail = run_front is_no_brace g.trail rest is.trail stops in
    let after_trail = run_after is_no_brace g.trail rest is.trail stops in
    ap group_at apart
    ∙ ap (λ p. group_after p (after_run is_ornament e0)) pre
    ∙ ap (group_after g.pre) after_pre
    ∙ ap (option_and_then (group_after_letters g.pre)) letters
    ∙ ap (option_and_then (group_after_between g.pre l)) between
    ∙ ap (λ p. group_closed g.pre g.part g.form g.between p (after_run is_ornament e3)) post
    ∙ ap (group_closed g.pre g.part g.form g.between g.post) after_post
    ∙ ap (λ (t : Text). Some (record { pre = g.pre; part = g.part; form = g.form; between = g.between; post = g.post; trail = t }, after_run is_no_brace e5)) trail
    ∙ ap (λ (t : Text). Some (g, t)) after_trail

-- ---- templates

groups_stop : (gs : List Group) → does_not_begin_with is_no_brace (flat_map group_bytes gs) ≡ true
groups_stop [] = refl
groups_stop (g ∷ gs) = refl

-- the bytes are spelled by these and the rest, and each template that they spell begins with these
pub record IsReadSoFar (bytes front : Text) (groups : List Group) (rest : Text) : Type 0 where
  pub spelled : bytes ≡ front ++ (flat_map group_bytes groups ++ rest)
  pub plain : list_all is_no_brace front ≡ true
  pub sound : AllByRecursion IsGroup groups
  pub only : (t : Pattern) → IsTemplate t → bytes ≡ spelling t → (more : List Group) × (t ≡ record { front = front; groups = groups ++ more }) × AllByRecursion IsGroup more × (rest ≡ flat_map group_bytes more)

pub read_front : (bytes : Text) → IsReadSoFar bytes (take_while is_no_brace bytes) [] (after_run is_no_brace bytes)
read_front bytes = record {
  spelled = run_whole is_no_brace bytes;
  plain = run_passes is_no_brace bytes;
  sound = tt;
  only = λ t is e.
      let front = ap (take_while is_no_brace) e ∙ run_front is_no_brace t.front (flat_map group_bytes t.groups) is.front (groups_stop t.groups) in
      let rest = ap (after_run is_no_brace) e ∙ run_after is_no_brace t.front (flat_map group_bytes t.groups) is.front (groups_stop t.groups) in
      (t.groups, ap (λ (f : Text). record { front = f; groups = t.groups }) (sym front), is.groups, rest);
}

-- where groups are left, the first of them is what was found
first_found : (inside : Text) (more : List Group) → AllByRecursion IsGroup more → 123 ∷ inside ≡ flat_map group_bytes more → (g : Group) × (gs : List Group) × (more ≡ g ∷ gs) × AllByRecursion IsGroup gs × (group_at inside ≡ Some (g, flat_map group_bytes gs))
first_found inside [] all e = absurd (cc)
first_found inside (g ∷ gs) all e =
    let same : inside ≡ group_inside g ++ flat_map group_bytes gs = ap (drop 1) e in
    (g, gs, refl, all.1, ap group_at same ∙ group_at-there g (flat_map group_bytes gs) all.0 (groups_stop gs))

-- one more that holds
all_more : (P : Group → Type 0) (xs : List Group) (x : Group) → AllByRecursion P xs → P x → AllByRecursion P (xs ++ x ∷ [])
all_more P [] x all here = (here, tt)
all_more P (y ∷ ys) x all here = (all.0, all_more P ys x all.1 here)

pub read_more : (bytes front : Text) (groups : List Group) (inside : Text) (g : Group) (after : Text) → IsReadSoFar bytes front groups (123 ∷ inside) → group_at inside ≡ Some (g, after) → IsReadSoFar bytes front (groups ++ g ∷ []) after
read_more bytes front groups inside g after far is =
    let found = group_at-found inside g after is in
    let one : flat_map group_bytes (groups ++ g ∷ []) ≡ flat_map group_bytes groups ++ group_bytes g = flat_map-append group_bytes groups (g ∷ []) ∙ ap (λ t. flat_map group_bytes groups ++ t) (append-nil (group_bytes g)) in
    let apart : flat_map group_bytes groups ++ (group_bytes g ++ after) ≡ (flat_map group_bytes groups ++ group_bytes g) ++ after = sym (append_assoc (flat_map group_bytes groups) (group_bytes g) after) in
    record {
      spelled = far.spelled ∙ ap (λ t. front ++ (flat_map group_bytes groups ++ (123 ∷ t))) found.spelled ∙ ap (λ t. front ++ t) (apart ∙ ap (λ t. t ++ after) (sym one));
      plain = far.plain;
      sound = all_more IsGroup groups g far.sound found.group;
      only = λ t ist e.
          let told = far.only t ist e in
          let first = first_found inside told.0 told.2 told.3 in
          let pair : (first.0, flat_map group_bytes first.1) ≡ (g, after) = same_Some (first.0, flat_map group_bytes first.1) (g, after) (sym first.4 ∙ is) in
          let same : first.0 ≡ g = ap (λ (p : Group × Text). p.0) pair in
          let rest : flat_map group_bytes first.1 ≡ after = ap (λ (p : Group × Text). p.1) pair in
          let groups_are : groups ++ told.0 ≡ (groups ++ g ∷ []) ++ first.1 = ap (λ gs. groups ++ gs) (first.2 ∙ ap (λ h. h ∷ first.1) same) ∙ sym (append_assoc groups (g ∷ []) first.1) in
          (first.1, told.1 ∙ ap (λ gs. record { front = front; groups = gs }) groups_are, first.3, sym rest);
    }

-- a brace opens where a group must be, and there is no group
pub read_stuck : (bytes front : Text) (groups : List Group) (inside : Text) → IsReadSoFar bytes front groups (123 ∷ inside) → group_at inside ≡ None → (t : Pattern) → IsTemplate t → bytes ≡ spelling t → ⊥
read_stuck bytes front groups inside far none t is e =
    let told = far.only t is e in
    let first = first_found inside told.0 told.2 told.3 in
    none-some (first.0, flat_map group_bytes first.1) (sym none ∙ first.4)

-- bytes are left that begin no group
pub read_left : (bytes front : Text) (groups : List Group) (rest : Text) → IsReadSoFar bytes front groups rest → after_byte 123 rest ≡ None → (rest ≡ [] → ⊥) → (t : Pattern) → IsTemplate t → bytes ≡ spelling t → ⊥
read_left bytes front groups rest far none some t is e =
    let told = far.only t is e in go told.0 told.3
  where
    go : (more : List Group) → rest ≡ flat_map group_bytes more → ⊥
    go [] same = some same
    go (g ∷ gs) same = let h = ap (after_byte 123) same in absurd (cc)

-- a group takes at least a byte
pub length-after : (rest inside : Text) (g : Group) (after : Text) → rest ≡ 123 ∷ inside → group_at inside ≡ Some (g, after) → length after < length rest
length-after rest inside g after is found =
    let spelled = ap length (group_at-found inside g after found).spelled ∙ length-append (group_inside g) after in
    let whole = ap length is in
    omega (arith, spelled, whole)

pub not_empty : (t : Text) → eqb (length t) 0 ≡ false → t ≡ [] → ⊥
not_empty t some e = let none = ap (λ u. eqb (length u) 0) e in absurd (cc)

-- ---- one template

one_groups : (gs hs : List Group) → AllByRecursion IsGroup gs → AllByRecursion IsGroup hs → flat_map group_bytes gs ≡ flat_map group_bytes hs → gs ≡ hs
one_groups [] [] all also e = refl
one_groups [] (h ∷ hs) all also e = absurd (cc)
one_groups (g ∷ gs) [] all also e = absurd (cc)
one_groups (g ∷ gs) (h ∷ hs) all also e =
    let same : group_inside g ++ flat_map group_bytes gs ≡ group_inside h ++ flat_map group_bytes hs = ap (drop 1) e in
    let here = group_at-there g (flat_map group_bytes gs) all.0 (groups_stop gs) in
    let there = group_at-there h (flat_map group_bytes hs) also.0 (groups_stop hs) in
    let pair = same_Some (g, flat_map group_bytes gs) (h, flat_map group_bytes hs) (sym here ∙ ap group_at same ∙ there) in
    let rest = one_groups gs hs all.1 also.1 (ap (λ (p : Group × Text). p.1) pair) in
    ap (λ k. k ∷ gs) (ap (λ (p : Group × Text). p.0) pair) ∙ ap (λ ks. h ∷ ks) rest

pub one_template : OneTemplate
one_template s t is also e =
    let front_of = λ (u : Pattern) (k : IsTemplate u). run_front is_no_brace u.front (flat_map group_bytes u.groups) k.front (groups_stop u.groups) in
    let rest_of = λ (u : Pattern) (k : IsTemplate u). run_after is_no_brace u.front (flat_map group_bytes u.groups) k.front (groups_stop u.groups) in
    let front = sym (front_of s is) ∙ ap (take_while is_no_brace) e ∙ front_of t also in
    let rest = sym (rest_of s is) ∙ ap (after_run is_no_brace) e ∙ rest_of t also in
    let groups = one_groups s.groups t.groups is.groups also.groups rest in
    ap (λ (f : Text). record { front = f; groups = s.groups }) front ∙ ap (λ gs. record { front = t.front; groups = gs }) groups
