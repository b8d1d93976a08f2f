-- Names of the profile are read back.
use Rattle.ris_format.proofs.Words.{◌≡◌, ℕ, zero, suc, ◌≤◌, Bool, true, false, cond, ◌&&◌, ◌||◌, ltb, [], ◌∷◌, ◌++◌, length, take, refl, sym, ap, ◌∙◌, arith, append-nil, Some, None, flat_map, list_any, list_all, onto_first, AllByRecursion, option_map_or, bytes_eq, cond-true, cond-false, and_parts}
use Rattle.ris_format.proofs.Words.{and_from, or_from, le-ltb, take_all, Text, is_space, opened_before, closed_before, IsBalanced, eq-true, before_run, trimmed, between, Stretch, names_of, commas, parts_of, balances, Name, balances-yes, IsBalanced-from_test, neat, has_bytes, Person, person}
use Rattle.ris_format.proofs.Words.{with_comma, ris_name, is_somebody, taken_apart, is_broken, is_refused, written_person, written_name, written_people, name_pieces, is_opaque, read_name, read_people, is_plain_name, neat-word, neat-gap, pieces_from}
use Rattle.std.proofs.Common.{not, List, append_assoc, map}
use Rattle.std.specs.Prelude.{Option, is_none}
use Rattle.bib_spec.proofs.Balance.{balanced-append}
use Rattle.ris_format.specs.People.{in_braces, or_braces, bib_name, person_of, name_list, is_plain_person, are_plain_names}
use Rattle.bib_value.proofs.NeatTexts.{space_is}
use Rattle.ris_format.proofs.Neat.{neat-append, neat-slice}
use Rattle.ris_format.proofs.Trims.{trimmed-neat, after_run-yes}
use Rattle.ris_format.proofs.Values.{are_neat}
use Rattle.ris_format.proofs.Levels.{opens, closes}
use Rattle.ris_format.proofs.PartLaws.{IsPart, name-parts}
use Rattle.ris_format.proofs.NameScans.{pieces-are, pieces-alone, pieces-comma, commas-count, free, free-is, free-one, free-comma, is_nil, comma-plain}
use Rattle.ris_format.proofs.ListLaws.{IsListed, names-listed}

-- ---- balanced texts

pub level-of : (text : Text) → IsBalanced text → opens text ≡ closes text
level-of text is =
    let whole : take (length text) text ≡ text = take_all (length text) text (omega arith) in
    sym (ap opens whole) ∙ sym is.all_closed ∙ ap closes whole

balanced-comma : IsBalanced (44 ∷ 32 ∷ [])
balanced-comma = record { never_negative = none; all_closed = refl }
  where
    none : (n : ℕ) → closed_before (44 ∷ 32 ∷ []) n ≤ opened_before (44 ∷ 32 ∷ []) n
    none zero = omega arith
    none (suc zero) = omega arith
    none (suc (suc zero)) = omega arith
    none (suc (suc (suc n))) = omega arith

balanced-with : (x y : Text) → IsBalanced x → IsBalanced y → IsBalanced (with_comma x y)
balanced-with x y a b = balanced-append x ((44 ∷ 32 ∷ []) ++ y) a (balanced-append (44 ∷ 32 ∷ []) y balanced-comma b)

-- ---- a value is read as its pieces

map-trimmed : (ss : List Stretch) → map (λ (s : Stretch). trimmed s.text) ss ≡ map trimmed (map (λ (s : Stretch). s.text) ss)
map-trimmed [] = refl
map-trimmed (s ∷ ss) = ap (λ (us : List Text). trimmed s.text ∷ us) (map-trimmed ss)

pub name-pieces_are : (value : Text) → name_pieces value ≡ map trimmed (pieces_from 0 0 value)
name-pieces_are value = map-trimmed (between 1 value 0 (commas value)) ∙ ap (map trimmed) (pieces-are value)

read-as : (value : Text) (ps : List Text) → IsBalanced value → free false 0 0 value ≡ true → pieces_from 0 0 value ≡ ps → length ps ≤ 3 → read_name value ≡ bib_name (person_of (map trimmed ps))
read-as value ps is uncut pieces few =
    let count = commas-count value ∙ refl in
    let len = ap length pieces in
    let plain : is_opaque value ≡ false = or_from (ltb 2 (length (commas value))) (ltb 1 (length (names_of value))) (le-ltb 2 (length (commas value)) (omega (arith, count, len))) (free-one value uncut) in
    let named : name_pieces value ≡ map trimmed ps = map-trimmed (between 1 value 0 (commas value)) ∙ ap (map trimmed) (pieces-are value ∙ pieces) in
    cond-true (balances value) _ value (balances-yes value is)
    ∙ cond-false (is_opaque value) (in_braces value) _ plain
    ∙ ap (λ (us : List Text). bib_name (person_of us)) named

-- ---- parts and their margins

plain-neat : (x : Text) → (has_bytes x ≡ true → neat true x ≡ true) → trimmed x ≡ x
plain-neat [] fit = refl
plain-neat (b ∷ x) fit = trimmed-neat (b ∷ x) (fit refl)

spaced-trimmed : (x : Text) → (has_bytes x ≡ true → neat true x ≡ true) → trimmed (32 ∷ x) ≡ x
spaced-trimmed x fit = ap (before_run is_space) (after_run-yes is_space 32 x space_is) ∙ plain-neat x fit

pub neat-comma : (apart : Bool) (z : Text) → neat apart (44 ∷ 32 ∷ z) ≡ neat true z
neat-comma apart z = neat-word apart 44 (32 ∷ z) comma-plain ∙ neat-gap z

-- ---- a person of the profile

abbrev Neat : Text → Type 0
Neat x = has_bytes x ≡ true → neat true x ≡ true

three-neat : (v f j : Text) → neat true v ≡ true → Neat f → neat true j ≡ true → neat true (with_comma v (with_comma f j)) ≡ true
three-neat v [] j nv nf nj = neat-append true v (44 ∷ 32 ∷ 44 ∷ 32 ∷ j) nv ∙ neat-comma false (44 ∷ 32 ∷ j) ∙ neat-comma true j ∙ nj
three-neat v (b ∷ f) j nv nf nj =
    neat-append true v (44 ∷ 32 ∷ ((b ∷ f) ++ (44 ∷ 32 ∷ j))) nv ∙ neat-comma false ((b ∷ f) ++ (44 ∷ 32 ∷ j))
    ∙ neat-append true (b ∷ f) (44 ∷ 32 ∷ j) (nf refl) ∙ neat-comma false j ∙ nj

two-neat : (v f : Text) → neat true v ≡ true → neat true f ≡ true → neat true (with_comma v f) ≡ true
two-neat v f nv nf = neat-append true v (44 ∷ 32 ∷ f) nv ∙ neat-comma false f ∙ nf

pub record PersonIsKept (p : Person) : Type 0 where
  pub is : read_name (ris_name p) ≡ bib_name p
  pub neat_is : neat true (ris_name p) ≡ true

-- the parts of a person have these properties, and Last is not empty
record AreTexts (v f j : Text) : Type 0 where
  last : IsPart v
  first : IsPart f
  suffix : IsPart j
  last_neat : neat true v ≡ true
  first_neat : Neat f
  suffix_neat : Neat j
  last_uncut : free false 0 0 v ≡ true
  first_uncut : free true 0 0 f ≡ true
  suffix_uncut : free true 0 0 j ≡ true

abbrev of : Text → Text → Text → Person
of v f j = record { last = v; first = f; suffix = j }

person-three : (v f : Text) (b : ℕ) (j : Text) → AreTexts v f (b ∷ j) → PersonIsKept (of v f (b ∷ j))
person-three v f b j are =
    let value = with_comma v (with_comma f (b ∷ j)) in
    let uncut : free false 0 0 value ≡ true =
    free-comma false v (with_comma f (b ∷ j)) are.last.level
    ∙ ap (λ e. free false 0 0 v && e) (free-comma true f (b ∷ j) are.first.level)
    ∙ and_from (free false 0 0 v) _ are.last_uncut (and_from (free true 0 0 f) _ are.first_uncut are.suffix_uncut) in
    let pieces : pieces_from 0 0 value ≡ v ∷ (32 ∷ f) ∷ (32 ∷ b ∷ j) ∷ [] =
    pieces-comma v (32 ∷ (f ++ (44 ∷ 32 ∷ b ∷ j))) are.last.alone are.last.level
    ∙ ap (λ (us : List Text). v ∷ onto_first 32 us) (pieces-comma f (32 ∷ b ∷ j) are.first.alone are.first.level
    ∙ ap (λ (us : List Text). f ∷ onto_first 32 us) (pieces-alone (b ∷ j) are.suffix.alone)) in
    let read = read-as value (v ∷ (32 ∷ f) ∷ (32 ∷ b ∷ j) ∷ []) (balanced-with v (with_comma f (b ∷ j)) are.last.balanced (balanced-with f (b ∷ j) are.first.balanced are.suffix.balanced)) uncut pieces (omega arith) in
    record {
      is = read ∙ ap (λ (u : Text). bib_name (of u (trimmed (32 ∷ f)) (trimmed (32 ∷ b ∷ j)))) (trimmed-neat v are.last_neat)
          ∙ ap (λ (u : Text). bib_name (of v u (trimmed (32 ∷ b ∷ j)))) (spaced-trimmed f are.first_neat)
          ∙ ap (λ (u : Text). bib_name (of v f u)) (spaced-trimmed (b ∷ j) are.suffix_neat);
      neat_is = three-neat v f (b ∷ j) are.last_neat are.first_neat (are.suffix_neat refl);
    }

person-two : (v : Text) (b : ℕ) (f : Text) → AreTexts v (b ∷ f) [] → PersonIsKept (of v (b ∷ f) [])
person-two v b f are =
    let value = with_comma v (b ∷ f) in
    let uncut : free false 0 0 value ≡ true = free-comma false v (b ∷ f) are.last.level ∙ and_from (free false 0 0 v) _ are.last_uncut are.first_uncut in
    let pieces : pieces_from 0 0 value ≡ v ∷ (32 ∷ b ∷ f) ∷ [] =
    pieces-comma v (32 ∷ b ∷ f) are.last.alone are.last.level ∙ ap (λ (us : List Text). v ∷ onto_first 32 us) (pieces-alone (b ∷ f) are.first.alone) in
    let read = read-as value (v ∷ (32 ∷ b ∷ f) ∷ []) (balanced-with v (b ∷ f) are.last.balanced are.first.balanced) uncut pieces (omega arith) in
    record {
      is = read ∙ ap (λ (u : Text). bib_name (of u (trimmed (32 ∷ b ∷ f)) [])) (trimmed-neat v are.last_neat) ∙ ap (λ (u : Text). bib_name (of v u [])) (spaced-trimmed (b ∷ f) are.first_neat);
      neat_is = two-neat v (b ∷ f) are.last_neat (are.first_neat refl);
    }

person-one : (v : Text) → AreTexts v [] [] → PersonIsKept (of v [] [])
person-one v are =
    let read = read-as v (v ∷ []) are.last.balanced are.last_uncut (pieces-alone v are.last.alone) (omega arith) in
    record {
      is = read ∙ ap (λ (u : Text). bib_name (of u [] [])) (trimmed-neat v are.last_neat);
      neat_is = are.last_neat;
    }

person-kept : (v f j : Text) → AreTexts v f j → PersonIsKept (of v f j)
person-kept v f (b ∷ j) are = person-three v f b j are
person-kept v (b ∷ f) [] are = person-two v b f are
person-kept v [] [] are = person-one v are

-- ---- the parts of a name that is written as they say

neat-part : (x v y : Text) → neat true (x ++ (v ++ y)) ≡ true → IsPart v → Neat v
neat-part x v y n part some = let p = part.plain some in neat-slice true x v y n p.0 p.1

three-of : (v f : Text) (b : ℕ) (j : Text) → IsPart v → IsPart f → IsPart (b ∷ j) → has_bytes v ≡ true → neat true (with_comma v (with_comma (b ∷ j) (or_braces f))) ≡ true → free false 0 0 (with_comma v (with_comma (b ∷ j) (or_braces f))) ≡ true → AreTexts v f (b ∷ j)
three-of v f b j pv pf pj some n uncut =
    let rest = with_comma (b ∷ j) (or_braces f) in
    let u = and_parts (free false 0 0 v) (free true 0 0 rest) (sym (free-comma false v rest pv.level) ∙ uncut) in
    let w = and_parts (free true 0 0 (b ∷ j)) (free true 0 0 (or_braces f)) (sym (free-comma true (b ∷ j) (or_braces f) pj.level) ∙ u.1) in
    let to_suffix : (v ++ (44 ∷ 32 ∷ [])) ++ ((b ∷ j) ++ (44 ∷ 32 ∷ or_braces f)) ≡ with_comma v rest = append_assoc v (44 ∷ 32 ∷ []) ((b ∷ j) ++ (44 ∷ 32 ∷ or_braces f)) in
    record {
      last = pv;
      first = pf;
      suffix = pj;
      last_neat = neat-part [] v (44 ∷ 32 ∷ rest) n pv some;
      first_neat = first f pf n;
      suffix_neat = neat-part (v ++ (44 ∷ 32 ∷ [])) (b ∷ j) (44 ∷ 32 ∷ or_braces f) (ap (neat true) to_suffix ∙ n) pj;
      last_uncut = u.0;
      first_uncut = uncut_first f w.1;
      suffix_uncut = w.0;
    }
  where
    first : (f : Text) → IsPart f → neat true (with_comma v (with_comma (b ∷ j) (or_braces f))) ≡ true → Neat f
    first [] pf n some = absurd (cc)
    first (c ∷ f) pf n some =
        let to_first : (v ++ (44 ∷ 32 ∷ ((b ∷ j) ++ (44 ∷ 32 ∷ [])))) ++ ((c ∷ f) ++ []) ≡ with_comma v (with_comma (b ∷ j) (c ∷ f)) = simp (append_assoc, append-nil) in
        neat-part (v ++ (44 ∷ 32 ∷ ((b ∷ j) ++ (44 ∷ 32 ∷ [])))) (c ∷ f) [] (ap (neat true) to_first ∙ n) pf some

    uncut_first : (f : Text) → free true 0 0 (or_braces f) ≡ true → free true 0 0 f ≡ true
    uncut_first [] h = refl
    uncut_first (c ∷ f) h = h

two-of : (v : Text) (b : ℕ) (f : Text) → IsPart v → IsPart (b ∷ f) → IsPart [] → has_bytes v ≡ true → neat true (with_comma v (b ∷ f)) ≡ true → free false 0 0 (with_comma v (b ∷ f)) ≡ true → AreTexts v (b ∷ f) []
two-of v b f pv pf pj some n uncut =
    let u = and_parts (free false 0 0 v) (free true 0 0 (b ∷ f)) (sym (free-comma false v (b ∷ f) pv.level) ∙ uncut) in
    let to_first : (v ++ (44 ∷ 32 ∷ [])) ++ ((b ∷ f) ++ []) ≡ with_comma v (b ∷ f) = simp (append_assoc, append-nil) in
    record {
      last = pv;
      first = pf;
      suffix = pj;
      last_neat = neat-part [] v (44 ∷ 32 ∷ b ∷ f) n pv some;
      first_neat = neat-part (v ++ (44 ∷ 32 ∷ [])) (b ∷ f) [] (ap (neat true) to_first ∙ n) pf;
      suffix_neat = λ h. absurd (cc);
      last_uncut = u.0;
      first_uncut = u.1;
      suffix_uncut = refl;
    }

texts-of : (v f j : Text) → IsPart v → IsPart f → IsPart j → has_bytes v ≡ true → neat true (bib_name (of v f j)) ≡ true → free false 0 0 (bib_name (of v f j)) ≡ true → AreTexts v f j
texts-of v f (b ∷ j) pv pf pj some n uncut = three-of v f b j pv pf pj some n uncut
texts-of v (b ∷ f) [] pv pf pj some n uncut = two-of v b f pv pf pj some n uncut
texts-of v [] [] pv pf pj some n uncut = record {
  last = pv;
  first = pf;
  suffix = pj;
  last_neat = n;
  first_neat = λ h. absurd (cc);
  suffix_neat = λ h. absurd (cc);
  last_uncut = uncut;
  first_uncut = refl;
  suffix_uncut = refl;
}

-- ---- a name of the profile

pub record NameIsKept (name : Text) : Type 0 where
  pub value : Text
  pub written : written_name name ≡ value ∷ []
  pub is : read_name value ≡ name
  pub neat_is : neat true value ≡ true

has-more : (v y : Text) → has_bytes v ≡ true → has_bytes (v ++ y) ≡ true
has-more [] y h = absurd (cc)
has-more (b ∷ v) y h = refl

bib-some : (p : Person) → has_bytes p.last ≡ true → has_bytes (bib_name p) ≡ true
bib-some p h = go (has_bytes p.suffix) (has_bytes p.first)
  where
    go : (b c : Bool) → has_bytes (cond b (with_comma p.last (with_comma p.suffix (or_braces p.first))) (cond c (with_comma p.last p.first) p.last)) ≡ true
    go true c = has-more p.last _ h
    go false true = has-more p.last _ h
    go false false = h

kept-with : (text name : Text) (parts : Name) → IsBalanced text → neat true text ≡ true → IsListed text name → taken_apart name ≡ Some parts → is_plain_person name (person name parts) ≡ true → NameIsKept name
kept-with text name parts is n l e plain =
    let p = person name parts in
    let q = and_parts (has_bytes p.last) (bytes_eq (bib_name p) name) plain in
    let same : bib_name p ≡ name = eq-true (bib_name p) name q.1 in
    let name_neat : neat true name ≡ true = l.neat_is n (ap has_bytes (sym same) ∙ bib-some p q.0) in
    let uncut : free false 0 0 name ≡ true = sym (free-is name) ∙ ap is_nil l.uncut in
    let apart : parts_of name ≡ Some parts = sym (cond-true (balances name) (parts_of name) None (balances-yes name (l.balanced is))) ∙ e in
    let are = name-parts name parts (l.balanced is) l.level apart in
    let kept = person-kept p.last p.first p.suffix (texts-of p.last p.first p.suffix are.last are.first are.suffix q.0 (ap (neat true) same ∙ name_neat) (ap (free false 0 0) same ∙ uncut)) in
    record {
      value = ris_name p;
      written = ap (λ o. option_map_or (λ (ps : Name). written_person (person name ps)) o []) e ∙ cond-true (is_somebody p) (ris_name p ∷ []) [] (ap (λ b. b || has_bytes p.first || has_bytes p.suffix) q.0);
      is = kept.is ∙ same;
      neat_is = kept.neat_is;
    }

pub name-kept : (text name : Text) → IsBalanced text → neat true text ≡ true → IsListed text name → is_plain_name name ≡ true → NameIsKept name
name-kept text name is n l plain = go (taken_apart name) refl plain
  where
    go : (o : Option Name) → taken_apart name ≡ o → option_map_or (λ (ps : Name). is_plain_person name (person name ps)) o false ≡ true → NameIsKept name
    go None e h = absurd (cc)
    go (Some parts) e h = kept-with text name parts is n l e h

-- ---- a list of the profile

names-kept : (text : Text) (names : List Text) → IsBalanced text → neat true text ≡ true → AllByRecursion (IsListed text) names → list_all is_plain_name names ≡ true → (map read_name (flat_map written_name names) ≡ names) × (are_neat (flat_map written_name names) ≡ true)
names-kept text [] is n all plain = (refl, refl)
names-kept text (name ∷ names) is n all plain =
    let p = and_parts (is_plain_name name) (list_all is_plain_name names) plain in
    let k = name-kept text name is n all.0 p.0 in
    let rest = names-kept text names is n all.1 p.1 in (
      ap (λ (vs : List Text). map read_name (vs ++ flat_map written_name names)) k.written ∙ ap (λ (u : Text). u ∷ map read_name (flat_map written_name names)) k.is ∙ ap (λ (us : List Text). name ∷ us) rest.0,
      ap (λ (vs : List Text). are_neat (vs ++ flat_map written_name names)) k.written ∙ and_from (neat true k.value) _ k.neat_is rest.1,
    )

none-broken : (text : Text) (names : List Text) → IsBalanced text → AllByRecursion (IsListed text) names → list_all is_plain_name names ≡ true → list_any is_broken names ≡ false
none-broken text [] is all plain = refl
none-broken text (name ∷ names) is all plain =
    let p = and_parts (is_plain_name name) (list_all is_plain_name names) plain in
    or_from (is_broken name) (list_any is_broken names)
    (some (taken_apart name) p.0)
    (none-broken text names is all.1 p.1)
  where
    some : (o : Option Name) → option_map_or (λ (ps : Name). is_plain_person name (person name ps)) o false ≡ true → is_none o ≡ false
    some None h = absurd (cc)
    some (Some parts) h = refl

pub people_carried : (text : Text) → are_plain_names text ≡ true → is_refused text ≡ false
people_carried text plain =
    let p = and_parts (balances text && bytes_eq (name_list (names_of text)) text) (list_all is_plain_name (names_of text)) plain in
    let q = and_parts (balances text) (bytes_eq (name_list (names_of text)) text) p.0 in
    let is = IsBalanced-from_test text q.0 in
    or_from (not (balances text)) (list_any is_broken (names_of text)) (ap not q.0) (none-broken text (names_of text) is (names-listed text (level-of text is)) p.1)

pub record PeopleAreKept (text : Text) : Type 0 where
  pub is : read_people (written_people text) ≡ text
  pub neat_is : are_neat (written_people text) ≡ true

kept-list : (text : Text) → neat true text ≡ true → are_plain_names text ≡ true → PeopleAreKept text
kept-list text n plain =
    let p = and_parts (balances text && bytes_eq (name_list (names_of text)) text) (list_all is_plain_name (names_of text)) plain in
    let q = and_parts (balances text) (bytes_eq (name_list (names_of text)) text) p.0 in
    let is = IsBalanced-from_test text q.0 in
    let kept = names-kept text (names_of text) is n (names-listed text (level-of text is)) p.1 in
    let written : written_people text ≡ flat_map written_name (names_of text) = cond-false (is_refused text) [] _ (people_carried text plain) in
    record {
      is = ap read_people written ∙ ap name_list kept.0 ∙ eq-true (name_list (names_of text)) text q.1;
      neat_is = ap are_neat written ∙ kept.1;
    }

pub people_kept : (text : Text) → (has_bytes text ≡ true → (neat true text ≡ true) × (are_plain_names text ≡ true)) → PeopleAreKept text
people_kept [] fit = record { is = refl; neat_is = refl }
people_kept (b ∷ t) fit = let f = fit refl in kept-list (b ∷ t) f.0 f.1
