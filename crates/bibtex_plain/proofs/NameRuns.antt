-- The name after an at-sign, where a text is added to the text that was read.
use Rattle.std.proofs.Common.{◌≡◌, ◌∙◌, ℕ, suc, Bool, true, false, ◌||◌, ◌&&◌, [], ◌∷◌, ◌++◌, take, drop, length, nat_lt, ⊎_elim, refl, sym, ap, arith, append-nil}
use Rattle.std.specs.List.{prefix_len, take_while, list_any}
use Rattle.std.proofs.lemmas.Bool.{cases_Bool, not-true}
use Rattle.bib_spec.specs.Bytes.{name_limit}
use Rattle.bib_spec.specs.Text.{Text, is_space, is_name_byte, after_run, does_not_begin_with}
use Rattle.bib_spec.specs.Texts.{is_empty}
use Rattle.bibtex_spec.specs.Plain.{is_run_byte, is_foreign, is_misnamed}
use Rattle.bibtex_plain.specs.Walking.{Follows}

-- ---- runs

cons_nil : (b : ℕ) (t : Text) → b ∷ t ≡ [] → ⊥
cons_nil b t e = cc

run_longer : (test : ℕ → Bool) (b : ℕ) (t : Text) → test b ≡ true → prefix_len test (b ∷ t) ≡ suc (prefix_len test t)
run_longer test b t passes = rw passes (omega arith)

run_none : (test : ℕ → Bool) (b : ℕ) (t : Text) → test b ≡ false → prefix_len test (b ∷ t) ≡ 0
run_none test b t fails = rw fails refl

rest-yes : (test : ℕ → Bool) (b : ℕ) (t : Text) → test b ≡ true → after_run test (b ∷ t) ≡ after_run test t
rest-yes test b t passes = ap (λ (n : ℕ). drop n (b ∷ t)) (run_longer test b t passes)

rest-no : (test : ℕ → Bool) (b : ℕ) (t : Text) → test b ≡ false → after_run test (b ∷ t) ≡ b ∷ t
rest-no test b t fails = ap (λ (n : ℕ). drop n (b ∷ t)) (run_none test b t fails)

pub front-yes : (test : ℕ → Bool) (b : ℕ) (t : Text) → test b ≡ true → take_while test (b ∷ t) ≡ b ∷ take_while test t
front-yes test b t passes = ap (λ (n : ℕ). take n (b ∷ t)) (run_longer test b t passes)

pub front-no : (test : ℕ → Bool) (b : ℕ) (t : Text) → test b ≡ false → take_while test (b ∷ t) ≡ []
front-no test b t fails = ap (λ (n : ℕ). take n (b ∷ t)) (run_none test b t fails)

-- a text that cannot go on with the run
rest-more : (test : ℕ → Bool) (t more : Text) → does_not_begin_with test more ≡ true → after_run test (t ++ more) ≡ after_run test t ++ more
rest-more test [] [] end = refl
rest-more test [] (m ∷ more) end = rest-no test m more (not-true (test m) end)
rest-more test (b ∷ t) more end = ⊎_elim
    (λ passes. rest-yes test b (t ++ more) passes ∙ rest-more test t more end ∙ ap (λ (u : Text). u ++ more) (sym (rest-yes test b t passes)))
    (λ fails. rest-no test b (t ++ more) fails ∙ ap (λ (u : Text). u ++ more) (sym (rest-no test b t fails)))
    (cases_Bool (test b))

-- a run that is over
rest-some : (test : ℕ → Bool) (t more : Text) (c : ℕ) (r : Text) → after_run test t ≡ c ∷ r → after_run test (t ++ more) ≡ after_run test t ++ more
rest-some test [] more c r is = absurd (cons_nil c r (sym is))
rest-some test (b ∷ t) more c r is = ⊎_elim
    (λ passes. rest-yes test b (t ++ more) passes ∙ rest-some test t more c r (sym (rest-yes test b t passes) ∙ is) ∙ ap (λ (u : Text). u ++ more) (sym (rest-yes test b t passes)))
    (λ fails. rest-no test b (t ++ more) fails ∙ ap (λ (u : Text). u ++ more) (sym (rest-no test b t fails)))
    (cases_Bool (test b))

front-some : (test : ℕ → Bool) (t more : Text) (c : ℕ) (r : Text) → after_run test t ≡ c ∷ r → take_while test (t ++ more) ≡ take_while test t
front-some test [] more c r is = absurd (cons_nil c r (sym is))
front-some test (b ∷ t) more c r is = ⊎_elim
    (λ passes. front-yes test b (t ++ more) passes ∙ ap (λ (u : Text). b ∷ u) (front-some test t more c r (sym (rest-yes test b t passes) ∙ is)) ∙ sym (front-yes test b t passes))
    (λ fails. front-no test b (t ++ more) fails ∙ sym (front-no test b t fails))
    (cases_Bool (test b))

-- a run that is all of the text
front-all : (test : ℕ → Bool) (t more : Text) → after_run test t ≡ [] → take_while test (t ++ more) ≡ t ++ take_while test more
front-all test [] more is = refl
front-all test (b ∷ t) more is = ⊎_elim
    (λ passes. front-yes test b (t ++ more) passes ∙ ap (λ (u : Text). b ∷ u) (front-all test t more (sym (rest-yes test b t passes) ∙ is)))
    (λ fails. absurd (cons_nil b t (sym (rest-no test b t fails) ∙ is)))
    (cases_Bool (test b))

-- ---- names

-- whether a run is none of the names of the dialect
abbrev pub judged : Text → Bool
judged run = list_any is_foreign run || nat_lt name_limit (length run)

pub or-true : (b : Bool) → (b || true) ≡ true
or-true true = refl
or-true false = refl

foreign_in : (t u : Text) → list_any is_foreign (t ++ 64 ∷ u) ≡ true
foreign_in [] u = refl
foreign_in (b ∷ t) u = ap (λ (x : Bool). is_foreign b || x) (foreign_in t u) ∙ or-true (is_foreign b)

at_no_space : (t : Text) → does_not_begin_with is_space (64 ∷ t) ≡ true
unfolding is_space
at_no_space t = refl

at_runs : is_run_byte 64 ≡ true
unfolding is_name_byte
at_runs = refl

-- a name that goes on up to an at-sign
named_on : (after more rest : Text) → more ≡ 64 ∷ rest → after_run is_run_byte (after_run is_space after) ≡ [] → is_misnamed (after ++ more) ≡ true
named_on after more rest is all =
    let named : Text = after_run is_space after in
    let run = take_while is_run_byte rest in
    ap (λ (m : Text). is_misnamed (after ++ m)) is
    ∙ ap judged (ap (take_while is_run_byte) (rest-more is_space after (64 ∷ rest) (at_no_space rest)) ∙ front-all is_run_byte named (64 ∷ rest) all ∙ ap (λ (u : Text). named ++ u) (front-yes is_run_byte 64 rest at_runs))
    ∙ ap (λ (b : Bool). b || nat_lt name_limit (length (named ++ 64 ∷ run))) (foreign_in named run)

-- a name that ends in the text
named_here : (after more : Text) (c : ℕ) (r : Text) → after_run is_run_byte (after_run is_space after) ≡ c ∷ r → is_misnamed (after ++ more) ≡ is_misnamed after
named_here after more c r is = along (after_run is_space after) refl
  where
    along : (u : Text) → after_run is_space after ≡ u → is_misnamed (after ++ more) ≡ is_misnamed after
    along [] none = absurd (cons_nil c r (sym is ∙ ap (after_run is_run_byte) none))
    along (b ∷ u) some =
        ap judged (ap (take_while is_run_byte) (rest-some is_space after more b u some) ∙ front-some is_run_byte (after_run is_space after) more c r is)

-- the file is over after the text
named_last : (after more : Text) → more ≡ [] → is_misnamed (after ++ more) ≡ is_misnamed after
named_last after more is = ap (λ (m : Text). is_misnamed (after ++ m)) is ∙ ap is_misnamed (append-nil after)

-- nothing of the text is left after the name, and an item follows
pub misnamed_on : (after more past rest : Text) (followed : Bool) → past ≡ after_run is_space after → rest ≡ after_run is_run_byte past → true ≡ (followed && is_empty rest)
    → Follows followed more → true ≡ is_misnamed (after ++ more)
misnamed_on after more past rest false is_past is_rest on follows = cc
misnamed_on after more past (b ∷ rest) true is_past is_rest on follows = cc
misnamed_on after more past [] true is_past is_rest on follows = sym (named_on after more follows.0 follows.1 (ap (after_run is_run_byte) (sym is_past) ∙ sym is_rest))

-- the name ends in the text, or with the file
pub misnamed_here : (after more past name rest : Text) (followed bad : Bool) → past ≡ after_run is_space after → name ≡ take_while is_run_byte past → rest ≡ after_run is_run_byte past
    → false ≡ (followed && is_empty rest) → bad ≡ judged name → Follows followed more → bad ≡ is_misnamed (after ++ more)
misnamed_here after more past name rest followed bad is_past is_name is_rest ends is follows =
    is ∙ ap judged (is_name ∙ ap (take_while is_run_byte) is_past) ∙ sym (along followed rest ends (is_rest ∙ ap (after_run is_run_byte) is_past) follows)
  where
    along : (followed : Bool) (rest : Text) → false ≡ (followed && is_empty rest) → rest ≡ after_run is_run_byte (after_run is_space after) → Follows followed more → is_misnamed (after ++ more) ≡ is_misnamed after
    along false rest ends left follows = named_last after more follows
    along true [] ends left follows = cc
    along true (c ∷ r) ends left follows = named_here after more c r (sym left)
