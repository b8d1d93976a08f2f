-- Keys of any length, as the list of the folded keys.
use Rattle.bib_answers.proofs.Words.{◌≡◌, ◌∙◌, Bool, true, false, not, List, [], ◌∷◌, map, refl, sym, ap, ap₂, list_any, false≢true, Text}
use Rattle.std.proofs.Common.{◌||◌}
use Rattle.std.specs.Prelude.{MatchBool}
use Rattle.std.specs.Str.{bytes_eq}
use Rattle.std.specs.List.Sorted.{IsPermutation}
use Rattle.std.proofs.lemmas.List.Sorted.{list_any-IsPermutation}
use Rattle.bib_spec.proofs.Names.{eq-true}

pub any-map : {K : Type 0} (keys : List K) (bytes : K → Text) (test : Text → Bool) → list_any test (map bytes keys) ≡ list_any (λ k. test (bytes k)) keys
any-map [] bytes test = refl
any-map (k ∷ keys) bytes test = ap (λ (b : Bool). test (bytes k) || b) (any-map keys bytes test)

-- a key that is there already changes nothing
there_already : (here old : Bool) → (here ≡ true → old ≡ true) → old ≡ (here || old)
there_already true old is = is refl
there_already false old is = refl

-- the keys after one is inserted
pub keys_more : {K : Type 0} (old new : List K) (k : K) (bytes : K → Text) (x key : Text) (added : Bool) → bytes k ≡ key → added ≡ not (list_any (λ o. bytes_eq (bytes k) (bytes o)) old)
    → MatchBool added (IsPermutation (k ∷ old) new) (new ≡ old) → list_any (bytes_eq x) (map bytes new) ≡ (bytes_eq x key || list_any (bytes_eq x) (map bytes old))
keys_more old new k bytes x key true is added put =
    any-map new bytes (bytes_eq x)
    ∙ sym (list_any-IsPermutation (λ o. bytes_eq x (bytes o)) (k ∷ old) new put)
    ∙ ap₂ (λ (t : Text) (b : Bool). bytes_eq x t || b) is (sym (any-map old bytes (bytes_eq x)))
keys_more old new k bytes x key false is added put =
    ap (λ l. list_any (bytes_eq x) (map bytes l)) put
    ∙ there_already (bytes_eq x key) (list_any (bytes_eq x) (map bytes old))
    (λ e. ap (λ (t : Text). list_any (bytes_eq t) (map bytes old)) (eq-true x key e ∙ sym is) ∙ any-map old bytes (bytes_eq (bytes k)) ∙ has (list_any (λ o. bytes_eq (bytes k) (bytes o)) old) added)
  where
    has : (b : Bool) → false ≡ not b → b ≡ true
    has true e = refl
    has false e = absurd (false≢true e)
