-- Line feeds between items, in which nothing is found.
use Rattle.bib_answers.proofs.Words.{◌≡◌, Bool, true, false, [], refl, sym, subst, ⊎_elim, cases_Bool, Text}
use Rattle.std.specs.Prelude.{bytes_eq, codes, ◌||◌}
use Rattle.bib_spec.proofs.Names.{eq-true}
use Rattle.bib_strays.specs.Strays.{strays_in}
use Rattle.bib_answers.specs.Plain.{is_line_feeds}

one_feed : (commented : Bool) → strays_in commented (codes "\n") ≡ []
one_feed true = refl
one_feed false = refl

two_feeds : (commented : Bool) → strays_in commented (codes "\n\n") ≡ []
two_feeds true = refl
two_feeds false = refl

-- nothing is found in line feeds
pub feeds_plain : (commented : Bool) (t : Text) → is_line_feeds t ≡ true → strays_in commented t ≡ []
feeds_plain commented t is = ⊎_elim
    (λ one. subst (λ (x : Text). strays_in commented x ≡ []) (sym (eq-true t (codes "\n") one)) (one_feed commented))
    (λ more. subst (λ (x : Text). strays_in commented x ≡ []) (sym (eq-true t (codes "\n\n") (second (bytes_eq t (codes "\n")) (bytes_eq t (codes "\n\n")) more is))) (two_feeds commented))
    (cases_Bool (bytes_eq t (codes "\n")))
  where
    second : (a b : Bool) → a ≡ false → (a || b) ≡ true → b ≡ true
    second true b a is = absurd (let e : true ≡ false = a in cc)
    second false b a is = is
