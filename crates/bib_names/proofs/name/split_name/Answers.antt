use Rattle.bib_names.proofs.Words.{◌∙◌, sym, refl, arith}
use Rattle.std.proofs.lemmas.Result.{err_from_is_err_and}
use Rattle.bib_names.specs.Name.{without_end}
use Rattle.bib_names.proofs.CommaLemmas.{few_commas, many_commas}
use Rattle.bib_names.proofs.name.split_name.Goals as goal

pub returns-in_ok-into_name-in-Some-clause-few : goal.returns-in_ok-into_name-in-Some-clause-few
returns-in_ok-into_name-in-Some-clause-few c = few_commas (without_end c.args.text.now) c.in-Some.cut (sym c.in_ok-cut.ensures.parts ∙ c.in-Some.is)

pub returns-in_ok-into_name-in-Some-clause-commas : goal.returns-in_ok-into_name-in-Some-clause-commas
returns-in_ok-into_name-in-Some-clause-commas c =
    let few = few_commas (without_end c.args.text.now) c.in-Some.cut (sym c.in_ok-cut.ensures.parts ∙ c.in-Some.is) in
    (λ e. absurd (cc), λ many. absurd (omega (arith, few, many.1)))

pub returns-in_err-into_name-in-Some-clause-commas : goal.returns-in_err-into_name-in-Some-clause-commas
returns-in_err-into_name-in-Some-clause-commas c =
    let few = few_commas (without_end c.args.text.now) c.in-Some.cut (sym c.in_ok-cut.ensures.parts ∙ c.in-Some.is) in
    let p = err_from_is_err_and c.from_residual-in_err-into_name-in-Some.result c.from_residual-in_err-into_name-in-Some.ensures.1 in
    rw (p.1, p.2) (λ e. absurd (cc), λ many. absurd (omega (arith, few, many.1)))

pub returns-in-None-clause-memory : goal.returns-in-None-clause-memory
returns-in-None-clause-memory c =
    let many = many_commas (without_end c.args.text.now) (sym c.in_ok-cut.ensures.parts ∙ c.in-None.is) in
    λ _ few. absurd (omega (arith, few, many))

pub returns-in-None-clause-commas : goal.returns-in-None-clause-commas
returns-in-None-clause-commas c =
    let many = many_commas (without_end c.args.text.now) (sym c.in_ok-cut.ensures.parts ∙ c.in-None.is) in
    (λ _. (c.is_balanced.ensures.0 c.if-not-is_balanced.false, many), λ _. refl)
