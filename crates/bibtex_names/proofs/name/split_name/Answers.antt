use Rattle.bib_names.proofs.Words.{◌≡◌, ◌∙◌, sym, balances}
use Rattle.std.specs.Prelude.{Some, None, Option}
use Rattle.bib_names.proofs.BalanceLaws.{balances-is}
use Rattle.bibtex_names.specs.Name.{parts_of}
use Rattle.bibtex_names.specs.declared.name.Name.{Name}
use Rattle.bibtex_names.proofs.NameLemmas.{parts_balanced, parts_unbalanced}
use Rattle.bibtex_names.proofs.name.split_name.Goals as goal

pub returns-then-not-is_balanced-clause-fault : goal.returns-then-not-is_balanced-clause-fault
returns-then-not-is_balanced-clause-fault c =
    let text = c.args.text.now in
    let is : c.is_balanced.result ≡ balances text = balances-is text c.is_balanced.result c.is_balanced.ensures.0 c.is_balanced.ensures.1 in
    λ _. parts_unbalanced text (sym c.if-not-is_balanced.true ∙ is)

pub returns-in-Some-clause-parts : goal.returns-in-Some-clause-parts
returns-in-Some-clause-parts c =
    let text = c.args.text.now in
    let is : c.is_balanced.result ≡ balances text = balances-is text c.is_balanced.result c.is_balanced.ensures.0 c.is_balanced.ensures.1 in
    let told : ◌≡◌ {A = Option Name} (Some c.in-Some.name) (parts_of text) = cc (c.in-Some.is, c.in_ok-name.ensures) in
    parts_balanced text (Some c.in-Some.name) (sym c.if-not-is_balanced.false ∙ is) told

pub returns-in-None-clause-fault : goal.returns-in-None-clause-fault
returns-in-None-clause-fault c =
    let text = c.args.text.now in
    let is : c.is_balanced.result ≡ balances text = balances-is text c.is_balanced.result c.is_balanced.ensures.0 c.is_balanced.ensures.1 in
    let told : ◌≡◌ {A = Option Name} None (parts_of text) = cc (c.in-None.is, c.in_ok-name.ensures) in
    λ _. parts_balanced text None (sym c.if-not-is_balanced.false ∙ is) told
