use Rattle.bib_answers.proofs.Words.{◌∙◌, ap, map, refl, [], Bor, List, ℕ, Text}
use Rattle.std.proofs.Common.{arith}
use Rattle.bib_answers.proofs.FindingSteps.{refused_more, refused_all}
use Rattle.bib_answers.proofs.text_findings.add_refused_in.Goals as goal

abbrev nothing : Bor Text
nothing = record { ref_ptr = (0, 0); now = [] }

pub names-preserved : goal.names-preserved
names-preserved c =
    refused_more c.args.at c.args.lines.now c.names.lines c.add.new.self c.as_slice-name-items.result.now c.names.name-index _ nothing c.names-test.true refl c.in_ok-add.ensures c.names.invariant

pub returns : goal.returns
returns c =
    refused_all c.args.at c.args.lines.now c.names.lines c.as_slice-name-items.result.now c.names.name-index _ (let end = c.names-test.false in omega (arith, end))
    (ap (map {A = Bor (List ℕ)} {B = List ℕ} (λ n. n.now)) c.as_slice-name-items.ensures ∙ c.in_ok-names.ensures) c.names.invariant
