use Rattle.std.proofs.Common.{◌≡◌, ◌∙◌, ℕ, List, Ok, map, Bor, rules, sym, ap}
use Rattle.bib_spec.specs.Text.{Text}
use Rattle.std.proofs.Common.{arith}
use Rattle.std.proofs.lemmas.List.{get_or-map, length-map}
use Rattle.std.proofs.lemmas.Result.{err_from_is_err_and}
use Rattle.bibtex_answers.proofs.NameAnswers.{name_more, name_stops}
use Rattle.bibtex_answers.proofs.names.name_lines.Goals as goal

abbrev bytes_of : Bor (List ℕ) → Text
bytes_of name = name.now

pub returns-in_err-name_line-clause-fault : goal.returns-in_err-name_line-clause-fault
returns-in_err-name_line-clause-fault c =
    let names = c.args.names.now in
    let n = c.print.name-index in
    let p = err_from_is_err_and c.from_residual.result c.from_residual.ensures.1 in
    rw (p.1, p.2)
    (λ other. name_stops c.args.template.now (map bytes_of names) n _ c.print.out.items c.in_err-name_line.field-0.0
    (omega (arith, c.print-test.true, length-map names bytes_of)) (sym (get_or-map bytes_of names n _ _ c.print-test.true))
    c.print.invariant (c.in_err-name_line.ensures.fault other))

pub print-preserved : goal.print-preserved
print-preserved c =
    let names = c.args.names.now in
    let n = c.print.name-index in
    let line : c.as_slice-in-print.result.now ≡ c.in_ok-name_line.field-0 = search rules in
    rw c.in_ok-extend_from_slice.ensures.items
    (name_more c.args.template.now (map bytes_of names) n _ c.print.out.items c.as_slice-in-print.result.now
    (omega (arith, c.print-test.true, length-map names bytes_of)) (sym (get_or-map bytes_of names n _ _ c.print-test.true))
    c.print.invariant (c.in_ok-name_line.ensures.line ∙ ap (λ (text : Text). Ok text) (sym line)))
