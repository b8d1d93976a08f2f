use Rattle.ris_format.proofs.Words.{◌≡◌, ◌∙◌, true, rules, sym, ap, ap₂, RisLine, kind_of_ris, are_neat_lines, read_lines, record_in}
use Rattle.std.proofs.Common.{List}
use Rattle.ris_format.proofs.LineLaws.{read-neat}
use Rattle.ris_format.proofs.to_record.from_ris.Goals as goal

pub returns-then-are_neat_lines-clause-record : goal.returns-then-are_neat_lines-clause-record
returns-then-are_neat_lines-clause-record c =
    let ris = c.args.ris.now in
    let kind : c.of_ris-kind.result ≡ kind_of_ris ris.kind_name = c.of_ris-kind.ensures ∙ ap kind_of_ris c.as_slice.ensures in
    let are_neat : are_neat_lines ris.lines ≡ true = search rules in
    c.in_ok-record_in.ensures ∙ ap₂ record_in kind (c.as_slice-lines.ensures ∙ sym (read-neat ris.lines are_neat))

pub returns-clause-record : goal.returns-clause-record
returns-clause-record c =
    let ris = c.args.ris.now in
    let kind : c.of_ris-kind.result ≡ kind_of_ris ris.kind_name = c.of_ris-kind.ensures ∙ ap kind_of_ris c.as_slice.ensures in
    let lines : c.as_slice-2.result.now ≡ read_lines ris.lines = c.as_slice-2.ensures.value ∙ c.in_ok-lines.ensures ∙ ap (λ (ls : List RisLine). read_lines ls) c.as_slice-lines.ensures in
    c.in_ok-record_in-2.ensures ∙ ap₂ record_in kind lines
