use Rattle.ris_format.proofs.Words.{◌≡◌, ◌∙◌, ap, ap₂, RisLine, kind_of_ris, read_lines, record_in}
use Rattle.std.proofs.Common.{List, map}
use Rattle.std.proofs.lemmas.Result.{IfOk-weaker}
use Rattle.ris_format.specs.Escapes.{escaped_line}
use Rattle.ris_format.proofs.to_record.from_ris_escaped.Goals as goal

pub returns : goal.returns
returns c =
    let ris = c.args.ris.now in
    let kind : c.of_ris-kind.result ≡ kind_of_ris ris.kind_name = c.of_ris-kind.ensures ∙ ap kind_of_ris c.as_slice.ensures in
    let lines : c.as_slice-3.result.now ≡ map escaped_line (read_lines ris.lines) =
    c.as_slice-3.ensures.value ∙ c.in_ok-lines.ensures ∙ ap (λ (ls : List RisLine). map escaped_line (read_lines ls)) c.as_slice-2.ensures in
    IfOk-weaker c.record_in.result _ _ (λ entry h. h ∙ ap₂ record_in kind lines) c.record_in.ensures
