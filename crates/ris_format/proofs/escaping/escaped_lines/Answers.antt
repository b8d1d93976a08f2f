use Rattle.ris_format.proofs.Words.{◌≡◌, ◌∙◌, true, rules, sym, subst, RisLine, are_neat_lines, read_lines}
use Rattle.std.proofs.Common.{List, map}
use Rattle.std.specs.Prelude.{IfOk}
use Rattle.ris_format.specs.Escapes.{escaped_line}
use Rattle.ris_format.proofs.LineLaws.{read-neat}
use Rattle.ris_format.proofs.escaping.escaped_lines.Goals as goal

pub returns-then-are_neat_lines : goal.returns-then-are_neat_lines
returns-then-are_neat_lines c =
    let are_neat : are_neat_lines c.args.lines.now ≡ true = search rules in
    subst (λ (ls : List RisLine). IfOk c.all_escaped.result (λ out. out.items ≡ map escaped_line ls)) (sym (read-neat c.args.lines.now are_neat)) c.all_escaped.ensures

pub returns : goal.returns
returns c =
    let read : c.as_slice.result.now ≡ read_lines c.args.lines.now = c.as_slice.ensures.value ∙ c.in_ok-read.ensures in
    subst (λ (ls : List RisLine). IfOk c.all_escaped-2.result (λ out. out.items ≡ map escaped_line ls)) read c.all_escaped-2.ensures
