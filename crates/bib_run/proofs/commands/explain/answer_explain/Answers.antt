use Rattle.bib_run.proofs.Words.{◌≡◌, ◌∙◌, ◌++◌, [], Some, option_map, rules, sym, ap, answer_of}
use Rattle.fault_pages.specs.Heads.{head_of, asked}
use Rattle.bib_run.specs.Explaining.{head_lines, explained}
use Rattle.bib_run.proofs.commands.explain.answer_explain.Goals as goal

pub returns-in_ok-text_of-in-Some : goal.returns-in_ok-text_of-in-Some
returns-in_ok-text_of-in-Some c =
    let found : asked c.args.word.now ≡ Some (head_of c.in-Some.page) = sym c.page_of.ensures ∙ ap (option_map head_of) c.in-Some.is in
    let told : c.done.result ≡ answer_of (head_lines (head_of c.in-Some.page) ++ c.in-Some.page.text.now) [] 0 = search rules in
    explained (head_of c.in-Some.page) c.in-Some.page.text.now found told
