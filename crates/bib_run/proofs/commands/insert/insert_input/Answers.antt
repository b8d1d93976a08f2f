use Rattle.bib_run.proofs.Words.{◌≤◌, ◌<◌, length, rules, IfOk-weaker, file_limit, within}
use Rattle.bib_run.specs.Inputs.{too_long}
use Rattle.bib_run.proofs.commands.insert.insert_input.Goals as goal

pub returns-then-input-gt-FILE_LIMIT : goal.returns-then-input-gt-FILE_LIMIT
returns-then-input-gt-FILE_LIMIT c =
    let long : file_limit < length c.args.input.now = search rules in
    IfOk-weaker c.too_long.result _ _ (λ answer h. too_long long h) c.too_long.ensures

pub returns : goal.returns
returns c =
    let short : length c.args.input.now ≤ file_limit = search rules in
    IfOk-weaker c.insert_text.result _ _ (λ answer h. within short h) c.insert_text.ensures
