use Rattle.bib_journal.proofs.Words.{◌<◌, length, inl, rules, arith, file_limit, too_long}
use Rattle.bib_journal.proofs.loading.check_len.Goals as goal

pub returns-then-file-gt-FILE_LIMIT-clause-start : goal.returns-then-file-gt-FILE_LIMIT-clause-start
returns-then-file-gt-FILE_LIMIT-clause-start c =
    let long : file_limit < length c.args.file.now = search rules in
    ((λ is. omega (arith, is)), inl (too_long long))

pub returns-then-file-gt-FILE_LIMIT-clause-load : goal.returns-then-file-gt-FILE_LIMIT-clause-load
returns-then-file-gt-FILE_LIMIT-clause-load c =
    let long : file_limit < length c.args.file.now = search rules in
    λ text. ((λ is. omega (arith, is)), inl (too_long long))
