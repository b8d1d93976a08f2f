use Rattle.std.proofs.Common.{◌∙◌, sym}
use Rattle.bibtex_labels.proofs.RunLemmas.{run_last, run_more}
use Rattle.bibtex_labels.proofs.purifying.push_run.Goals as goal

pub returns-in_default-clause-rest : goal.returns-in_default-clause-rest
returns-in_default-clause-rest c =
    rw (c.in_ok-extend_from_slice.ensures.items, c.split_at.ensures.front, c.split_at.ensures.back)
    (run_last c.run_len.result c.args.bytes.now c.args.out.now.items c.run_len.ensures.len)

pub returns-clause-rest : goal.returns-clause-rest
returns-clause-rest c =
    rw (c.in_ok-push_byte.ensures, c.in_ok-extend_from_slice.ensures.items, c.split_at.ensures.front)
    (run_more c.run_len.result c.in-Some.byte.now c.args.bytes.now c.in-Some.rest.now c.args.out.now.items c.run_len.ensures.len (sym c.split_at.ensures.back ∙ c.in-Some.ensures.cases.0))
