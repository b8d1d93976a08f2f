use Rattle.bib_ris.proofs.Words.{◌∙◌, ◌++◌, List, sym, subst, entries_of}
use Rattle.bib_spec.specs.Records.{RecordField, fields_at, missing}
use Rattle.bib_store.proofs.Inherited.{rest_whole, rest_more, rest_none, rest_done}
use Rattle.bib_ris.specs.Judging.{IsJudged}
use Rattle.bib_ris.proofs.judging.judge_inherited.Goals as goal

pub along-init : goal.along-init
along-init g c = (c.requires, λ db reads all from. (all, from, rest_whole (entries_of db) c.args.depth c.args.n all))

pub along-preserved : goal.along-preserved
along-preserved g c = (
  c.in-Some.ensures.number,
  λ db reads all from.
      let before = c.along.invariant.1 db reads all from in
      let so_far : List RecordField = before.0 in (
        so_far ++ missing so_far (fields_at (entries_of db) c.in-Some.parent),
        c.in_ok-judge_entry.ensures c.if-not-branch.false db reads so_far before.1,
        rest_more (entries_of db) c.args.depth c.along.counter c.along.heir c.in-Some.parent so_far c.along-test.true (sym (c.parent.ensures.parent db reads) ∙ c.in-Some.is) ∙ before.2,
      ),
)

pub returns-in_default : goal.returns-in_default
returns-in_default g c = λ whole db reads all from.
    let before = c.along.invariant.1 db reads all from in
    subst (λ (fields : List RecordField). IsJudged c.args.kind_name.now c.args.key.now fields c.along.seen.items c.along.lines.items)
    (rest_none (entries_of db) c.args.depth c.along.counter c.along.heir before.0 (sym (c.parent.ensures.parent db reads) ∙ c.in_default.is) ∙ before.2) before.1

pub returns : goal.returns
returns g c = λ whole db reads all from.
    let before = c.along.invariant.1 db reads all from in
    subst (λ (fields : List RecordField). IsJudged c.args.kind_name.now c.args.key.now fields c.along.seen.items c.along.lines.items)
    (rest_done (entries_of db) c.args.depth c.along.counter c.along.heir before.0 c.along-test.false ∙ before.2) before.1
