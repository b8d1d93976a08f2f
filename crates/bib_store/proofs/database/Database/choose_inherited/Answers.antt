use Rattle.bib_store.proofs.Words.{◌∙◌, ◌++◌, ℕ, List, map, Bor, sym, ap, Text, RecordField, entries_of, fields_at, missing, chosen}
use Rattle.bib_store.proofs.Inherited.{rest_whole, rest_more, rest_none, rest_done}
use Rattle.bib_store.proofs.database.Database.choose_inherited.Goals as goal

pub along-init : goal.along-init
along-init g c = (c.requires.number, λ db reads all is. (all, is, rest_whole (entries_of db) c.args.depth c.args.n all))

pub along-preserved : goal.along-preserved
along-preserved g c = (
  c.in-Some.ensures.number,
  λ db reads all is.
      let before = c.along.invariant.1 db reads all is in
      let so_far : List RecordField = before.0 in (
        so_far ++ missing so_far (fields_at (entries_of db) c.in-Some.parent),
        c.in_ok-choose.ensures.chosen db reads so_far before.1,
        rest_more (entries_of db) c.args.depth c.along.counter c.along.heir c.in-Some.parent so_far c.along-test.true (sym (c.parent.ensures.parent db reads) ∙ c.in-Some.is) ∙ before.2,
      ),
)

pub returns-in_default-clause-chosen : goal.returns-in_default-clause-chosen
returns-in_default-clause-chosen g c = λ db reads all is.
    let names : List Text = map (λ (name : Bor (List ℕ)). name.now) c.args.names.now in
    let before = c.along.invariant.1 db reads all is in
    before.1 ∙ ap (chosen names) (rest_none (entries_of db) c.args.depth c.along.counter c.along.heir before.0 (sym (c.parent.ensures.parent db reads) ∙ c.in_default.is) ∙ before.2)

pub returns-clause-chosen : goal.returns-clause-chosen
returns-clause-chosen g c = λ db reads all is.
    let names : List Text = map (λ (name : Bor (List ℕ)). name.now) c.args.names.now in
    let before = c.along.invariant.1 db reads all is in
    before.1 ∙ ap (chosen names) (rest_done (entries_of db) c.args.depth c.along.counter c.along.heir before.0 c.along-test.false ∙ before.2)
