use Rattle.bib_store.proofs.Words.{◌∙◌, ◌+◌, sym, ap, entries_of}
use Rattle.bib_store.proofs.Inherited.{with_rest, rest_whole, rest_more, rest_none, rest_done}
use Rattle.bib_store.proofs.database.Database.gather_inherited.Goals as goal

pub inherit-init : goal.inherit-init
inherit-init g c = (c.requires.number, c.requires.names, λ db reads. rest_whole (entries_of db) c.args.depth c.args.n c.args.fields.now.fields.items)

pub inherit-preserved : goal.inherit-preserved
inherit-preserved g c = (
  c.in-Some.ensures.number,
  c.in_ok-gather.ensures.names,
  λ db reads.
      ap (with_rest (entries_of db) c.args.depth (c.inherit.counter + 1) c.in-Some.parent) (c.in_ok-gather.ensures.added db reads)
      ∙ rest_more (entries_of db) c.args.depth c.inherit.counter c.inherit.heir c.in-Some.parent c.inherit.fields.fields.items c.inherit-test.true (sym (c.parent.ensures.parent db reads) ∙ c.in-Some.is)
      ∙ c.inherit.invariant.2 db reads,
)

pub returns-in_default-clause-added : goal.returns-in_default-clause-added
returns-in_default-clause-added g c = λ db reads.
    rest_none (entries_of db) c.args.depth c.inherit.counter c.inherit.heir c.inherit.fields.fields.items (sym (c.parent.ensures.parent db reads) ∙ c.in_default.is)
    ∙ c.inherit.invariant.2 db reads

pub returns-clause-added : goal.returns-clause-added
returns-clause-added g c = λ db reads.
    rest_done (entries_of db) c.args.depth c.inherit.counter c.inherit.heir c.inherit.fields.fields.items c.inherit-test.false ∙ c.inherit.invariant.2 db reads
