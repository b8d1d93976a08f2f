use Rattle.bib_answers.proofs.Words.{◌∙◌, [], sym}
use Rattle.bib_answers.proofs.EntryNumbers.{entry_key}
use Rattle.bib_answers.proofs.WrittenFields.{along_start, along_more, along_none, along_all}
use Rattle.bib_answers.proofs.written.written_fields.Goals as goal

pub entry-requires : goal.entry-requires
entry-requires c = c.in-Some.ensures.number

pub inherit-init : goal.inherit-init
inherit-init c = (
  c.requires,
  λ r reads. along_start r c.args.depth c.args.n c.add_entry.new.gathered.names c.add_entry.new.gathered.fields.items (c.in_ok-add_entry.ensures r reads [] c.in_ok-gathered.ensures),
)

pub inherit-preserved : goal.inherit-preserved
inherit-preserved c = (
  c.in-Some.ensures.number,
  λ r reads.
      along_more r c.args.depth c.args.n c.inherit.counter c.inherit.heir c.in-Some.parent c.inherit.gathered.names c.add_entry-in-inherit.new.gathered.names c.inherit.gathered.fields.items c.add_entry-in-inherit.new.gathered.fields.items c.key.result.now
      c.inherit-test.true (sym (c.parent.ensures.parent r reads) ∙ c.in-Some.is)
      (c.key.ensures ∙ entry_key r c.in-Some.parent c.entry.result (c.in-Some.ensures.number r reads) (c.entry.ensures r reads))
      (c.in_ok-add_entry-2.ensures r reads) (c.inherit.invariant.1 r reads),
)

pub returns-in_default : goal.returns-in_default
returns-in_default c r reads =
    along_none r c.args.depth c.args.n c.inherit.counter c.inherit.heir c.inherit.gathered.names c.inherit.gathered.fields.items (sym (c.parent.ensures.parent r reads) ∙ c.in_default.is) (c.inherit.invariant.1 r reads)

pub returns : goal.returns
returns c r reads =
    along_all r c.args.depth c.args.n c.inherit.counter c.inherit.heir c.inherit.gathered.names c.inherit.gathered.fields.items c.inherit-test.false (c.inherit.invariant.1 r reads)
