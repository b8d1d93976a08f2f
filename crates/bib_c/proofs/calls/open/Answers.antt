use Rattle.std.proofs.Common.{ap, sym, subst, Option, Some, None, Bool}
use Rattle.bib_spec.specs.Text.{Text}
use Rattle.bib_c.specs.Calls.{journal_if, Opens}
use Rattle.bib_c.proofs.Reported.{opening_reported}
use Rattle.bib_c.proofs.calls.open.Goals as goal

pub returns-then-has_journal : goal.returns-then-has_journal
returns-then-has_journal c =
    let journal = c.args.journal.now in
    subst (λ (given : Option Text). Opens c.args.file.now given c.of_opened.result c.args.state.now c.open.new.self)
    (ap (λ (there : Bool). journal_if there journal) (sym c.if-has_journal.true))
    (opening_reported {journal = Some journal} c.open.result c.of_opened.ensures.done c.of_opened.ensures.refused c.open.ensures.opened c.open.ensures.refused c.open.ensures.answer c.open.ensures.err)

pub returns : goal.returns
returns c =
    subst (λ (given : Option Text). Opens c.args.file.now given c.of_opened-2.result c.args.state.now c.open-2.new.self)
    (ap (λ (there : Bool). journal_if there c.args.journal.now) (sym c.if-has_journal.false))
    (opening_reported {journal = None} c.open-2.result c.of_opened-2.ensures.done c.of_opened-2.ensures.refused c.open-2.ensures.opened c.open-2.ensures.refused c.open-2.ensures.answer c.open-2.ensures.err)
