use Rattle.bib_edit.proofs.Words.{sym, ◌∙◌}
use Rattle.bib_edit.specs.OneOfSeveral.{none_meant, unclear}
use Rattle.bib_edit.proofs.one_entry.lone_or_nth.Goals as goal

pub returns-in_default-clause-refused : goal.returns-in_default-clause-refused
returns-in_default-clause-refused g c = none_meant (λ db reads. sym (c.in_default.ensures db reads))

pub returns-then-is_unclear-clause-refused : goal.returns-then-is_unclear-clause-refused
returns-then-is_unclear-clause-refused g c = unclear (λ db reads. (c.in-Some.n, sym (c.in-Some.ensures db reads))) (λ db reads. sym (c.is_unclear.ensures db reads) ∙ c.if-is_unclear.true)

pub returns-clause-meant : goal.returns-clause-meant
returns-clause-meant g c db reads = record { item = sym (c.in-Some.ensures db reads); clear = sym (c.is_unclear.ensures db reads) ∙ c.if-is_unclear.false }
