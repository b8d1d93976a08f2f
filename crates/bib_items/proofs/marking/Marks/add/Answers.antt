use Rattle.bib_items.proofs.Words.{ℕ, List, subst, sym, Err, IsBinarySearchResult, nat_cmp, AreMarks, KeepsMarks}
use Rattle.bib_items.proofs.PartMarks.{keeps-insert, marks-insert, marks-seen}
use Rattle.bib_items.proofs.marking.Marks.add.Goals as goal

pub invariant_of-self : goal.invariant_of-self
invariant_of-self c =
    let found = subst (λ (marks : List ℕ). IsBinarySearchResult (λ other. nat_cmp other c.args.mark) marks (Err c.in-Err.at)) c.deref.ensures.value c.in-Err.ensures.position in
    subst (λ (marks : List ℕ). AreMarks marks c.see.new.seen.items) (sym c.in_ok-insert.ensures.items)
    (marks-insert c.self.inside.marks.items c.see.new.seen.items c.in-Err.at c.args.mark found c.see.ensures.added (marks-seen c.self.inside.marks.items c.self.inside.seen.items c.see.new.seen.items c.see.ensures.kept c.self.invariant))

pub returns-in_ok-insert-clause-kept : goal.returns-in_ok-insert-clause-kept
returns-in_ok-insert-clause-kept c =
    let keeps : KeepsMarks c.self.inside.marks.items c.insert.new.self.items
    = subst (KeepsMarks c.self.inside.marks.items) (sym c.in_ok-insert.ensures.items) (keeps-insert c.self.inside.marks.items c.in-Err.at c.args.mark) in
    subst (λ (old : List ℕ). KeepsMarks old c.insert.new.self.items) c.self.view_is keeps
