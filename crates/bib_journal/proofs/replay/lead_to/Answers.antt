use Rattle.bib_journal.proofs.Words.{◌≡◌, true, sym, ◌∙◌, ap, subst, Text, LeadTo, LeadOn, first_of, last_of}
use Rattle.bib_journal.proofs.ReplayLemmas.{on_from_first}
use Rattle.bib_journal.proofs.replay.lead_to.Goals as goal

pub unreachable-requires : goal.unreachable-requires
unreachable-requires g c =
    let there : LeadTo c.args.past.now c.args.db.now = c.in_ok-go_back_over.ensures.yes.0 c.if-not-branch.false in
    let here : c.go_back_over.new.db ≡ first_of c.args.past.now c.args.db.now = c.in_ok-go_back_over.ensures.back c.if-not-branch.false in
    let on : LeadOn c.args.past.now c.go_back_over.new.db =
    subst (λ (f : Text). LeadOn c.args.past.now f) (sym here) ((on_from_first _ _ there).0) in
    let yes : c.in_ok-go_on_over.field-0 ≡ true = c.in_ok-go_on_over.ensures.yes.1 on in
    absurd (cc)

pub returns-clause-same : goal.returns-clause-same
returns-clause-same g c = λ _.
    let there : LeadTo c.args.past.now c.args.db.now = c.in_ok-go_back_over.ensures.yes.0 c.if-not-branch.false in
    c.in_ok-go_on_over.ensures.on c.if-not-branch-2.false
    ∙ ap (last_of c.args.past.now) (c.in_ok-go_back_over.ensures.back c.if-not-branch.false)
    ∙ (on_from_first _ _ there).1
