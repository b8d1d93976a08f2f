use Rattle.bib_journal.proofs.Words.{◌≡◌, true, sym, ◌∙◌, ap, subst, Text, LeadTo, LeadOn, first_of, last_of}
use Rattle.bib_journal.proofs.ReplayLemmas.{to_last}
use Rattle.bib_journal.proofs.replay.lead_on.Goals as goal

pub unreachable-requires : goal.unreachable-requires
unreachable-requires g c =
    let on : LeadOn c.args.future.now c.args.db.now = c.in_ok-go_on_over.ensures.yes.0 c.if-not-branch.false in
    let here : c.go_on_over.new.db ≡ last_of c.args.future.now c.args.db.now = c.in_ok-go_on_over.ensures.on c.if-not-branch.false in
    let there : LeadTo c.args.future.now c.go_on_over.new.db =
    subst (λ (f : Text). LeadTo c.args.future.now f) (sym here) ((to_last _ _ on).0) in
    let yes : c.in_ok-go_back_over.field-0 ≡ true = c.in_ok-go_back_over.ensures.yes.1 there in
    absurd (cc)

pub returns-clause-same : goal.returns-clause-same
returns-clause-same g c = λ _.
    let on : LeadOn c.args.future.now c.args.db.now = c.in_ok-go_on_over.ensures.yes.0 c.if-not-branch.false in
    c.in_ok-go_back_over.ensures.back c.if-not-branch-2.false
    ∙ ap (first_of c.args.future.now) (c.in_ok-go_on_over.ensures.on c.if-not-branch.false)
    ∙ (to_last _ _ on).1
