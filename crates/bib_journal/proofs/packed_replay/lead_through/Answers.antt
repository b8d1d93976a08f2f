use Rattle.bib_journal.proofs.Words.{◌≡◌, true, List, sym, ◌∙◌, ap, subst, Text, Step, LeadTo, LeadOn, first_of, last_of, take, drop}
use Rattle.bib_journal.proofs.ReplayLemmas.{to_last, part_all}
use Rattle.bib_journal.proofs.packed_replay.lead_through.Goals as goal

pub unreachable-requires : goal.unreachable-requires
unreachable-requires g c =
    let all : drop 0 (take c.len.result c.args.future.now) ≡ c.args.future.now = part_all c.args.future.now c.len.result c.len.ensures.count in
    let on : LeadOn c.args.future.now c.args.db.now = c.in_ok-go_on_through.ensures.yes.0 c.if-not-branch.false in
    let here : c.go_on_through.new.db ≡ last_of c.args.future.now c.args.db.now = c.in_ok-go_on_through.ensures.on c.if-not-branch.false in
    let there : LeadTo c.args.future.now c.go_on_through.new.db =
    subst (λ (f : Text). LeadTo c.args.future.now f) (sym here) ((to_last _ _ on).0) in
    let yes : c.in_ok-go_back_between.field-0 ≡ true = c.in_ok-go_back_between.ensures.yes.1 (subst (λ (ss : List Step). LeadTo ss c.go_on_through.new.db) (sym all) there) in
    absurd (cc)

pub returns-clause-same : goal.returns-clause-same
returns-clause-same g c = λ _.
    let all : drop 0 (take c.len.result c.args.future.now) ≡ c.args.future.now = part_all c.args.future.now c.len.result c.len.ensures.count in
    let on : LeadOn c.args.future.now c.args.db.now = c.in_ok-go_on_through.ensures.yes.0 c.if-not-branch.false in
    c.in_ok-go_back_between.ensures.back c.if-not-branch-2.false
    ∙ ap (λ (ss : List Step). first_of ss c.go_on_through.new.db) all
    ∙ ap (first_of c.args.future.now) (c.in_ok-go_on_through.ensures.on c.if-not-branch.false)
    ∙ (to_last _ _ on).1
