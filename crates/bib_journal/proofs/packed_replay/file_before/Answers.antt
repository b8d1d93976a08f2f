use Rattle.bib_journal.proofs.Words.{◌≡◌, ◌-◌, ℕ, List, true, length, take, drop, sym, ◌∙◌, ap, subst, Text, Step, LeadTo, first_of}
use Rattle.bib_journal.proofs.TakenBack.{both_lead, parts_lead, last_part, first_part}
use Rattle.bib_journal.proofs.packed_replay.file_before.Goals as goal

pub returns-then-not-branch-2-clause-none : goal.returns-then-not-branch-2-clause-none
returns-then-not-branch-2-clause-none g c = λ _ w.
    let past : List Step = c.args.past.now in
    let first : ℕ = length past - c.args.n in
    let part : drop (c.len.result - c.args.n) (take c.len-2.result past) ≡ drop first past = last_part past c.args.n c.len.result c.len-2.result c.len.ensures.count c.len-2.ensures.count in
    let same : c.lead_through.new.db ≡ c.args.db.now = c.in_ok-lead_through.ensures.same c.if-not-branch.false in
    let there : LeadTo (drop (c.len.result - c.args.n) (take c.len-2.result past)) c.lead_through.new.db =
    subst (λ (ss : List Step). LeadTo ss c.lead_through.new.db) (sym part)
    (subst (λ (f : Text). LeadTo (drop first past) f) (sym same) ((parts_lead first past c.args.db.now w.back).0)) in
    let yes : c.in_ok-go_back_between.field-0 ≡ true = c.in_ok-go_back_between.ensures.yes.1 there in
    absurd (cc)

pub returns-then-not-branch-3-clause-none : goal.returns-then-not-branch-3-clause-none
returns-then-not-branch-3-clause-none g c = λ _ w.
    let past : List Step = c.args.past.now in
    let first : ℕ = length past - c.args.n in
    let part : drop (c.len.result - c.args.n) (take c.len-2.result past) ≡ drop first past = last_part past c.args.n c.len.result c.len-2.result c.len.ensures.count c.len-2.ensures.count in
    let others : drop 0 (take (c.len.result - c.args.n) past) ≡ take first past = first_part past c.args.n c.len.result c.len.ensures.count in
    let same : c.lead_through.new.db ≡ c.args.db.now = c.in_ok-lead_through.ensures.same c.if-not-branch.false in
    let here : c.settle.new.self ≡ first_of (drop first past) c.args.db.now =
    c.settle.ensures ∙ c.in_ok-go_back_between.ensures.back c.if-not-branch-2.false
    ∙ ap (λ (ss : List Step). first_of ss c.lead_through.new.db) part ∙ ap (first_of (drop first past)) same in
    let there : LeadTo (drop 0 (take (c.len.result - c.args.n) past)) c.settle.new.self =
    subst (λ (ss : List Step). LeadTo ss c.settle.new.self) (sym others)
    (subst (λ (f : Text). LeadTo (take first past) f) (sym here) ((parts_lead first past c.args.db.now w.back).1)) in
    let yes : c.in_ok-go_back_between-2.field-0 ≡ true = c.in_ok-go_back_between-2.ensures.yes.1 there in
    absurd (cc)

pub returns-clause-file : goal.returns-clause-file
returns-clause-file g c =
    let past : List Step = c.args.past.now in
    let first : ℕ = length past - c.args.n in
    let part : drop (c.len.result - c.args.n) (take c.len-2.result past) ≡ drop first past = last_part past c.args.n c.len.result c.len-2.result c.len.ensures.count c.len-2.ensures.count in
    let others : drop 0 (take (c.len.result - c.args.n) past) ≡ take first past = first_part past c.args.n c.len.result c.len.ensures.count in
    let same : c.lead_through.new.db ≡ c.args.db.now = c.in_ok-lead_through.ensures.same c.if-not-branch.false in
    let here : c.settle.new.self ≡ first_of (drop first past) c.args.db.now =
    c.settle.ensures ∙ c.in_ok-go_back_between.ensures.back c.if-not-branch-2.false
    ∙ ap (λ (ss : List Step). first_of ss c.lead_through.new.db) part ∙ ap (first_of (drop first past)) same in
    let last : LeadTo (drop first past) c.args.db.now =
    subst (λ (f : Text). LeadTo (drop first past) f) same
    (subst (λ (ss : List Step). LeadTo ss c.lead_through.new.db) part (c.in_ok-go_back_between.ensures.yes.0 c.if-not-branch-2.false)) in
    let begin : LeadTo (take first past) (first_of (drop first past) c.args.db.now) =
    subst (λ (f : Text). LeadTo (take first past) f) here
    (subst (λ (ss : List Step). LeadTo ss c.settle.new.self) others (c.in_ok-go_back_between-2.ensures.yes.0 c.if-not-branch-3.false)) in (
      record {
        back = both_lead first past c.args.db.now last begin;
        on = c.in_ok-lead_through.ensures.yes.0 c.if-not-branch.false;
      },
      c.in_ok-file.ensures ∙ here,
    )
