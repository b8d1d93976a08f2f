use Rattle.bib_run.proofs.Words.{◌≡◌, ◌∙◌, ap, subst, rules, Text}
use Rattle.std.proofs.Common.{◌≢◌, Option, None, subst₂}
use Rattle.bib_journal.specs.OpenSteps.{SessionState}
use Rattle.bib_journal.specs.declared.fault.SessionFault.{SessionFault}
use Rattle.bib_run.specs.InsertAnswer.{HasPutIn, AreNews, defined_there, whole, news}
use Rattle.bib_run.proofs.commands.insert.insert_at.Goals as goal

pub returns-then-ne : goal.returns-then-ne
returns-then-ne c =
    let other : c.in_ok-whole.whole.fault ≢ defined_there = search rules in
    whole c.in_ok-whole.whole.fault other c.in_ok-whole.ensures.put

pub returns : goal.returns
returns c =
    let told : c.in_ok-whole.whole.fault ≡ defined_there = search rules in
    let some : c.in_ok-whole.whole.fault ≢ None = λ none. cc in
    let same : c.try_put.new.session ≡ c.args.session.now = c.in_ok-whole.ensures.same some in
    let put = subst (λ (f : Option SessionFault). HasPutIn c.args.position.now c.args.text.now c.args.session.now c.in_ok-whole.whole.answer f) told c.in_ok-whole.ensures.put in
    let are = subst (λ (t : Text). AreNews c.args.position.now t c.args.text.now c.in_ok-news.news) (c.database.ensures ∙ ap (λ (s : SessionState). s.steps.present) same) c.in_ok-news.ensures in
    let again = subst₂ (λ (t : Text) (s : SessionState). HasPutIn c.args.position.now t s c.in_ok-new.new.answer c.in_ok-new.new.fault) c.as_slice.ensures same c.in_ok-new.ensures.put in
    news c.in_ok-whole.whole.answer c.in_ok-news.news c.in_ok-new.new.fault put are again
