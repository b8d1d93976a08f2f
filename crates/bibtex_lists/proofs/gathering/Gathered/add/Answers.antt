use Rattle.bib_store.proofs.Words.{List, ◌∷◌, [], ◌++◌, sym, ◌∙◌, ap, subst, Text, RecordField, AreTaken}
use Rattle.bib_store.proofs.GatheredFields.{taken_more}
use Rattle.bibtex_lists.proofs.gathering.Gathered.add.Goals as goal

pub returns-clause-names : goal.returns-clause-names
returns-clause-names c =
    let fields : List RecordField = c.args.self.now.fields.items in
    let text : Text = c.in_ok-text.text in
    subst (λ (items : List RecordField). AreTaken c.insert.new.self items) (sym (c.in_ok-push.ensures.items ∙ ap (λ (l : Text). fields ++ (l, text) ∷ []) c.in_ok-lower.ensures))
    (taken_more c.args.self.now.names c.insert.new.self tt fields c.args.name.now text c.requires.names c.in_ok-insert.ensures.ok)
