use Rattle.bib_answers.proofs.Words.{◌≡◌, [], List, rules, sym, subst}
use Rattle.entry_json.specs.declared.raw.WrittenField.{WrittenField}
use Rattle.bib_answers.specs.Raw.{AreGathered}
use Rattle.bib_answers.proofs.WrittenFields.{gathered_none}
use Rattle.bib_answers.proofs.written.Gathered.none.Goals as goal

pub returns : goal.returns
returns c =
    let empty : c.new.result.items ≡ [] = search rules in
    subst (λ (fields : List WrittenField). AreGathered [] c.insert.new.self fields) (sym empty)
    (gathered_none c.new-names.result c.insert.new.self tt c.new-names.ensures c.in_ok-insert.ensures.ok)
