use Rattle.bib_answers.proofs.Words.{◌≡◌, ◌∙◌, ◌∷◌, ◌++◌, [], List, true, false, ap, sym, subst, folded}
use Rattle.std.proofs.Common.{is_some}
use Rattle.folded_map.specs.FoldedMap.{value_at}
use Rattle.entry_json.specs.RawJson.{written_seen}
use Rattle.entry_json.specs.declared.raw.WrittenField.{WrittenField}
use Rattle.bib_answers.specs.Raw.{AreGathered}
use Rattle.bib_answers.proofs.WrittenFields.{gathered_kept, gathered_more}
use Rattle.bib_answers.proofs.written.Gathered.add.Goals as goal

pub returns-then-is_some : goal.returns-then-is_some
returns-then-is_some c seen before =
    let taken : is_some (value_at c.args.self.now.names (folded c.args.field.name.now)) ≡ true = ap is_some (sym c.in_ok-insert.ensures.value) ∙ sym c.is_some.ensures ∙ c.if-is_some.true in
    gathered_kept c.args.self.now.names c.insert.new.self tt seen c.args.self.now.fields.items c.args.field before c.in_ok-insert.ensures.ok taken

pub returns : goal.returns
returns c seen before =
    let free : is_some (value_at c.args.self.now.names (folded c.args.field.name.now)) ≡ false = ap is_some (sym c.in_ok-insert.ensures.value) ∙ sym c.is_some.ensures ∙ c.if-is_some.false in
    subst (λ (items : List WrittenField). AreGathered (seen ++ written_seen c.args.field ∷ []) c.insert.new.self items) (sym c.in_ok-push.ensures.items)
    (gathered_more c.args.self.now.names c.insert.new.self tt seen c.args.self.now.fields.items c.args.field before c.in_ok-insert.ensures.ok free)
