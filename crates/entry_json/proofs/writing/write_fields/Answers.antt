use Rattle.std.proofs.Common.{◌≡◌, ◌∙◌, ◌++◌, ◌∷◌, [], List, take, rules, append_assoc, ap, arith}
use Rattle.std.specs.List.{flat_map}
use Rattle.std.proofs.lemmas.List.{take_all}
use Rattle.std.proofs.lemmas.Result.{err_from_is_err_and}
use Rattle.json.specs.Token.{Token, end_object}
use Rattle.entry_json.proofs.WrittenFields.{field_tokens, tokens_all, tokens_more, utf8_more, utf8_not}
use Rattle.entry_json.proofs.writing.write_fields.Goals as goal

pub returns-in_err-write_field-clause-fault : goal.returns-in_err-write_field-clause-fault
returns-in_err-write_field-clause-fault c =
    let p = err_from_is_err_and c.from_residual.result c.from_residual.ensures.1 in
    rw (p.1, p.2)
    (λ other. utf8_not c.args.fields.now c.fields.field-index c.field-item.result c.fields-test.true c.field-item.is c.fields.invariant.2 (c.in_err-write_field.ensures.fault other))

pub fields-preserved : goal.fields-preserved
fields-preserved c = (
  c.in_ok-write_field.ensures.before ∙ c.fields.invariant.0,
  c.in_ok-write_field.ensures.text ∙ tokens_more c.args.writer.now.tokens c.fields.writer.tokens c.args.fields.now c.fields.field-index c.field-item.result c.fields-test.true c.field-item.is c.fields.invariant.1,
  utf8_more c.args.fields.now c.fields.field-index c.field-item.result c.fields-test.true c.field-item.is c.fields.invariant.2 c.in_ok-write_field.ensures.utf8,
)

pub returns-clause-text : goal.returns-clause-text
returns-clause-text c =
    let all : take c.fields.field-index c.args.fields.now ≡ c.args.fields.now = take_all c.fields.field-index c.args.fields.now (omega (arith, c.fields-test.false)) in
    let written : c.end_object.new.self.tokens ≡ c.fields.writer.tokens ++ end_object ∷ [] = search rules in
    written
    ∙ ap (λ (ts : List Token). ts ++ end_object ∷ []) c.fields.invariant.1
    ∙ append_assoc c.args.writer.now.tokens (flat_map field_tokens (take c.fields.field-index c.args.fields.now)) (end_object ∷ [])
    ∙ ap (λ (ts : List Token). c.args.writer.now.tokens ++ ts) (ap (λ fs. flat_map field_tokens fs ++ end_object ∷ []) all ∙ tokens_all c.args.fields.now)
