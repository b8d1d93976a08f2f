use Rattle.std.proofs.Common.{◌≡◌, ◌∙◌, ◌++◌, ◌∷◌, [], List, None, take, get_or, rules, append_assoc, ap, refl, sym, arith, Bor}
use Rattle.std.specs.List.{flat_map, list_all}
use Rattle.std.proofs.lemmas.List.{take_all}
use Rattle.std.proofs.lemmas.Result.{err_from_is_err_and}
use Rattle.json.specs.Token.{Token, end_object, key}
use Rattle.json.specs.Tree.{json_tokens}
use Rattle.entry_json.specs.RawJson.{written_seen, written_json}
use Rattle.entry_json.proofs.WrittenFields.{tokens_next}
use Rattle.entry_json.proofs.RawFields.{seen_tokens, is_seen_utf8, written_tokens_all, utf8_all, seen_utf8_more, seen_utf8_not}
use Rattle.entry_json.specs.declared.raw.WrittenField.{WrittenField}
use Rattle.bib_spec.specs.Text.{Text, folded}
use Rattle.entry_json.proofs.raw.write_fields.Goals as goal

-- what the logic reads past the end of a list
abbrev nothing : Bor Text
nothing = record { ref_ptr = (0, 0); now = [] }

abbrev blank : WrittenField
blank = record { name = nothing; value = nothing; from = None }

pub returns-in_err-write_field-clause-fault : goal.returns-in_err-write_field-clause-fault
returns-in_err-write_field-clause-fault c =
    let p = err_from_is_err_and c.from_residual.result c.from_residual.ensures.1 in
    rw (p.1, p.2)
    (λ other. seen_utf8_not c.args.fields.now c.fields.field-index blank (get_or c.args.fields.now c.fields.field-index blank) c.fields-test.true refl c.fields.invariant.2 (c.in_err-write_field.ensures.fault other))

pub fields-preserved : goal.fields-preserved
fields-preserved c =
    let field = get_or c.args.fields.now c.fields.field-index blank in (
      c.in_ok-write_field.ensures.before ∙ c.fields.invariant.0,
      c.in_ok-write_field.ensures.text
          ∙ append_assoc c.fields.writer.tokens (key (folded field.name.now) ∷ []) (json_tokens (written_json (written_seen field)))
          ∙ tokens_next seen_tokens c.args.writer.now.tokens c.fields.writer.tokens c.args.fields.now c.fields.field-index blank field c.fields-test.true refl c.fields.invariant.1,
      seen_utf8_more c.args.fields.now c.fields.field-index blank field c.fields-test.true refl c.fields.invariant.2 c.in_ok-write_field.ensures.utf8,
    )

pub returns-clause-text : goal.returns-clause-text
returns-clause-text c =
    let all : take c.fields.field-index c.args.fields.now ≡ c.args.fields.now = take_all c.fields.field-index c.args.fields.now (omega (arith, c.fields-test.false)) in
    let written : c.end_object.new.self.tokens ≡ c.fields.writer.tokens ++ end_object ∷ [] = search rules in
    written
    ∙ ap (λ (ts : List Token). ts ++ end_object ∷ []) c.fields.invariant.1
    ∙ append_assoc c.args.writer.now.tokens (flat_map seen_tokens (take c.fields.field-index c.args.fields.now)) (end_object ∷ [])
    ∙ ap (λ (ts : List Token). c.args.writer.now.tokens ++ ts) (ap (λ fs. flat_map seen_tokens fs ++ end_object ∷ []) all ∙ written_tokens_all c.args.fields.now)

pub returns-clause-utf8 : goal.returns-clause-utf8
returns-clause-utf8 c =
    let all : take c.fields.field-index c.args.fields.now ≡ c.args.fields.now = take_all c.fields.field-index c.args.fields.now (omega (arith, c.fields-test.false)) in
    utf8_all c.args.fields.now ∙ ap (list_all is_seen_utf8) (sym all) ∙ c.fields.invariant.2
