use Rattle.bib_tokens.proofs.Words.{List, refl, sym, subst, arith, Field, tokens_seen, ArePlacedFields, AreFieldTokens, test_of}
use Rattle.bib_tokens.proofs.Elements.{stands_alone, stands_on}
use Rattle.bib_tokens.proofs.MetParts.{met-field, met-no_field}
use Rattle.bib_tokens.proofs.tokens.push_in_fields.Goals as goal

pub fields-init : goal.fields-init
fields-init c = (c.requires, λ new h. h, λ met h. h, stands_alone c.args.tokens.now.items)

pub overflow_add-at : goal.overflow_add-at
overflow_add-at c =
    let this = (subst (ArePlacedFields c.args.start) c.in-Some.ensures.steps c.fields.invariant.0).0 in
    let place = this.place in omega (arith, place)

pub push_in_value-requires-clause-value : goal.push_in_value-requires-clause-value
push_in_value-requires-clause-value c = (subst (ArePlacedFields c.args.start) c.in-Some.ensures.steps c.fields.invariant.0).0.value

pub push_in_value-requires-clause-place : goal.push_in_value-requires-clause-place
push_in_value-requires-clause-place c =
    let this = (subst (ArePlacedFields c.args.start) c.in-Some.ensures.steps c.fields.invariant.0).0 in
    let place = this.place in omega (arith, place)

pub fields-preserved : goal.fields-preserved
fields-preserved c = (
  (subst (ArePlacedFields c.args.start) c.in-Some.ensures.steps c.fields.invariant.0).1,
  λ new h.
      c.fields.invariant.1 new
      (subst (λ (fs : List Field). AreFieldTokens (test_of c.args.sought) c.args.start fs (tokens_seen c.fields.tokens.items) new) (sym c.in-Some.ensures.steps)
      (tokens_seen c.push_in_value.new.tokens.items, c.in_ok-here.ensures.tokens, h)),
  λ met h.
      met-field (test_of c.args.watched) c.args.fields c.fields.rest _ _ c.fields.met c.in_ok-here.here met (sym c.in-Some.ensures.steps) c.in_ok-here.ensures.met h c.fields.invariant.2,
  stands_on c.args.tokens.now.items c.fields.tokens.items c.push_in_value.new.tokens.items c.fields.invariant.3 c.in_ok-here.ensures.front,
)

pub returns-clause-tokens : goal.returns-clause-tokens
returns-clause-tokens c =
    c.fields.invariant.1 (tokens_seen c.fields.tokens.items)
    (subst (λ (fs : List Field). AreFieldTokens (test_of c.args.sought) c.args.start fs (tokens_seen c.fields.tokens.items) (tokens_seen c.fields.tokens.items)) (sym c.in_default.ensures.steps.0) refl)

pub returns-clause-met : goal.returns-clause-met
returns-clause-met c = met-no_field (test_of c.args.watched) c.args.fields c.fields.rest c.fields.met c.in_default.ensures.steps.0 c.fields.invariant.2
