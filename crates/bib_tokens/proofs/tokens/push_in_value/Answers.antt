use Rattle.bib_tokens.proofs.Words.{◌+◌, ◌∷◌, ◌||◌, Bool, [], length, take, sym, ◌∙◌, ap, subst, arith, map-append, part_view, token_seen, tokens_seen, test_of}
use Rattle.bib_value.proofs.RawLemmas.{parts_counted}
use Rattle.bib_tokens.proofs.Elements.{stands_at_push}
use Rattle.bib_tokens.proofs.PlacedValues.{AreValueTokensTo, part-placed, tokens-met_more, tokens-unmet_more, tokens-all}
use Rattle.bib_tokens.proofs.MetParts.{IsMetTo, met-part, met-parts, met-only}
use Rattle.bib_tokens.proofs.tokens.push_in_value.Goals.{then-is_met+in_ok-push, else-is_met}
use Rattle.bib_tokens.proofs.tokens.push_in_value.Goals as goal

pub returns-in-Some-clause-met : goal.returns-in-Some-clause-met
returns-in-Some-clause-met c v ok same = c.is_met.ensures ∙ met-only (test_of c.args.watched) c.args.value.now (part_view c.in-Some.part) c.in-Some.ensures v ok same

pub parts-preserved : goal.parts-preserved
parts-preserved c =
    let placed = part-placed (test_of c.args.sought) c.args.at c.args.value.now c.parts.n (part_view c.part-part.result) c.part-part.ensures in
    let met : IsMetTo (test_of c.args.watched) c.args.value.now (c.parts.n + 1) (c.parts.met || c.is_met-here.result) =
    subst (λ (b : Bool). IsMetTo (test_of c.args.watched) c.args.value.now (c.parts.n + 1) (c.parts.met || b)) (sym c.is_met-here.ensures)
    (met-part (test_of c.args.watched) c.args.value.now c.parts.n c.parts.met (part_view c.part-part.result) c.part-part.ensures c.parts.invariant.1) in
    elim c.if-is_met.branch [
      | then-is_met+in_ok-push w ↦ (
        subst (AreValueTokensTo (test_of c.args.sought) c.args.at c.args.value.now (tokens_seen c.args.tokens.now.items) (c.parts.n + 1))
            (sym (ap (λ v. tokens_seen v.items) w.tokens-is ∙ ap tokens_seen w.in_ok-push.ensures.items ∙ map-append token_seen c.parts.tokens.items (w.token_of.result ∷ [])))
            (tokens-met_more (test_of c.args.sought) c.args.at c.args.value.now (tokens_seen c.args.tokens.now.items) c.parts.n (tokens_seen c.parts.tokens.items) (part_view c.part-part.result) (token_seen w.token_of.result) placed
            w.token_of.ensures (sym c.is_met-in-parts.ensures ∙ w.if-is_met.true) c.parts.invariant.0),
        met,
        ap (λ v. take (length c.args.tokens.now.items) v.items) w.tokens-is ∙ ap (take (length c.args.tokens.now.items)) w.in_ok-push.ensures.items
            ∙ stands_at_push c.args.tokens.now.items c.parts.tokens.items w.token_of.result c.parts.invariant.2,
      )
      | else-is_met w ↦ (
        subst (AreValueTokensTo (test_of c.args.sought) c.args.at c.args.value.now (tokens_seen c.args.tokens.now.items) (c.parts.n + 1)) (sym (ap (λ v. tokens_seen v.items) w.tokens-is))
            (tokens-unmet_more (test_of c.args.sought) c.args.at c.args.value.now (tokens_seen c.args.tokens.now.items) c.parts.n (tokens_seen c.parts.tokens.items) (part_view c.part-part.result) placed
            (sym c.is_met-in-parts.ensures ∙ w.if-is_met.false) c.parts.invariant.0),
        met,
        ap (λ v. take (length c.args.tokens.now.items) v.items) w.tokens-is ∙ c.parts.invariant.2,
      )
    ]

pub returns-clause-tokens : goal.returns-clause-tokens
returns-clause-tokens c =
    let end = c.parts-test.false in
    tokens-all (test_of c.args.sought) c.args.at c.args.value.now (tokens_seen c.args.tokens.now.items) c.parts.n (tokens_seen c.parts.tokens.items)
    (λ v ok same. let count = parts_counted c.args.value.now c.in_ok-parts.parts c.len-n-end.result c.in_ok-parts.ensures c.len-n-end.ensures.parts v ok same in omega (arith, end, count))
    c.parts.invariant.0

pub returns-clause-met : goal.returns-clause-met
returns-clause-met c =
    let end = c.parts-test.false in
    met-parts (test_of c.args.watched) c.args.value.now c.parts.n c.parts.met
    (λ v ok same. let count = parts_counted c.args.value.now c.in_ok-parts.parts c.len-n-end.result c.in_ok-parts.ensures c.len-n-end.ensures.parts v ok same in omega (arith, end, count))
    c.parts.invariant.1
