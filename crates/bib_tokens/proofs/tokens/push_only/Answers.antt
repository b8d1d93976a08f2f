use Rattle.bib_tokens.proofs.Words.{◌++◌, ◌∷◌, [], ◌∙◌, sym, ap, append-nil, map-append, part_view, token_seen, tokens_seen, test_of}
use Rattle.bib_tokens.proofs.PlacedValues.{only_met, only_unmet}
use Rattle.bib_tokens.proofs.tokens.push_only.Goals as goal

pub returns-then-not-is_met-clause-tokens : goal.returns-then-not-is_met-clause-tokens
returns-then-not-is_met-clause-tokens c v ok same =
    sym (append-nil (tokens_seen c.args.tokens.now.items))
    ∙ ap (λ l. tokens_seen c.args.tokens.now.items ++ l) (sym (only_unmet (test_of c.args.sought) c.args.at c.args.value.now (part_view c.args.part) (sym c.is_met.ensures ∙ c.if-not-is_met.true) c.requires v ok same))

pub returns-clause-tokens : goal.returns-clause-tokens
returns-clause-tokens c v ok same =
    ap tokens_seen c.in_ok-push.ensures.items
    ∙ map-append token_seen c.args.tokens.now.items (_ ∷ [])
    ∙ ap (λ l. tokens_seen c.args.tokens.now.items ++ l) (sym (only_met (test_of c.args.sought) c.args.at c.args.value.now (part_view c.args.part) (sym c.is_met.ensures ∙ c.if-not-is_met.false) c.requires v ok same))
