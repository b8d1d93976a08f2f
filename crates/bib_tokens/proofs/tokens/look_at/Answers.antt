use Rattle.bib_tokens.proofs.Words.{◌==◌, not, List, length, sym, ◌∙◌, ap, subst, arith, ℕ, Text, token_seen, tokens_seen, AreFieldTokens, test_of}
use Rattle.std.proofs.lemmas.List.{length-map}
use Rattle.bib_tokens.proofs.PlacedItems.{placed-fields, has-tokens, not_none}
use Rattle.bib_tokens.proofs.MetParts.{item-met}
use Rattle.bib_tokens.proofs.tokens.look_at.Goals as goal

pub push_in_fields-requires : goal.push_in_fields-requires
push_in_fields-requires g c =
    placed-fields c.args.db.now c.args.n 0 c.item.result c.fields.result c.opens.ensures c.requires (λ db reads. omega arith) c.item.ensures c.fields.ensures.fields

pub returns-clause-sought : goal.returns-clause-sought
returns-clause-sought g c db reads i at =
    let tokens : List (ℕ × Text) = tokens_seen c.push_in_fields.new.tokens.items in
    ap not (c.is_empty.ensures ∙ ap (λ n. n == 0) (ap length c.as_slice.ensures.value ∙ sym (length-map c.push_in_fields.new.tokens.items token_seen))) ∙ not_none (length tokens)
    ∙ has-tokens (test_of c.args.sought) c.args.db.now db c.args.n i c.item.result c.fields.result tokens reads at (c.item.ensures db reads i at) c.fields.ensures.fields
    (subst (λ (l : List (ℕ × Text)). AreFieldTokens (test_of c.args.sought) 0 c.fields.result l tokens) (ap tokens_seen c.new-tokens.ensures.items) c.in_ok-met.ensures.tokens)

pub returns-clause-watched : goal.returns-clause-watched
returns-clause-watched g c db reads i at =
    item-met (test_of c.args.watched) c.args.db.now db c.args.n i c.item.result c.fields.result c.in_ok-met.met reads at (c.item.ensures db reads i at) c.fields.ensures.fields c.in_ok-met.ensures.met
