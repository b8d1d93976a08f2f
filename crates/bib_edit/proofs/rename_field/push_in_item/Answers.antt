use Rattle.bib_edit.proofs.Words.{◌++◌, ◌&&◌, nat_lt, List, ℕ, Text, sym, ◌∙◌, ap, append-nil, tokens_seen, count_by, Field}
use Rattle.bib_edit.specs.RenamedFields.{own_fields, has_either, names_at}
use Rattle.bib_edit.proofs.NamedFields.{names-none, own-all}
use Rattle.bib_edit.proofs.rename_field.push_in_item.Goals as goal

pub returns-then-not-has_own-clause-names : goal.returns-then-not-has_own-clause-names
returns-then-not-has_own-clause-names c =
    sym (append-nil (tokens_seen c.args.names.now.items))
    ∙ ap (λ (l : List (ℕ × Text)). tokens_seen c.args.names.now.items ++ l)
    (sym (names-none c.args.from.now c.args.start (own_fields c.args.view.now) (sym c.has_own.ensures ∙ c.if-not-has_own.true)))

pub returns-then-not-has_own-clause-clashes : goal.returns-then-not-has_own-clause-clashes
returns-then-not-has_own-clause-clashes c = sym (ap (λ b. b && nat_lt 1 (count_by (has_either c.args.from.now c.args.to.now) (own_fields c.args.view.now))) (sym c.has_own.ensures ∙ c.if-not-has_own.true))

pub push_names-requires : goal.push_names-requires
push_names-requires c = rw c.fields.ensures.fields c.requires

pub returns-clause-names : goal.returns-clause-names
returns-clause-names c =
    c.in_ok-push_names.ensures
    ∙ ap (λ (fields : List Field). tokens_seen c.args.names.now.items ++ names_at c.args.start c.args.from.now fields)
    (c.fields.ensures.fields ∙ sym (own-all c.args.from.now c.args.view.now (sym c.has_own.ensures ∙ c.if-not-has_own.false)))

pub returns-clause-clashes : goal.returns-clause-clashes
returns-clause-clashes c =
    let has = sym c.has_own.ensures ∙ c.if-not-has_own.false in
    ap (nat_lt 1) (c.either_count.ensures ∙ ap (count_by (has_either c.args.from.now c.args.to.now)) (sym (own-all c.args.from.now c.args.view.now has)))
    ∙ sym (ap (λ b. b && nat_lt 1 (count_by (has_either c.args.from.now c.args.to.now) (own_fields c.args.view.now))) has)
