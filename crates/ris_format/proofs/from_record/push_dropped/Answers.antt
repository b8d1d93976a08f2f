use Rattle.ris_format.proofs.Words.{◌≡◌, ◌∙◌, ◌++◌, ◌∷◌, [], true, false, rules, sym, ap, ap₂, cond-true, cond-false, Text, is_dropped}
use Rattle.std.proofs.Common.{List}
use Rattle.ris_format.proofs.from_record.push_dropped.Goals as goal

pub returns-in_ok-push : goal.returns-in_ok-push
returns-in_ok-push c =
    let field = c.args.field.now in
    let old : List Text = c.args.names.now.items in
    let name : c.as_slice.result.now ≡ field.0 = search rules in
    let text : c.as_slice-2.result.now ≡ field.1 = search rules in
    let again : c.as_slice-then-branch.result.now ≡ field.0 = search rules in
    let dropped : is_dropped c.args.kind field ≡ true = sym (c.in_ok-is_dropped.ensures ∙ ap₂ (λ (n t : Text). is_dropped c.args.kind (n, t)) name text) ∙ c.if-branch.true in
    c.in_ok-push.ensures.items ∙ ap (λ (n : Text). old ++ n ∷ []) (c.in_ok-name.ensures ∙ again) ∙ sym (cond-true (is_dropped c.args.kind field) (old ++ field.0 ∷ []) old dropped)

pub returns-else-branch : goal.returns-else-branch
returns-else-branch c =
    let field = c.args.field.now in
    let old : List Text = c.args.names.now.items in
    let name : c.as_slice.result.now ≡ field.0 = search rules in
    let text : c.as_slice-2.result.now ≡ field.1 = search rules in
    let kept : is_dropped c.args.kind field ≡ false = sym (c.in_ok-is_dropped.ensures ∙ ap₂ (λ (n t : Text). is_dropped c.args.kind (n, t)) name text) ∙ c.if-branch.false in
    sym (cond-false (is_dropped c.args.kind field) (old ++ field.0 ∷ []) old kept)
