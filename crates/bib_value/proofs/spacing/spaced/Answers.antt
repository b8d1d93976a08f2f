use Rattle.std.proofs.Common.{◌≡◌, ◌∙◌, ◌&&◌, ℕ, false, sym, subst, ap, Vec, Global, [], ◌∷◌, ◌++◌, drop, get_or}
use Rattle.std.proofs.lemmas.Bool.{and_left, and_right}
use Rattle.std.proofs.lemmas.List.{drop_all}
use Rattle.bib_spec.specs.Text.{Text}
use Rattle.bib_value.proofs.FieldTextLemmas.{InText, is_begun, in_text_start, in_text_is, step_space, step_word, step_gap, begun_from_len, not_begun_from_len, in_text_all}
use Rattle.bib_value.proofs.spacing.spaced.Goals as goal
use Rattle.bib_value.proofs.spacing.spaced.Goals.{then-is_space, else-is_space+in_ok-push-2, then-apart+then-not-is_empty+in_ok-push, else-apart, else-apart-via-then-apart+else-not-is_empty, else-apart-via-else-apart}

abbrev items : Vec ℕ Global → Text
items v = v.items

abbrev with_byte : goal.Joined-is_space → Text → Text
with_byte c t = t ++ get_or c.args.bytes.now c.loop-byte.byte-index 0 ∷ []

pub loop-byte-init : goal.loop-byte-init
loop-byte-init c = subst (λ (t : Text). InText t false c.args.bytes.now c.args.bytes.now) (sym c.in_ok-text.ensures.items) (in_text_start c.args.bytes.now)

pub loop-byte-preserved : goal.loop-byte-preserved
loop-byte-preserved c =
    elim c.if-is_space.branch [
      | then-is_space w ↦
          in_text_is _ _ _ _ _ _ (ap items w.text-is) w.apart-is
          (step_space c.loop-byte.text.items c.loop-byte.apart c.args.bytes.now c.loop-byte.byte-index c.loop-byte-test.true (sym c.is_space.ensures ∙ w.if-is_space.true) c.loop-byte.invariant)
      | else-is_space+in_ok-push-2 w ↦
          elim w.if-apart.branch [
            | then-apart+then-not-is_empty+in_ok-push w' ↦
                in_text_is _ _ _ _ _ _ (ap items w.text-is ∙ w.in_ok-push-2.ensures.items ∙ ap (with_byte c) (ap items w'.text-is ∙ w'.in_ok-push.ensures.items)) w.apart-is
                (step_gap c.loop-byte.text.items c.loop-byte.apart c.args.bytes.now c.loop-byte.byte-index c.loop-byte-test.true (sym c.is_space.ensures ∙ w.if-is_space.false) w'.if-apart.true
                (begun_from_len c.loop-byte.text.items c.loop-byte.text.len c.loop-byte.text.ok.0 (sym w'.is_empty.ensures ∙ w'.if-not-is_empty.true)) c.loop-byte.invariant)
            | else-apart w' ↦
                let joins : (c.loop-byte.apart && is_begun c.loop-byte.text.items) ≡ false =
                elim w'.else-apart.branch [
                  | else-apart-via-then-apart+else-not-is_empty w'' ↦
                      and_right c.loop-byte.apart (is_begun c.loop-byte.text.items) (not_begun_from_len c.loop-byte.text.items c.loop-byte.text.len c.loop-byte.text.ok.0 (sym w''.is_empty.ensures ∙ w''.if-not-is_empty.false))
                  | else-apart-via-else-apart w'' ↦ and_left c.loop-byte.apart (is_begun c.loop-byte.text.items) w''.if-apart.false
                ] in
                in_text_is _ _ _ _ _ _ (ap items w.text-is ∙ w.in_ok-push-2.ensures.items ∙ ap (with_byte c) (ap items w'.text-is)) w.apart-is
                (step_word c.loop-byte.text.items c.loop-byte.apart c.args.bytes.now c.loop-byte.byte-index c.loop-byte-test.true (sym c.is_space.ensures ∙ w.if-is_space.false) joins c.loop-byte.invariant)
          ]
    ]

pub returns-clause-text : goal.returns-clause-text
returns-clause-text c =
    let end : drop c.loop-byte.byte-index c.args.bytes.now ≡ [] = drop_all c.loop-byte.byte-index c.args.bytes.now c.loop-byte-test.false in
    c.from_vec.ensures
    ∙ in_text_all c.loop-byte.text.items c.loop-byte.apart c.args.bytes.now (subst (λ (r : Text). InText c.loop-byte.text.items c.loop-byte.apart r c.args.bytes.now) end c.loop-byte.invariant)
