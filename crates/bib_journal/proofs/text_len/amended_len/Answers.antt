use Rattle.bib_journal.proofs.Words.{rules, ◌≡◌, ◌+◌, ◌-◌, ◌^◌, min, length, ◌∙◌, ap, arith, Replacement, replaced, amended}
use Rattle.bib_steps.specs.Amending.{IsWithin}
use Rattle.bib_journal.proofs.TextLens.{texts_of, taken, texts_replaced, count_replaced, taken_short, both_taken_short, amended_texts, amended_count, changed}
use Rattle.bib_journal.proofs.text_len.amended_len.Goals as goal

pub returns-in-None : goal.returns-in-None
returns-in-None c = λ label short limit.
    let last : Replacement = record { from = c.last.inside.from; to = c.last.inside.to; pieces = c.last.inside.pieces } in
    let is : amended c.args.change.now c.args.pieces.now ≡ replaced last c.args.pieces.now = search rules in
    let within : IsWithin (length c.args.pieces.now) last = search rules in
    let gone : c.removed_len-gone.result ≡ min (length (texts_of (taken last c.args.pieces.now))) (2 ^ 64 - 1) = search rules in
    let come : c.piece_texts_len-come.result ≡ min (length (texts_of last.pieces)) (2 ^ 64 - 1) = search rules in
    let added : length c.as_slice-2.result.now ≡ length last.pieces = ap length c.as_slice-2.ensures in
    changed _ _ _ _ _ _ (length (texts_of (taken last c.args.pieces.now))) (length (texts_of last.pieces)) label c.args.pieces.now (amended c.args.change.now c.args.pieces.now)
    short limit (taken_short last c.args.pieces.now within.ordered) gone come
    (ap (λ ps. length (texts_of ps) + length (texts_of (taken last c.args.pieces.now))) is ∙ texts_replaced last c.args.pieces.now within.ordered)
    (search rules)
    (omega (arith, added, count_replaced last c.args.pieces.now within.ordered within.inside, ap length is))
    c.changed_len.ensures

pub returns-in-Some : goal.returns-in-Some
returns-in-Some c = λ label short limit.
    let last : Replacement = record { from = c.last.inside.from; to = c.last.inside.to; pieces = c.last.inside.pieces } in
    let first : Replacement = record { from = c.first.inside.from; to = c.first.inside.to; pieces = c.first.inside.pieces } in
    let is : amended c.args.change.now c.args.pieces.now ≡ replaced first (replaced last c.args.pieces.now) = search rules in
    let within : IsWithin (length c.args.pieces.now) last = search rules in
    let before : IsWithin last.from first = search rules in
    let gone_last : c.removed_len-gone.result ≡ min (length (texts_of (taken last c.args.pieces.now))) (2 ^ 64 - 1) = search rules in
    let gone_first : c.removed_len.result ≡ min (length (texts_of (taken first c.args.pieces.now))) (2 ^ 64 - 1) = search rules in
    let come_last : c.piece_texts_len-come.result ≡ min (length (texts_of last.pieces)) (2 ^ 64 - 1) = search rules in
    let come_first : c.piece_texts_len.result ≡ min (length (texts_of first.pieces)) (2 ^ 64 - 1) = search rules in
    let added_last : length c.as_slice-2.result.now ≡ length last.pieces = ap length c.as_slice-2.ensures in
    let added_first : length c.as_slice-in-Some-2.result.now ≡ length first.pieces = ap length c.as_slice-in-Some-2.ensures in
    changed _ _ _ _ _ _ (length (texts_of (taken last c.args.pieces.now)) + length (texts_of (taken first c.args.pieces.now))) (length (texts_of last.pieces) + length (texts_of first.pieces))
    label c.args.pieces.now (amended c.args.change.now c.args.pieces.now)
    short limit (both_taken_short first last c.args.pieces.now before.ordered before.inside within.ordered)
    (omega (arith, c.saturating_add-gone.ensures, gone_last, gone_first)) (omega (arith, c.saturating_add-come.ensures, come_last, come_first))
    (ap (λ ps. length (texts_of ps) + (length (texts_of (taken last c.args.pieces.now)) + length (texts_of (taken first c.args.pieces.now)))) is
    ∙ amended_texts first last c.args.pieces.now before.ordered before.inside within.ordered within.inside)
    (search rules)
    (omega (arith, added_last, added_first, amended_count first last c.args.pieces.now before.ordered before.inside within.ordered within.inside, ap length is))
    c.changed_len-in-Some.ensures
