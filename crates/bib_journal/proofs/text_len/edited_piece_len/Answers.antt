use Rattle.bib_journal.proofs.Words.{◌≡◌, ℕ, ◌+◌, ◌-◌, ◌^◌, min, length, decimal, ◌∙◌, ap, ap₂, arith, Piece}
use Rattle.bib_steps.specs.Amending.{edited}
use Rattle.bib_journal.proofs.TextLens.{written, edited_text, length-edited_old, length-edited_new}
use Rattle.bib_journal.proofs.text_len.edited_piece_len.Goals as goal

pub returns : goal.returns
returns c = λ label pieces n spot there short limit.
    let p : Piece = c.args.piece.now in
    let q : Piece = c.args.more.now in
    let k : ℕ = c.args.byte in
    let old : length c.as_slice-old.result.now ≡ length p.old = ap length (c.as_slice-old.ensures ∙ ap (λ (p : Piece). p.old) c.piece.view_is) in
    let new : length c.as_slice-new.result.now ≡ length p.new = ap length (c.as_slice-new.ensures ∙ ap (λ (p : Piece). p.new) c.piece.view_is) in
    let gone : length c.as_slice-gone.result.now ≡ length q.old = ap length (c.as_slice-gone.ensures ∙ ap (λ (p : Piece). p.old) c.more.view_is) in
    let come : length c.as_slice-come.result.now ≡ length q.new = ap length (c.as_slice-come.ensures ∙ ap (λ (p : Piece). p.new) c.more.view_is) in
    let now_old : length c.as_slice-old.result.now + c.saturating_sub.result ≡ length (edited k q p).old = omega (arith, length-edited_old k q p, old, new, gone, c.saturating_sub.ensures) in
    let now_new : c.args.byte + length c.as_slice-come.result.now + c.saturating_sub-2.result ≡ length (edited k q p).new
    = omega (arith, length-edited_new k q p c.requires, new, gone, come, c.saturating_sub-2.ensures) in
    let was : c.written_len.result ≡ min (written p) (2 ^ 64 - 1)
    = c.written_len.ensures ∙ ap₂ (λ n m. min (n + m + (length (decimal n) + length (decimal m))) (2 ^ 64 - 1)) old new in
    let now : c.written_len-2.result ≡ min (written (edited k q p)) (2 ^ 64 - 1)
    = c.written_len-2.ensures ∙ ap₂ (λ n m. min (n + m + (length (decimal n) + length (decimal m))) (2 ^ 64 - 1)) now_old now_new in
    edited_text c.args.len c.saturating_add.result n k label pieces p q spot there short limit
    (c.saturating_add.ensures ∙ ap₂ (λ n m. min (n + m) (2 ^ 64 - 1)) (c.saturating_sub-3.ensures ∙ ap (λ n. c.args.len - n) was) now)
