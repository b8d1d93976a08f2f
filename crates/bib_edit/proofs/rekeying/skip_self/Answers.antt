use Rattle.bib_edit.proofs.Words.{◌≡◌, ◌<◌, Some, length, sym, ◌∙◌, ap, arith, none-some, same_Some, entries_of}
use Rattle.bib_keys.proofs.EntryCounts.{few-entries}
use Rattle.bib_edit.proofs.EntryPieces.{refers-within, after-with, after-without}
use Rattle.bib_edit.proofs.rekeying.skip_self.Goals as goal

pub overflow_add-result : goal.overflow_add-result
overflow_add-result g c =
    let db = c.opens.ensures.0 in
    let reads = c.opens.ensures.1.reads in
    let within : c.args.k < length (entries_of db) = refers-within db c.args.key.now c.args.k c.in-Some.m (sym (c.referrer.ensures db reads) ∙ c.in-Some.is) in
    let few = few-entries db in
    let bytes = ap length reads.bytes in
    let short = c.opens.ensures.1.short in
    omega (arith, within, few, bytes, short)

pub returns-in-Some : goal.returns-in-Some
returns-in-Some g c db reads passed =
    let same : c.in-Some.m ≡ c.args.n = omega (arith, c.if-m-n.true) in
    after-with db c.args.key.now c.args.k c.args.n passed (sym (c.referrer.ensures db reads) ∙ c.in-Some.is ∙ ap Some same)

pub returns-in_default : goal.returns-in_default
returns-in_default g c db reads passed =
    after-without db c.args.key.now c.args.k c.args.n passed (λ at.
    let same : c.in-Some.m ≡ c.args.n = same_Some c.in-Some.m c.args.n (sym c.in-Some.is ∙ c.referrer.ensures db reads ∙ at) in
    omega (arith, c.if-m-n.false, same))

pub returns-in_default-2 : goal.returns-in_default-2
returns-in_default-2 g c db reads passed =
    after-without db c.args.key.now c.args.k c.args.n passed (λ at. none-some c.args.n (sym c.in_default.is ∙ c.referrer.ensures db reads ∙ at))
