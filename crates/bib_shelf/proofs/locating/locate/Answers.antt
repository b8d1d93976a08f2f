use Rattle.std.proofs.Common.{◌∙◌, inl, inr, ap}
use Rattle.bib_shelf.proofs.Locates.{found_within, found_between}
use Rattle.bib_shelf.proofs.locating.locate.Goals as goal

pub returns-then-end-spans : goal.returns-then-end-spans
returns-then-end-spans c = λ files are. ap (λ n. (c.search.file, n)) c.saturating_sub.ensures ∙ found_within files c.args.spans.now c.args.place c.search.file c.search.end c.search.invariant c.search-test.false (inr c.if-end-spans.true) are

pub returns-then-place-stop : goal.returns-then-place-stop
returns-then-place-stop c = λ files are. ap (λ n. (c.search.file, n)) c.saturating_sub-then-place-stop.ensures ∙ found_within files c.args.spans.now c.args.place c.search.file c.search.end c.search.invariant c.search-test.false (inl c.if-place-stop.true) are

pub returns : goal.returns
returns c = λ files are. ap (λ n. (c.search.file, n)) c.saturating_sub-2.ensures ∙ found_between files c.args.spans.now c.args.place c.search.file c.search.end c.search.invariant c.search-test.false c.if-end-spans.false c.if-place-stop.false are
