use Rattle.std.proofs.Common.{◌∙◌, slice_index_or, subst, arith}
use Rattle.std.proofs.lemmas.List.{get_or_default}
use Rattle.bib_data.specs.declared.request.Request.{Request}
use Rattle.bib_data.specs.Depths.{AsksWithDepth}
use Rattle.bib_diff.proofs.EntryPairs.{up_to_more}
use Rattle.bib_diff.proofs.checking.have_depths.Goals as goal

pub requests-preserved : goal.requests-preserved
requests-preserved c = up_to_more (λ k. (d : Request) → AsksWithDepth (slice_index_or c.args.requests.now k d)) c.requests.n c.requests.invariant
    (λ d. subst AsksWithDepth (c.index-requests-n.is ∙ get_or_default c.args.requests.now c.requests.n c.index-requests-n.result d c.requests-test.true) (c.has_depth.ensures c.if-not-has_depth.false))

pub returns : goal.returns
returns c = λ _ k d lt. let past = c.requests-test.false in c.requests.invariant k (omega (arith, lt, past)) d
