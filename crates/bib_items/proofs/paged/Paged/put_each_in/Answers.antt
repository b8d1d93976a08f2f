use Rattle.bib_items.proofs.Words.{◌≡◌, ◌+◌, ◌-◌, ◌<◌, ℕ, List, length, insert, subst, sym, ap, ◌∙◌, arith, Item, item, without_range, joined}
use Rattle.bib_items.proofs.Filled.{IsBegun, begun_start, begun_more, begun_len, begun_back, begun_all}
use Rattle.bib_items.proofs.paged.Paged.put_each_in.Goals as goal

pub fill-init : goal.fill-init
fill-init c = begun_start (joined c.args.self.now) c.args.at c.args.text.now

pub fill-preserved : goal.fill-preserved
fill-preserved c =
    let old : List Item = joined c.args.self.now in
    let now : List Item = joined c.fill.self in
    let low : c.fill.k < length c.args.layout.now.items = omega (arith, c.fill-test.true, c.len-k-end.ensures.count) in
    let long = begun_len old now c.args.at c.fill.k c.args.text.now c.args.layout.now c.requires.at_within c.requires.layout (omega (arith, low)) c.fill.invariant in
    let at : c.count-in-fill.result - (c.count.result - c.args.at) ≡ c.args.at + c.fill.k = omega (arith, c.count.ensures, c.count-in-fill.ensures, long, c.requires.at_within) in
    let more = begun_more old now c.args.at c.fill.k c.args.text.now c.body-body.result.now c.trail-trail.result.now c.args.layout.now c.requires.at_within c.requires.layout low c.fill.invariant
    c.body-body.ensures c.trail-trail.ensures in
    subst (λ (l : List Item). IsBegun old l c.args.at (c.fill.k + 1) c.args.text.now)
    (sym (c.in_default.ensures.ok ∙ ap (λ (m : ℕ). insert now m (item c.body-body.result.now c.trail-trail.result.now)) at)) more

pub returns-in-Err-clause-err : goal.returns-in-Err-clause-err
returns-in-Err-clause-err c =
    let old : List Item = joined c.args.self.now in
    let now : List Item = joined c.fill.self in
    let low : c.fill.k < length c.args.layout.now.items = omega (arith, c.fill-test.true, c.len-k-end.ensures.count) in
    let long = begun_len old now c.args.at c.fill.k c.args.text.now c.args.layout.now c.requires.at_within c.requires.layout (omega (arith, low)) c.fill.invariant in
    let at : c.count-in-fill.result - (c.count.result - c.args.at) ≡ c.args.at + c.fill.k = omega (arith, c.count.ensures, c.count-in-fill.ensures, long, c.requires.at_within) in
    c.take_all_out.ensures
    ∙ ap (λ (l : List Item). without_range c.args.at (c.count-in-fill.result - (c.count.result - c.args.at)) l) c.in-Err.ensures.err
    ∙ ap (λ (m : ℕ). without_range c.args.at m now) at
    ∙ begun_back old now c.args.at c.fill.k c.args.text.now c.args.layout.now c.requires.at_within c.requires.layout (omega (arith, low)) c.fill.invariant

pub returns-clause-ok : goal.returns-clause-ok
returns-clause-ok c = λ db reads.
    begun_all (joined c.args.self.now) (joined c.fill.self) c.args.at c.fill.k c.args.text.now c.args.layout.now c.requires.layout (omega (arith, c.fill-test.false, c.len-k-end.ensures.count)) c.fill.invariant db reads
