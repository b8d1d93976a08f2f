use Rattle.bib_answers.proofs.Words.{◌-◌, length, ap}
use Rattle.std.proofs.Common.{arith}
use Rattle.bib_answers.proofs.WalkSteps.{small_numbers, clip_short}
use Rattle.bib_answers.proofs.walking.past_chunk.Goals as goal

pub moved-requires-clause-line : goal.moved-requires-clause-line
moved-requires-clause-line c =
    let b = c.requires.before in
    let short = clip_short c.saturating_sub-first.result c.saturating_sub-last.result c.args.chunk.now in
    let is = ap length c.clipped.ensures in
    let most = c.requires.short in
    (small_numbers c.args.at b.0 c.clipped.result.now b.1 (omega (arith, short, is, most)) b.2).0

pub moved-requires-clause-column : goal.moved-requires-clause-column
moved-requires-clause-column c =
    let b = c.requires.before in
    let short = clip_short c.saturating_sub-first.result c.saturating_sub-last.result c.args.chunk.now in
    let is = ap length c.clipped.ensures in
    let most = c.requires.short in
    (small_numbers c.args.at b.0 c.clipped.result.now b.1 (omega (arith, short, is, most)) b.2).1
