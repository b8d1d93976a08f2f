use Rattle.std.proofs.Common.{refl}
use Rattle.std.proofs.lemmas.Bool.{false≢true}
use Rattle.bib_c.specs.Calls.{refused, deep}
use Rattle.bib_c.proofs.Reported.{telling_reported}
use Rattle.bib_c.proofs.calls.entry.Goals as goal

pub returns-then-not-is_depth : goal.returns-then-not-is_depth
returns-then-not-is_depth c = refused _ c.refused.ensures (deep refl (λ is. false≢true (c.if-not-is_depth.ensures.1 is))) refl

pub returns : goal.returns
returns c = telling_reported c.entry.result (c.if-not-is_depth.ensures.0 refl) c.of_made.ensures.done c.of_made.ensures.refused c.entry.ensures.given c.entry.ensures.refused c.entry.ensures.session c.entry.ensures.err
