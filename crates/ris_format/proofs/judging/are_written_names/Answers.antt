use Rattle.ris_format.proofs.Words.{◌∙◌, ◌||◌, [], sym, ap, Bor, Text, has_bytes}
use Rattle.std.proofs.Common.{map, List}
use Rattle.ris_format.proofs.LoopSteps.{none_left}
use Rattle.ris_format.proofs.WrittenNames.{goes_on, goes_on-none, refused_at, passed_at}
use Rattle.ris_format.proofs.judging.are_written_names.Goals as goal

abbrev none : Bor Text
none = record { ref_ptr = (0, 0); now = [] }

pub loop-name-preserved : goal.loop-name-preserved
loop-name-preserved c =
    passed_at c.loop-name.is_somebody _ c.args.names.now c.loop-name.name-index none _ (sym c.is_broken.ensures ∙ c.if-is_broken.false)
    (c.has_bytes_yet-is_somebody.ensures ∙ ap (λ (t : Text). c.loop-name.is_somebody || has_bytes t) c.without_end-bare.ensures) c.loop-name-test.true c.loop-name.invariant

pub returns-then-is_broken : goal.returns-then-is_broken
returns-then-is_broken c = refused_at c.loop-name.is_somebody c.args.names.now c.loop-name.name-index none _ (sym c.is_broken.ensures ∙ c.if-is_broken.true) c.loop-name-test.true c.loop-name.invariant

pub returns : goal.returns
returns c =
    none_left (λ (names : List (Bor Text)). goes_on c.loop-name.is_somebody (map (λ (n : Bor Text). n.now) names)) c.args.names.now c.loop-name.name-index _ _
    (goes_on-none c.loop-name.is_somebody) c.loop-name-test.false c.loop-name.invariant
