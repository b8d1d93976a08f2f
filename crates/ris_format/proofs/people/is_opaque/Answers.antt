use Rattle.ris_format.proofs.Words.{◌≡◌, ◌∙◌, false, length, refl, sym, ap, arith, length-map, Text, names_of, IsBalanced-from_test}
use Rattle.std.proofs.Common.{List, map}
use Rattle.ris_format.proofs.TakenApart.{listed-balanced}
use Rattle.ris_format.proofs.NameScans.{free-one, lacks-free}
use Rattle.ris_format.proofs.OpaqueValues.{opaque-many, opaque-few}
use Rattle.ris_format.proofs.people.is_opaque.Goals as goal

pub returns-then-pieces-gt3 : goal.returns-then-pieces-gt3
returns-then-pieces-gt3 c = opaque-many c.args.value.now c.args.pieces c.requires.count (omega (arith, c.if-pieces-gt3.true))

pub returns-then-lacks_and : goal.returns-then-lacks_and
returns-then-lacks_and c =
    let value = c.args.value.now in
    sym (free-one value (lacks-free false 0 0 value (sym c.lacks_and.ensures ∙ c.if-lacks_and.true)))
    ∙ opaque-few value c.args.pieces (length (names_of value)) c.requires.count (omega (arith, c.if-pieces-gt3.false)) refl

pub returns : goal.returns
returns c =
    let value = c.args.value.now in
    let names : length c.as_slice-2.result.now ≡ length (names_of value) =
    sym (length-map c.as_slice-2.result.now (λ n. n.now))
    ∙ ap (λ (ns : List Text). length ns) (ap (map (λ n. n.now)) c.as_slice-2.ensures ∙ c.in_ok-listed_names.ensures ∙ listed-balanced value (IsBalanced-from_test value c.requires.balanced)) in
    opaque-few value c.args.pieces (length c.as_slice-2.result.now) c.requires.count (omega (arith, c.if-pieces-gt3.false)) names
