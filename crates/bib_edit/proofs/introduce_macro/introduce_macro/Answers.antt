use Rattle.bib_edit.proofs.Words.{◌≡◌, ◌∷◌, ◌+◌, ◌<◌, ◌≤◌, length, sym, ◌∙◌, ap, subst, arith, both_ways, IfOk-weaker, file_limit, Text, holds, any_part, Piece, ok_always, olds_len, news_len, ArePiecesOf, pieces_of, made_base, insertion_of, tokens_seen, replaced, only-tokens}
use Rattle.edit_spec.specs.Edits as edits
use Rattle.bib_data.specs.declared.edit.Edit.TheVariants.{IntroduceMacro}
use Rattle.bib_edit.proofs.FoundItems.{first-at, first-within}
use Rattle.bib_edit.proofs.LimitTests.{not_over}
use Rattle.bib_edit.proofs.NamesInUse.{in-use-told}
use Rattle.bib_edit.proofs.PieceLengths.{goes-within}
use Rattle.bib_edit.proofs.OpenFiles.{opens-as}
use Rattle.bib_edit.proofs.AskedEdits.{of-introduce_macro}
use Rattle.bib_edit.proofs.IntroducedMacro.{introduce-unnamed, introduce-unbalanced, introduce-missing, introduce-in_use, introduce-long_file, introduce-accepted, introducing-pieces, found-first, found-none, met-first}
use Rattle.bib_edit.proofs.introduce_macro.introduce_macro.Goals as goal

pub returns-then-not-is_name-clause-refused : goal.returns-then-not-is_name-clause-refused
returns-then-not-is_name-clause-refused g c db reads = of-introduce_macro c.args.name.now c.args.text.now _ (introduce-unnamed c.args.name.now c.args.text.now db (sym c.is_name.ensures ∙ c.if-not-is_name.true))

pub returns-then-not-is_balanced-clause-refused : goal.returns-then-not-is_balanced-clause-refused
returns-then-not-is_balanced-clause-refused g c db reads = of-introduce_macro c.args.name.now c.args.text.now _
    (introduce-unbalanced c.args.name.now c.args.text.now db (sym c.is_name.ensures ∙ c.if-not-is_name.false) (λ b. both_ways c.is_balanced.result c.if-not-is_balanced.true (c.is_balanced.ensures.1 b)))

pub returns-in-None-clause-refused : goal.returns-in-None-clause-refused
returns-in-None-clause-refused g c db reads = of-introduce_macro c.args.name.now c.args.text.now _
    (introduce-missing c.args.name.now c.args.text.now db (sym c.is_name.ensures ∙ c.if-not-is_name.false) (c.is_balanced.ensures.0 c.if-not-is_balanced.false) (found-none (any_part (holds c.args.text.now)) db.items _ c.in-None.is (c.in_ok-first.ensures.first db reads)))

pub returns-then-is_taken-clause-refused : goal.returns-then-is_taken-clause-refused
returns-then-is_taken-clause-refused g c db reads = of-introduce_macro c.args.name.now c.args.text.now _
    (introduce-in_use c.args.name.now c.args.text.now db (sym c.is_name.ensures ∙ c.if-not-is_name.false) (c.is_balanced.ensures.0 c.if-not-is_balanced.false) c.in-Some.first.n (sym (found-first (any_part (holds c.args.text.now)) db.items _ c.in-Some.first c.in-Some.is (c.in_ok-first.ensures.first db reads)))
    (sym (in-use-told c.args.name.now db.items c.in-Some.first.n c.in-Some.first.met c.in_ok-met.met c.is_taken.result
    (met-first c.args.name.now c.args.db.now _ c.in-Some.first c.in-Some.is c.in_ok-first.ensures.met db reads) (c.in_ok-met.ensures.met db reads) (c.is_taken.ensures db reads)) ∙ c.if-is_taken.true))

pub push_from-requires : goal.push_from-requires
push_from-requires g c db reads =
    let within = first-within (any_part (holds c.args.text.now)) db.items c.in-Some.first.n (first-at (any_part (holds c.args.text.now)) db.items c.in-Some.first.n (sym (found-first (any_part (holds c.args.text.now)) db.items _ c.in-Some.first c.in-Some.is (c.in_ok-first.ensures.first db reads)))) in omega (arith, within)

pub insertion_of-insertion-requires : goal.insertion_of-insertion-requires
insertion_of-insertion-requires g c db reads =
    let within = first-within (any_part (holds c.args.text.now)) db.items c.in-Some.first.n (first-at (any_part (holds c.args.text.now)) db.items c.in-Some.first.n (sym (found-first (any_part (holds c.args.text.now)) db.items _ c.in-Some.first c.in-Some.is (c.in_ok-first.ensures.first db reads)))) in omega (arith, within)

pub is_result_too_long-requires : goal.is_result_too_long-requires
is_result_too_long-requires g c = record {
  inside = goes-within (edits.IntroduceMacro c.args.name.now c.args.text.now) c.args.db.now c.opens.ensures.0 c.opens.ensures.1.reads _
      (introducing-pieces c.args.db.now c.args.name.now c.args.text.now c.in-Some.first.n (λ db reads. found-first (any_part (holds c.args.text.now)) db.items _ c.in-Some.first c.in-Some.is (c.in_ok-first.ensures.first db reads)) (tokens_seen c.as_slice.result.now)
      (λ db reads. ap tokens_seen c.as_slice.ensures.value ∙ only-tokens _ _ _ (ap tokens_seen c.new-tokens.ensures.items) (c.in_ok-met.ensures.tokens db reads)) c.opens.ensures.0 c.opens.ensures.1.reads);
}

pub returns-then-is_result_too_long-clause-refused : goal.returns-then-is_result_too_long-clause-refused
returns-then-is_result_too_long-clause-refused g c db reads = of-introduce_macro c.args.name.now c.args.text.now _
    (introduce-long_file c.args.name.now c.args.text.now db (sym c.is_name.ensures ∙ c.if-not-is_name.false) (c.is_balanced.ensures.0 c.if-not-is_balanced.false) c.in-Some.first.n (sym (found-first (any_part (holds c.args.text.now)) db.items _ c.in-Some.first c.in-Some.is (c.in_ok-first.ensures.first db reads)))
    (sym (in-use-told c.args.name.now db.items c.in-Some.first.n c.in-Some.first.met c.in_ok-met.met c.is_taken.result
    (met-first c.args.name.now c.args.db.now _ c.in-Some.first c.in-Some.is c.in_ok-first.ensures.met db reads) (c.in_ok-met.ensures.met db reads) (c.is_taken.ensures db reads)) ∙ c.if-is_taken.false) c.args.db.now (opens-as c.args.db.now db c.one_reading.ensures c.opens.ensures reads) _
    (introducing-pieces c.args.db.now c.args.name.now c.args.text.now c.in-Some.first.n (λ db reads. found-first (any_part (holds c.args.text.now)) db.items _ c.in-Some.first c.in-Some.is (c.in_ok-first.ensures.first db reads)) (tokens_seen c.as_slice.result.now)
    (λ db reads. ap tokens_seen c.as_slice.ensures.value ∙ only-tokens _ _ _ (ap tokens_seen c.new-tokens.ensures.items) (c.in_ok-met.ensures.tokens db reads)) db reads)
    (subst (λ (t : Text). file_limit + (0 + olds_len (replaced c.args.name.now (tokens_seen c.as_slice.result.now))) < length c.args.db.now + (length t + news_len (replaced c.args.name.now (tokens_seen c.as_slice.result.now)))) (c.as_slice-2.ensures ∙ c.in_ok-definition.ensures)
    (c.is_result_too_long.ensures.0 c.if-is_result_too_long.true)))

pub returns-clause-pieces : goal.returns-clause-pieces
returns-clause-pieces g c = IfOk-weaker c.replaced_after.result _ (ArePiecesOf c.args.db.now (IntroduceMacro c.args.name.now c.args.text.now)) (λ result is db reads.
    of-introduce_macro c.args.name.now c.args.text.now (λ e. result ≡ pieces_of made_base db e)
    (is
    ∙ ap (λ (p : Piece). p ∷ replaced c.args.name.now (tokens_seen c.as_slice-3.result.now)) (c.insertion_of-insertion.ensures db reads ∙ ap (insertion_of db c.in-Some.first.n) c.in_ok-definition.ensures)
    ∙ introducing-pieces c.args.db.now c.args.name.now c.args.text.now c.in-Some.first.n (λ db reads. found-first (any_part (holds c.args.text.now)) db.items _ c.in-Some.first c.in-Some.is (c.in_ok-first.ensures.first db reads)) (tokens_seen c.as_slice-3.result.now)
    (λ db reads. ap tokens_seen c.as_slice-3.ensures.value ∙ only-tokens _ _ _ (ap tokens_seen c.new-tokens.ensures.items) (c.in_ok-met.ensures.tokens db reads)) db reads))
    c.replaced_after.ensures.pieces

pub returns-clause-allowed : goal.returns-clause-allowed
returns-clause-allowed g c = ok_always c.replaced_after.result (λ db reads. of-introduce_macro c.args.name.now c.args.text.now _
    (introduce-accepted c.args.name.now c.args.text.now db (sym c.is_name.ensures ∙ c.if-not-is_name.false) (c.is_balanced.ensures.0 c.if-not-is_balanced.false) c.in-Some.first.n (sym (found-first (any_part (holds c.args.text.now)) db.items _ c.in-Some.first c.in-Some.is (c.in_ok-first.ensures.first db reads)))
    (sym (in-use-told c.args.name.now db.items c.in-Some.first.n c.in-Some.first.met c.in_ok-met.met c.is_taken.result
    (met-first c.args.name.now c.args.db.now _ c.in-Some.first c.in-Some.is c.in_ok-first.ensures.met db reads) (c.in_ok-met.ensures.met db reads) (c.is_taken.ensures db reads)) ∙ c.if-is_taken.false) c.args.db.now (opens-as c.args.db.now db c.one_reading.ensures c.opens.ensures reads) _
    (introducing-pieces c.args.db.now c.args.name.now c.args.text.now c.in-Some.first.n (λ db reads. found-first (any_part (holds c.args.text.now)) db.items _ c.in-Some.first c.in-Some.is (c.in_ok-first.ensures.first db reads)) (tokens_seen c.as_slice.result.now)
    (λ db reads. ap tokens_seen c.as_slice.ensures.value ∙ only-tokens _ _ _ (ap tokens_seen c.new-tokens.ensures.items) (c.in_ok-met.ensures.tokens db reads)) db reads)
    (subst (λ (t : Text). length c.args.db.now + (length t + news_len (replaced c.args.name.now (tokens_seen c.as_slice.result.now))) ≤ file_limit + (0 + olds_len (replaced c.args.name.now (tokens_seen c.as_slice.result.now)))) (c.as_slice-2.ensures ∙ c.in_ok-definition.ensures)
    (not_over c.is_result_too_long.result _ _ c.is_result_too_long.ensures.1 c.if-is_result_too_long.false))))
