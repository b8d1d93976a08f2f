use Rattle.bib_answers.proofs.Words.{◌≡◌, ◌∙◌, ℕ, [], Some, length, sym, ap, subst, slice_get, Text, IsKnown}
use Rattle.std.proofs.Common.{slice_index_or}
use Rattle.std.proofs.lemmas.Bool.{ltb-true}
use Rattle.std.proofs.lemmas.Option.{slice_get-get_or}
use Rattle.bib_shelf.proofs.Files.{file_within}
use Rattle.bib_answers.specs.NamedFiles.{NamedFiles}
use Rattle.bib_answers.specs.Positions.{position_of}
use Rattle.bib_answers.specs.Walking.{stretch}
use Rattle.bib_answers.proofs.WalkSteps.{file_at_span}
use Rattle.bib_answers.proofs.named_files.NamedFiles.known_at.Goals as goal

pub known_in-requires-clause-order : goal.known_in-requires-clause-order
known_in-requires-clause-order c =
    let at : slice_get c.self.inside.spans.now c.args.i ≡ Some c.in-Some.span.now = slice_get-get_or c.self.inside.spans.now c.args.i c.in-Some.span.now (ltb-true c.args.i (length c.self.inside.spans.now) (sym c.in-Some.ensures.lookup.0)) ∙ ap (λ (s : ℕ × ℕ). Some s) (sym c.in-Some.ensures.lookup.1) in
    (file_within c.self.inside.db.now c.self.inside.spans.now c.args.i c.in-Some.span.now c.self.invariant at).0

pub known_in-requires-clause-within : goal.known_in-requires-clause-within
known_in-requires-clause-within c =
    let at : slice_get c.self.inside.spans.now c.args.i ≡ Some c.in-Some.span.now = slice_get-get_or c.self.inside.spans.now c.args.i c.in-Some.span.now (ltb-true c.args.i (length c.self.inside.spans.now) (sym c.in-Some.ensures.lookup.0)) ∙ ap (λ (s : ℕ × ℕ). Some s) (sym c.in-Some.ensures.lookup.1) in
    (file_within c.self.inside.db.now c.self.inside.spans.now c.args.i c.in-Some.span.now c.self.invariant at).1

pub known_in-requires-clause-known : goal.known_in-requires-clause-known
known_in-requires-clause-known c =
    let at : slice_get c.self.inside.spans.now c.args.i ≡ Some c.in-Some.span.now = slice_get-get_or c.self.inside.spans.now c.args.i c.in-Some.span.now (ltb-true c.args.i (length c.self.inside.spans.now) (sym c.in-Some.ensures.lookup.0)) ∙ ap (λ (s : ℕ × ℕ). Some s) (sym c.in-Some.ensures.lookup.1) in
    let same : slice_index_or c.args.self.now.files c.args.i [] ≡ stretch c.in-Some.span.now.0 c.in-Some.span.now.1 c.self.inside.db.now = ap (λ (v : NamedFiles). slice_index_or v.files c.args.i []) (sym c.self.view_is) ∙ file_at_span c.self.inside.spans.now c.self.inside.db.now c.args.i c.in-Some.span.now at in
    subst (λ (t : Text). IsKnown t c.args.known) same c.requires

pub returns-in-Some-clause-known : goal.returns-in-Some-clause-known
returns-in-Some-clause-known c =
    let at : slice_get c.self.inside.spans.now c.args.i ≡ Some c.in-Some.span.now = slice_get-get_or c.self.inside.spans.now c.args.i c.in-Some.span.now (ltb-true c.args.i (length c.self.inside.spans.now) (sym c.in-Some.ensures.lookup.0)) ∙ ap (λ (s : ℕ × ℕ). Some s) (sym c.in-Some.ensures.lookup.1) in
    let same : slice_index_or c.args.self.now.files c.args.i [] ≡ stretch c.in-Some.span.now.0 c.in-Some.span.now.1 c.self.inside.db.now = ap (λ (v : NamedFiles). slice_index_or v.files c.args.i []) (sym c.self.view_is) ∙ file_at_span c.self.inside.spans.now c.self.inside.db.now c.args.i c.in-Some.span.now at in
    subst (λ (t : Text). IsKnown t c.known_in.result.0) (sym same) c.known_in.ensures.known

pub returns-in-Some-clause-at : goal.returns-in-Some-clause-at
returns-in-Some-clause-at c =
    let at : slice_get c.self.inside.spans.now c.args.i ≡ Some c.in-Some.span.now = slice_get-get_or c.self.inside.spans.now c.args.i c.in-Some.span.now (ltb-true c.args.i (length c.self.inside.spans.now) (sym c.in-Some.ensures.lookup.0)) ∙ ap (λ (s : ℕ × ℕ). Some s) (sym c.in-Some.ensures.lookup.1) in
    let same : slice_index_or c.args.self.now.files c.args.i [] ≡ stretch c.in-Some.span.now.0 c.in-Some.span.now.1 c.self.inside.db.now = ap (λ (v : NamedFiles). slice_index_or v.files c.args.i []) (sym c.self.view_is) ∙ file_at_span c.self.inside.spans.now c.self.inside.db.now c.args.i c.in-Some.span.now at in
    c.known_in.ensures.at ∙ ap (λ (t : Text). position_of t c.args.place) (sym same)
