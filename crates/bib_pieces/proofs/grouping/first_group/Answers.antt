use Rattle.std.proofs.Common.{◌≡◌, ◌<◌, ◌≤◌, ◌+◌, false, length, drop, sym, subst, ◌∙◌, ap₂}
use Rattle.std.proofs.lemmas.Bool.{leb-true}
use Rattle.std.proofs.lemmas.List.{take_rest}
use Rattle.bib_spec.specs.Bytes.{file_limit}
use Rattle.bib_spec.specs.Text.{Text}
use Rattle.history_spec.specs.Composing.{back_is_first}
use Rattle.bib_pieces.proofs.Growing.{IsGrowing, growing_start, growing_on, end_at, on_left}
use Rattle.bib_pieces.proofs.grouping.first_group.Goals as goal
use Rattle.bib_pieces.proofs.grouping.first_group.Goals.{then-i-backs, else-i-backs+then-j-ons}

pub members-init : goal.members-init
members-init c =
    subst (λ (t : Text). IsGrowing c.args.backs.now c.args.ons.now c.place_of_first-place.result t 0 0) (sym c.new-covered.ensures.items)
    (growing_start c.args.backs.now c.args.ons.now c.place_of_first-place.result c.requires.some c.requires.backs c.requires.ons c.place_of_first-place.ensures)

pub joins-requires-else-is_back_first-clause-piece : goal.joins-requires-else-is_back_first-clause-piece
joins-requires-else-is_back_first-clause-piece c =
    let test : back_is_first (drop c.members.i c.args.backs.now) (drop c.members.j c.args.ons.now) ≡ false =
    sym (ap₂ back_is_first (take_rest c.args.backs.now c.members.i) (take_rest c.args.ons.now c.members.j)) ∙ sym c.is_back_first.ensures ∙ c.if-is_back_first.false in
    let within : c.members.j < length c.args.ons.now = elim c.if-i-backs.branch [
      | then-i-backs w ↦ on_left c.args.backs.now c.args.ons.now c.members.i c.members.j test w.if-i-backs.true
      | else-i-backs+then-j-ons w ↦ w.if-j-ons.true
    ] in
    end_at file_limit c.args.ons.now c.members.j c.index-ons-j.result c.requires.ons within c.index-ons-j.is

pub members-preserved : goal.members-preserved
members-preserved c =
    let test : back_is_first (drop c.members.i c.args.backs.now) (drop c.members.j c.args.ons.now) ≡ false =
    sym (ap₂ back_is_first (take_rest c.args.backs.now c.members.i) (take_rest c.args.ons.now c.members.j)) ∙ sym c.is_back_first.ensures ∙ c.if-is_back_first.false in
    let within : c.members.j < length c.args.ons.now = elim c.if-i-backs.branch [
      | then-i-backs w ↦ on_left c.args.backs.now c.args.ons.now c.members.i c.members.j test w.if-i-backs.true
      | else-i-backs+then-j-ons w ↦ w.if-j-ons.true
    ] in
    let begins : c.index-ons-j.result.place ≤ c.place_of_first-place.result + length c.members.covered.items = leb-true _ _ (sym c.in_ok-joins-2.ensures.joined ∙ c.if-not-branch-2.false) in
    subst (λ (t : Text). IsGrowing c.args.backs.now c.args.ons.now c.place_of_first-place.result t c.members.i (c.members.j + 1)) (sym (c.in_ok-joins-2.ensures.more c.if-not-branch-2.false))
    (growing_on c.args.backs.now c.args.ons.now c.place_of_first-place.result c.members.covered.items c.members.i c.members.j c.index-ons-j.result c.members.invariant within c.index-ons-j.is test begins
    (end_at file_limit c.args.ons.now c.members.j c.index-ons-j.result c.requires.ons within c.index-ons-j.is))
