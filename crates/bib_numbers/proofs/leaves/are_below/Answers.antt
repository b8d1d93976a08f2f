use Rattle.bib_numbers.proofs.Words.{◌≡◌, ◌-◌, ◌∙◌, ℕ, List, [], Some, length, sym, ap, arith, option_copied, slice_get_within, get_or_from_slice_get, page_at, ends_below}
use Rattle.std.proofs.Common.{slice_get}
use Rattle.bib_numbers.proofs.SoughtPages.{rank_last}
use Rattle.bib_numbers.proofs.leaves.are_below.Goals as goal

pub returns-in-Some : goal.returns-in-Some
returns-in-Some c below ascend =
    let pages : List (List ℕ) = c.args.leaves.now in
    let p : ℕ = length pages - 1 in
    let there : slice_get pages p ≡ Some c.in-Some.leaf.now = sym c.last.ensures.value ∙ ap option_copied c.in-Some.is in
    let inside = slice_get_within pages p c.in-Some.leaf.now there in
    let seen : page_at pages p ≡ c.in-Some.leaf.now = get_or_from_slice_get pages p c.in-Some.leaf.now [] there in
    rank_last c.args.n pages ascend c.requires p (omega (arith, inside)) (ap (ends_below c.args.n) seen ∙ sym c.ends_below.ensures ∙ below)
