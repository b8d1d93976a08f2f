use Rattle.std.proofs.Common.{◌≡◌, ℕ, List, [], ◌∷◌, ◌++◌, rules, sym, ◌∙◌, ap, ap₂, subst, append-nil}
use Rattle.std.specs.List.{flat_map, range_with_len}
use Rattle.std.proofs.lemmas.Grind.{flat_map-append}
use Rattle.bib_spec.specs.Text.{Text}
use Rattle.bib_spec.specs.Reading.{Reads}
use Rattle.bib_store.proofs.Citations.{range_more}
use Rattle.bib_uses.specs.declared.losing.LostUse.{LostUse}
use Rattle.bib_uses.specs.Lost.{lost_at}
use Rattle.bib_uses.proofs.losing.lost_uses.Goals as goal

pub items-preserved : goal.items-preserved
items-preserved g c ro reads_o rt reads_t rm reads_m =
    let lost = lost_at ro rt rm in
    c.in_ok-add_at.ensures ro (subst (λ (file : Text). Reads file ro) (sym c.in_ok-our_file.ensures.file) reads_o) rt (subst (λ (file : Text). Reads file rt) (sym c.in_ok-their_file.ensures.file) reads_t)
    rm (subst (λ (file : Text). Reads file rm) (sym c.in_ok-merged_file.ensures.file) reads_m)
    ∙ ap₂ (λ (a b : List LostUse). a ++ b) (c.items.invariant ro reads_o rt reads_t rm reads_m) (sym (append-nil (lost c.items.n)))
    ∙ sym (flat_map-append lost (range_with_len 0 c.items.n) (c.items.n ∷ []))
    ∙ ap (flat_map lost) (sym (range_more c.items.n))

pub returns : goal.returns
returns g c ro reads_o rt reads_t rm reads_m =
    let ended : c.items.n ≡ c.item_count-n-end.result = search rules in
    c.items.invariant ro reads_o rt reads_t rm reads_m ∙ ap (λ (k : ℕ). flat_map (lost_at ro rt rm) (range_with_len 0 k)) (ended ∙ c.item_count-n-end.ensures rm reads_m)
