use Rattle.std.proofs.Common.{◌≡◌, List, ◌++◌, map, refl, sym, ◌∙◌, ap, ap₂, append-nil}
use Rattle.bib_spec.specs.Text.{Text}
use Rattle.bib_spec.specs.Tree.{EntryTree}
use Rattle.bib_scan.specs.View.{View}
use Rattle.merge_spec.specs.Merged.{is_number}
use Rattle.bib_uses.specs.declared.losing.LostUse.{LostUse}
use Rattle.bib_uses.specs.Uses.{uses_in, rows_at}
use Rattle.bib_uses.specs.Lost.{lost_use, item_named, lost_names}
use Rattle.bib_uses.specs.Seen.{use_seen}
use Rattle.bib_uses.proofs.FoundEntries.{rows-of}
use Rattle.bib_uses.proofs.TimesTold.{found-lost, other-lost}
use Rattle.bib_uses.proofs.losing.add_in_entry.Goals as goal

pub returns-then-not-is_number : goal.returns-then-not-is_number
returns-then-not-is_number g c ro reads_o rt reads_t rm reads_m e trail is at seen =
    let key_is : c.key.result.now ≡ e.key = c.key.ensures ∙ ap (λ (v : View). v.key) seen in
    let number_is : c.is_number.result ≡ is_number c.args.n (item_named rm e.key) = c.is_number.ensures ∙ ap (is_number c.args.n) (c.item_named.ensures rm reads_m ∙ ap (item_named rm) key_is) in
    sym (append-nil c.args.lost.now.items) ∙ ap (λ (l : List LostUse). c.args.lost.now.items ++ l) (other-lost ro rt rm c.args.n e c.is_number.result number_is c.if-not-is_number.true)

pub returns : goal.returns
returns g c ro reads_o rt reads_t rm reads_m e trail is at seen =
    let key_of = λ (key : Text) (k : key ≡ c.args.entry.now.key). k ∙ ap (λ (v : View). v.key) seen in
    let number_is : c.is_number.result ≡ is_number c.args.n (item_named rm e.key) = c.is_number.ensures ∙ ap (is_number c.args.n) (c.item_named.ensures rm reads_m ∙ ap (item_named rm) (key_of c.key.result.now c.key.ensures)) in
    let are : map use_seen c.as_slice.result.now ≡ uses_in (rows_at rm c.args.n) = ap (map use_seen) c.as_slice.ensures.value ∙ c.in_ok-uses.ensures e trail is seen ∙ ap uses_in (sym (rows-of rm c.args.n (record { tree = EntryTree e; trail = trail }) e at refl)) in
    let names : c.in_ok-names.names.items ≡ lost_names ro rt rm e.key c.args.n = c.in_ok-names.ensures ro reads_o rt reads_t rm reads_m are ∙ ap (λ (key : Text). lost_names ro rt rm key c.args.n) (key_of c.key-2.result.now c.key-2.ensures) in
    c.in_ok-add_lost.ensures
    ∙ ap (λ (l : List LostUse). c.args.lost.now.items ++ l)
    (ap₂ (λ (key : Text) (l : List Text). map (lost_use key) l) (key_of c.key-3.result.now c.key-3.ensures) c.as_slice-2.ensures.value ∙ found-lost ro rt rm c.args.n e c.is_number.result c.in_ok-names.names.items number_is c.if-not-is_number.false names)
