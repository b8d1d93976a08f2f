use Rattle.std.proofs.Common.{◌≡◌, ◌≢◌, ◌⊎◌, Some, List, ◌++◌, ⊎_elim, sym, ◌∙◌, ap, subst, append-nil}
use Rattle.bib_spec.specs.Tree.{Tree, EntryTree, IsTree}
use Rattle.bib_spec.specs.Bytes.{name_limit}
use Rattle.bib_scan.specs.View.{View, view_of, kind_of}
use Rattle.bib_scan.specs.declared.view.Kind.{Kind}
use Rattle.bib_scan.specs.declared.view.Kind.TheVariants as kind
use Rattle.bib_uses.specs.declared.losing.LostUse.{LostUse}
use Rattle.bib_uses.specs.Lost.{lost_in}
use Rattle.bib_uses.proofs.DefinedNumbers.{item-within}
use Rattle.bib_uses.proofs.FoundEntries.{tree-in}
use Rattle.bib_uses.proofs.TimesTold.{lost-item, other-item, entry-item}
use Rattle.bib_uses.proofs.losing.add_at.Goals as goal

pub returns-in_ok-add_in_entry-in-Entry : goal.returns-in_ok-add_in_entry-in-Entry
returns-in_ok-add_in_entry-in-Entry g c ro reads_o rt reads_t rm reads_m =
    let found = item-within rm.items c.args.n (c.requires.number rm reads_m) in
    let seen : c.item-item.result ≡ view_of found.0 = c.item-item.ensures rm reads_m found.0 found.1 in
    let is_entry : kind_of found.0.tree ≡ kind.Entry = sym (ap (λ (v : View). v.kind) seen) ∙ sym c.kind.ensures ∙ c.in-Entry.is in
    let e = entry-item found.0.tree is_entry in
    let same : found.0 ≡ record { tree = EntryTree e.0; trail = found.0.trail } = ap (λ (t : Tree). record { tree = t; trail = found.0.trail }) e.1 in
    c.in_ok-add_in_entry-in-Entry.ensures ro reads_o rt reads_t rm reads_m e.0 found.0.trail (subst (IsTree name_limit) e.1 (tree-in c.args.merged.now.db.now rm c.args.n found.0 reads_m found.1)) (found.1 ∙ ap Some same) (seen ∙ ap view_of same)
    ∙ ap (λ (l : List LostUse). c.args.lost.now.items ++ l) (sym (lost-item ro rt rm c.args.n found.0 found.1 ∙ ap (lost_in ro rt rm c.args.n) e.1))

pub returns-in-Macro : goal.returns-in-Macro
returns-in-Macro g c ro reads_o rt reads_t rm reads_m =
    let found = item-within rm.items c.args.n (c.requires.number rm reads_m) in
    let seen : c.item-item.result ≡ view_of found.0 = c.item-item.ensures rm reads_m found.0 found.1 in
    let kind_is : c.kind.result ≡ kind_of found.0.tree = c.kind.ensures ∙ ap (λ (v : View). v.kind) seen in
    let other : kind_of found.0.tree ≢ kind.Entry = λ is. no_entry c.kind.result (kind_is ∙ is) c.in-Macro.is in
    sym (append-nil c.args.lost.now.items)
    ∙ ap (λ (l : List LostUse). c.args.lost.now.items ++ l) (sym (lost-item ro rt rm c.args.n found.0 found.1 ∙ other-item ro rt rm c.args.n found.0.tree other))
  where
    no_entry : (k : Kind) → k ≡ kind.Entry → (k ≡ kind.Macro) ⊎ ((k ≡ kind.Preamble) ⊎ (k ≡ kind.Comment)) → ⊥
    no_entry k is other = ⊎_elim (λ e. cc) (λ more. ⊎_elim (λ e. cc) (λ e. cc) more) other
