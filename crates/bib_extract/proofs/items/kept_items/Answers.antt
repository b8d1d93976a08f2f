use Rattle.std.proofs.Common.{◌≡◌, ℕ, ◌+◌, ◌-◌, ◌<◌, ◌≤◌, Bool, List, true, false, Some, slice_get, length, drop, set, refl, sym, ◌∙◌, ap, subst, arith, zero-add, add-one}
use Rattle.std.proofs.lemmas.List.{length-replicate}
use Rattle.bib_spec.specs.Bytes.{name_limit}
use Rattle.bib_spec.specs.Text.{Text}
use Rattle.bib_spec.specs.Reading.{Item, IsItem, Reading, Reads}
use Rattle.bib_spec.specs.Texts.{months}
use Rattle.bib_spec.specs.Records.{entries_of}
use Rattle.bib_scan.specs.View.{View, view_of}
use Rattle.bib_store.proofs.KeptItems.{item_in}
use Rattle.extract_spec.specs.Extract.{names_before, number_after, stays, awaited}
use Rattle.extract_spec.specs.Needs.{number_at}
use Rattle.bib_extract.specs.Awaited.{Map, HasNames, HaveValues}
use Rattle.bib_extract.specs.Marks.{is_marked}
use Rattle.bib_extract.proofs.NamesAwaited.{names-none, tree-has_values}
use Rattle.bib_extract.proofs.WrittenItems.{slice_get-within}
use Rattle.bib_extract.proofs.WalkedItems.{IsWalkedTo, after, number-next, number-all, walked-none, walked-item, walked-all, walked-count}
use Rattle.bib_extract.proofs.items.kept_items.Goals as goal

pub items-init : goal.items-init
items-init g c r reads =
    let all = sym (c.item_count-k.ensures r reads) in
    walked-none (is_marked c.args.entries.now) r.items c.item_count-k.result c.entry_count-n.result c.new-names.result c.in_ok-marks.marks.items all
    (c.entry_count-n.ensures r reads ∙ sym (zero-add (length (entries_of r))) ∙ sym (number-all months r.items 0) ∙ ap (number_at 0 r.items) all)
    (ap length c.in_ok-marks.ensures ∙ length-replicate c.item_count-k.result false ∙ sym all)
    (names-none c.new-names.result c.new-names.ensures)

-- an item of a file that opens has values
has_values : (file : Text) (r : Reading) (k : ℕ) (view : View) → Reads file r → k < length r.items → ((i : Item) → slice_get r.items k ≡ Some i → view ≡ view_of i) → HaveValues view.fields
has_values file r k view reads lt seen =
    let it = slice_get-within r.items k lt in
    subst (λ (v : View). HaveValues v.fields) (sym (seen it.0 it.1)) (tree-has_values it.0.tree (item_in (IsItem name_limit) r.items k it.0 reads.items it.1).tree)

less : (k n : ℕ) → 0 < k → k ≤ n → k - 1 < n
less k n some within = omega (arith, some, within)

back : (k : ℕ) → 0 < k → k ≡ (k - 1) + 1
back k some = omega (arith, some)

pub go_before-requires : goal.go_before-requires
go_before-requires g c =
    let it = c.opens.ensures in
    let is : IsWalkedTo (is_marked c.args.entries.now) it.0.items c.items.k c.items.n c.items.names c.items.marks.items = c.items.invariant it.0 it.1.reads in
    has_values c.args.db.now it.0 (c.items.k - 1) c.item-item.result it.1.reads (less c.items.k (length it.0.items) c.items-test.true is.within) (c.item-item.ensures it.0 it.1.reads)

module _ (entries : List Bool) (items : List Item) (k n n' : ℕ) (names : Map) (marks : List Bool) (view : View) (b : Bool) (some : 0 < k)
    (is : IsWalkedTo (is_marked entries) items k n names marks) (seen : (i : Item) → slice_get items (k - 1) ≡ Some i → view ≡ view_of i)
    (numbered : (i : Item) (m : ℕ) → view ≡ view_of i → n ≡ number_after m i.tree → n' ≡ m)
    (stays_if : (i : Item) (keeps : ℕ → Bool) (m : ℕ) (ns : List Text) → view ≡ view_of i → keeps m ≡ is_marked entries n' → HasNames names ns → b ≡ stays keeps m ns i.tree) where
  pub before : (i : Item) × (slice_get items (k - 1) ≡ Some i)
  before = slice_get-within items (k - 1) (less k (length items) some is.within)

  pub number_is : n' ≡ number_at 0 items (k - 1)
  number_is = numbered before.0 (number_at 0 items (k - 1)) (seen before.0 before.1)
      (is.number ∙ ap (number_at 0 items) (back k some ∙ add-one (k - 1)) ∙ number-next 0 items (k - 1) before.0 before.1)

  -- the names that are still to be defined after the item
  pub awaited_after : HasNames names (after (is_marked entries) items (k - 1) n)
  awaited_after = subst (λ m. HasNames names (awaited (is_marked entries) n (drop m items))) (back k some) is.names_are

  pub next-walked : (names' : Map) → HasNames names' (names_before b before.0.tree (after (is_marked entries) items (k - 1) n)) → IsWalkedTo (is_marked entries) items (k - 1) n' names' (set marks (k - 1) b)
  next-walked names' gone =
      walked-item (is_marked entries) items (k - 1) n n' names names' marks before.0 b before.1 (less k (length items) some is.within) number_is
      (stays_if before.0 (is_marked entries) n' (after (is_marked entries) items (k - 1) n) (seen before.0 before.1) refl awaited_after)
      gone (walked-count (is_marked entries) items ((k - 1) + 1) k n names marks (back k some) is)

pub items-preserved-in-Continue-branch-2 : goal.items-preserved-in-Continue-branch-2
items-preserved-in-Continue-branch-2 g c r reads =
    let is = c.items.invariant r reads in
    let entries : List Bool = c.args.entries.now in
    let it = before entries r.items c.items.k c.items.n c.number_before-n.result c.items.names c.items.marks.items c.item-item.result c.stays-is_kept.result c.items-test.true is (c.item-item.ensures r reads) c.number_before-n.ensures (λ i keeps m ns seen e. c.stays-is_kept.ensures i keeps m ns seen (e ∙ sym c.is_marked.ensures)) in
    let all = awaited_after entries r.items c.items.k c.items.n c.number_before-n.result c.items.names c.items.marks.items c.item-item.result c.stays-is_kept.result c.items-test.true is (c.item-item.ensures r reads) c.number_before-n.ensures (λ i keeps m ns seen e. c.stays-is_kept.ensures i keeps m ns seen (e ∙ sym c.is_marked.ensures)) in
    next-walked entries r.items c.items.k c.items.n c.number_before-n.result c.items.names c.items.marks.items c.item-item.result c.stays-is_kept.result c.items-test.true is (c.item-item.ensures r reads) c.number_before-n.ensures (λ i keeps m ns seen e. c.stays-is_kept.ensures i keeps m ns seen (e ∙ sym c.is_marked.ensures))
    c.go_before.new.names
    (subst (λ b. HasNames c.go_before.new.names (names_before b it.0.tree (after (is_marked entries) r.items (c.items.k - 1) c.items.n))) (sym c.if-is_kept.true)
    (c.in_ok-go_before.ensures it.0 (after (is_marked entries) r.items (c.items.k - 1) c.items.n) (item_in (IsItem name_limit) r.items (c.items.k - 1) it.0 reads.items it.1).tree (c.item-item.ensures r reads it.0 it.1) all))

pub items-preserved : goal.items-preserved
items-preserved g c r reads =
    let is = c.items.invariant r reads in
    let entries : List Bool = c.args.entries.now in
    let it = before entries r.items c.items.k c.items.n c.number_before-n.result c.items.names c.items.marks.items c.item-item.result c.stays-is_kept.result c.items-test.true is (c.item-item.ensures r reads) c.number_before-n.ensures (λ i keeps m ns seen e. c.stays-is_kept.ensures i keeps m ns seen (e ∙ sym c.is_marked.ensures)) in
    let all = awaited_after entries r.items c.items.k c.items.n c.number_before-n.result c.items.names c.items.marks.items c.item-item.result c.stays-is_kept.result c.items-test.true is (c.item-item.ensures r reads) c.number_before-n.ensures (λ i keeps m ns seen e. c.stays-is_kept.ensures i keeps m ns seen (e ∙ sym c.is_marked.ensures)) in
    next-walked entries r.items c.items.k c.items.n c.number_before-n.result c.items.names c.items.marks.items c.item-item.result c.stays-is_kept.result c.items-test.true is (c.item-item.ensures r reads) c.number_before-n.ensures (λ i keeps m ns seen e. c.stays-is_kept.ensures i keeps m ns seen (e ∙ sym c.is_marked.ensures))
    c.items.names
    (subst (λ b. HasNames c.items.names (names_before b it.0.tree (after (is_marked entries) r.items (c.items.k - 1) c.items.n))) (sym c.if-is_kept.false) all)

pub returns : goal.returns
returns g c r reads = walked-all (is_marked c.args.entries.now) r.items c.items.k c.items.n c.items.names c.items.marks.items c.items-test.false (c.items.invariant r reads)
