-- Items whose marks are known.
use Rattle.bib_items.proofs.Words.{◌≡◌, ℕ, suc, ◌+◌, ◌≤◌, ◌<◌, List, [], ◌∷◌, ◌++◌, Option, Some, None, length, take, drop, set, insert, remove, sym, subst, take_all, All-nil, All-cons, All-take, All-drop, All-append, All-set, All-weaker, Text, Item, Span, item, item_at, PageOwn, total, items_in}
use Rattle.bib_items.proofs.Words.{LieInEither, AreLaid, Extends, KeepsMarks, HasItemMarks, IsCovered, AreCovered}
use Rattle.std.proofs.Common.{◌^◌}
use Rattle.std.proofs.lemmas.List.Elements.{All-more, All-from_get_or}
use Rattle.bib_items.specs.PageOwn.{only_bytes}
use Rattle.bib_items.proofs.ItemsIn.{items_further, all_further}
use Rattle.bib_items.proofs.PartMarks.{item-kept}

-- what the old marks cover, the new ones cover
abbrev pub KeepsCovered : Option (List ℕ) → Option (List ℕ) → Type 0
KeepsCovered old new = (body : Text) → IsCovered old body → IsCovered new body

pub covered-more : (old new : Option (List ℕ)) (items : List Item) → KeepsCovered old new → AreCovered old items → AreCovered new items
covered-more old new items keeps all = All-weaker (λ (i : Item). IsCovered old i.body) (λ (i : Item). IsCovered new i.body) (λ i. keeps i.body) items all

pub covered-none : (items : List Item) → AreCovered None items
covered-none items = All-from_get_or (λ (i : Item). IsCovered None i.body) items (item [] []) (λ i h. tt)

-- ---- items that come and go

pub covered-insert : (old new : Option (List ℕ)) (items : List Item) (k : ℕ) (i : Item) → KeepsCovered old new → IsCovered new i.body → AreCovered old items → AreCovered new (insert items k i)
covered-insert old new items k i keeps has all =
    let more = covered-more old new items keeps all in
    All-append (λ (j : Item). IsCovered new j.body) (take k items) (i ∷ drop k items) (All-take (λ (j : Item). IsCovered new j.body) k items more)
    (All-cons (λ (j : Item). IsCovered new j.body) i (drop k items) has (All-drop (λ (j : Item). IsCovered new j.body) k items more))

pub covered-set : (old new : Option (List ℕ)) (items : List Item) (k : ℕ) (i : Item) → KeepsCovered old new → IsCovered new i.body → AreCovered old items → AreCovered new (set items k i)
covered-set old new items k i keeps has all = All-set (λ (j : Item). IsCovered new j.body) items k i has (covered-more old new items keeps all)

pub covered-remove : (marks : Option (List ℕ)) (items : List Item) (k : ℕ) → AreCovered marks items → AreCovered marks (remove items k)
covered-remove marks items k all =
    All-append (λ (j : Item). IsCovered marks j.body) (take k items) (drop (suc k) items) (All-take (λ (j : Item). IsCovered marks j.body) k items all) (All-drop (λ (j : Item). IsCovered marks j.body) (suc k) items all)

-- own bytes that come leave the items
covered-further : (old new : Option (List ℕ)) (a own more : Text) (spans : List Span) → LieInEither a own spans → Extends own more → KeepsCovered old new → AreCovered old (items_in (a ++ own) spans) → AreCovered new (items_in (a ++ more) spans)
covered-further old new a own more spans lie extends keeps all =
    subst (AreCovered new) (sym (items_further a own more spans lie extends)) (covered-more old new (items_in (a ++ own) spans) keeps all)

-- the page of these items, with more own bytes and more marks
pub laid-further : (shared own more : Text) (spans : List Span) (len : ℕ) (old new : Option (List ℕ)) → Extends own more → KeepsCovered old new → AreLaid shared own spans len old → AreLaid shared more spans len new
laid-further shared own more spans len old new extends keeps laid = record {
  lie = all_further shared own more spans laid.lie extends;
  len_is = laid.len_is;
  fits = laid.fits;
  marked = covered-further old new shared own more spans laid.lie extends keeps laid.marked;
}

-- the page of these items, with these own bytes and without marks
pub laid-only : (shared own : Text) (spans : List Span) (len : ℕ) (kept : PageOwn) → kept ≡ only_bytes own → LieInEither shared own spans → len ≡ total spans → len < 2 ^ 64 → AreLaid shared kept.own spans len kept.marks
laid-only shared own spans len kept is lie sum fits =
    subst (λ (p : PageOwn). AreLaid shared p.own spans len p.marks) (sym is) (record { lie = lie; len_is = sum; fits = fits; marked = covered-none (items_in (shared ++ own) spans) })

-- ---- item by item

pub covered-first : (items : List Item) (marks : List ℕ) → AreCovered (Some marks) (take 0 items)
covered-first items marks = All-nil (λ (i : Item). HasItemMarks marks i.body)

pub covered-next : (items : List Item) (old new : List ℕ) (n : ℕ) (body : Text) → n < length items → body ≡ (item_at items n).body → KeepsMarks old new → HasItemMarks new body
    → AreCovered (Some old) (take n items) → AreCovered (Some new) (take (n + 1) items)
covered-next items old new n body h same keeps has all =
    All-more (λ (i : Item). HasItemMarks new i.body) items n (item [] []) h (covered-more (Some old) (Some new) (take n items) (λ b. item-kept old new b keeps) all) (subst (HasItemMarks new) same has)

pub covered-all : (items : List Item) (marks : Option (List ℕ)) (n : ℕ) → length items ≤ n → AreCovered marks (take n items) → AreCovered marks items
covered-all items marks n h all = subst (AreCovered marks) (take_all n items h) all
