-- Items that a search passes over, page by page.
use Rattle.bib_items.proofs.Words.{◌≡◌, ℕ, ◌+◌, ◌-◌, ◌≤◌, ◌<◌, List, [], ◌∷◌, ◌++◌, length, take, drop, sym, subst, ◌∙◌, ap, arith, All, All-nil, All-cons, All-append, between, Item, item_at, joined, page_at, IsOnWay, length-joined-more, length-joined-take, on_way_more}
use Rattle.bib_items.proofs.Appended.{between-more, in_page, between-both}

module _ (Lacks : Item → Type 0) where
  -- the items from `from` up to `next` are passed over, and page p, after its first `skip` items, is the next to be looked at
  pub record ArePassedOver (pages : List (List Item)) (p from skip next : ℕ) : Type 0 where
    pub way : IsOnWay pages p next skip
    pub order : from ≤ next
    pub within : next ≤ length (joined pages)
    pub lack : All Lacks (between from next (joined pages))

  pub lack-none : (items : List Item) (from : ℕ) → All Lacks (between from from items)
  lack-none items from =
      let none : from - from ≡ 0 = omega arith in
      subst (λ (n : ℕ). All Lacks (take n (drop from items))) (sym none) (All-nil Lacks)

  pub passed-begins : (pages : List (List Item)) (p from item : ℕ) → item ≡ length (joined (take p pages)) → item ≤ from → from ≤ length (joined pages) → ArePassedOver pages p from (from - item) from
  passed-begins pages p from item at low within = record {
    way = record { at = omega (arith, at, low) };
    order = omega arith;
    within = within;
    lack = lack-none (joined pages) from;
  }

  -- a page that lies before the first of them
  pub passed-before : (pages : List (List Item)) (p from skip next len : ℕ) → p < length pages → len ≡ length (page_at pages p) → len ≤ skip → ArePassedOver pages p from skip next → ArePassedOver pages (p + 1) from (skip - len) next
  passed-before pages p from skip next len h e low is = record { way = on_way_more pages p next skip len h e low is.way; order = is.order; within = is.within; lack = is.lack }

  -- items of a page that are passed over
  pub passed-some : (pages : List (List Item)) (p from skip next k : ℕ) → p < length pages → skip ≤ k → k ≤ length (page_at pages p) → All Lacks (between skip k (page_at pages p)) → ArePassedOver pages p from skip next
      → ArePassedOver pages p from k (next + (k - skip))
  passed-some pages p from skip next k h low high lack is =
      let at : next ≡ length (joined (take p pages)) + skip = is.way.at in
      let order : from ≤ next = is.order in
      let end : skip + (k - skip) ≡ k = omega (arith, low) in
      let both : between from next (joined pages) ++ between skip k (page_at pages p) ≡ between from (next + (k - skip)) (joined pages)
      = ap (λ (n : ℕ). between from next (joined pages) ++ between skip n (page_at pages p)) (sym end)
      ∙ ap (λ (l : List Item). between from next (joined pages) ++ l) (sym (in_page pages p next skip (k - skip) h is.way (omega (arith, end, high)))) ∙ between-both (joined pages) from next (k - skip) order in
      record {
        way = record { at = omega (arith, at, low) };
        order = omega (arith, order);
        within = omega (arith, at, low, high, length-joined-more pages p h, length-joined-take pages (p + 1));
        lack = subst (All Lacks) both (All-append Lacks (between from next (joined pages)) (between skip k (page_at pages p)) is.lack lack);
      }

  -- the whole page is passed over
  pub passed-page : (pages : List (List Item)) (p from k next len : ℕ) → p < length pages → len ≡ length (page_at pages p) → len ≤ k → k ≤ len → ArePassedOver pages p from k next → ArePassedOver pages (p + 1) from 0 next
  passed-page pages p from k next len h e low high is =
      let none : k - len ≡ 0 = omega (arith, high) in
      subst (λ (n : ℕ). ArePassedOver pages (p + 1) from n next) none (passed-before pages p from k next len h e low is)

  -- ---- item by item

  pub lack-more : (items : List Item) (from n : ℕ) → from ≤ n → n < length items → Lacks (item_at items n) → All Lacks (between from n items) → All Lacks (between from (n + 1) items)
  lack-more items from n h k this all =
      subst (All Lacks) (sym (between-more items from n h k)) (All-append Lacks (between from n items) (item_at items n ∷ []) all (All-cons Lacks (item_at items n) [] this (All-nil Lacks)))
