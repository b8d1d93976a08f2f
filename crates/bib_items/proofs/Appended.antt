-- The bytes of items, put one after another after a text.
use Rattle.bib_items.proofs.Words.{◌≡◌, ℕ, ◌+◌, ◌-◌, ◌≤◌, ◌<◌, suc, List, [], ◌∷◌, ◌++◌, length, take, drop, get_or, refl, sym, ◌∙◌, ap, arith, append_assoc, drop-drop, take_more, get_or-drop, drop-append-le, drop_at, take-append-le, take-take, take_at, flat_map-append, take-add, flat_map, between}
use Rattle.bib_items.proofs.Words.{Text, Item, item, item_at, kept_bytes, joined, page_at, IsOnWay, length-joined-more, on_way_more, on_way_end}
use Rattle.std.proofs.Common.{append-nil, length-drop}
use Rattle.std.proofs.lemmas.List.{flat_map_more, length-append}
use Rattle.bib_pages.proofs.Paging.{joined-split}

abbrev all_bytes : List Item → Text
all_bytes items = flat_map kept_bytes items

-- what stood first in a text that grew still stands first where the grown text does
pub front_stands : (front now more new : Text) → now ≡ front ++ more → take (length now) new ≡ now → take (length front) new ≡ front
front_stands front now more new grown stands =
    let within : length front ≤ length now = omega (arith, ap (length {A = ℕ}) grown, length-append front more) in
    sym (take-take (length front) (length now) new within) ∙ ap (take (length front)) (stands ∙ grown) ∙ take_at front more (length front) refl

-- ---- item by item

-- one item more from a number on
pub between-more : (items : List Item) (from n : ℕ) → from ≤ n → n < length items → between from (n + 1) items ≡ between from n items ++ item_at items n ∷ []
between-more items from n h k =
    let far : n + 1 - from ≡ n - from + 1 = omega arith in
    let here : from + (n - from) ≡ n = omega arith in
    let room : n - from < length (drop from items) = omega (arith, length-drop from items) in
    ap (λ m. take m (drop from items)) far
    ∙ take_more (drop from items) (n - from) (item [] []) room
    ∙ ap (λ i. between from n items ++ i ∷ []) (get_or-drop from items (n - from) (item [] []) ∙ ap (λ m. get_or items m (item [] [])) here)

pub appended_none : (items : List Item) (from : ℕ) (front : Text) → front ≡ front ++ all_bytes (between from from items)
appended_none items from front =
    let none : from - from ≡ 0 = omega arith in
    sym (ap (λ m. front ++ all_bytes (take m (drop from items))) none ∙ append-nil front)

pub appended_more : (items : List Item) (from n : ℕ) (front now body trail : Text) → from ≤ n → n < length items → body ≡ (item_at items n).body → trail ≡ (item_at items n).trail → now ≡ front ++ all_bytes (between from n items)
    → (now ++ body) ++ trail ≡ front ++ all_bytes (between from (n + 1) items)
appended_more items from n front now body trail h k b t e =
    append_assoc now body trail
    ∙ ap (λ (l : Text). l ++ (body ++ trail)) e
    ∙ ap (λ (l : Text). (front ++ all_bytes (between from n items)) ++ (l ++ trail)) b
    ∙ ap (λ (l : Text). (front ++ all_bytes (between from n items)) ++ ((item_at items n).body ++ l)) t
    ∙ flat_map_more kept_bytes front (between from n items) (item_at items n)
    ∙ ap (λ l. front ++ all_bytes l) (sym (between-more items from n h k))

-- ---- page by page

-- of the items from `from` up to `to`, the last `left` remain, and those before them were put after the text
pub record IsAppended (pages : List (List Item)) (p from to skip left : ℕ) (front now : Text) : Type 0 where
  pub way : IsOnWay pages p (to - left) skip
  pub most : left ≤ to - from
  pub is : now ≡ front ++ all_bytes (between from (to - left) (joined pages))

-- members that stand together in a page
pub in_page : (pages : List (List Item)) (p n skip m : ℕ) → p < length pages → IsOnWay pages p n skip → skip + m ≤ length (page_at pages p) → between n (n + m) (joined pages) ≡ between skip (skip + m) (page_at pages p)
in_page pages p n skip m h way within =
    let front : List Item = joined (take p pages) in
    let page : List Item = page_at pages p in
    let rest : List Item = joined (drop (suc p) pages) in
    let at : n ≡ length front + skip = way.at in
    let wide : n + m - n ≡ m = omega arith in
    let long : skip + m - skip ≡ m = omega arith in
    let all : joined pages ≡ front ++ (page ++ rest) = joined-split pages p h in
    let after : drop n (front ++ (page ++ rest)) ≡ drop skip (page ++ rest)
    = ap (λ k. drop k (front ++ (page ++ rest))) at ∙ sym (drop-drop skip (length front) (front ++ (page ++ rest))) ∙ ap (drop skip) (drop_at front (page ++ rest) (length front) refl) in
    ap (λ k. take k (drop n (joined pages))) wide
    ∙ ap (λ (l : List Item). take m (drop n l)) all
    ∙ ap (take m) after
    ∙ ap (take m) (drop-append-le skip page rest (omega (arith, within)))
    ∙ take-append-le m (drop skip page) rest (omega (arith, within, length-drop skip page))
    ∙ sym (ap (λ k. take k (drop skip page)) long)

pub between-both : (items : List Item) (from n m : ℕ) → from ≤ n → between from n items ++ between n (n + m) items ≡ between from (n + m) items
between-both items from n m h =
    let far : n - from + m ≡ n + m - from = omega (arith, h) in
    let here : from + (n - from) ≡ n = omega (arith, h) in
    let wide : n + m - n ≡ m = omega arith in
    ap (λ k. between from n items ++ take k (drop n items)) wide
    ∙ ap (λ k. between from n items ++ take m (drop k items)) (sym here)
    ∙ ap (λ (l : List Item). between from n items ++ take m l) (sym (drop-drop (n - from) from items))
    ∙ sym (take-add (n - from) m (drop from items))
    ∙ ap (λ k. take k (drop from items)) far

-- members of a page are put after the text
put_more : (pages : List (List Item)) (p from to skip left m : ℕ) (front now new : Text) → p < length pages → from ≤ to → skip + m ≤ length (page_at pages p) → new ≡ now ++ all_bytes (between skip (skip + m) (page_at pages p))
    → IsAppended pages p from to skip left front now → new ≡ front ++ all_bytes (between from (to - left + m) (joined pages))
put_more pages p from to skip left m front now new h order within put is =
    let low : from ≤ to - left = omega (arith, is.most, order) in
    put
    ∙ ap (λ (l : Text). l ++ all_bytes (between skip (skip + m) (page_at pages p))) is.is
    ∙ ap (λ (l : List Item). (front ++ all_bytes (between from (to - left) (joined pages))) ++ all_bytes l) (sym (in_page pages p (to - left) skip m h is.way within))
    ∙ append_assoc front (all_bytes (between from (to - left) (joined pages))) (all_bytes (between (to - left) (to - left + m) (joined pages)))
    ∙ ap (λ (l : Text). front ++ l) (sym (flat_map-append kept_bytes (between from (to - left) (joined pages)) (between (to - left) (to - left + m) (joined pages))))
    ∙ ap (λ (l : List Item). front ++ all_bytes l) (between-both (joined pages) from (to - left) m low)

pub page_appended : (pages : List (List Item)) (p from to skip left len : ℕ) (front now new : Text) → p < length pages → from ≤ to → len ≡ length (page_at pages p) → skip < len → len - skip < left
    → new ≡ now ++ all_bytes (between skip len (page_at pages p)) → IsAppended pages p from to skip left front now → IsAppended pages (p + 1) from to 0 (left - (len - skip)) front new
page_appended pages p from to skip left len front now new h order e low more put is =
    let whole : skip + (len - skip) ≡ len = omega (arith, low) in
    let at : to - left ≡ length (joined (take p pages)) + skip = is.way.at in
    let most : left ≤ to - from = is.most in
    let next : to - left + (len - skip) ≡ to - (left - (len - skip)) = omega (arith, low, more, most, order) in
    record {
      way = record { at = omega (arith, at, next, e, low, length-joined-more pages p h) };
      most = omega (arith, most);
      is =
          put_more pages p from to skip left (len - skip) front now new h order (omega (arith, e, low)) (put ∙ ap (λ k. now ++ all_bytes (between skip k (page_at pages p))) (sym whole)) is
          ∙ ap (λ k. front ++ all_bytes (between from k (joined pages))) next;
    }

pub page_skipped : (pages : List (List Item)) (p from to skip left len : ℕ) (front now : Text) → p < length pages → len ≡ length (page_at pages p) → len ≤ skip → IsAppended pages p from to skip left front now
    → IsAppended pages (p + 1) from to (skip - len) left front now
page_skipped pages p from to skip left len front now h e far is = record { way = on_way_more pages p (to - left) skip len h e far is.way; most = is.most; is = is.is }

pub all_appended : (pages : List (List Item)) (p from to skip left len : ℕ) (front now new : Text) → p < length pages → from ≤ to → len ≡ length (page_at pages p) → skip < len → left ≤ len - skip
    → new ≡ now ++ all_bytes (between skip (skip + left) (page_at pages p)) → IsAppended pages p from to skip left front now → new ≡ front ++ all_bytes (between from to (joined pages))
all_appended pages p from to skip left len front now new h order e low few put is =
    let most : left ≤ to - from = is.most in
    let end : to - left + left ≡ to = omega (arith, most, order) in
    put_more pages p from to skip left left front now new h order (omega (arith, e, low, few)) put is
    ∙ ap (λ k. front ++ all_bytes (between from k (joined pages))) end

pub none_left : (pages : List (List Item)) (p from to skip left : ℕ) (front now : Text) → length pages ≤ p → from ≤ to → to ≤ length (joined pages) → IsAppended pages p from to skip left front now
    → now ≡ front ++ all_bytes (between from to (joined pages))
none_left pages p from to skip left front now h order within is =
    let most : left ≤ to - from = is.most in
    let end : to - left ≡ to = omega (arith, on_way_end pages p (to - left) skip h is.way, within, most, order) in
    is.is ∙ ap (λ k. front ++ all_bytes (between from k (joined pages))) end

pub appended_begins : (pages : List (List Item)) (p from to item : ℕ) (front : Text) → from ≤ to → item ≡ length (joined (take p pages)) → item ≤ from → IsAppended pages p from to (from - item) (to - from) front front
appended_begins pages p from to item front order at low =
    let begin : to - (to - from) ≡ from = omega (arith, order) in
    record {
      way = record { at = omega (arith, begin, at, low) };
      most = omega arith;
      is = appended_none (joined pages) from front ∙ ap (λ k. front ++ all_bytes (between from k (joined pages))) (sym begin);
    }
