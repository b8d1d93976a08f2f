-- What stands before, in and after a window.
use Rattle.bib_store.proofs.Words.{◌≡◌, ℕ, ◌+◌, ◌-◌, ◌≤◌, Bool, true, false, List, [], ◌++◌, take, drop, refl, sym, ◌∙◌, ap, arith, append_assoc, take-append-drop, drop-drop, flat_map, between, Text, Window, kept_bytes, file_of, IsWindow, front_before, front_within, bytes_before, bytes_within}
use Rattle.bib_store.proofs.Words.{bytes_after}
use Rattle.std.proofs.lemmas.List.Concat.{flat_map-append}
use Rattle.bib_items.specs.declared.list.Item.{Item}

abbrev all_bytes : List Item → Text
all_bytes items = flat_map kept_bytes items

-- what the items up to a number take of all
pub bytes-split : (items : List Item) (n : ℕ) → all_bytes (take n items) ++ all_bytes (drop n items) ≡ all_bytes items
bytes-split items n = sym (flat_map-append kept_bytes (take n items) (drop n items)) ∙ ap all_bytes (take-append-drop n items)

-- ---- the file around a window

items-around : (items : List Item) (from to : ℕ) → from ≤ to → all_bytes items ≡ all_bytes (take from items) ++ (all_bytes (between from to items) ++ all_bytes (drop to items))
items-around items from to h =
    sym (bytes-split items from)
    ∙ ap (λ l. all_bytes (take from items) ++ l)
    (ap all_bytes (sym (take-append-drop (to - from) (drop from items))
    ∙ ap (λ l. between from to items ++ l) (drop-drop (to - from) from items ∙ ap (λ n. drop n items) (omega_whole from to h)))
    ∙ flat_map-append kept_bytes (between from to items) (drop to items))
  where
    omega_whole : (from to : ℕ) → from ≤ to → from + (to - from) ≡ to
    omega_whole from to h = omega arith

around_front : (b : Bool) (front x y z : Text) → (b ≡ true → x ≡ []) → front ++ (x ++ (y ++ z)) ≡ (front_before b front ++ x) ++ ((front_within b front ++ y) ++ z)
around_front true front x y z e =
    ap (λ l. front ++ (l ++ (y ++ z))) (e refl) ∙ sym (append_assoc front y z) ∙ ap (λ l. l ++ ((front ++ y) ++ z)) (sym (e refl))
around_front false front x y z e = sym (append_assoc front x (y ++ z))

pub file-around : (w : Window) (front : Text) (items : List Item) → IsWindow items w → file_of front items ≡ bytes_before w front items ++ (bytes_within w front items ++ bytes_after w items)
file-around w front items is =
    ap (λ l. front ++ l) (items-around items w.from w.to is.ordered)
    ∙ around_front w.with_front front (all_bytes (take w.from items)) (all_bytes (between w.from w.to items)) (all_bytes (drop w.to items))
    (λ b. ap (λ n. all_bytes (take n items)) (is.begins b))
