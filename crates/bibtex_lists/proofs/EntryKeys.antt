-- The keys and the crossref texts of entries, one after another.
use Rattle.std.proofs.Common.{◌≡◌, ◌+◌, ℕ, List, [], ◌∷◌, ◌++◌, Some, slice_get, take, sym, subst}
use Rattle.std.specs.List.{AllZip}
use Rattle.bib_spec.specs.Records.{EntryTexts}
use Rattle.bibtex_places.specs.declared.lists.EntryKey.{EntryKey}
use Rattle.bibtex_places.specs.Lists.{IsKeyOf, AreKeysOf}
use Rattle.bibtex_places.proofs.ListedEntries.{take_next}

zip_push : {X Y : Type 0} (R : X → Y → Type 0) (xs : List X) (ys : List Y) (x : X) (y : Y) → AllZip R xs ys → R x y → AllZip R (xs ++ x ∷ []) (ys ++ y ∷ [])
zip_push R [] [] x y all one = (one, tt)
zip_push R [] (v ∷ ys) x y all one = absurd all
zip_push R (u ∷ xs) [] x y all one = absurd all
zip_push R (u ∷ xs) (v ∷ ys) x y all one = (all.0, zip_push R xs ys x y all.1 one)

pub keys_push : (given : List EntryKey) (texts : List EntryTexts) (n : ℕ) (g : EntryKey) (entry : EntryTexts) → slice_get texts n ≡ Some entry → AreKeysOf given (take n texts) → IsKeyOf g entry → AreKeysOf (given ++ g ∷ []) (take (n + 1) texts)
keys_push given texts n g entry at are is =
    subst (AreKeysOf (given ++ g ∷ [])) (sym (take_next texts n entry at)) (zip_push IsKeyOf given (take n texts) g entry are is)
