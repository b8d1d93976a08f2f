-- Keys that entries get in turn.
use Rattle.bib_ris.proofs.Words.{◌≡◌, ◌∙◌, ℕ, ◌+◌, ◌<◌, ◌≤◌, true, false, List, [], ◌∷◌, ◌++◌, length, take, drop, get_or, refl, sym, ap, ap₂, arith, append-nil, cond-true, cond-false, take_more, Text, is_new_key, NewEntry, with_keys}
use Rattle.std.proofs.Common.{set, append_assoc, add-one}
use Rattle.std.proofs.lemmas.List.{take_all, drop-set-lt}
use Rattle.std.proofs.Math.Seq.{take-suc-set}
use Rattle.std.proofs.Math.ListN.{drop_of_length-le}
use Rattle.bib_keys.proofs.Walks.{next-read}

with-none : (keys : List Text) → with_keys keys [] ≡ []
with-none [] = refl
with-none (key ∷ keys) = refl

-- an entry that has a key keeps it
pub with-kept : (keys : List Text) (entry : NewEntry) (entries : List NewEntry) → is_new_key entry.key ≡ true → with_keys keys (entry ∷ entries) ≡ entry ∷ with_keys keys entries
with-kept [] entry entries has = refl
with-kept (key ∷ keys) entry entries has = cond-true (is_new_key entry.key) (entry ∷ with_keys (key ∷ keys) entries) (record entry { key = key } ∷ with_keys keys entries) has

module _ (entries : List NewEntry) (n : ℕ) (entry : NewEntry) (within : n < length entries) (is : entry ≡ get_or entries n entry) where
  -- so far, with one more entry
  so_far : (rest : List NewEntry) → take (n + 1) entries ++ rest ≡ take n entries ++ (entry ∷ rest)
  so_far rest =
      ap (λ (l : List NewEntry). l ++ rest) (take_more entries n entry within)
      ∙ append_assoc (take n entries) (get_or entries n entry ∷ []) rest
      ∙ ap (λ (e : NewEntry). take n entries ++ (e ∷ rest)) (sym is)

  pub key_kept : (keys : List Text) → is_new_key entry.key ≡ true
      → take (n + 1) entries ++ with_keys keys (drop (n + 1) entries) ≡ take n entries ++ with_keys keys (drop n entries)
  key_kept keys has =
      so_far (with_keys keys (drop (n + 1) entries))
      ∙ ap (λ (l : List NewEntry). take n entries ++ l) (sym (with-kept keys entry (drop (n + 1) entries) has))
      ∙ ap (λ (l : List NewEntry). take n entries ++ with_keys keys l) (sym (next-read entries n entry within is))

  pub key_given : (key : Text) (keys : List Text) → is_new_key entry.key ≡ false
      → take (n + 1) (set entries n (record entry { key = key })) ++ with_keys keys (drop (n + 1) (set entries n (record entry { key = key }))) ≡ take n entries ++ with_keys (key ∷ keys) (drop n entries)
  key_given key keys needs =
      let given : NewEntry = record entry { key = key } in
      ap₂ (λ (front rest : List NewEntry). front ++ with_keys keys rest)
      (ap (λ (m : ℕ). take m (set entries n given)) (add-one n) ∙ take-suc-set entries n given within)
      (drop-set-lt (n + 1) entries n given (omega arith))
      ∙ append_assoc (take n entries) (given ∷ []) (with_keys keys (drop (n + 1) entries))
      ∙ ap (λ (l : List NewEntry). take n entries ++ l) (sym (cond-false (is_new_key entry.key) (entry ∷ with_keys (key ∷ keys) (drop (n + 1) entries)) (given ∷ with_keys keys (drop (n + 1) entries)) needs))
      ∙ ap (λ (l : List NewEntry). take n entries ++ with_keys (key ∷ keys) l) (sym (next-read entries n entry within is))

-- at the end
pub keys_given : (entries : List NewEntry) (n : ℕ) (keys : List Text) → length entries ≤ n → take n entries ++ with_keys keys (drop n entries) ≡ entries
keys_given entries n keys all =
    ap₂ (λ (front rest : List NewEntry). front ++ with_keys keys rest) (take_all n entries all) (drop_of_length-le entries all)
    ∙ ap (λ (l : List NewEntry). entries ++ l) (with-none keys)
    ∙ append-nil entries
