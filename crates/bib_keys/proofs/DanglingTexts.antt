-- Dangling crossrefs, entry by entry.
use Rattle.bib_keys.proofs.Words.{◌≡◌, ℕ, ◌+◌, ◌<◌, ◌≤◌, List, [], drop, length, sym, ◌∙◌, ap, cons_option, drop_of_length-le, Text, EntryTexts, dangling_at}
use Rattle.std.proofs.Common.{filter_map, option_and_then}
use Rattle.bib_spec.specs.Records.{dangling_text}
use Rattle.bib_keys.proofs.Walks.{next-of}

-- the texts of the entries from number n on
abbrev pub texts_from : List EntryTexts → ℕ → List Text
texts_from entries n = filter_map (dangling_text entries) (drop n entries)

module _ (entries : List EntryTexts) (n : ℕ) (lt : n < length entries) where
  pub texts-next : texts_from entries n ≡ cons_option (dangling_at entries n) (texts_from entries (n + 1))
  texts-next =
      let next = next-of entries n lt in
      ap (filter_map (dangling_text entries)) next.2
      ∙ sym (ap (λ o. cons_option (option_and_then (dangling_text entries) o) (texts_from entries (n + 1))) next.1)

pub texts-past : (entries : List EntryTexts) (n : ℕ) → length entries ≤ n → texts_from entries n ≡ []
texts-past entries n le = ap (filter_map (dangling_text entries)) (drop_of_length-le entries le)
