-- The lines of entries as JSON, one after another.
use Rattle.bib_answers.proofs.Words.{◌≡◌, ◌∙◌, ℕ, ◌+◌, ◌<◌, Bool, true, false, not, List, [], ◌∷◌, ◌++◌, length, take, drop, get_or, option_map, Option, None, Some, sym, ap, flat_map, cons_option, option_map_or, take_more, take-append-drop, flat_map_more, filter_map-append, Text, EntryTexts}
use Rattle.bib_answers.proofs.Words.{record_of, parent, next-of, key_at, not_utf8_line, answer_of}
use Rattle.std.proofs.Common.{find, filter_map, if◌then◌else◌}
use Rattle.std.specs.Option.{option_or}
use Rattle.std.proofs.lemmas.List.Folds.{find-append}
use Rattle.bib_answers.specs.Json.{ToldIn, told_in, lines_answer}

-- all texts of the first i entries of the list are UTF-8, and `lines` has their lines
pub record IsToldTo {T : Type 0} (is_utf8 : T → Bool) (line : T → Text) (tell : ℕ → Option T) (list : List ℕ) (i : ℕ) (lines : Text) : Type 0 where
  pub said : find (λ one. not (is_utf8 one)) (filter_map tell (take i list)) ≡ None
  pub lines_are : lines ≡ flat_map line (filter_map tell (take i list))

-- an entry is told
pub told_entry : (depth : ℕ) (entries : List EntryTexts) (file : ℕ → Option Text) (n : ℕ) → n < length entries
    → (told : ToldIn) × (told_in depth entries file n ≡ Some told) × (told.0.0.key ≡ key_at entries n)
told_entry depth entries file n within =
    let entry = next-of entries n within in (
      ((record_of depth entries n entry.0, option_map (key_at entries) (parent entries n)), file n),
      ap (λ (o : Option EntryTexts). option_map (λ told. (told, file n)) (option_map (λ rec. (rec, option_map (key_at entries) (parent entries n))) (option_map (record_of depth entries n) o))) entry.1,
      sym (ap (λ (o : Option EntryTexts). option_map_or (λ e. e.key) o []) entry.1),
    )

module _ {T : Type 0} (is_utf8 : T → Bool) (key line : T → Text) (tell : ℕ → Option T) (list : List ℕ) (i d : ℕ) (within : i < length list) (told : T) (is : tell (get_or list i d) ≡ Some told) where
  abbrev is_unsaid : T → Bool
  is_unsaid one = not (is_utf8 one)

  next : filter_map tell (take (i + 1) list) ≡ filter_map tell (take i list) ++ told ∷ []
  next =
      ap (filter_map tell) (take_more list i d within)
      ∙ filter_map-append tell (take i list) (get_or list i d ∷ [])
      ∙ ap (λ (o : Option T). filter_map tell (take i list) ++ cons_option o []) is

  pub told_more : (lines more : Text) → is_utf8 told ≡ true → more ≡ lines ++ line told → IsToldTo is_utf8 line tell list i lines → IsToldTo is_utf8 line tell list (i + 1) more
  told_more lines more utf8 made to = record {
    said =
        ap (find is_unsaid) next ∙ find-append is_unsaid (filter_map tell (take i list)) (told ∷ [])
        ∙ ap (λ (o : Option T). option_or o (find is_unsaid (told ∷ []))) to.said
        ∙ ap (λ b. if not b then Some told else None) utf8;
    lines_are =
        made ∙ ap (λ (t : Text). t ++ line told) to.lines_are
        ∙ flat_map_more line [] (filter_map tell (take i list)) told
        ∙ sym (ap (flat_map line) next);
  }

  -- one that is not UTF-8 is the first
  pub told_stops : (lines k : Text) → is_utf8 told ≡ false → key told ≡ k → IsToldTo is_utf8 line tell list i lines
      → answer_of [] (not_utf8_line k) 1 ≡ lines_answer is_utf8 key line (filter_map tell list)
  told_stops lines k utf8 named to =
      ap (λ (k : Text). answer_of [] (not_utf8_line k) 1) (sym named)
      ∙ sym (ap (λ (o : Option T). option_map_or (λ one. answer_of [] (not_utf8_line (key one)) 1) o (answer_of (flat_map line (filter_map tell list)) [] 0)) first)
    where
      split : filter_map tell list ≡ (filter_map tell (take i list) ++ told ∷ []) ++ filter_map tell (drop (i + 1) list)
      split =
          ap (filter_map tell) (sym (take-append-drop (i + 1) list))
          ∙ filter_map-append tell (take (i + 1) list) (drop (i + 1) list)
          ∙ ap (λ (ts : List T). ts ++ filter_map tell (drop (i + 1) list)) next

      here : find is_unsaid (filter_map tell (take i list) ++ told ∷ []) ≡ Some told
      here =
          find-append is_unsaid (filter_map tell (take i list)) (told ∷ [])
          ∙ ap (λ (o : Option T). option_or o (find is_unsaid (told ∷ []))) to.said
          ∙ ap (λ b. if not b then Some told else None) utf8

      first : find is_unsaid (filter_map tell list) ≡ Some told
      first =
          ap (find is_unsaid) split
          ∙ find-append is_unsaid (filter_map tell (take i list) ++ told ∷ []) (filter_map tell (drop (i + 1) list))
          ∙ ap (λ (o : Option T). option_or o (find is_unsaid (filter_map tell (drop (i + 1) list)))) here
