-- The tokens of fields as they are written, one field after another.
use Rattle.std.proofs.Common.{◌≡◌, ◌∙◌, ℕ, ◌+◌, ◌<◌, Bool, true, false, ◌&&◌, List, [], ◌∷◌, ◌++◌, length, take, drop, get_or, map, refl, sym, ap, append_assoc}
use Rattle.std.specs.List.{flat_map, list_all}
use Rattle.std.proofs.lemmas.List.{take-append-drop}
use Rattle.std.proofs.lemmas.List.Folds.{list_all-append, list_all-map, list_all_more}
use Rattle.json.specs.Token.{Token, end_object, key}
use Rattle.json.specs.Tree.{json_tokens, members_tokens}
use Rattle.bib_spec.specs.Text.{folded}
use Rattle.entry_json.specs.RawJson.{written_seen, written_json, all_written_json, is_written_utf8}
use Rattle.entry_json.specs.declared.raw.WrittenField.{WrittenField}

-- a field's name in lower case, and its value
abbrev pub seen_tokens : WrittenField → List Token
seen_tokens field = key (folded field.name.now) ∷ json_tokens (written_json (written_seen field))

abbrev pub is_seen_utf8 : WrittenField → Bool
is_seen_utf8 field = is_written_utf8 (written_seen field)

-- the members of an object, and its end
pub written_tokens_all : (fields : List WrittenField) → flat_map seen_tokens fields ++ end_object ∷ [] ≡ members_tokens (all_written_json (map written_seen fields))
written_tokens_all [] = refl
written_tokens_all (field ∷ fields) = ap (λ (ts : List Token). key (folded field.name.now) ∷ ts)
    (append_assoc (json_tokens (written_json (written_seen field))) (flat_map seen_tokens fields) (end_object ∷ [])
    ∙ ap (λ (ts : List Token). json_tokens (written_json (written_seen field)) ++ ts) (written_tokens_all fields))

pub utf8_all : (fields : List WrittenField) → list_all is_written_utf8 (map written_seen fields) ≡ list_all is_seen_utf8 fields
utf8_all fields = list_all-map is_written_utf8 written_seen fields

module _ (fields : List WrittenField) (i : ℕ) (d field : WrittenField) (within : i < length fields) (at : field ≡ get_or fields i d) (before : list_all is_seen_utf8 (take i fields) ≡ true) where
  next : (b : Bool) → is_seen_utf8 field ≡ b → list_all is_seen_utf8 (take (i + 1) fields) ≡ b
  next b this =
      list_all_more is_seen_utf8 fields i d within
      ∙ ap (λ c. c && is_seen_utf8 (get_or fields i d)) before
      ∙ ap is_seen_utf8 (sym at) ∙ this

  -- one more field that is UTF-8
  pub seen_utf8_more : is_seen_utf8 field ≡ true → list_all is_seen_utf8 (take (i + 1) fields) ≡ true
  seen_utf8_more this = next true this

  -- if one of the fields is not UTF-8, the fields are not
  pub seen_utf8_not : is_seen_utf8 field ≡ false → list_all is_written_utf8 (map written_seen fields) ≡ false
  seen_utf8_not this =
      utf8_all fields
      ∙ ap (list_all is_seen_utf8) (sym (take-append-drop (i + 1) fields))
      ∙ list_all-append is_seen_utf8 (take (i + 1) fields) (drop (i + 1) fields)
      ∙ ap (λ b. b && list_all is_seen_utf8 (drop (i + 1) fields)) (next false this)
