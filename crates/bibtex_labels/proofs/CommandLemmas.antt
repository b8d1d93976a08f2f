-- The texts between backslashes.
use Rattle.std.proofs.Common.{◌≡◌, ◌∙◌, ℕ, suc, ◌+◌, ◌<◌, ◌≤◌, Bool, true, false, List, [], ◌∷◌, ◌++◌, length, map, take, drop, not, cond, refl, sym, ap, arith, append_assoc, append-nil, add-one, drop-drop}
use Rattle.std.specs.Prelude.{◌==◌}
use Rattle.std.specs.List.{flat_map, prefix_len}
use Rattle.bib_spec.specs.Text.{Text}
use Rattle.bib_spec.specs.Texts.{onto_first}
use Rattle.bibtex_labels.specs.Pieces.{backslash, single}
use Rattle.bibtex_labels.specs.Purified.{between_backslashes, purified_byte, purified_command, purified_piece}

-- the byte is no backslash
abbrev pub is_other : ℕ → Bool
is_other byte = not (byte == backslash)

-- how many bytes are before the first backslash
abbrev pub before : Text → ℕ
before text = prefix_len is_other text

pub cut : (text : Text) → before text < length text → between_backslashes text ≡ take (before text) text ∷ between_backslashes (drop (suc (before text)) text)
cut [] within = absurd (omega arith)
cut (byte ∷ text) within = by (λ h. cut text h) (byte == backslash) within
  where
    by : (before text < length text → between_backslashes text ≡ take (before text) text ∷ between_backslashes (drop (suc (before text)) text)) → (b : Bool) → cond (not b) (1 + before text) 0 < suc (length text)
        → cond b ([] ∷ between_backslashes text) (onto_first byte (between_backslashes text))
        ≡ take (cond (not b) (1 + before text) 0) (byte ∷ text) ∷ between_backslashes (drop (suc (cond (not b) (1 + before text) 0)) (byte ∷ text))
    by later true h = refl
    by later false h =
        let one : 1 + before text ≡ suc (before text) = omega arith in
        ap (onto_first byte) (later (omega arith))
        ∙ ap (λ n. take n (byte ∷ text) ∷ between_backslashes (drop (suc n) (byte ∷ text))) (sym one)

pub uncut : (text : Text) → length text ≤ before text → between_backslashes text ≡ text ∷ []
uncut [] end = refl
uncut (byte ∷ text) end = by (λ h. uncut text h) (byte == backslash) end
  where
    by : (length text ≤ before text → between_backslashes text ≡ text ∷ []) → (b : Bool) → suc (length text) ≤ cond (not b) (1 + before text) 0 → cond b ([] ∷ between_backslashes text) (onto_first byte (between_backslashes text)) ≡ (byte ∷ text) ∷ []
    by later true h = absurd (omega arith)
    by later false h = ap (onto_first byte) (later (omega arith))

-- what is left of the commands of a text
abbrev pub on : Text → Text
on text = flat_map purified_command (between_backslashes text)

pub command_more : (rest command after out all : Text) → between_backslashes rest ≡ command ∷ between_backslashes after → out ++ on rest ≡ all
    → (out ++ purified_command command) ++ on after ≡ all
command_more rest command after out all is told =
    append_assoc out (purified_command command) (on after) ∙ ap (λ l. out ++ flat_map purified_command l) (sym is) ∙ told

pub command_last : (rest out all : Text) → between_backslashes rest ≡ rest ∷ [] → out ++ on rest ≡ all → out ++ purified_command rest ≡ all
command_last rest out all is told =
    ap (λ t. out ++ t) (sym (append-nil (purified_command rest))) ∙ ap (λ l. out ++ flat_map purified_command l) (sym is) ∙ told

-- the text is cut at its first backslash
pub cut_here : (end : ℕ) (text : Text) → end ≡ before text → end < length text → between_backslashes text ≡ take end text ∷ between_backslashes (drop 1 (drop end text))
cut_here end text is within =
    cut text (omega (arith, is, within))
    ∙ ap (λ n. take n text ∷ between_backslashes (drop (suc n) text)) (sym is)
    ∙ ap (λ t. take end text ∷ between_backslashes t) (ap (λ n. drop n text) (sym (add-one end)) ∙ sym (drop-drop 1 end text))

-- ---- bytes before a brace

-- what is left of bytes that are pieces one by one, and of the pieces after them
pub plain_left : (bytes : Text) (pieces rest : List Text) (out : Text) → pieces ≡ map single bytes ++ rest
    → (out ++ flat_map purified_byte bytes) ++ flat_map purified_piece rest ≡ out ++ flat_map purified_piece pieces
plain_left bytes pieces rest out is =
    append_assoc out (flat_map purified_byte bytes) (flat_map purified_piece rest) ∙ ap (λ t. out ++ t) (by bytes) ∙ ap (λ (l : List Text). out ++ flat_map purified_piece l) (sym is)
  where
    by : (bytes : Text) → flat_map purified_byte bytes ++ flat_map purified_piece rest ≡ flat_map purified_piece (map single bytes ++ rest)
    by [] = refl
    by (byte ∷ bytes) =
        append_assoc (purified_byte byte) (flat_map purified_byte bytes) (flat_map purified_piece rest)
        ∙ ap (λ t. purified_byte byte ++ t) (by bytes)
        ∙ ap (λ t. t ++ flat_map purified_piece (map single bytes ++ rest)) (sym (append-nil (purified_byte byte)))
