-- The line of an entry to which each side gave another key, as it is put together.
use Rattle.std.proofs.Common.{◌≡◌, [], ◌∷◌, ◌++◌, ◌∙◌, ap, append_assoc, codes}
use Rattle.bib_spec.specs.Text.{Text, folded}
use Rattle.bib_renames.specs.declared.conflict.KeyConflict.{KeyConflict}
use Rattle.merge_run.specs.Lines.{key_line}

-- eight pieces, one after another
eight : (before a b d e f g h : Text) → ((((((before ++ a) ++ b) ++ d) ++ e) ++ f) ++ g) ++ h ≡ before ++ (a ++ (b ++ (d ++ (e ++ (f ++ (g ++ h))))))
eight before a b d e f g h = simp append_assoc

-- the words of the line after its beginning
abbrev words : Text → Text → Text → Text
words key ours theirs = codes "conflict key " ++ (folded key ++ (codes " " ++ (folded ours ++ (codes " " ++ (folded theirs ++ codes "\n")))))

pub key_added : (before a b d e f g h key ours theirs : Text) (c : KeyConflict) → a ≡ before ++ codes "conflict key " → b ≡ a ++ folded key → d ≡ b ++ 32 ∷ [] → e ≡ d ++ folded ours → f ≡ e ++ 32 ∷ []
    → g ≡ f ++ folded theirs → h ≡ g ++ 10 ∷ [] → key ≡ c.key → ours ≡ c.ours → theirs ≡ c.theirs → h ≡ before ++ key_line c
key_added before a b d e f g h key ours theirs c is_a is_b is_d is_e is_f is_g is_h is_key is_ours is_theirs =
    is_h
    ∙ ap (λ (t : Text). t ++ 10 ∷ [])
    (is_g
    ∙ ap (λ (t : Text). t ++ folded theirs)
    (is_f
    ∙ ap (λ (t : Text). t ++ 32 ∷ [])
    (is_e ∙ ap (λ (t : Text). t ++ folded ours) (is_d ∙ ap (λ (t : Text). t ++ 32 ∷ []) (is_b ∙ ap (λ (t : Text). t ++ folded key) is_a)))))
    ∙ eight before (codes "conflict key ") (folded key) (32 ∷ []) (folded ours) (32 ∷ []) (folded theirs) (10 ∷ [])
    ∙ ap (λ (t : Text). before ++ words t ours theirs) is_key
    ∙ ap (λ (t : Text). before ++ words c.key t theirs) is_ours
    ∙ ap (λ (t : Text). before ++ words c.key c.ours t) is_theirs
