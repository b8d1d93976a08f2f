-- A field of some names is never dropped.
use Rattle.ris_format.proofs.Words.{◌≡◌, ◌∙◌, Bool, true, false, [], ◌∷◌, refl, ap, ⊎_elim, cases_Bool, or_cases, and_parts, list_any, list_all, bytes_eq, eq-true, Text, RecordField, has_bytes, Kind, Article, Book, Incollection, Inproceedings, Misc, Phdthesis, Techreport, Unpublished, is_dropped}
use Rattle.std.proofs.Common.{not, List}
use Rattle.ris_format.specs.Carried.{is_carried, always_names}
use Rattle.ris_format.proofs.LeftOut.{dropped_by_rules, empty_is_kept}

-- what all names pass, one of them passes
of-named : (test : Text → Bool) (names : List Text) → list_all test names ≡ true → (name : Text) → list_any (bytes_eq name) names ≡ true → test name ≡ true
of-named test [] all name h = absurd (cc)
of-named test (n ∷ names) all name h =
    let both = and_parts (test n) (list_all test names) all in
    ⊎_elim
    (λ (e : bytes_eq name n ≡ true). ap test (eq-true name n e) ∙ both.0)
    (λ (e : list_any (bytes_eq name) names ≡ true). of-named test names both.1 name e)
    (or_cases (bytes_eq name n) (list_any (bytes_eq name) names) h)

always-carried : (kind : Kind) (text : Text) → list_all (λ n. is_carried kind n text) always_names ≡ true
always-carried Article text = refl
always-carried Book text = refl
always-carried Incollection text = refl
always-carried Inproceedings text = refl
always-carried Phdthesis text = refl
always-carried Techreport text = refl
always-carried Unpublished text = refl
always-carried Misc text = refl

pub never_dropped : (kind : Kind) (f : RecordField) → list_any (bytes_eq f.0) always_names ≡ true → is_dropped kind f ≡ false
never_dropped kind f named =
    ⊎_elim
    (λ (some : has_bytes f.1 ≡ true).
    dropped_by_rules kind f some ∙ ap not (of-named (λ n. is_carried kind n f.1) always_names (always-carried kind f.1) f.0 named))
    (λ (none : has_bytes f.1 ≡ false). empty_is_kept kind f none)
    (cases_Bool (has_bytes f.1))
