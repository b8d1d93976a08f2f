-- The keys that aux files cite and no entry has, one after another.
use Rattle.bib_answers.proofs.Words.{◌≡◌, ◌∙◌, ℕ, ◌+◌, ◌<◌, Bool, true, false, not, List, [], ◌∷◌, ◌++◌, length, map, filter, take, get_or, refl, sym, subst, ap, ap₂, flat_map, list_any, append-nil, append_assoc, take_more, take_all, ◌≤◌, Text, EntryTexts, folded, same}
use Rattle.std.proofs.Common.{◌||◌, if◌then◌else◌}
use Rattle.std.specs.Str.{bytes_eq}
use Rattle.std.proofs.lemmas.List.Folds.{list_any-append}
use Rattle.std.proofs.lemmas.List.{map-append}
use Rattle.std.proofs.lemmas.List.Elements.{filter-append}
use Rattle.std.proofs.lemmas.Grind.{flat_map-append}
use Rattle.aux_text.specs.declared.placing.AuxKeys.{AuxKeys}
use Rattle.aux_text.specs.declared.placing.CitedKey.{CitedKey}
use Rattle.bib_answers.proofs.LineLists.{lines_more}
use Rattle.bib_answers.specs.Lint.{Citation, citations, citations_in, is_missing, first_citations, missing_among, missing_line, missing_lines, is_ignored}
use Rattle.bib_answers.specs.declared.warnings.Warning.TheVariants.{MissingKey}
use Rattle.bib_answers.specs.Told.{HaveTold}

-- the citation, unless its key was told
abbrev unless : Bool → Citation → List Citation
unless told cited = if told then [] else cited ∷ []

-- the later of two citations has the key of the earlier one
abbrev repeats : Citation → Citation → Bool
repeats later earlier = same later.1.key earlier.1.key

-- the first citation of each key, of one citation more
first_more : (before : List Citation) (cited : Citation) → first_citations (before ++ cited ∷ []) ≡ first_citations before ++ unless (list_any (repeats cited) before) cited
first_more [] cited = refl
first_more (other ∷ before) cited =
    let told : Bool = list_any (repeats cited) before in
    ap (λ (l : List Citation). other ∷ filter (λ c. not (repeats c other)) l) (first_more before cited)
    ∙ ap (λ (l : List Citation). other ∷ l)
    (filter-append (λ c. not (repeats c other)) (first_citations before) (unless told cited)
    ∙ ap (λ (l : List Citation). filter (λ c. not (repeats c other)) (first_citations before) ++ l) (kept told (repeats cited other) refl))
  where
    kept : (told here : Bool) → repeats cited other ≡ here → filter (λ c. not (repeats c other)) (unless told cited) ≡ unless (here || told) cited
    kept true true e = refl
    kept true false e = refl
    kept false true e = rw e refl
    kept false false e = rw e refl

-- the keys that no entry has, of one citation more
missing_more : (entries : List EntryTexts) (before : List Citation) (cited : Citation) (missing : Bool) → is_missing entries cited ≡ missing
    → filter (is_missing entries) (before ++ cited ∷ []) ≡ filter (is_missing entries) before ++ unless (not missing) cited
missing_more entries before cited true e = filter-append (is_missing entries) before (cited ∷ []) ∙ ap (λ (l : List Citation). filter (is_missing entries) before ++ l) (rw e refl)
missing_more entries before cited false e = filter-append (is_missing entries) before (cited ∷ []) ∙ ap (λ (l : List Citation). filter (is_missing entries) before ++ l) (rw e refl)

lines_unless : (told : Bool) (cited : Citation) → flat_map missing_line (unless told cited) ≡ (if not told then missing_line cited else [])
lines_unless true cited = refl
lines_unless false cited = append-nil (missing_line cited)

either_way : (a b : Bool) → (a || b) ≡ (b || (a || false))
either_way true true = refl
either_way true false = refl
either_way false true = refl
either_way false false = refl

-- an entry has the key
pub told_found : (entries : List EntryTexts) (start : Text) (before : List Citation) (cited : Citation) (text : Text) (told : List Text) → is_missing entries cited ≡ false
    → HaveTold entries start before text told → HaveTold entries start (before ++ cited ∷ []) text told
told_found entries start before cited text told found have =
    let same_keys : filter (is_missing entries) (before ++ cited ∷ []) ≡ filter (is_missing entries) before = missing_more entries before cited false found ∙ append-nil _ in record {
      text_is = have.text_is ∙ sym (ap (λ (l : List Citation). start ++ flat_map missing_line (first_citations l)) same_keys);
      told_are = λ key. have.told_are key ∙ sym (ap (list_any (λ (c : Citation). same key c.1.key)) same_keys);
    }

-- no entry has the key, and it is added to those that were told
pub told_more : (entries : List EntryTexts) (start : Text) (before : List Citation) (cited : Citation) (text new : Text) (told now : List Text) (added : Bool) → is_missing entries cited ≡ true
    → added ≡ not (list_any (bytes_eq (folded cited.1.key)) told) → ((x : Text) → list_any (bytes_eq x) now ≡ (bytes_eq x (folded cited.1.key) || list_any (bytes_eq x) told))
    → new ≡ text ++ (if added then missing_line cited else []) → HaveTold entries start before text told → HaveTold entries start (before ++ cited ∷ []) new now
told_more entries start before cited text new told now added missing is_added are is_new have =
    let among : List Citation = filter (is_missing entries) before in
    let known : Bool = list_any (repeats cited) among in
    let more : filter (is_missing entries) (before ++ cited ∷ []) ≡ among ++ cited ∷ [] = missing_more entries before cited true missing in record {
      text_is =
          is_new
          ∙ ap₂ (λ (t : Text) (b : Bool). t ++ (if b then missing_line cited else [])) have.text_is (is_added ∙ ap not (have.told_are cited.1.key))
          ∙ append_assoc start (flat_map missing_line (first_citations among)) (if not known then missing_line cited else [])
          ∙ ap (λ (t : Text). start ++ (flat_map missing_line (first_citations among) ++ t)) (sym (lines_unless known cited))
          ∙ ap (λ (t : Text). start ++ t) (sym (flat_map-append missing_line (first_citations among) (unless known cited)))
          ∙ ap (λ (l : List Citation). start ++ flat_map missing_line l) (sym (first_more among cited))
          ∙ ap (λ (l : List Citation). start ++ flat_map missing_line (first_citations l)) (sym more);
      told_are = λ key.
          are (folded key)
          ∙ ap (λ (b : Bool). same key cited.1.key || b) (have.told_are key)
          ∙ either_way (same key cited.1.key) (list_any (λ (c : Citation). same key c.1.key) among)
          ∙ sym (list_any-append (λ (c : Citation). same key c.1.key) among (cited ∷ []))
          ∙ sym (ap (list_any (λ (c : Citation). same key c.1.key)) more);
    }

-- nothing is told before the first citation
pub told_none : (entries : List EntryTexts) (start : Text) (told : List Text) → told ≡ [] → HaveTold entries start [] start told
told_none entries start told none = record { text_is = sym (append-nil start); told_are = λ key. ap (list_any (bytes_eq (folded key))) none }

-- of a list of citations, none so far
pub told_start : (entries : List EntryTexts) (start : Text) (before : List Citation) (text : Text) (told : List Text) → HaveTold entries start before text told → HaveTold entries start (before ++ []) text told
told_start entries start before text told have = subst (λ (l : List Citation). HaveTold entries start l text told) (sym (append-nil before)) have

-- and one more
pub told_next : {X : Type 0} (xs : List X) (n : ℕ) (x : X) (f : X → Citation) (entries : List EntryTexts) (start : Text) (before : List Citation) (text : Text) (told : List Text) → n < length xs → x ≡ get_or xs n x
    → HaveTold entries start ((before ++ map f (take n xs)) ++ f x ∷ []) text told → HaveTold entries start (before ++ map f (take (n + 1) xs)) text told
told_next xs n x f entries start before text told within at have =
    subst (λ (l : List Citation). HaveTold entries start l text told)
    (ap (λ y. (before ++ map f (take n xs)) ++ f y ∷ []) at
    ∙ append_assoc before (map f (take n xs)) (f (get_or xs n x) ∷ [])
    ∙ ap (λ (l : List Citation). before ++ l) (sym (map-append f (take n xs) (get_or xs n x ∷ [])) ∙ sym (ap (map f) (take_more xs n x within))))
    have

-- and all of them
pub told_end : {X : Type 0} (xs : List X) (n : ℕ) (f : X → Citation) (entries : List EntryTexts) (start : Text) (before : List Citation) (text : Text) (told : List Text) → length xs ≤ n
    → HaveTold entries start (before ++ map f (take n xs)) text told → HaveTold entries start (before ++ map f xs) text told
told_end xs n f entries start before text told end have = subst (λ l. HaveTold entries start (before ++ map f l) text told) (take_all n xs end) have

-- and those of one file more
pub told_file : (files : List AuxKeys) (n : ℕ) (aux : AuxKeys) (name : Text) (keys : List CitedKey) (entries : List EntryTexts) (start text : Text) (told : List Text) → n < length files → aux ≡ get_or files n aux
    → name ≡ aux.file → keys ≡ aux.keys → HaveTold entries start (citations (take n files) ++ map (λ cited. (name, cited)) keys) text told → HaveTold entries start (citations (take (n + 1) files)) text told
told_file files n aux name keys entries start text told within at named keyed have =
    subst (λ (l : List Citation). HaveTold entries start l text told)
    (ap₂ (λ (t : Text) (ks : List CitedKey). citations (take n files) ++ map (λ cited. (t, cited)) ks) named keyed
    ∙ ap (λ (a : AuxKeys). citations (take n files) ++ citations_in a) at
    ∙ lines_more citations_in files n aux within)
    have

-- ---- the lines

abbrev lines_if : Bool → List EntryTexts → List AuxKeys → Text
lines_if ignored entries files = if ignored then [] else flat_map missing_line (missing_among entries (citations files))

-- no line if the code is ignored
pub missing_none : (ignored : List Text) (entries : List EntryTexts) (files : List AuxKeys) (start : Text) → is_ignored ignored MissingKey ≡ true → start ≡ start ++ missing_lines ignored entries files
missing_none ignored entries files start is = sym (append-nil start) ∙ ap (λ (b : Bool). start ++ lines_if b entries files) (sym is)

-- and else the lines of all files
pub missing_all : (ignored : List Text) (entries : List EntryTexts) (files : List AuxKeys) (n : ℕ) (start text : Text) (told : List Text) → is_ignored ignored MissingKey ≡ false → length files ≤ n
    → HaveTold entries start (citations (take n files)) text told → text ≡ start ++ missing_lines ignored entries files
missing_all ignored entries files n start text told is end have =
    have.text_is
    ∙ ap (λ (l : List AuxKeys). start ++ flat_map missing_line (missing_among entries (citations l))) (take_all n files end)
    ∙ ap (λ (b : Bool). start ++ lines_if b entries files) (sym is)
