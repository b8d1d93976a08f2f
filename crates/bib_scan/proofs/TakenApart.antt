-- Taking a value apart finds its parts.
use Rattle.bib_scan.proofs.Words.{◌≡◌, ℕ, zero, suc, ◌+◌, ◌-◌, ◌<◌, ◌≤◌, List, [], ◌∷◌, ◌++◌, length, map, get_or, take, drop, refl, sym, ap, subst, ◌∙◌, arith, append_assoc, append-nil, Option, None, Some, Ok, Err, length-append, length-map, take_at, drop_at, All-nil, All-cons, take_while}
use Rattle.bib_scan.proofs.Words.{flat_map, All, name_limit, ExpectedCommaOrClose, Text, is_space, after_run, Part, Link, Value, part_bytes, link_bytes, value_bytes, IsSpace, IsPart, IsLink, IsValue, expected, read_part, past_hash, go_on, ◌>>=◌, link_part, parts_of, part_kind, IsPartsOf, read_link}
use Rattle.bib_scan.proofs.Words.{unless_end, part_span, read_parts, read_all_parts, PartSpan}
use Rattle.std.specs.Prelude.{slice_get}
use Rattle.bib_scan.specs.ValueParts.{span_after, spans_after, spans_of}
use Rattle.bib_scan.proofs.RunLaws.{bind_ok, ok_same, not_ok, run_passes}
use Rattle.bib_scan.proofs.PartLaws.{AfterPart, part_ok}
use Rattle.bib_scan.proofs.ValueLaws.{space_split, joined_ok}
use Rattle.bib_scan.proofs.UniqueLaws.{AfterValue, value_unique}

-- ---- what is found

-- white space, `#`, white space, and this text
abbrev pub IsLinkTo : Text → Text → Type 0
IsLinkTo t u = (a : Text) × (b : Text) × IsSpace a × IsSpace b × (t ≡ a ++ (35 ∷ b ++ u))

pub link_found : (t u : Text) (o : Option Text) → past_hash (after_run is_space t) ≡ o → go_on (Err (expected ExpectedCommaOrClose (after_run is_space t))) Ok o ≡ Ok u → IsLinkTo t u
link_found t u None o_is is = absurd (not_ok u _ _ refl is)
link_found t u (Some v) o_is is =
    let hash = joined_ok _ v o_is in
    let same : v ≡ u = ok_same v u _ refl is in
    let split : t ≡ take_while is_space t ++ (35 ∷ hash.0 ++ v) = space_split t ∙ ap (λ (w : Text). take_while is_space t ++ w) hash.2 in
    (take_while is_space t, hash.0, run_passes is_space t, hash.1, split ∙ ap (λ (w : Text). take_while is_space t ++ (35 ∷ hash.0 ++ w)) same)

link_ok : (t u : Text) → read_link t ≡ Ok u → IsLinkTo t u
link_ok t u is = link_found t u (past_hash (after_run is_space t)) refl is

-- the text is a part and links, after the text before
abbrev pub ArePartsAt : ℕ → Text → Text → List PartSpan → Type 0
ArePartsAt limit before t spans =
    (p : Part) × (ls : List Link) × IsPart limit p × All (IsLink limit) ls × (t ≡ part_bytes p ++ flat_map link_bytes ls) × (spans ≡ span_after before p ∷ spans_after (before ++ part_bytes p) ls)

abbrev pub AreLinksAt : ℕ → Text → Text → List PartSpan → Type 0
AreLinksAt limit before t spans = (ls : List Link) × All (IsLink limit) ls × (t ≡ flat_map link_bytes ls) × (spans ≡ spans_after before ls)

before_link : (before : Text) (l : Link) → before ++ link_bytes l ≡ (before ++ l.space_before_hash ++ 35 ∷ l.space_after_hash) ++ part_bytes l.part
before_link before l =
    sym (append_assoc before (l.space_before_hash ++ 35 ∷ l.space_after_hash) (part_bytes l.part)) ∙ ap (λ (t : Text). t ++ part_bytes l.part) (sym (append_assoc before l.space_before_hash (35 ∷ l.space_after_hash)))

rest_ok : (limit total n : ℕ) (before t : Text) (spans : List PartSpan) → ((b u : Text) (s : List PartSpan) → read_parts limit total n u ≡ Ok s → total ≡ length (b ++ u) → ArePartsAt limit b u s) → unless_end (read_link t >>= read_parts limit total n) t ≡ Ok spans → total ≡ length (before ++ t) → AreLinksAt limit before t spans
rest_ok limit total n before [] spans later is whole = ([], All-nil (IsLink limit), refl, ok_same spans [] _ is refl)
rest_ok limit total n before (c ∷ r) spans later is whole =
    let t : Text = c ∷ r in
    let to = bind_ok (read_link t) (read_parts limit total n) spans is in
    let u = to.0 in
    let link = link_ok t u to.1 in
    let front : Text = before ++ link.0 ++ 35 ∷ link.1 in
    let grouped : before ++ t ≡ front ++ u = ap (λ (w : Text). before ++ w) link.4 ∙ sym (append_assoc (before ++ link.0) (35 ∷ link.1) u ∙ append_assoc before link.0 (35 ∷ link.1 ++ u)) in
    let found = later front u spans to.2 (whole ∙ ap (length {A = ℕ}) grouped) in
    let l : Link = record { space_before_hash = link.0; space_after_hash = link.1; part = found.0 } in
    let ok : IsLink limit l = record { space_before_hash = link.2; space_after_hash = link.3; part = found.2 } in
    let split : t ≡ flat_map link_bytes (l ∷ found.1) =
    link.4 ∙ ap (λ (w : Text). link.0 ++ (35 ∷ link.1 ++ w)) found.4 ∙ sym (append_assoc (link.0 ++ 35 ∷ link.1) (part_bytes found.0) (flat_map link_bytes found.1) ∙ append_assoc link.0 (35 ∷ link.1) _) in
    let same : spans ≡ spans_after before (l ∷ found.1) = found.5 ∙ ap (λ (w : Text). span_after front found.0 ∷ spans_after w found.1) (sym (before_link before l)) in
    (l ∷ found.1, All-cons (IsLink limit) l found.1 ok found.3, split, same)

parts_ok : (limit total n : ℕ) (before t : Text) (spans : List PartSpan) → read_parts limit total n t ≡ Ok spans → total ≡ length (before ++ t) → ArePartsAt limit before t spans
unfolding read_parts
parts_ok limit total zero before t spans is whole = absurd (not_ok spans _ _ refl is)
parts_ok limit total (suc n) before t spans is whole =
    let first = bind_ok (read_part limit t) _ spans is in
    let p : Part = first.0.0 in
    let rest : Text = first.0.1 in
    let ok = part_ok limit t first.0 first.1 in
    let later = bind_ok (unless_end (read_link rest >>= read_parts limit total n) rest) _ spans first.2 in
    let lens = length-append before t in
    let parts_len = length-append (part_bytes p) rest in
    let split_len = ap (length {A = ℕ}) ok.0 in
    let start : total - length t ≡ length before = omega (arith, whole, lens) in
    let end : total - length rest ≡ length before + length (part_bytes p) = omega (arith, whole, lens, parts_len, split_len) in
    let whole_after : total ≡ length ((before ++ part_bytes p) ++ rest) = whole ∙ ap (λ (w : Text). length (before ++ w)) ok.0 ∙ ap (length {A = ℕ}) (sym (append_assoc before (part_bytes p) rest)) in
    let links = rest_ok limit total n (before ++ part_bytes p) rest later.0 (λ b u s e w. parts_ok limit total n b u s e w) later.1 whole_after in
    let span : part_span p (total - length t) (total - length rest) ≡ span_after before p = λ i. record { kind = part_kind p; start = start i; end = end i } in
    let same : spans ≡ span_after before p ∷ spans_after (before ++ part_bytes p) links.0 =
    ok_same spans (part_span p (total - length t) (total - length rest) ∷ later.0) (Ok spans) refl (sym later.2) ∙ (λ i. span i ∷ links.3 i) in
    (p, links.0, ok.1, links.1, ok.0 ∙ ap (λ (w : Text). part_bytes p ++ w) links.2, same)

-- the text that was taken apart is a value with these parts
pub value_found : (t : Text) (spans : List PartSpan) → read_all_parts name_limit t ≡ Ok spans → IsPartsOf t spans
value_found t spans is =
    let found = parts_ok name_limit (length t) (length t + 1) [] t spans is refl in
    let v : Value = record { first = found.0; links = found.1 } in
    (v, record { first = found.2; links = found.3 }, sym found.4, found.5)

-- ---- the count of parts

length-spans_after : (before : Text) (ls : List Link) → length (spans_after before ls) ≡ length ls
length-spans_after before [] = refl
length-spans_after before (l ∷ ls) = omega (arith, length-spans_after (before ++ link_bytes l) ls)

pub length-spans_of : (v : Value) → length (spans_of v) ≡ length (parts_of v)
length-spans_of v = omega (arith, length-spans_after (part_bytes v.first) v.links, length-map v.links link_part)

-- ---- one of the parts

-- part n, and where it lies in the text
pub record PartAt (t : Text) (parts : List Part) (n : ℕ) (span : PartSpan) : Type 0 where
  pub part : Part
  pub found : slice_get parts n ≡ Some part
  pub before : Text
  pub after : Text
  pub split : t ≡ before ++ (part_bytes part ++ after)
  pub is : span ≡ span_after before part

links_at : (before : Text) (ls : List Link) (n : ℕ) (d : PartSpan) → n < length (spans_after before ls) → PartAt (before ++ flat_map link_bytes ls) (map link_part ls) n (get_or (spans_after before ls) n d)
links_at before [] n d low = absurd (omega arith)
links_at before (l ∷ ls) zero d low =
    let front : Text = before ++ l.space_before_hash ++ 35 ∷ l.space_after_hash in
    record {
      part = l.part;
      found = refl;
      before = front;
      after = flat_map link_bytes ls;
      split = sym (append_assoc before (link_bytes l) (flat_map link_bytes ls)) ∙ ap (λ (w : Text). w ++ flat_map link_bytes ls) (before_link before l) ∙ append_assoc front (part_bytes l.part) (flat_map link_bytes ls);
      is = refl;
    }
links_at before (l ∷ ls) (suc n) d low =
    let later = links_at (before ++ link_bytes l) ls n d (omega arith) in
    record {
      part = later.part;
      found = later.found;
      before = later.before;
      after = later.after;
      split = sym (append_assoc before (link_bytes l) (flat_map link_bytes ls)) ∙ later.split;
      is = later.is;
    }

part_at : (v : Value) (n : ℕ) (d : PartSpan) → n < length (spans_of v) → PartAt (value_bytes v) (parts_of v) n (get_or (spans_of v) n d)
part_at v zero d low = record { part = v.first; found = refl; before = []; after = flat_map link_bytes v.links; split = refl; is = refl }
part_at v (suc n) d low =
    let later = links_at (part_bytes v.first) v.links n d (omega arith) in
    record { part = later.part; found = later.found; before = later.before; after = later.after; split = later.split; is = later.is }

-- part n of the value lies where the code keeps it
pub kept_part : (t : Text) (spans : List PartSpan) (n : ℕ) (s : PartSpan) (v : Value) → spans ≡ spans_of v → value_bytes v ≡ t → n < length spans → s ≡ get_or spans n s → PartAt t (parts_of v) n s
kept_part t spans n s v is whole low here =
    let at = part_at v n s (omega (arith, ap (length {A = PartSpan}) is)) in
    let same : get_or (spans_of v) n s ≡ s = sym (ap (λ (ss : List PartSpan). get_or ss n s) is) ∙ sym here in
    subst (λ (u : Text). PartAt u (parts_of v) n s) whole (subst (PartAt (value_bytes v) (parts_of v) n) same at)

pub part_low : (t : Text) (parts : List Part) (n : ℕ) (s : PartSpan) → PartAt t parts n s → (s.start ≤ s.end) × (s.end ≤ length t)
part_low t parts n s at =
    let start = ap (λ (x : PartSpan). x.start) at.is in
    let end = ap (λ (x : PartSpan). x.end) at.is in
    (omega (arith, start, end), omega (arith, end, ap (length {A = ℕ}) at.split, length-append at.before (part_bytes at.part ++ at.after), length-append (part_bytes at.part) at.after))

pub part_text : (t : Text) (parts : List Part) (n : ℕ) (s : PartSpan) (at : PartAt t parts n s) → take (s.end - s.start) (drop s.start t) ≡ part_bytes at.part
part_text t parts n s at =
    let start = ap (λ (x : PartSpan). x.start) at.is in
    let end = ap (λ (x : PartSpan). x.end) at.is in
    let dropped : drop s.start t ≡ part_bytes at.part ++ at.after = ap (drop s.start) at.split ∙ drop_at at.before _ s.start (sym start) in
    let len : length (part_bytes at.part) ≡ s.end - s.start = omega (arith, start, end) in
    ap (take (s.end - s.start)) dropped ∙ take_at (part_bytes at.part) at.after _ len

after_nothing : AfterPart []
after_nothing = record { name = refl; digit = refl }

-- a text is one value at most
pub one_value : (v w : Value) → IsValue name_limit v → IsValue name_limit w → value_bytes v ≡ value_bytes w → v ≡ w
one_value v w is also same =
    let end : AfterValue [] = record { part = after_nothing; no_hash = refl } in
    (value_unique name_limit v w [] [] is also end end (append-nil (value_bytes v) ∙ same ∙ sym (append-nil (value_bytes w)))).0
