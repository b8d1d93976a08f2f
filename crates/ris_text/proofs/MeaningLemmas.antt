-- What the lines of a tree say, line by line.
use Rattle.ris_text.proofs.Words.{◌≡◌, ℕ, suc, ◌+◌, Bool, true, false, [], ◌∷◌, ◌++◌, map, refl, sym, ap, ◌∙◌, arith, append-nil, append_assoc, if◌then◌else◌, Ok, Err, list_all, flat_map, and_parts, Text, is_empty, Class, Begin, End, Known, Other, Blank, Untagged, RisLine, RisRecord, RisFile}
use Rattle.ris_text.proofs.Words.{RisFault, NoStart, NoEnd, EmptyType, Line, is_untagged, joined, Paragraph, paragraph_lines, all_untagged, is_inner, is_inner_paragraph, Begun, IsBegun, begun_lines, record_of, Block, block_lines, more, Tree, IsTree, tree_lines, file_of, Says, GoesWrong, IsWrong}
use Rattle.ris_text.proofs.Words.{inner, ends, begins_again, unended, untyped, continuation, Outcome, Inside, inside, Told, told, told_inner, ris_file, ris_line, ris_record, with_skipped, with_record, with_front, whole_record}
use Rattle.std.proofs.Common.{List, zero-add, add-zero}
use Rattle.std.specs.Prelude.{Option, Some, None, filter_map, count_by, sum_by}
use Rattle.std.specs.List.{cons_option}
use Rattle.std.proofs.lemmas.List.Sums.{sum_by-cons}
use Rattle.ris_text.specs.Trees.{value_of, line_with, kept_line, is_other, skipped_inside, IsBlock, AreBlocks, is_counted, skipped_outside, skipped_by}
use Rattle.ris_text.proofs.ToldLemmas.{told-class}

-- ---- lines that continue a value

continued_front : (line : Line) (lines : List Line) → is_untagged line.class ≡ true → continuation (line ∷ lines) ≡ line.text ∷ continuation lines
continued_front line lines is = rw is refl

inner_untagged : (end : ℕ) (line : Line) (lines : List Line) (class : Class) → line.class ≡ class → is_untagged class ≡ true → told_inner end (line ∷ lines) ≡ told_inner end lines
inner_untagged end line lines Begin is untagged = absurd (cc)
inner_untagged end line lines End is untagged = absurd (cc)
inner_untagged end line lines (Known tag) is untagged = absurd (cc)
inner_untagged end line lines Other is untagged = absurd (cc)
inner_untagged end line lines Blank is untagged = ap (λ (t : Told). t.inside) (told-class end line lines Blank is)
inner_untagged end line lines Untagged is untagged = ap (λ (t : Told). t.inside) (told-class end line lines Untagged is)

-- what continues a value, if lines without a tag are before a line that continues nothing
pub continuation-append : (lines rest : List Line) → all_untagged lines ≡ true → continuation rest ≡ [] → continuation (lines ++ rest) ≡ map (λ line. line.text) lines
continuation-append [] rest untagged stops = stops
continuation-append (line ∷ lines) rest untagged stops =
    let parts = and_parts (is_untagged line.class) (all_untagged lines) untagged in
    continued_front line (lines ++ rest) parts.0 ∙ ap (λ (ts : List Text). line.text ∷ ts) (continuation-append lines rest parts.1 stops)

pub told_inner-untagged : (end : ℕ) (lines rest : List Line) → all_untagged lines ≡ true → told_inner end (lines ++ rest) ≡ told_inner end rest
told_inner-untagged end [] rest untagged = refl
told_inner-untagged end (line ∷ lines) rest untagged =
    let parts = and_parts (is_untagged line.class) (all_untagged lines) untagged in
    inner_untagged end line (lines ++ rest) line.class refl parts.0 ∙ told_inner-untagged end lines rest parts.1

-- ---- paragraphs inside a record

-- a line with a tag continues nothing
pub tagged_stops : (line : Line) (lines : List Line) → is_untagged line.class ≡ false → continuation (line ∷ lines) ≡ []
tagged_stops line lines is = rw is refl

inner_is_tagged : (class : Class) → is_inner class ≡ true → is_untagged class ≡ false
inner_is_tagged Begin is = absurd (cc)
inner_is_tagged End is = absurd (cc)
inner_is_tagged (Known tag) is = refl
inner_is_tagged Other is = refl
inner_is_tagged Blank is = absurd (cc)
inner_is_tagged Untagged is = absurd (cc)

-- the lines of paragraphs continue nothing
pub paragraphs_stop : (ps : List Paragraph) (rest : List Line) → list_all is_inner_paragraph ps ≡ true → continuation rest ≡ [] → continuation (flat_map paragraph_lines ps ++ rest) ≡ []
paragraphs_stop [] rest are stops = stops
paragraphs_stop (p ∷ ps) rest are stops =
    let parts = and_parts (is_inner_paragraph p) (list_all is_inner_paragraph ps) are in
    let own = and_parts (is_inner p.head.class) (all_untagged p.more) parts.0 in
    tagged_stops p.head ((p.more ++ flat_map paragraph_lines ps) ++ rest) (inner_is_tagged p.head.class own.0)

-- what paragraphs say before the rest
abbrev pub paragraphs_told : List Paragraph → Inside → Inside
paragraphs_told ps i = inside (filter_map kept_line ps ++ i.kept) (count_by (λ p. is_other p.head.class) ps + i.skipped) i.after

count-cons : (p : Paragraph) (ps : List Paragraph) (b : Bool) → is_other p.head.class ≡ b
    → count_by (λ p. is_other p.head.class) (p ∷ ps) ≡ (if b then 1 else 0) + count_by (λ p. is_other p.head.class) ps
count-cons p ps b is = sum_by-cons (λ (q : Paragraph). if is_other q.head.class then 1 else 0) p ps ∙ rw is refl

abbrev pub other_count : List Paragraph → ℕ
other_count ps = count_by (λ p. is_other p.head.class) ps

-- one paragraph more, before lines whose rest is known
paragraph_told : (end : ℕ) (p : Paragraph) (ps : List Paragraph) (after : List Line) (i : Inside) (class : Class) → p.head.class ≡ class → is_inner class ≡ true
    → continuation after ≡ map (λ line. line.text) p.more → told_inner end after ≡ paragraphs_told ps i → told_inner end (p.head ∷ after) ≡ paragraphs_told (p ∷ ps) i
paragraph_told end p ps after i Begin is inside_it texts rest = absurd (cc)
paragraph_told end p ps after i End is inside_it texts rest = absurd (cc)
paragraph_told end p ps after i Blank is inside_it texts rest = absurd (cc)
paragraph_told end p ps after i Untagged is inside_it texts rest = absurd (cc)
paragraph_told end p ps after i (Known tag) is inside_it texts rest =
    let kept : kept_line p ≡ Some (ris_line tag (value_of p)) = ap (λ (k : Class). line_with k (value_of p)) is in
    let count : other_count (p ∷ ps) ≡ 0 + other_count ps = count-cons p ps false (ap is_other is) in
    let same : other_count ps + i.skipped ≡ other_count (p ∷ ps) + i.skipped = omega (arith, count) in
    ap (λ (t : Told). t.inside) (told-class end p.head after (Known tag) is)
    ∙ ap (λ (ts : List Text). inside (ris_line tag (joined p.head.text ts) ∷ (told_inner end after).kept) (told_inner end after).skipped (told_inner end after).after) texts
    ∙ ap (λ (j : Inside). inside (ris_line tag (value_of p) ∷ j.kept) j.skipped j.after) rest
    ∙ ap (λ (o : Option RisLine). inside (cons_option o (filter_map kept_line ps) ++ i.kept) (other_count ps + i.skipped) i.after) (sym kept)
    ∙ ap (λ n. inside (filter_map kept_line (p ∷ ps) ++ i.kept) n i.after) same
paragraph_told end p ps after i Other is inside_it texts rest =
    let kept : kept_line p ≡ None = ap (λ (k : Class). line_with k (value_of p)) is in
    let count : other_count (p ∷ ps) ≡ 1 + other_count ps = count-cons p ps true (ap is_other is) in
    let same : suc (other_count ps + i.skipped) ≡ other_count (p ∷ ps) + i.skipped = omega (arith, count) in
    ap (λ (t : Told). t.inside) (told-class end p.head after Other is)
    ∙ ap (λ (j : Inside). inside j.kept (suc j.skipped) j.after) rest
    ∙ ap (λ (o : Option RisLine). inside (cons_option o (filter_map kept_line ps) ++ i.kept) (suc (other_count ps + i.skipped)) i.after) (sym kept)
    ∙ ap (λ n. inside (filter_map kept_line (p ∷ ps) ++ i.kept) n i.after) same

-- paragraphs inside a record
pub inner_told : (end : ℕ) (ps : List Paragraph) (rest : List Line) → list_all is_inner_paragraph ps ≡ true → continuation rest ≡ []
    → told_inner end (flat_map paragraph_lines ps ++ rest) ≡ paragraphs_told ps (told_inner end rest)
inner_told end [] rest are stops = ap (λ n. inside (told_inner end rest).kept n (told_inner end rest).after) (sym (zero-add (told_inner end rest).skipped))
inner_told end (p ∷ ps) rest are stops =
    let parts = and_parts (is_inner_paragraph p) (list_all is_inner_paragraph ps) are in
    let own = and_parts (is_inner p.head.class) (all_untagged p.more) parts.0 in
    let others : List Line = flat_map paragraph_lines ps ++ rest in
    let lines : (p.more ++ flat_map paragraph_lines ps) ++ rest ≡ p.more ++ others = append_assoc p.more (flat_map paragraph_lines ps) rest in
    ap (λ (ls : List Line). told_inner end (p.head ∷ ls)) lines
    ∙ paragraph_told end p ps (p.more ++ others) (told_inner end rest) p.head.class refl own.0
    (continuation-append p.more others own.1 (paragraphs_stop ps rest parts.1 stops))
    (told_inner-untagged end p.more others own.1 ∙ inner_told end ps rest parts.1 stops)

-- ---- records

-- a record that has begun, before lines that do not continue its last value
pub begun_told : (end : ℕ) (b : Begun) (rest : List Line) → IsBegun b → continuation rest ≡ []
    → (told end (begun_lines b ++ rest)).outside
    ≡ whole_record b.first.head.place (record_of b).kind_name (paragraphs_told b.inner (told_inner end rest)) (told_inner end rest).after
begun_told end b rest is stops =
    let p : Paragraph = b.first in
    let others : List Line = flat_map paragraph_lines b.inner ++ rest in
    let lines : (p.more ++ flat_map paragraph_lines b.inner) ++ rest ≡ p.more ++ others = append_assoc p.more (flat_map paragraph_lines b.inner) rest in
    let texts : continuation (p.more ++ others) ≡ map (λ line. line.text) p.more = continuation-append p.more others is.continued (paragraphs_stop b.inner rest is.inner stops) in
    let rest_told : told_inner end (p.more ++ others) ≡ paragraphs_told b.inner (told_inner end rest) =
    told_inner-untagged end p.more others is.continued ∙ inner_told end b.inner rest is.inner stops in
    ap (λ (ls : List Line). (told end (p.head ∷ ls)).outside) lines
    ∙ ap (λ (t : Told). t.outside) (told-class end p.head (p.more ++ others) Begin is.begins)
    ∙ ap (λ (ts : List Text). whole_record p.head.place (joined p.head.text ts) (told_inner end (p.more ++ others)) (told_inner end (p.more ++ others)).after) texts
    ∙ ap (λ (i : Inside). whole_record p.head.place (value_of p) i i.after) rest_told

-- and its ER line
pub ended_told : (end : ℕ) (b : Begun) (line : Line) (rest : List Line) → IsBegun b → line.class ≡ End
    → (told end (begun_lines b ++ line ∷ rest)).outside
    ≡ (if is_empty (record_of b).kind_name then Err (EmptyType b.first.head.place) else with_record (record_of b) (with_skipped (skipped_inside b) (told end rest).outside))
ended_told end b line rest is closes =
    let o : Outcome = (told end rest).outside in
    let here : told_inner end (line ∷ rest) ≡ inside [] 0 (Ok o) = ap (λ (t : Told). t.inside) (told-class end line rest End closes) in
    let stops : continuation (line ∷ rest) ≡ [] = tagged_stops line rest (ap is_untagged closes) in
    let place : ℕ = b.first.head.place in
    let name : Text = (record_of b).kind_name in
    begun_told end b (line ∷ rest) is stops
    ∙ ap (λ (i : Inside). whole_record place name (paragraphs_told b.inner i) i.after) here
    ∙ ap (λ (ls : List RisLine). if is_empty name then Err (EmptyType place) else with_record (ris_record name ls) (with_skipped (skipped_inside b + 0) o)) (append-nil (record_of b).lines)
    ∙ ap (λ n. if is_empty name then Err (EmptyType place) else with_record (record_of b) (with_skipped n o)) (add-zero (skipped_inside b))

-- ---- lines outside records

with_skipped-none : (o : Outcome) → with_skipped 0 o ≡ o
with_skipped-none (Ok file) = ap (λ n. Ok (ris_file file.records n)) (zero-add file.skipped)
with_skipped-none (Err fault) = refl

with_skipped-more : (n m k : ℕ) (o : Outcome) → k ≡ n + m → with_skipped n (with_skipped m o) ≡ with_skipped k o
with_skipped-more n m k (Ok file) is = let count : n + (m + file.skipped) ≡ k + file.skipped = omega arith in ap (λ j. Ok (ris_file file.records j)) count
with_skipped-more n m k (Err fault) is = refl

-- how much a line of this class counts outside records
abbrev counted : Class → ℕ
counted class = if is_counted class then 1 else 0

skipped-cons : (line : Line) (lines : List Line) (class : Class) → line.class ≡ class → skipped_outside (line ∷ lines) ≡ counted class + skipped_outside lines
skipped-cons line lines class is = sum_by-cons (λ (l : Line). counted l.class) line lines ∙ ap (λ (k : Class). counted k + skipped_outside lines) is

outside_more : (end : ℕ) (line : Line) (lines rest : List Line) (class : Class) → line.class ≡ class → is_untagged class ≡ true
    → (told end (lines ++ rest)).outside ≡ with_skipped (skipped_outside lines) (told end rest).outside
    → (told end (line ∷ lines ++ rest)).outside ≡ with_skipped (skipped_outside (line ∷ lines)) (told end rest).outside
outside_more end line lines rest Begin is untagged before = absurd (cc)
outside_more end line lines rest End is untagged before = absurd (cc)
outside_more end line lines rest (Known tag) is untagged before = absurd (cc)
outside_more end line lines rest Other is untagged before = absurd (cc)
outside_more end line lines rest Blank is untagged before =
    let count : skipped_outside (line ∷ lines) ≡ 0 + skipped_outside lines = skipped-cons line lines Blank is in
    let same : skipped_outside lines ≡ skipped_outside (line ∷ lines) = omega arith in
    ap (λ (t : Told). t.outside) (told-class end line (lines ++ rest) Blank is) ∙ before ∙ ap (λ n. with_skipped n (told end rest).outside) same
outside_more end line lines rest Untagged is untagged before =
    let same : skipped_outside (line ∷ lines) ≡ 1 + skipped_outside lines = skipped-cons line lines Untagged is in
    ap (λ (t : Told). t.outside) (told-class end line (lines ++ rest) Untagged is) ∙ ap (with_skipped 1) before
    ∙ with_skipped-more 1 (skipped_outside lines) (skipped_outside (line ∷ lines)) (told end rest).outside same

-- lines without a tag
pub outside_untagged : (end : ℕ) (lines rest : List Line) → all_untagged lines ≡ true → (told end (lines ++ rest)).outside ≡ with_skipped (skipped_outside lines) (told end rest).outside
outside_untagged end [] rest untagged = sym (with_skipped-none (told end rest).outside)
outside_untagged end (line ∷ lines) rest untagged =
    let parts = and_parts (is_untagged line.class) (all_untagged lines) untagged in
    outside_more end line lines rest line.class refl parts.0 (outside_untagged end lines rest parts.1)

-- a record with the lines after it
block_told : (end : ℕ) (b : Block) (rest : List Line) → IsBlock b
    → (told end (block_lines b ++ rest)).outside ≡ with_record (record_of b.begun) (with_skipped (skipped_by b) (told end rest).outside)
block_told end b rest is =
    let o : Outcome = (told end rest).outside in
    ap (λ (ls : List Line). (told end ls).outside) (append_assoc (begun_lines b.begun) (b.last ∷ b.after) rest)
    ∙ ended_told end b.begun b.last (b.after ++ rest) is.begun is.ends
    ∙ ap (λ e. if e then Err (EmptyType b.begun.first.head.place) else with_record (record_of b.begun) (with_skipped (skipped_inside b.begun) (told end (b.after ++ rest)).outside)) is.typed
    ∙ ap (λ (p : Outcome). with_record (record_of b.begun) (with_skipped (skipped_inside b.begun) p)) (outside_untagged end b.after rest is.after)
    ∙ ap (with_record (record_of b.begun)) (with_skipped-more (skipped_inside b.begun) (skipped_outside b.after) (skipped_by b) o refl)

front_more : (r : RisRecord) (rs : List RisRecord) (n m k : ℕ) (o : Outcome) → k ≡ n + m → with_record r (with_skipped n (with_front rs m o)) ≡ with_front (r ∷ rs) k o
front_more r rs n m k (Ok file) is = let count : n + (m + file.skipped) ≡ k + file.skipped = omega arith in ap (λ j. Ok (ris_file (r ∷ rs ++ file.records) j)) count
front_more r rs n m k (Err fault) is = refl

-- nothing before it changes nothing
pub with_front-none : (o : Outcome) → with_front [] 0 o ≡ o
with_front-none (Ok file) = ap (λ n. Ok (ris_file file.records n)) (zero-add file.skipped)
with_front-none (Err fault) = refl

-- records
pub blocks_told : (end : ℕ) (bs : List Block) (rest : List Line) → AreBlocks bs
    → (told end (flat_map block_lines bs ++ rest)).outside ≡ with_front (map (λ b. record_of b.begun) bs) (sum_by skipped_by bs) (told end rest).outside
blocks_told end [] rest are = sym (with_front-none (told end rest).outside)
blocks_told end (b ∷ bs) rest (more is are) =
    let o : Outcome = (told end rest).outside in
    ap (λ (ls : List Line). (told end ls).outside) (append_assoc (block_lines b) (flat_map block_lines bs) rest)
    ∙ block_told end b (flat_map block_lines bs ++ rest) is
    ∙ ap (λ (p : Outcome). with_record (record_of b.begun) (with_skipped (skipped_by b) p)) (blocks_told end bs rest are)
    ∙ front_more (record_of b.begun) (map (λ b. record_of b.begun) bs) (skipped_by b) (sum_by skipped_by bs) (sum_by skipped_by (b ∷ bs)) o (sum_by-cons skipped_by b bs)

front_skipped : (rs : List RisRecord) (n m : ℕ) (o : Outcome) → with_skipped n (with_front rs m o) ≡ with_front rs (n + m) o
front_skipped rs n m (Ok file) = let count : n + (m + file.skipped) ≡ n + m + file.skipped = omega arith in ap (λ j. Ok (ris_file (rs ++ file.records) j)) count
front_skipped rs n m (Err fault) = refl

-- ---- files

-- a tree before other lines
pub tree_told : (end : ℕ) (t : Tree) (rest : List Line) → IsTree t
    → (told end (tree_lines t ++ rest)).outside ≡ with_front (file_of t).records (file_of t).skipped (told end rest).outside
tree_told end t rest is =
    ap (λ (ls : List Line). (told end ls).outside) (append_assoc t.front (flat_map block_lines t.blocks) rest)
    ∙ outside_untagged end t.front (flat_map block_lines t.blocks ++ rest) is.front
    ∙ ap (with_skipped (skipped_outside t.front)) (blocks_told end t.blocks rest is.blocks)
    ∙ front_skipped (file_of t).records (skipped_outside t.front) (sum_by skipped_by t.blocks) (told end rest).outside

-- what lines say is what they say line by line
pub told_if_says : (end : ℕ) (lines : List Line) (file : RisFile) → Says lines file → (told end lines).outside ≡ Ok file
told_if_says end lines file says =
    let t : Tree = says.tree in
    ap (λ (ls : List Line). (told end ls).outside) (sym says.same ∙ sym (append-nil (tree_lines t)))
    ∙ tree_told end t [] says.is_tree
    ∙ ap (λ (rs : List RisRecord). Ok (ris_file rs ((file_of t).skipped + 0))) (append-nil (file_of t).records)
    ∙ ap (λ n. Ok (ris_file (file_of t).records n)) (add-zero (file_of t).skipped)
    ∙ ap (λ (f : RisFile). Ok f) says.told

-- a line of a class that may be inside a record is wrong outside records
not_begun : (end : ℕ) (line : Line) (rest : List Line) (class : Class) → line.class ≡ class → is_inner class ≡ true → (told end (line ∷ rest)).outside ≡ Err (NoStart line.place)
not_begun end line rest Begin is inner_class = absurd (cc)
not_begun end line rest End is inner_class = absurd (cc)
not_begun end line rest (Known tag) is inner_class = ap (λ (t : Told). t.outside) (told-class end line rest (Known tag) is)
not_begun end line rest Other is inner_class = ap (λ (t : Told). t.outside) (told-class end line rest Other is)
not_begun end line rest Blank is inner_class = absurd (cc)
not_begun end line rest Untagged is inner_class = absurd (cc)

pub told_if_wrong : (end : ℕ) (lines : List Line) (fault : RisFault) → IsWrong end lines fault → (told end lines).outside ≡ Err fault
told_if_wrong end _ _ (inner line rest is) = not_begun end line rest line.class refl is
told_if_wrong end _ _ (ends line rest is) = ap (λ (t : Told). t.outside) (told-class end line rest End is)
told_if_wrong end _ _ (begins_again b line rest is begins) =
    let here : told_inner end (line ∷ rest) ≡ inside [] 0 (Err (NoEnd line.place)) = ap (λ (t : Told). t.inside) (told-class end line rest Begin begins) in
    begun_told end b (line ∷ rest) is (tagged_stops line rest (ap is_untagged begins))
    ∙ ap (λ (i : Inside). whole_record b.first.head.place (record_of b).kind_name (paragraphs_told b.inner i) i.after) here
told_if_wrong end _ _ (unended b is) =
    ap (λ (ls : List Line). (told end ls).outside) (sym (append-nil (begun_lines b))) ∙ begun_told end b [] is refl
told_if_wrong end _ _ (untyped b line rest is ends_it none_given) =
    ended_told end b line rest is ends_it
    ∙ ap (λ e. if e then Err (EmptyType b.first.head.place) else with_record (record_of b) (with_skipped (skipped_inside b) (told end rest).outside)) none_given

-- lines that go wrong go wrong so line by line
pub told_if_goes_wrong : (end : ℕ) (lines : List Line) (fault : RisFault) → GoesWrong end lines fault → (told end lines).outside ≡ Err fault
told_if_goes_wrong end lines fault goes =
    ap (λ (ls : List Line). (told end ls).outside) (sym goes.same) ∙ tree_told end goes.before goes.rest goes.is_tree
    ∙ ap (with_front (file_of goes.before).records (file_of goes.before).skipped) (told_if_wrong end goes.rest fault goes.wrong)
