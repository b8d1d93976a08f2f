-- The lines that are skipped, line by line and by the file's tree.
use Rattle.ris_text.proofs.Words.{◌≡◌, ℕ, suc, ◌+◌, ◌≤◌, ◌<◌, Bool, true, false, [], ◌∷◌, ◌++◌, map, length, refl, sym, ap, ◌∙◌, arith, inl, inr, min, take, drop, append_assoc, cases_Bool, line_feed, mark_len, has_tag, line_at, line_texts, lines_from, list_all, flat_map, and_parts, Text, Class, Begin, End, Known, Other, Blank, Untagged, RisFile}
use Rattle.ris_text.proofs.Words.{Line, lines_of, is_untagged, Paragraph, paragraph_lines, all_untagged, is_inner, is_inner_paragraph, begun_lines, Block, block_lines, more, Tree, IsTree, tree_lines, file_of}
use Rattle.std.proofs.Common.{List}
use Rattle.std.specs.List.{starts_with}
use Rattle.std.specs.Prelude.{nat_eq, filter, count_by, sum_by, ◌==◌, ◌-◌, if◌then◌else◌}
use Rattle.std.proofs.lemmas.List.{length-append, length-take, length-drop, drop_all}
use Rattle.std.proofs.lemmas.Slice.Eq.{bytes_eq-Decides}
use Rattle.ris_text.specs.Lines.{mark}
use Rattle.std.proofs.lemmas.List.Sums.{sum_by-cons, sum_by-append, length-filter}
use Rattle.std.proofs.Math.Seq.{take-add}
use Rattle.bib_spec.proofs.Counts.{count-yes, count-no}
use Rattle.ris_text.specs.Trees.{is_other, IsBlock, AreBlocks, is_counted, skipped_by}
use Rattle.ris_text.specs.Skipping.{inside_after, is_skipped, with_line, skips_from, skips_at, IsNumbered}
use Rattle.ris_text.specs.Skipped.{outside_skips, inside_skips, block_skips, skips, AreSkipped, Standing, standing, number_at, bytes_at, SkipsOne, SkippedAreCounted}
use Rattle.ris_text.proofs.LineLemmas.{line_len, ends_here, ends_later, first_seen}
use Rattle.ris_text.proofs.MeaningLaws.{says_one}

-- ---- line by line

-- what is skipped from a line of this class on
skips-class : (inside : Bool) (line : Line) (lines : List Line) (class : Class) → line.class ≡ class
    → skips_from inside (line ∷ lines) ≡ with_line (is_skipped inside class) line (skips_from (inside_after inside class) lines)
skips-class inside line lines class is = ap (λ (k : Class). with_line (is_skipped inside k) line (skips_from (inside_after inside k) lines)) is

-- a line without a tag changes nothing, whichever it is
stays_after : (inside : Bool) (class : Class) → is_untagged class ≡ true → inside_after inside class ≡ inside
stays_after inside Begin is = absurd (cc)
stays_after inside End is = absurd (cc)
stays_after inside (Known tag) is = absurd (cc)
stays_after inside Other is = absurd (cc)
stays_after inside Blank is = refl
stays_after inside Untagged is = refl

-- and is no tag line
untagged_is_tagless : (class : Class) → is_untagged class ≡ true → is_other class ≡ false
untagged_is_tagless Begin is = absurd (cc)
untagged_is_tagless End is = absurd (cc)
untagged_is_tagless (Known tag) is = absurd (cc)
untagged_is_tagless Other is = absurd (cc)
untagged_is_tagless Blank is = refl
untagged_is_tagless Untagged is = refl

-- outside records
outside_skipped : (lines rest : List Line) → all_untagged lines ≡ true → skips_from false (lines ++ rest) ≡ outside_skips lines ++ skips_from false rest
outside_skipped [] rest untagged = refl
outside_skipped (line ∷ lines) rest untagged =
    let parts = and_parts (is_untagged line.class) (all_untagged lines) untagged in
    ap (λ (b : Bool). with_line (is_counted line.class) line (skips_from b (lines ++ rest))) (stays_after false line.class parts.0)
    ∙ ap (with_line (is_counted line.class) line) (outside_skipped lines rest parts.1)
    ∙ beside (is_counted line.class) refl
  where
    beside : (b : Bool) → is_counted line.class ≡ b → with_line (is_counted line.class) line (outside_skips lines ++ skips_from false rest) ≡ outside_skips (line ∷ lines) ++ skips_from false rest
    beside true is = rw is refl
    beside false is = rw is refl

-- inside a record, lines without a tag
inside_untagged : (lines rest : List Line) → all_untagged lines ≡ true → skips_from true (lines ++ rest) ≡ skips_from true rest
inside_untagged [] rest untagged = refl
inside_untagged (line ∷ lines) rest untagged =
    let parts = and_parts (is_untagged line.class) (all_untagged lines) untagged in
    ap (λ (b : Bool). with_line b line (skips_from (inside_after true line.class) (lines ++ rest))) (untagged_is_tagless line.class parts.0)
    ∙ ap (λ (b : Bool). skips_from b (lines ++ rest)) (stays_after true line.class parts.0)
    ∙ inside_untagged lines rest parts.1

stays_inside : (class : Class) → is_inner class ≡ true → inside_after true class ≡ true
stays_inside Begin is = absurd (cc)
stays_inside End is = absurd (cc)
stays_inside (Known tag) is = refl
stays_inside Other is = refl
stays_inside Blank is = absurd (cc)
stays_inside Untagged is = absurd (cc)

-- the tag lines of paragraphs whose tag is not known
abbrev other_heads : List Paragraph → List Line
other_heads ps = filter (λ line. is_other line.class) (map (λ p. p.head) ps)

-- inside a record, paragraphs
inside_skipped : (ps : List Paragraph) (rest : List Line) → list_all is_inner_paragraph ps ≡ true
    → skips_from true (flat_map paragraph_lines ps ++ rest) ≡ other_heads ps ++ skips_from true rest
inside_skipped [] rest are = refl
inside_skipped (p ∷ ps) rest are =
    let parts = and_parts (is_inner_paragraph p) (list_all is_inner_paragraph ps) are in
    let own = and_parts (is_inner p.head.class) (all_untagged p.more) parts.0 in
    let others : List Line = flat_map paragraph_lines ps ++ rest in
    ap (λ (ls : List Line). skips_from true (p.head ∷ ls)) (append_assoc p.more (flat_map paragraph_lines ps) rest)
    ∙ ap (λ (b : Bool). with_line (is_other p.head.class) p.head (skips_from b (p.more ++ others))) (stays_inside p.head.class own.0)
    ∙ ap (with_line (is_other p.head.class) p.head) (inside_untagged p.more others own.1 ∙ inside_skipped ps rest parts.1)
    ∙ beside (is_other p.head.class) refl
  where
    beside : (b : Bool) → is_other p.head.class ≡ b → with_line (is_other p.head.class) p.head (other_heads ps ++ skips_from true rest) ≡ other_heads (p ∷ ps) ++ skips_from true rest
    beside true is = rw is refl
    beside false is = rw is refl

-- ---- records

-- a record with the lines after it
block_skipped : (b : Block) (rest : List Line) → IsBlock b → skips_from false (block_lines b ++ rest) ≡ block_skips b ++ skips_from false rest
block_skipped b rest is =
    let p : Paragraph = b.begun.first in
    let after : List Line = b.after ++ rest in
    let inner : List Line = flat_map paragraph_lines b.begun.inner in
    ap (skips_from false) (append_assoc (begun_lines b.begun) (b.last ∷ b.after) rest)
    ∙ ap (λ (ls : List Line). skips_from false (p.head ∷ ls)) (append_assoc p.more inner (b.last ∷ after))
    ∙ skips-class false p.head (p.more ++ (inner ++ b.last ∷ after)) Begin is.begun.begins
    ∙ inside_untagged p.more (inner ++ b.last ∷ after) is.begun.continued
    ∙ inside_skipped b.begun.inner (b.last ∷ after) is.begun.inner
    ∙ ap (λ (ls : List Line). inside_skips b.begun ++ ls) (skips-class true b.last after End is.ends ∙ outside_skipped b.after rest is.after)
    ∙ sym (append_assoc (inside_skips b.begun) (outside_skips b.after) (skips_from false rest))

blocks_skipped : (bs : List Block) → AreBlocks bs → skips_from false (flat_map block_lines bs) ≡ flat_map block_skips bs
blocks_skipped [] are = refl
blocks_skipped (b ∷ bs) (more is are) = block_skipped b (flat_map block_lines bs) is ∙ ap (λ (ls : List Line). block_skips b ++ ls) (blocks_skipped bs are)

-- ---- files

-- what is skipped line by line is what the tree skips
pub tree_skipped : (t : Tree) → IsTree t → skips_from false (tree_lines t) ≡ skips t
tree_skipped t is = outside_skipped t.front (flat_map block_lines t.blocks) is.front ∙ ap (λ (ls : List Line). outside_skips t.front ++ ls) (blocks_skipped t.blocks is.blocks)

pub skipped_since : (file : Text) (lines : List Line) → AreSkipped file lines → skips_from false (lines_of file) ≡ lines
skipped_since file lines are = ap (skips_from false) (sym are.reads.same) ∙ tree_skipped are.reads.tree are.reads.is_tree ∙ are.skipped

pub skips_one : SkipsOne
skips_one file lines others are are' = sym (skipped_since file lines are) ∙ skipped_since file others are'

-- ---- how many lines are skipped

-- one line more, which the test passes or not
filtered : (test : Line → Bool) (line : Line) (lines : List Line) (n : ℕ) → length (filter test lines) ≡ n → length (filter test (line ∷ lines)) ≡ (if test line then 1 else 0) + n
filtered test line lines n rest = beside (test line) refl
  where
    beside : (b : Bool) → test line ≡ b → length (filter test (line ∷ lines)) ≡ (if test line then 1 else 0) + n
    beside true is = rw is (omega (arith, rest))
    beside false is = rw is (omega (arith, rest))

other_count : (ps : List Paragraph) → length (other_heads ps) ≡ count_by (λ p. is_other p.head.class) ps
other_count [] = refl
other_count (p ∷ ps) =
    filtered (λ line. is_other line.class) p.head (map (λ p. p.head) ps) (count_by (λ p. is_other p.head.class) ps) (other_count ps)
    ∙ sym (sum_by-cons (λ (q : Paragraph). if is_other q.head.class then 1 else 0) p ps)

block_count : (b : Block) → length (block_skips b) ≡ skipped_by b
block_count b =
    omega (arith, length-append (inside_skips b.begun) (outside_skips b.after), other_count b.begun.inner, length-filter (λ (line : Line). is_counted line.class) b.after)

blocks_count : (bs : List Block) → length (flat_map block_skips bs) ≡ sum_by skipped_by bs
blocks_count [] = refl
blocks_count (b ∷ bs) =
    length-append (block_skips b) (flat_map block_skips bs) ∙ omega (arith, block_count b, blocks_count bs) ∙ sym (sum_by-cons skipped_by b bs)

-- as many as the tree says
tree_count : (t : Tree) → length (skips t) ≡ (file_of t).skipped
tree_count t =
    length-append (outside_skips t.front) (flat_map block_skips t.blocks)
    ∙ omega (arith, length-filter (λ (line : Line). is_counted line.class) t.front, blocks_count t.blocks)

pub skipped_are_counted : SkippedAreCounted
skipped_are_counted file said lines reads are =
    ap length (sym are.skipped) ∙ tree_count are.reads.tree ∙ ap (λ (f : RisFile). f.skipped) (are.reads.told ∙ says_one (lines_of file) are.said said are.reads reads)

-- ---- the numbers of lines

abbrev is_feed : ℕ → Bool
is_feed b = b == line_feed

-- a line with its line feed has one line feed
one_feed : (t : Text) → line_len t < length t → count_by is_feed (take (line_len t + 1) t) ≡ 1
one_feed [] some = absurd (omega (arith, some))
one_feed (b ∷ t) some =
    elim (cases_Bool (b == line_feed)) [
      | inl is ↦
          let here : line_len (b ∷ t) ≡ 0 = (ends_here b t is).0 in
          ap (λ n. count_by is_feed (take (n + 1) (b ∷ t))) here ∙ count-yes is_feed b [] is
      | inr is ↦
          let there : line_len (b ∷ t) + 1 ≡ suc (line_len t + 1) = omega (arith, (ends_later b t is).0) in
          ap (λ n. count_by is_feed (take n (b ∷ t))) there ∙ count-no is_feed b (take (line_len t + 1) t) is ∙ one_feed t (omega (arith, some, there))
    ]

-- the line after a line that has a line feed
next_number : (file : Text) (place : ℕ) → line_len (drop place file) < length (drop place file) → number_at file (place + (line_len (drop place file) + 1)) ≡ suc (number_at file place)
next_number file place some =
    let rest : Text = drop place file in
    let len : ℕ = line_len rest + 1 in
    ap (λ (t : Text). suc (count_by is_feed t)) (take-add place len file)
    ∙ ap suc (sum_by-append (λ (b : ℕ). if is_feed b then 1 else 0) (take place file) (take len rest))
    ∙ omega (arith, one_feed rest some)

-- ---- the walk

mark_len_by : (file : Text) (b : Bool) → starts_with nat_eq file mark ≡ b → mark_len file ≡ (if b then 3 else 0)
unfolding mark_len
mark_len_by file b is = rw is refl

-- no line feed is in the mark
first_number : (file : Text) → number_at file (mark_len file) ≡ 1
first_number file = go (starts_with nat_eq file mark) refl
  where
    go : (b : Bool) → starts_with nat_eq file mark ≡ b → number_at file (mark_len file) ≡ 1
    go true is =
        let same : mark ≡ take 3 file = (bytes_eq-Decides mark (take 3 file)).0 is in
        ap (number_at file) (mark_len_by file true is) ∙ ap (λ (t : Text). suc (count_by is_feed t)) (sym same)
    go false is = ap (number_at file) (mark_len_by file false is)

pub begins_numbered : (file : Text) (place : ℕ) → place ≡ mark_len file → place ≤ length file → IsNumbered file place 1
begins_numbered file place is within = record {
  within = within;
  small = omega arith;
  is_number = λ some. sym (first_number file) ∙ ap (number_at file) (sym is);
}

pub IsNumbered-more : (file bytes : Text) (place number after : ℕ) → IsNumbered file place number → place < length file → bytes ≡ bytes_at file place
    → after ≡ place + min (length file - place) (length bytes + 1) → IsNumbered file after (number + 1)
IsNumbered-more file bytes place number after is some here next = record {
  within = omega (arith, next);
  small = omega (arith, next, is.small, some);
  is_number = numbered;
}
  where
    rest : Text
    rest = drop place file

    numbered : after < length file → number + 1 ≡ number_at file after
    numbered later =
        let len : line_len rest ≡ length bytes = omega (arith, ap length here, length-take (line_len rest) rest, length-drop place file, later, next) in
        let short : line_len rest < length rest = omega (arith, len, length-drop place file, later, next) in
        let same : after ≡ place + (line_len rest + 1) = omega (arith, len, length-drop place file, later, next) in
        omega (arith, is.is_number some, next_number file place short, ap (number_at file) same)

place-line_at : (place : ℕ) (bytes : Text) → (line_at place bytes).place ≡ place
unfolding line_at
place-line_at place bytes = go (has_tag bytes) refl
  where
    go : (b : Bool) → has_tag bytes ≡ b → (line_at place bytes).place ≡ place
    go true is = rw is refl
    go false is = rw is refl

-- what the code knows of a line that it takes: where it begins, its number and its bytes, and where the next line begins
pub record IsTaken (file bytes : Text) (place number after : ℕ) (line : Line) : Type 0 where
  pub numbered : IsNumbered file place number
  pub some : place < length file
  pub here : bytes ≡ bytes_at file place
  pub next : after ≡ place + min (length file - place) (length bytes + 1)
  pub seen : line ≡ line_at place bytes

-- the lines that are skipped from a line on
skips_at-line : (file bytes : Text) (inside : Bool) (place number after : ℕ) (line : Line) → IsTaken file bytes place number after line
    → skips_at file inside place ≡ map (standing file) (with_line (is_skipped inside line.class) line (skips_from (inside_after inside line.class) (lines_from after (line_texts (drop after file)))))
skips_at-line file bytes inside place number after line is = ap (λ (ls : List Line). map (standing file) (skips_from inside ls)) lines
  where
    len : ℕ
    len = line_len (drop place file)

    step : place + min (length (drop place file)) (len + 1) ≡ after
    step = omega (arith, is.next, is.some, ap length is.here, length-take len (drop place file), length-drop place file)

    lines : lines_from place (line_texts (drop place file)) ≡ line ∷ lines_from after (line_texts (drop after file))
    lines =
        first_seen file (drop place file) bytes place len (min (length (drop place file)) (len + 1)) line (omega (arith, is.some, length-drop place file)) refl refl is.here refl is.seen
        ∙ ap (λ n. line ∷ lines_from n (line_texts (drop n file))) step

standing-line : (file bytes : Text) (place number after : ℕ) (line : Line) → IsTaken file bytes place number after line → standing file line ≡ record { number = number; place = place; bytes = bytes }
standing-line file bytes place number after line is =
    let begins : line.place ≡ place = ap (λ (l : Line). l.place) is.seen ∙ place-line_at place bytes in
    ap (at_place file) begins
    ∙ ap (λ n. stood n place (bytes_at file place)) (sym (is.numbered.is_number is.some))
    ∙ ap (stood number place) (sym is.here)
  where
    stood : ℕ → ℕ → Text → Standing
    stood n p t = record { number = n; place = p; bytes = t }

    at_place : Text → ℕ → Standing
    at_place text p = stood (number_at text p) p (bytes_at text p)

-- a line that is skipped
pub skips_at-yes : (file bytes : Text) (inside : Bool) (place number after : ℕ) (line : Line) → IsTaken file bytes place number after line → is_skipped inside line.class ≡ true
    → skips_at file inside place ≡ record { number = number; place = place; bytes = bytes } ∷ skips_at file (inside_after inside line.class) after
skips_at-yes file bytes inside place number after line is skipped =
    let rest : List Line = skips_from (inside_after inside line.class) (lines_from after (line_texts (drop after file))) in
    skips_at-line file bytes inside place number after line is
    ∙ ap (λ (b : Bool). map (standing file) (with_line b line rest)) skipped
    ∙ ap (λ (l : Standing). l ∷ map (standing file) rest) (standing-line file bytes place number after line is)

-- a line that is not
pub skips_at-no : (file bytes : Text) (inside : Bool) (place number after : ℕ) (line : Line) → IsTaken file bytes place number after line → is_skipped inside line.class ≡ false
    → skips_at file inside place ≡ skips_at file (inside_after inside line.class) after
skips_at-no file bytes inside place number after line is kept =
    skips_at-line file bytes inside place number after line is
    ∙ ap (λ (b : Bool). map (standing file) (with_line b line (skips_from (inside_after inside line.class) (lines_from after (line_texts (drop after file)))))) kept

-- none is left
pub skips_at-end : (file : Text) (inside : Bool) (place : ℕ) → length file ≤ place → skips_at file inside place ≡ []
skips_at-end file inside place all = ap (λ (t : Text). map (standing file) (skips_from inside (lines_from place (line_texts t)))) (drop_all place file all)
