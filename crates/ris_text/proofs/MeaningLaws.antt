-- Lines say one thing, or go wrong in one way.
use Rattle.ris_text.proofs.Words.{◌≡◌, ℕ, true, false, [], ◌∷◌, ◌++◌, length, refl, sym, ap, ◌∙◌, append-nil, append_assoc, inl, inr, subst, ◌⊎◌, Ok, Err, list_all, flat_map, and_from, cases_Bool, Text, is_empty, Class, Begin, End, Known, Other, Blank, Untagged, RisFile, RisFault, NoStart, NoEnd}
use Rattle.ris_text.proofs.Words.{EmptyType, Line, lines_of, is_untagged, Paragraph, paragraph_lines, all_untagged, is_inner, is_inner_paragraph, Begun, IsBegun, begun_lines, record_of, Block, block_lines, more, Tree, IsTree, tree_lines, file_of, Says, GoesWrong, Reads, IsWrong, inner, ends}
use Rattle.ris_text.proofs.Words.{begins_again, unended, untyped, told}
use Rattle.std.proofs.Common.{List}
use Rattle.ris_text.specs.Trees.{none}
use Rattle.ris_text.specs.Reading.{IsFaultOf}
use Rattle.ris_text.specs.Laws.{SaysOrGoesWrong, SaysOne, OneFault, WrongSaysNothing}
use Rattle.ris_text.proofs.MeaningLemmas.{told_if_says, told_if_goes_wrong}

-- ---- one meaning

pub says_one : SaysOne
says_one lines file other says says_other =
    let same : Ok file ≡ Ok other = sym (told_if_says 0 lines file says) ∙ told_if_says 0 lines other says_other in
    cc

pub one_fault : OneFault
one_fault end lines fault other wrong wrong_other =
    let same : Err fault ≡ Err other = sym (told_if_goes_wrong end lines fault wrong) ∙ told_if_goes_wrong end lines other wrong_other in
    cc

pub wrong_says_nothing : WrongSaysNothing
wrong_says_nothing end lines file fault says wrong =
    let same : Ok file ≡ Err fault = sym (told_if_says end lines file says) ∙ told_if_goes_wrong end lines fault wrong in
    cc

-- ---- some meaning

-- the lines are the lines of a tree, and either there are no others or the first of the others is wrong
record Decided (end : ℕ) (lines : List Line) : Type 0 where
  tree : Tree
  is_tree : IsTree tree
  rest : List Line
  same : tree_lines tree ++ rest ≡ lines
  ending : (rest ≡ []) ⊎ ((fault : RisFault) × IsWrong end rest fault)

-- inside a record: no line is left, or a TY line is next, or an ER line before lines that are decided
data Ending (end : ℕ) : List Line → Type 0 where
  over : Ending end []
  again : (line : Line) (rest : List Line) → line.class ≡ Begin → Ending end (line ∷ rest)
  closed : (line : Line) (rest : List Line) → line.class ≡ End → Decided end rest → Ending end (line ∷ rest)

-- the lines continue a value, then come paragraphs, then an ending
record Inner (end : ℕ) (lines : List Line) : Type 0 where
  front : List Line
  untagged : all_untagged front ≡ true
  paragraphs : List Paragraph
  are_inner : list_all is_inner_paragraph paragraphs ≡ true
  rest : List Line
  same : front ++ (flat_map paragraph_lines paragraphs ++ rest) ≡ lines
  ending : Ending end rest

abbrev no_tree : Tree
no_tree = record { front = []; blocks = [] }

no_tree_is_tree : IsTree no_tree
no_tree_is_tree = record { front = refl; blocks = none }

wrong_here : (end : ℕ) (lines : List Line) (fault : RisFault) → IsWrong end lines fault → Decided end lines
wrong_here end lines fault wrong = record { tree = no_tree; is_tree = no_tree_is_tree; rest = lines; same = refl; ending = inr (fault, wrong) }

-- a line without a tag before them
with_front_line : (end : ℕ) (line : Line) (lines : List Line) → is_untagged line.class ≡ true → Decided end lines → Decided end (line ∷ lines)
with_front_line end line lines untagged d = record {
  tree = record { front = line ∷ d.tree.front; blocks = d.tree.blocks };
  is_tree = record { front = and_from (is_untagged line.class) (all_untagged d.tree.front) untagged d.is_tree.front; blocks = d.is_tree.blocks };
  rest = d.rest;
  same = ap (λ (ls : List Line). line ∷ ls) d.same;
  ending = d.ending;
}

-- a record before them, whose ER line this is
with_block : (end : ℕ) (b : Begun) (line : Line) (lines : List Line) → IsBegun b → is_empty (record_of b).kind_name ≡ false → line.class ≡ End → Decided end lines
    → Decided end (begun_lines b ++ line ∷ lines)
with_block end b line lines is typed ends_it d =
    let block : Block = record { begun = b; last = line; after = d.tree.front } in
    let others : List Line = flat_map block_lines d.tree.blocks in
    record {
      tree = record { front = []; blocks = block ∷ d.tree.blocks };
      is_tree = record { front = refl; blocks = more (record { begun = is; typed = typed; ends = ends_it; after = d.is_tree.front }) d.is_tree.blocks };
      rest = d.rest;
      same =
          append_assoc (block_lines block) others d.rest
          ∙ append_assoc (begun_lines b) (line ∷ d.tree.front) (others ++ d.rest)
          ∙ ap (λ (ls : List Line). begun_lines b ++ line ∷ ls) (sym (append_assoc d.tree.front others d.rest) ∙ d.same);
      ending = d.ending;
    }

-- the lines after a TY line, which begins this record
begun_decided : (end : ℕ) (b : Begun) (rest : List Line) → IsBegun b → Ending end rest → Decided end (begun_lines b ++ rest)
begun_decided end b _ is over = subst (Decided end) (sym (append-nil (begun_lines b))) (wrong_here end (begun_lines b) (NoEnd end) (unended b is))
begun_decided end b _ is (again line rest begins) = wrong_here end (begun_lines b ++ line ∷ rest) (NoEnd line.place) (begins_again b line rest is begins)
begun_decided end b _ is (closed line rest ends_it d) = elim (cases_Bool (is_empty (record_of b).kind_name)) [
  | inl untyped_it ↦ wrong_here end (begun_lines b ++ line ∷ rest) (EmptyType b.first.head.place) (untyped b line rest is ends_it untyped_it)
  | inr typed ↦ with_block end b line rest is typed ends_it d
]

-- a TY line before them
with_begin : (end : ℕ) (line : Line) (lines : List Line) → line.class ≡ Begin → Inner end lines → Decided end (line ∷ lines)
with_begin end line lines begins i =
    let b : Begun = record { first = record { head = line; more = i.front }; inner = i.paragraphs } in
    let same : begun_lines b ++ i.rest ≡ line ∷ lines =
    ap (λ (ls : List Line). line ∷ ls) (append_assoc i.front (flat_map paragraph_lines i.paragraphs) i.rest ∙ i.same) in
    subst (Decided end) same (begun_decided end b i.rest (record { begins = begins; continued = i.untagged; inner = i.are_inner }) i.ending)

-- a line without a tag, inside a record
with_more : (end : ℕ) (line : Line) (lines : List Line) → is_untagged line.class ≡ true → Inner end lines → Inner end (line ∷ lines)
with_more end line lines untagged i = record {
  front = line ∷ i.front;
  untagged = and_from (is_untagged line.class) (all_untagged i.front) untagged i.untagged;
  paragraphs = i.paragraphs;
  are_inner = i.are_inner;
  rest = i.rest;
  same = ap (λ (ls : List Line). line ∷ ls) i.same;
  ending = i.ending;
}

-- a line with a tag that may be inside a record
with_paragraph : (end : ℕ) (line : Line) (lines : List Line) → is_inner line.class ≡ true → Inner end lines → Inner end (line ∷ lines)
with_paragraph end line lines is i =
    let p : Paragraph = record { head = line; more = i.front } in
    record {
      front = [];
      untagged = refl;
      paragraphs = p ∷ i.paragraphs;
      are_inner = and_from (is_inner_paragraph p) (list_all is_inner_paragraph i.paragraphs) (and_from (is_inner line.class) (all_untagged i.front) is i.untagged) i.are_inner;
      rest = i.rest;
      same = ap (λ (ls : List Line). line ∷ ls) (append_assoc i.front (flat_map paragraph_lines i.paragraphs) i.rest ∙ i.same);
      ending = i.ending;
    }

ending_here : (end : ℕ) (lines : List Line) → Ending end lines → Inner end lines
ending_here end lines e = record { front = []; untagged = refl; paragraphs = []; are_inner = refl; rest = lines; same = refl; ending = e }

-- one line more
decided_more : (end : ℕ) (line : Line) (lines : List Line) (class : Class) → line.class ≡ class → Decided end lines × Inner end lines
    → Decided end (line ∷ lines) × Inner end (line ∷ lines)
decided_more end line lines Begin is (d, i) = (with_begin end line lines is i, ending_here end (line ∷ lines) (again line lines is))
decided_more end line lines End is (d, i) = (wrong_here end (line ∷ lines) (NoStart line.place) (ends line lines is), ending_here end (line ∷ lines) (closed line lines is d))
decided_more end line lines (Known tag) is (d, i) =
    (wrong_here end (line ∷ lines) (NoStart line.place) (inner line lines (ap is_inner is)), with_paragraph end line lines (ap is_inner is) i)
decided_more end line lines Other is (d, i) =
    (wrong_here end (line ∷ lines) (NoStart line.place) (inner line lines (ap is_inner is)), with_paragraph end line lines (ap is_inner is) i)
decided_more end line lines Blank is (d, i) = (with_front_line end line lines (ap is_untagged is) d, with_more end line lines (ap is_untagged is) i)
decided_more end line lines Untagged is (d, i) = (with_front_line end line lines (ap is_untagged is) d, with_more end line lines (ap is_untagged is) i)

decided : (end : ℕ) (lines : List Line) → Decided end lines × Inner end lines
decided end [] = (record { tree = no_tree; is_tree = no_tree_is_tree; rest = []; same = refl; ending = inl refl }, ending_here end [] over)
decided end (line ∷ lines) = decided_more end line lines line.class refl (decided end lines)

pub says_or_goes_wrong : SaysOrGoesWrong
says_or_goes_wrong end lines =
    let d : Decided end lines = (decided end lines).0 in
    elim d.ending [
      | inl none_left ↦
          let same : tree_lines d.tree ≡ lines = sym (append-nil (tree_lines d.tree)) ∙ ap (λ (ls : List Line). tree_lines d.tree ++ ls) (sym none_left) ∙ d.same in
          inl (file_of d.tree, record { tree = d.tree; is_tree = d.is_tree; same = same; told = refl })
      | inr wrong ↦ inr (wrong.0, record { before = d.tree; is_tree = d.is_tree; rest = d.rest; same = d.same; wrong = wrong.1 })
    ]

-- ---- what lines say, line by line, is what they say

says_if_told : (end : ℕ) (lines : List Line) (file : RisFile) → (told end lines).outside ≡ Ok file → Says lines file
says_if_told end lines file is = elim (says_or_goes_wrong end lines) [
  | inl said ↦ let same : Ok said.0 ≡ Ok file = sym (told_if_says end lines said.0 said.1) ∙ is in
      let one : said.0 ≡ file = cc in subst (Says lines) one said.1
  | inr wrong ↦ let same : Err wrong.0 ≡ Ok file = sym (told_if_goes_wrong end lines wrong.0 wrong.1) ∙ is in absurd (cc)
]

goes_wrong_if_told : (end : ℕ) (lines : List Line) (fault : RisFault) → (told end lines).outside ≡ Err fault → GoesWrong end lines fault
goes_wrong_if_told end lines fault is = elim (says_or_goes_wrong end lines) [
  | inl said ↦ let same : Ok said.0 ≡ Err fault = sym (told_if_says end lines said.0 said.1) ∙ is in absurd (cc)
  | inr wrong ↦ let same : Err wrong.0 ≡ Err fault = sym (told_if_goes_wrong end lines wrong.0 wrong.1) ∙ is in
      let one : wrong.0 ≡ fault = cc in subst (GoesWrong end lines) one wrong.1
]

pub reads_if_told : (file : Text) (lines : List Line) (said : RisFile) → lines ≡ lines_of file → (told (length file) lines).outside ≡ Ok said → Reads file said
reads_if_told file lines said is says = says_if_told (length file) (lines_of file) said (ap (λ (ls : List Line). (told (length file) ls).outside) (sym is) ∙ says)

pub fault_if_told : (file : Text) (lines : List Line) (fault : RisFault) → lines ≡ lines_of file → (told (length file) lines).outside ≡ Err fault → IsFaultOf file fault
fault_if_told file lines fault is wrong = goes_wrong_if_told (length file) (lines_of file) fault (ap (λ (ls : List Line). (told (length file) ls).outside) (sym is) ∙ wrong)
