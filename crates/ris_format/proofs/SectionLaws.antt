-- Lines and fields that are put after others, one after another.
use Rattle.ris_format.proofs.Words.{◌≡◌, [], ◌∷◌, ◌++◌, refl, sym, ap, ◌∙◌, append-nil, flat_map, filter-append, Text, RecordField, RisLine, Tagged, tagged_lines, lines_of, Fields, field, has_text}
use Rattle.std.proofs.Common.{List, append_assoc}
use Rattle.std.specs.Prelude.{filter}
use Rattle.std.proofs.lemmas.Grind.{flat_map-append}

-- ---- lines, each kept as a list of members

module _ {A : Type 0} (kept : RisLine → List A) where
  abbrev kept_groups : List Tagged → List A
  kept_groups gs = flat_map kept (lines_of gs)

  groups_of : (gs hs : List Tagged) → kept_groups (gs ++ hs) ≡ kept_groups gs ++ kept_groups hs
  groups_of gs hs = ap (flat_map kept) (flat_map-append tagged_lines gs hs) ∙ flat_map-append kept (lines_of gs) (lines_of hs)

  -- one group of lines
  pub one_group : (a b : List A) (g : Tagged) → b ≡ a ++ flat_map kept (tagged_lines g) → b ≡ a ++ flat_map kept (lines_of (g ∷ []))
  one_group a b g p = p ∙ ap (λ (ls : List RisLine). a ++ flat_map kept ls) (sym (append-nil (tagged_lines g)))

  -- some groups, and then others
  pub more_sections_kept : (a b c : List A) (gs hs : List Tagged) → b ≡ a ++ flat_map kept (lines_of gs) → c ≡ b ++ flat_map kept (lines_of hs)
      → c ≡ a ++ flat_map kept (lines_of (gs ++ hs))
  more_sections_kept a b c gs hs p q =
      q ∙ ap (λ (ls : List A). ls ++ kept_groups hs) p ∙ append_assoc a (kept_groups gs) (kept_groups hs) ∙ ap (λ (ls : List A). a ++ ls) (sym (groups_of gs hs))

  -- one group more
  pub more_groups : (a b c : List A) (g : Tagged) (gs : List Tagged) → b ≡ a ++ flat_map kept (tagged_lines g) → c ≡ b ++ flat_map kept (lines_of gs)
      → c ≡ a ++ flat_map kept (lines_of (g ∷ gs))
  more_groups a b c g gs p q = more_sections_kept a b c (g ∷ []) gs (one_group a b g p) q

  -- two, three, four and five groups of lines, one after another
  pub two_groups : (a l1 l2 : List A) (g1 g2 : Tagged) → l1 ≡ a ++ flat_map kept (tagged_lines g1) → l2 ≡ l1 ++ flat_map kept (tagged_lines g2)
      → l2 ≡ a ++ flat_map kept (lines_of (g1 ∷ g2 ∷ []))
  two_groups a l1 l2 g1 g2 p1 p2 = more_groups a l1 l2 g1 (g2 ∷ []) p1 (one_group l1 l2 g2 p2)

  pub three_groups : (a l1 l2 l3 : List A) (g1 g2 g3 : Tagged) → l1 ≡ a ++ flat_map kept (tagged_lines g1) → l2 ≡ l1 ++ flat_map kept (tagged_lines g2)
      → l3 ≡ l2 ++ flat_map kept (tagged_lines g3) → l3 ≡ a ++ flat_map kept (lines_of (g1 ∷ g2 ∷ g3 ∷ []))
  three_groups a l1 l2 l3 g1 g2 g3 p1 p2 p3 = more_groups a l1 l3 g1 (g2 ∷ g3 ∷ []) p1 (two_groups l1 l2 l3 g2 g3 p2 p3)

  pub four_groups : (a l1 l2 l3 l4 : List A) (g1 g2 g3 g4 : Tagged) → l1 ≡ a ++ flat_map kept (tagged_lines g1) → l2 ≡ l1 ++ flat_map kept (tagged_lines g2)
      → l3 ≡ l2 ++ flat_map kept (tagged_lines g3) → l4 ≡ l3 ++ flat_map kept (tagged_lines g4) → l4 ≡ a ++ flat_map kept (lines_of (g1 ∷ g2 ∷ g3 ∷ g4 ∷ []))
  four_groups a l1 l2 l3 l4 g1 g2 g3 g4 p1 p2 p3 p4 = more_groups a l1 l4 g1 (g2 ∷ g3 ∷ g4 ∷ []) p1 (three_groups l1 l2 l3 l4 g2 g3 g4 p2 p3 p4)

  pub five_groups : (a l1 l2 l3 l4 l5 : List A) (g1 g2 g3 g4 g5 : Tagged) → l1 ≡ a ++ flat_map kept (tagged_lines g1) → l2 ≡ l1 ++ flat_map kept (tagged_lines g2)
      → l3 ≡ l2 ++ flat_map kept (tagged_lines g3) → l4 ≡ l3 ++ flat_map kept (tagged_lines g4) → l5 ≡ l4 ++ flat_map kept (tagged_lines g5)
      → l5 ≡ a ++ flat_map kept (lines_of (g1 ∷ g2 ∷ g3 ∷ g4 ∷ g5 ∷ []))
  five_groups a l1 l2 l3 l4 l5 g1 g2 g3 g4 g5 p1 p2 p3 p4 p5 = more_groups a l1 l5 g1 (g2 ∷ g3 ∷ g4 ∷ g5 ∷ []) p1 (four_groups l1 l2 l3 l4 l5 g2 g3 g4 g5 p2 p3 p4 p5)

  -- five sections, one after another
  pub five_sections : (a b c d e : List Tagged) (l0 l1 l2 l3 l4 l5 : List A)
      → l1 ≡ l0 ++ flat_map kept (lines_of a) → l2 ≡ l1 ++ flat_map kept (lines_of b) → l3 ≡ l2 ++ flat_map kept (lines_of c) → l4 ≡ l3 ++ flat_map kept (lines_of d)
      → l5 ≡ l4 ++ flat_map kept (lines_of e)
      → l5 ≡ l0 ++ flat_map kept (lines_of (a ++ (b ++ (c ++ (d ++ e)))))
  five_sections a b c d e l0 l1 l2 l3 l4 l5 p1 p2 p3 p4 p5 =
      more_sections_kept l0 l1 l5 a (b ++ (c ++ (d ++ e))) p1
      (more_sections_kept l1 l2 l5 b (c ++ (d ++ e)) p2
      (more_sections_kept l2 l3 l5 c (d ++ e) p3
      (more_sections_kept l3 l4 l5 d e p4 p5)))

  -- a section, and a group after it
  pub section_and_group : (a : List Tagged) (g : Tagged) (l0 l1 l2 : List A) → l1 ≡ l0 ++ flat_map kept (lines_of a) → l2 ≡ l1 ++ flat_map kept (tagged_lines g)
      → l2 ≡ l0 ++ flat_map kept (lines_of (a ++ (g ∷ [])))
  section_and_group a g l0 l1 l2 p q = more_sections_kept l0 l1 l2 a (g ∷ []) p (one_group l1 l2 g q)

-- lines that are kept as themselves
pub kept_whole : (lines : List RisLine) → flat_map (λ l. l ∷ []) lines ≡ lines
kept_whole [] = refl
kept_whole (l ∷ lines) = ap (λ (ls : List RisLine). l ∷ ls) (kept_whole lines)

-- ---- fields

-- one field more
pub more_fields : (a b c : Fields) (f : RecordField) (fs : Fields) → b ≡ a ++ filter has_text (f ∷ []) → c ≡ b ++ filter has_text fs → c ≡ a ++ filter has_text (f ∷ fs)
more_fields a b c f fs p q =
    q ∙ ap (λ (xs : Fields). xs ++ filter has_text fs) p ∙ append_assoc a (filter has_text (f ∷ [])) (filter has_text fs)
    ∙ ap (λ (xs : Fields). a ++ xs) (sym (filter-append has_text (f ∷ []) fs))

pub more_sections : (a b c : Fields) (fs gs : Fields) → b ≡ a ++ filter has_text fs → c ≡ b ++ filter has_text gs → c ≡ a ++ filter has_text (fs ++ gs)
more_sections a b c fs gs p q =
    q ∙ ap (λ (xs : Fields). xs ++ filter has_text gs) p ∙ append_assoc a (filter has_text fs) (filter has_text gs)
    ∙ ap (λ (xs : Fields). a ++ xs) (sym (filter-append has_text fs gs))

-- one field put after others, by another word for its text
pub field_put : (a b : Fields) (name t u : Text) → b ≡ a ++ filter has_text (field name t ∷ []) → t ≡ u → b ≡ a ++ filter has_text (field name u ∷ [])
field_put a b name t u p e = p ∙ ap (λ (v : Text). a ++ filter has_text (field name v ∷ [])) e

-- three and five fields, one after another
pub three_fields : (a f1 f2 f3 : Fields) (f g h : RecordField) → f1 ≡ a ++ filter has_text (f ∷ []) → f2 ≡ f1 ++ filter has_text (g ∷ []) → f3 ≡ f2 ++ filter has_text (h ∷ []) → f3 ≡ a ++ filter has_text (f ∷ g ∷ h ∷ [])
three_fields a f1 f2 f3 f g h p q r = more_fields a f1 f3 f (g ∷ h ∷ []) p (more_fields f1 f2 f3 g (h ∷ []) q r)

pub five_fields : (a f1 f2 f3 f4 f5 : Fields) (f g h i j : RecordField)
    → f1 ≡ a ++ filter has_text (f ∷ []) → f2 ≡ f1 ++ filter has_text (g ∷ []) → f3 ≡ f2 ++ filter has_text (h ∷ []) → f4 ≡ f3 ++ filter has_text (i ∷ []) → f5 ≡ f4 ++ filter has_text (j ∷ [])
    → f5 ≡ a ++ filter has_text (f ∷ g ∷ h ∷ i ∷ j ∷ [])
five_fields a f1 f2 f3 f4 f5 f g h i j p q r s t = more_fields a f1 f5 f (g ∷ h ∷ i ∷ j ∷ []) p (more_fields f1 f2 f5 g (h ∷ i ∷ j ∷ []) q (three_fields f2 f3 f4 f5 h i j r s t))

-- six lists of fields, one after another
pub six_lists : (a b c d e f l1 l2 l3 l4 l5 l6 : Fields)
    → l1 ≡ filter has_text a → l2 ≡ l1 ++ filter has_text b → l3 ≡ l2 ++ filter has_text c → l4 ≡ l3 ++ filter has_text d → l5 ≡ l4 ++ filter has_text e → l6 ≡ l5 ++ filter has_text f
    → l6 ≡ filter has_text (a ++ (b ++ (c ++ (d ++ (e ++ f)))))
six_lists a b c d e f l1 l2 l3 l4 l5 l6 p1 p2 p3 p4 p5 p6 =
    more_sections [] l1 l6 a (b ++ (c ++ (d ++ (e ++ f)))) p1 (more_sections l1 l2 l6 b (c ++ (d ++ (e ++ f))) p2 (more_sections l2 l3 l6 c (d ++ (e ++ f)) p3
    (more_sections l3 l4 l6 d (e ++ f) p4 (more_sections l4 l5 l6 e f p5 p6))))
