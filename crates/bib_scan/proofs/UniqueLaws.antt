-- No text has two readings: values and rows.
use Rattle.bib_scan.proofs.Words.{◌≡◌, ℕ, Bool, true, eqb, List, [], ◌∷◌, ◌++◌, refl, sym, ap, subst, ◌∙◌, append_assoc, Option, None, Some, both_ways, not_from_false, All-head, All-tail, none-some, AllPass, take_while, flat_map, All, Text, is_space, is_name_byte, does_not_begin_with, after_run}
use Rattle.bib_scan.proofs.Words.{Part, Link, Value, Row, part_bytes, link_bytes, value_bytes, row_bytes, IsSpace, IsPart, IsLink, IsValue, IsRow, IsLastComma, past_hash, past_byte, read_part}
use Rattle.bib_scan.proofs.RunLaws.{run_front, run_rest, ok_same}
use Rattle.bib_scan.proofs.PartLaws.{AfterPart, part_again, name_parts}
use Rattle.bib_scan.proofs.ValueLaws.{Stands, skip_space}
use Rattle.bib_scan.proofs.RowLaws.{assignment_inside, row_inside, row_shape}
use Rattle.bib_scan.proofs.AgainLaws.{EndsRow, equals_breaks, after_space, links_after, name_stands, part_stands, hash_stands, equals_stands, value_stands, no_link, Close, closed_here, name_not_closed, rows_inside, rows_begin}

pub run_unique : (test : ℕ → Bool) (u v r q : Text) → AllPass test u → AllPass test v → does_not_begin_with test r ≡ true → does_not_begin_with test q ≡ true → u ++ r ≡ v ++ q → (u ≡ v) × (r ≡ q)
run_unique test u v r q a b ra qa e = (
  sym (run_front test u r a ra) ∙ ap (take_while test) e ∙ run_front test v q b qa,
  sym (run_rest test u r a ra) ∙ ap (after_run test) e ∙ run_rest test v q b qa,
)

pub tail_same : (a b : ℕ) (t u : Text) → a ∷ t ≡ b ∷ u → t ≡ u
tail_same a b t u e = cc

pub part_unique : (limit : ℕ) (p q : Part) (r s : Text) → IsPart limit p → IsPart limit q → AfterPart r → AfterPart s → part_bytes p ++ r ≡ part_bytes q ++ s → (p ≡ q) × (r ≡ s)
part_unique limit p q r s ip iq ar as' e =
    let pair : (p, r) ≡ (q, s) = ok_same (p, r) (q, s) (read_part limit (part_bytes p ++ r)) (part_again limit p r ip ar) (ap (read_part limit) e ∙ part_again limit q s iq as') in
    (ap (λ (x : Part × Text). x.0) pair, ap (λ (x : Part × Text). x.1) pair)

-- the texts that may follow a value
pub record AfterValue (r : Text) : Type 0 where
  pub part : AfterPart r
  pub no_hash : past_hash (after_run is_space r) ≡ None

link_shape : (l : Link) (u : Text) → link_bytes l ++ u ≡ l.space_before_hash ++ (35 ∷ (l.space_after_hash ++ (part_bytes l.part ++ u)))
link_shape l u = append_assoc (l.space_before_hash ++ 35 ∷ l.space_after_hash) (part_bytes l.part) u ∙ append_assoc l.space_before_hash (35 ∷ l.space_after_hash) (part_bytes l.part ++ u)

links_shape : (l : Link) (ls : List Link) (r : Text) → flat_map link_bytes (l ∷ ls) ++ r ≡ l.space_before_hash ++ (35 ∷ (l.space_after_hash ++ (part_bytes l.part ++ (flat_map link_bytes ls ++ r))))
links_shape l ls r = append_assoc (link_bytes l) (flat_map link_bytes ls) r ∙ link_shape l (flat_map link_bytes ls ++ r)

-- a text that begins with a link continues a value
no_end : (limit : ℕ) (l : Link) (ls : List Link) (r s : Text) → IsLink limit l → AfterValue r → r ≡ flat_map link_bytes (l ∷ ls) ++ s → ⊥
no_end limit l ls r s ok after e =
    let u : Text = l.space_after_hash ++ (part_bytes l.part ++ (flat_map link_bytes ls ++ s)) in
    let found : past_hash (after_run is_space r) ≡ Some (after_run is_space u) = ap (λ (t : Text). past_hash (after_run is_space t)) (e ∙ links_shape l ls s) ∙ ap past_hash (skip_space l.space_before_hash (35 ∷ u) ok.space_before_hash (hash_stands u)) in
    none-some (after_run is_space u) (sym after.no_hash ∙ found)

pub links_unique : (limit : ℕ) (ls ms : List Link) (r s : Text) → All (IsLink limit) ls → All (IsLink limit) ms → AfterValue r → AfterValue s → flat_map link_bytes ls ++ r ≡ flat_map link_bytes ms ++ s → (ls ≡ ms) × (r ≡ s)
links_unique limit [] [] r s al am ar as' e = (refl, e)
links_unique limit [] (m ∷ ms) r s al am ar as' e = absurd (no_end limit m ms r s (All-head (IsLink limit) m ms am) ar e)
links_unique limit (l ∷ ls) [] r s al am ar as' e = absurd (no_end limit l ls s r (All-head (IsLink limit) l ls al) as' (sym e))
links_unique limit (l ∷ ls) (m ∷ ms) r s al am ar as' e =
    let ol = All-head (IsLink limit) l ls al in
    let om = All-head (IsLink limit) m ms am in
    let lr : Text = flat_map link_bytes ls ++ r in
    let ms' : Text = flat_map link_bytes ms ++ s in
    let lu : Text = l.space_after_hash ++ (part_bytes l.part ++ lr) in
    let mu : Text = m.space_after_hash ++ (part_bytes m.part ++ ms') in
    let one = run_unique is_space l.space_before_hash m.space_before_hash (35 ∷ lu) (35 ∷ mu) ol.space_before_hash om.space_before_hash (hash_stands lu) (hash_stands mu) (sym (links_shape l ls r) ∙ e ∙ links_shape m ms s) in
    let two = run_unique is_space l.space_after_hash m.space_after_hash (part_bytes l.part ++ lr) (part_bytes m.part ++ ms') ol.space_after_hash om.space_after_hash (part_stands limit l.part lr ol.part) (part_stands limit m.part ms' om.part) (tail_same 35 35 lu mu one.1) in
    let three = part_unique limit l.part m.part lr ms' ol.part om.part (links_after limit ls r (All-tail (IsLink limit) l ls al) ar.part) (links_after limit ms s (All-tail (IsLink limit) m ms am) as'.part) two.1 in
    let later = links_unique limit ls ms r s (All-tail (IsLink limit) l ls al) (All-tail (IsLink limit) m ms am) ar as' three.1 in
    let first : l ≡ m = λ i. record { space_before_hash = one.0 i; space_after_hash = two.0 i; part = three.0 i } in
    ((λ i. first i ∷ later.0 i), later.1)

pub value_unique : (limit : ℕ) (v w : Value) (r s : Text) → IsValue limit v → IsValue limit w → AfterValue r → AfterValue s → value_bytes v ++ r ≡ value_bytes w ++ s → (v ≡ w) × (r ≡ s)
value_unique limit v w r s iv iw ar as' e =
    let vr : Text = flat_map link_bytes v.links ++ r in
    let ws : Text = flat_map link_bytes w.links ++ s in
    let one = part_unique limit v.first w.first vr ws iv.first iw.first (links_after limit v.links r iv.links ar.part) (links_after limit w.links s iw.links as'.part) (sym (append_assoc (part_bytes v.first) (flat_map link_bytes v.links) r) ∙ e ∙ append_assoc (part_bytes w.first) (flat_map link_bytes w.links) s) in
    let two = links_unique limit v.links w.links r s iv.links iw.links ar as' one.1 in
    ((λ i. record { first = one.0 i; links = two.0 i }), two.1)

-- the texts that may follow a row
pub record AfterRow (r : Text) : Type 0 where
  pub first : ℕ
  pub others : Text
  pub ends : EndsRow first
  pub is : r ≡ first ∷ others

pub after_row_stands : (r : Text) → AfterRow r → Stands r
after_row_stands r a = subst Stands (sym a.is) (not_from_false _ a.ends.no_space)

pub after_value : (b r : Text) → IsSpace b → AfterRow r → AfterValue (b ++ r)
after_value b r space a = subst (λ (u : Text). AfterValue (b ++ u)) (sym a.is) (record { part = after_space b a.first a.others space a.ends.breaks; no_hash = no_link b a.first a.others space a.ends })

pub row_unique : (limit : ℕ) (r q : Row) (x y : Text) → IsRow limit r → IsRow limit q → AfterRow x → AfterRow y → row_inside r x ≡ row_inside q y → (r ≡ q) × (x ≡ y)
row_unique limit r q x y ir iq ax ay e =
    let r6 : Text = r.assignment.space_after ++ x in
    let q6 : Text = q.assignment.space_after ++ y in
    let r5 : Text = r.assignment.space_before_value ++ (value_bytes r.assignment.value ++ r6) in
    let q5 : Text = q.assignment.space_before_value ++ (value_bytes q.assignment.value ++ q6) in
    let r3 : Text = r.assignment.space_before_equals ++ (61 ∷ r5) in
    let q3 : Text = q.assignment.space_before_equals ++ (61 ∷ q5) in
    let nr = name_parts limit r.assignment.name ir.assignment.name in
    let nq = name_parts limit q.assignment.name iq.assignment.name in
    let e1 = run_unique is_space r.space_before_name q.space_before_name (r.assignment.name ++ r3) (q.assignment.name ++ q3) ir.space_before_name iq.space_before_name (name_stands limit r.assignment.name r3 ir.assignment.name) (name_stands limit q.assignment.name q3 iq.assignment.name) e in
    let e2 = run_unique is_name_byte r.assignment.name q.assignment.name r3 q3 nr.bytes nq.bytes (after_space r.assignment.space_before_equals 61 r5 ir.assignment.space_before_equals equals_breaks).name (after_space q.assignment.space_before_equals 61 q5 iq.assignment.space_before_equals equals_breaks).name e1.1 in
    let e3 = run_unique is_space r.assignment.space_before_equals q.assignment.space_before_equals (61 ∷ r5) (61 ∷ q5) ir.assignment.space_before_equals iq.assignment.space_before_equals (equals_stands r5) (equals_stands q5) e2.1 in
    let e4 = run_unique is_space r.assignment.space_before_value q.assignment.space_before_value (value_bytes r.assignment.value ++ r6) (value_bytes q.assignment.value ++ q6) ir.assignment.space_before_value iq.assignment.space_before_value (value_stands limit r.assignment.value r6 ir.assignment.value) (value_stands limit q.assignment.value q6 iq.assignment.value) (tail_same 61 61 r5 q5 e3.1) in
    let e5 = value_unique limit r.assignment.value q.assignment.value r6 q6 ir.assignment.value iq.assignment.value (after_value r.assignment.space_after x ir.assignment.space_after ax) (after_value q.assignment.space_after y iq.assignment.space_after ay) e4.1 in
    let e6 = run_unique is_space r.assignment.space_after q.assignment.space_after x y ir.assignment.space_after iq.assignment.space_after (after_row_stands x ax) (after_row_stands y ay) e5.1 in
    ((λ i. record { space_before_name = e1.0 i; assignment = record { name = e2.0 i; space_before_equals = e3.0 i; space_before_value = e4.0 i; value = e5.0 i; space_after = e6.0 i } }), e6.1)

-- ---- rows

comma_close : (c : ℕ) (t u : Text) → Close c → 44 ∷ t ≡ c ∷ u → ⊥
comma_close c t u close e =
    let same : 44 ≡ c = cc in
    both_ways (eqb 44 c) close.no_comma (subst (λ (n : ℕ). eqb 44 n ≡ true) same refl)

rows_shape : (c : ℕ) (r : Row) (rs : List Row) (tail : Option Text) (x : Text) → rows_inside c (r ∷ rs) tail x ≡ 44 ∷ row_inside r (rows_inside c rs tail x)
rows_shape c r rs tail x = append_assoc (row_bytes r) (flat_map row_bytes rs) _ ∙ row_shape r (rows_inside c rs tail x)

-- no row follows the last comma
no_row : (limit c : ℕ) (s : Text) (x : Text) (r : Row) (u : Text) → Close c → IsSpace s → IsRow limit r → s ++ c ∷ x ≡ row_inside r u → ⊥
no_row limit c s x r u close space ok e =
    let named : Text = assignment_inside r.assignment u in
    let one = run_unique is_space s r.space_before_name (c ∷ x) named space ok.space_before_name (not_from_false _ close.ends.no_space) (name_stands limit r.assignment.name _ ok.assignment.name) e in
    none-some x (sym (name_not_closed limit c r.assignment.name _ close ok.assignment.name) ∙ ap (past_byte c) (sym one.1) ∙ closed_here c x)

pub after_rows : (c : ℕ) (rs : List Row) (tail : Option Text) (x : Text) → Close c → AfterRow (rows_inside c rs tail x)
after_rows c rs tail x close = let b = rows_begin c rs tail x close in record { first = b.0; others = b.1; ends = b.2; is = b.3 }

pub rows_unique : (limit c : ℕ) (rs qs : List Row) (t u : Option Text) (x y : Text) → Close c → All (IsRow limit) rs → All (IsRow limit) qs → IsLastComma t → IsLastComma u → rows_inside c rs t x ≡ rows_inside c qs u y → (rs ≡ qs) × (t ≡ u) × (x ≡ y)
rows_unique limit c [] [] None None x y close ar aq st su e = (refl, refl, tail_same c c x y e)
rows_unique limit c [] [] None (Some s) x y close ar aq st su e = absurd (comma_close c _ x close (sym e))
rows_unique limit c [] [] (Some s) None x y close ar aq st su e = absurd (comma_close c _ y close e)
rows_unique limit c [] [] (Some s) (Some s') x y close ar aq st su e =
    let one = run_unique is_space s s' (c ∷ x) (c ∷ y) st su (not_from_false _ close.ends.no_space) (not_from_false _ close.ends.no_space) (tail_same 44 44 _ _ e) in
    (refl, (λ i. Some (one.0 i)), tail_same c c x y one.1)
rows_unique limit c [] (q ∷ qs) None u x y close ar aq st su e = absurd (comma_close c _ x close (sym (e ∙ rows_shape c q qs u y)))
rows_unique limit c [] (q ∷ qs) (Some s) u x y close ar aq st su e = absurd (no_row limit c s x q (rows_inside c qs u y) close st (All-head (IsRow limit) q qs aq) (tail_same 44 44 _ _ (e ∙ rows_shape c q qs u y)))
rows_unique limit c (r ∷ rs) [] t None x y close ar aq st su e = absurd (comma_close c _ y close (sym (rows_shape c r rs t x) ∙ e))
rows_unique limit c (r ∷ rs) [] t (Some s) x y close ar aq st su e = absurd (no_row limit c s y r (rows_inside c rs t x) close su (All-head (IsRow limit) r rs ar) (tail_same 44 44 _ _ (sym e ∙ rows_shape c r rs t x)))
rows_unique limit c (r ∷ rs) (q ∷ qs) t u x y close ar aq st su e =
    let one = row_unique limit r q (rows_inside c rs t x) (rows_inside c qs u y) (All-head (IsRow limit) r rs ar) (All-head (IsRow limit) q qs aq) (after_rows c rs t x close) (after_rows c qs u y close) (tail_same 44 44 _ _ (sym (rows_shape c r rs t x) ∙ e ∙ rows_shape c q qs u y)) in
    let later = rows_unique limit c rs qs t u x y close (All-tail (IsRow limit) r rs ar) (All-tail (IsRow limit) q qs aq) st su one.1 in
    ((λ i. one.0 i ∷ later.0 i), later.1, later.2)
