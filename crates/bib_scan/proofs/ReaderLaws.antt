-- One more item: what was read is an item of the file's reading.
use Rattle.bib_scan.proofs.Words.{◌≡◌, ℕ, ◌-◌, ◌<◌, List, [], ◌∷◌, ◌++◌, length, get_or, take, drop, refl, sym, ap, subst, ◌∙◌, arith, append_assoc, inl, inr, true, Option, Some, Result, Ok, length-append, take_at, drop_at, slice_get-get_or, slice_get_within, same_Some, get_or_from_slice_get}
use Rattle.bib_scan.proofs.Words.{name_limit, Text, begins_command, tree_bytes, Item, Span, EntryHead, Note, span_of, places_of, Halt, span, read_command, next_command, read_commands, read_all_commands, read_entry_head, note_from, read_note, IsItemOf, AreAllOf, CommandsOn, NotedOn}
use Rattle.std.proofs.Common.{slice_get}
use Rattle.std.proofs.Math.Seq.{get_or-append_seam}
use Rattle.bib_scan.specs.Note.{IsNoteOf}
use Rattle.bib_scan.proofs.CommandLaws.{IsTreeOf, command_ok}
use Rattle.bib_scan.proofs.LayoutLaws.{any_item, length-places, span_at}
use Rattle.bib_scan.proofs.LayoutLaws.{body_is as body_is_there}
use Rattle.bib_scan.proofs.LayoutLemmas.{commands_more, commands_end}
use Rattle.bib_scan.proofs.NoteLaws.{note_again, same_note}
use Rattle.bib_scan.proofs.ReadingLaws.{reading_again}
use Rattle.bib_scan.proofs.RunLaws.{bind_ok, ok_same}

-- an element after others
after_others : {X : Type 0} (xs ys : List X) (x : X) → slice_get (xs ++ x ∷ ys) (length xs) ≡ Some x
after_others xs ys x = slice_get-get_or (xs ++ x ∷ ys) (length xs) x (omega (arith, length-append xs (x ∷ ys))) ∙ ap Some (get_or-append_seam xs x ys x)

-- nothing is left
pub all_here : (file rest : Text) (spans : List Span) → CommandsOn name_limit file rest spans → length rest ≡ 0 → AreAllOf file (length spans)
all_here file rest spans on none db reads =
    let same : (places_of db).items ≡ spans = ok_same (places_of db).items spans (read_all_commands name_limit file) (reading_again name_limit file db reads).0 (commands_end name_limit file rest spans on none) in
    sym (length-places db) ∙ ap (length {A = Span}) same

-- the item at the front of `rest`, and how far the file was read
module _ (file rest after : Text) (spans : List Span) (notes : List Note) (on : CommandsOn name_limit file rest spans) (noted : NotedOn file rest spans notes)
    (some : 0 < length rest) (read : read_command name_limit rest ≡ Ok after) where
  here : IsTreeOf name_limit rest after
  here =
      let begins : begins_command rest ≡ true = elim noted.next [ inl none ↦ absurd (omega (arith, some, ap (length {A = ℕ}) none)) | inr it ↦ it ] in
      command_ok name_limit rest after begins read

  body_here : take (length rest - length after) rest ≡ tree_bytes here.0
  body_here =
      let l = ap (length {A = ℕ}) here.2 in
      let len : length (tree_bytes here.0) ≡ length rest - length after = omega (arith, l, length-append (tree_bytes here.0) after) in
      ap (take (length rest - length after)) here.2 ∙ take_at (tree_bytes here.0) after _ len

  pub note_here : (body : Text) (n : Note) (o : Option EntryHead) → body ≡ take (length rest - length after) rest → o ≡ read_entry_head rest → n ≡ note_from (length rest) o → IsNoteOf body n
  note_here body n o body_is head is u good same =
      let noted_so : n ≡ read_note rest = is ∙ ap (note_from (length rest)) head in
      noted_so ∙ ap read_note here.2 ∙ note_again here.0 after here.1 here.3 ∙ same_note here.0 u here.1 good (sym body_here ∙ sym body_is ∙ sym same)

  -- after that item
  module _ (next : Text) (s : Span) (shorter : length after < length rest) (next_is : next ≡ drop (next_command after) after) (s_is : s ≡ span (length file - length rest) (length file - length after)) where
    more : CommandsOn name_limit file next (spans ++ s ∷ [])
    more = subst (λ (x : Span). CommandsOn name_limit file next (spans ++ x ∷ [])) (sym s_is) (commands_more name_limit file rest after next spans on read shorter next_is)

    pub item_here : (body : Text) → body ≡ take (length rest - length after) rest → IsItemOf file (length spans) body s.start
    item_here body body_is db reads =
        let n = length spans in
        let all : List Span = (places_of db).items in
        let whole = sym more.read.2 ∙ (reading_again name_limit file db reads).0 in
        let later = bind_ok (read_commands name_limit (length file) more.read.0 next) _ all whole in
        let parts : all ≡ (spans ++ s ∷ []) ++ later.0 = sym (same_ok _ _ later.2) in
        let listed : slice_get all n ≡ Some s = ap (λ (l : List Span). slice_get l n) (parts ∙ append_assoc spans (s ∷ []) later.0) ∙ after_others spans later.0 s in
        let within = slice_get_within all n s listed in
        let low : n < length db.items = omega (arith, within, length-places db) in
        let i : Item = get_or db.items n any_item in
        let at : slice_get db.items n ≡ Some i = slice_get-get_or db.items n any_item low in
        let is_span : s ≡ span_of db (n, i) = same_Some s _ (sym listed ∙ span_at db n low) in
        let front : length on_front ≡ s.start = omega (arith, ap (λ (x : Span). x.start) s_is, ap (length {A = ℕ}) noted.split, length-append noted.front rest) in
        let begins : drop s.start file ≡ rest = ap (drop s.start) noted.split ∙ drop_at noted.front rest s.start front in
        let len : s.end - s.start ≡ length rest - length after = omega (arith, ap (λ (x : Span). x.start) s_is, ap (λ (x : Span). x.end) s_is, on.shorter, shorter) in
        let bytes = body_is_there file (places_of db) n s db i (db, reads, refl) within (sym (get_or_from_slice_get all n s s listed)) reads at in
        record {
          it = i;
          at = at;
          bytes = sym bytes ∙ ap (λ (t : Text). take (s.end - s.start) t) begins ∙ ap (λ (m : ℕ). take m rest) len ∙ sym body_is;
          place = ap (λ (x : Span). x.start) is_span;
        }
      where
        on_front : Text
        on_front = noted.front

        read_as : Result (List Span) Halt → List Span → Type 0
        read_as r u = r ≡ Ok u

        same_ok : (u v : List Span) → read_as (Ok u) v → u ≡ v
        same_ok u v is = ok_same u v (Ok u) refl is
