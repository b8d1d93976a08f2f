-- The reading of a file stops after the opening delimiter of a command. The text before that command is read again whatever
-- follows, even if names and keys may be longer.
use Rattle.bib_scan.proofs.Words.{◌≡◌, ℕ, zero, suc, ◌+◌, ◌-◌, ◌<◌, ◌≤◌, true, false, List, [], ◌∷◌, ◌++◌, length, take, drop, refl, sym, ap, subst, ◌∙◌, arith, append_assoc, append-nil, inl, inr, Result, Ok, Err, eqb-true, and_parts, length-append, length-drop, take-append-drop, drop_at, All-nil}
use Rattle.bib_scan.proofs.Words.{All-cons, codes, take_while, flat_map, All, Text, is_space, is_type_byte, same, after_run, begins_command, opens_body, IsClean, Head, Delimiter, Tree, open_byte, head_bytes, tree_bytes, IsHead, IsTree, IsOpening, Item, Reading, item_bytes, IsItem, HasReadingWithin}
use Rattle.bib_scan.proofs.Words.{Span, Halt, span, delimiter_of, read_body, read_command, next_command, read_commands, read_all_commands, ◌>>=◌, Next}
use Rattle.bib_scan.proofs.RunLaws.{chosen, not_ok, run_split, run_passes}
use Rattle.bib_scan.proofs.PartLaws.{type_name_from}
use Rattle.bib_scan.proofs.ValueLaws.{space_split}
use Rattle.bib_scan.proofs.CommandLaws.{Typed, IsTyped, EndsName, IsTreeOf, opening, is_opening, typed_bytes, open_is, command_ok, or-second}
use Rattle.bib_scan.proofs.CleanLaws.{next_found, next_again, clean_nil}
use Rattle.bib_scan.proofs.TreeAgainLaws.{Again, head_shape, opened_again, tree_again}
use Rattle.bib_scan.proofs.ReadingLaws.{not_here, ends_more, ends_take, some_bytes, one_turn}
use Rattle.bib_scan.proofs.LongerNames.{longer_tree, longer_item}
use Rattle.bib_scan.proofs.MendLaws.{err_is}

-- the text after the command of this type, given the text after its opening delimiter
abbrev pub inside : ℕ → Text → Delimiter → Text → Result Text Halt
inside limit type_name d s = read_body limit type_name (open_byte d ∷ s)

-- ---- the command in which reading stops

pub record CommandStop (limit : ℕ) (t : Text) (h : Halt) : Type 0 where
  pub before : Text
  pub after : Text
  pub split : t ≡ before ++ after
  pub type_name : Text
  pub delimiter : Delimiter
  pub no_comment : same type_name (codes "comment") ≡ false
  pub stopped : inside limit type_name delimiter after ≡ Err h
  pub again : (m : ℕ) (s : Text) (r : Result Text Halt) → inside m type_name delimiter s ≡ r → Again m (before ++ s) r

opened_stop : (limit : ℕ) (y : Typed) (t s : Text) (h : Halt) → IsTyped y → t ≡ typed_bytes y ++ s → opens_body s ≡ true → same y.head.type_name (codes "comment") ≡ false → read_body limit y.head.type_name s ≡ Err h → CommandStop limit t h
opened_stop limit y t [] h ok shape open_it no_comment is = cc
opened_stop limit y t (b ∷ u) h ok shape open_it no_comment is =
    let same_open = open_is b u open_it in
    let d = delimiter_of b in
    let o = opening y d [] in
    let good : IsOpening o = is_opening y d [] ok (All-nil (λ (x : ℕ). is_space x ≡ true)) in
    let before : Text = typed_bytes y ++ (open_byte d ∷ []) in
    let regroup : (r : Text) → before ++ r ≡ typed_bytes y ++ (open_byte d ∷ r) = λ r. append_assoc (typed_bytes y) (open_byte d ∷ []) r in
    let whole : (r : Text) → typed_bytes y ++ r ≡ 64 ∷ (y.head.space_before_type ++ (y.head.type_name ++ (y.space_before_delimiter ++ r))) = λ r. append_assoc (head_bytes y.head) y.space_before_delimiter r ∙ head_shape y.head (y.space_before_delimiter ++ r) in
    record {
      before = before;
      after = u;
      split = shape ∙ ap (λ (n : ℕ). typed_bytes y ++ (n ∷ u)) (sym same_open) ∙ sym (regroup u);
      type_name = y.head.type_name;
      delimiter = d;
      no_comment = no_comment;
      stopped = ap (λ (n : ℕ). read_body limit y.head.type_name (n ∷ u)) same_open ∙ is;
      again = λ m r result read. opened_again m o (before ++ r) r result good (record { whole = regroup r ∙ whole (open_byte d ∷ r); no_comment = no_comment; read = read });
    }

command_stop : (limit : ℕ) (t : Text) (h : Halt) → begins_command t ≡ true → read_command limit t ≡ Err h → CommandStop limit t h
unfolding begins_command read_command
command_stop limit [] h here is = cc
command_stop limit (b ∷ t) h here is =
    let parts = and_parts _ _ here in
    let signs = and_parts _ _ parts.0 in
    let at : b ≡ 64 = eqb-true b 64 signs.0 in
    let named = after_run is_space t in
    let after = after_run is_type_byte named in
    let head : Head = record { space_before_type = take_while is_space t; type_name = take_while is_type_byte named } in
    let good : IsHead head = record {
      space_before_type = run_passes is_space t;
      type_name = type_name_from head.type_name signs.1 (run_passes is_type_byte named);
    } in
    let start : b ∷ t ≡ head_bytes head ++ after =
    ap (λ (c : ℕ). c ∷ t) at ∙ ap (λ (u : Text). 64 ∷ u) (space_split t ∙ ap (λ (u : Text). head.space_before_type ++ u) (sym (run_split is_type_byte named)))
    ∙ sym (append_assoc (64 ∷ head.space_before_type) head.type_name after) in
    elim (chosen (same head.type_name (codes "comment")) _ _ _ is) [
      | inl comment ↦ absurd (not_ok after h _ comment.1 refl)
      | inr other ↦
          let y : Typed = record { head = head; space_before_delimiter = take_while is_space after } in
          let ok : IsTyped y = record { head = good; space_before_delimiter = run_passes is_space after } in
          let shape : b ∷ t ≡ typed_bytes y ++ after_run is_space after =
          start ∙ ap (λ (u : Text). head_bytes head ++ u) (space_split after) ∙ sym (append_assoc (head_bytes head) y.space_before_delimiter _) in
          opened_stop limit y (b ∷ t) (after_run is_space after) h ok shape (or-second other.0 parts.1) other.0 other.1
    ]

-- ---- the items before it

pub record ItemsStop (limit : ℕ) (t : Text) (h : Halt) : Type 0 where
  pub before : Text
  pub after : Text
  pub split : t ≡ before ++ after
  pub type_name : Text
  pub delimiter : Delimiter
  pub no_comment : same type_name (codes "comment") ≡ false
  pub stopped : inside limit type_name delimiter after ≡ Err h
  pub begins : (s : Text) → begins_command (before ++ s) ≡ true
  pub stops : (m : ℕ) → limit ≤ m → (s : Text) (k : Halt) → inside m type_name delimiter s ≡ Err k → (total n : ℕ) → length (before ++ s) < n → read_commands m total n (before ++ s) ≡ Err k
  pub reads : (m : ℕ) → limit ≤ m → (s : Text) → inside m type_name delimiter s ≡ Ok [] → (items : List Item) × All (IsItem m) items × (before ++ s ≡ flat_map item_bytes items)

stops_now : (m : ℕ) (k : Halt) (u : Text) → Again m u (Err k) → (total n : ℕ) → length u < n → read_commands m total n u ≡ Err k
unfolding read_commands
stops_now m k u again total zero room = absurd (omega arith)
stops_now m k [] again total (suc n) room = absurd (not_here again.begins)
stops_now m k (b ∷ u) again total (suc n) room = rw again.command refl

reads_now : (m : ℕ) (u : Text) → Again m u (Ok []) → (items : List Item) × All (IsItem m) items × (u ≡ flat_map item_bytes items)
reads_now m u again =
    let tree = command_ok m u [] again.begins again.command in
    let i : Item = record { tree = tree.0; trail = [] } in
    let good : IsItem m i = record { tree = tree.1; trail = record { clean = clean_nil; ends_name = tree.3 } } in
    (i ∷ [], All-cons (IsItem m) i [] good (All-nil (IsItem m)), tree.2 ∙ sym (append-nil (tree_bytes tree.0 ++ [])))

stop_here : (limit : ℕ) (t : Text) (h : Halt) → CommandStop limit t h → ItemsStop limit t h
stop_here limit t h at = record {
  before = at.before;
  after = at.after;
  split = at.split;
  type_name = at.type_name;
  delimiter = at.delimiter;
  no_comment = at.no_comment;
  stopped = at.stopped;
  begins = λ s. (at.again limit s (inside limit at.type_name at.delimiter s) refl).begins;
  stops = λ m longer s k is. stops_now m k (at.before ++ s) (at.again m s (Err k) is);
  reads = λ m longer s is. reads_now m (at.before ++ s) (at.again m s (Ok []) is);
}

stops_later : (limit : ℕ) (tree : Tree) (trail next : Text) (k : Halt) → IsTree limit tree → IsClean trail → EndsName tree (trail ++ next) → begins_command next ≡ true → ((total n : ℕ) → length next < n → read_commands limit total n next ≡ Err k) → (total n : ℕ) → length (tree_bytes tree ++ (trail ++ next)) < n → read_commands limit total n (tree_bytes tree ++ (trail ++ next)) ≡ Err k
stops_later limit tree trail next k is clean ends here later total zero room = absurd (omega arith)
stops_later limit tree trail next k is clean ends here later total (suc n) room =
    let again = tree_again limit tree (trail ++ next) is ends in
    let some = some_bytes tree in
    let l1 = length-append (tree_bytes tree) (trail ++ next) in
    let l2 = length-append trail next in
    let len : next_command (trail ++ next) ≡ length trail = next_again trail next clean (inr here) in
    let dropped : drop (next_command (trail ++ next)) (trail ++ next) ≡ next = drop_at trail next _ (sym len) in
    let t : Text = tree_bytes tree ++ (trail ++ next) in
    one_turn limit total n t (trail ++ next) (omega arith) again.command
    ∙ ap (λ (u : Text). read_commands limit total n u >>= λ later_spans. Ok (span (total - length t) (total - length (trail ++ next)) ∷ later_spans)) dropped
    ∙ ap (λ (r : Result (List Span) Halt). r >>= λ later_spans. Ok (span (total - length t) (total - length (trail ++ next)) ∷ later_spans)) (later total n (omega arith))

stop_later : (limit : ℕ) (t rest next : Text) (h : Halt) → IsTreeOf limit t rest → next ≡ drop (next_command rest) rest → ItemsStop limit next h → ItemsStop limit t h
stop_later limit t rest next h tree next_is later =
    let found = next_found rest in
    let trail = take (next_command rest) rest in
    let i : Item = record { tree = tree.0; trail = trail } in
    let ends_trail : EndsName tree.0 trail = ends_take tree.0 (next_command rest) rest tree.3 in
    let good : IsItem limit i = record { tree = tree.1; trail = record { clean = found.clean; ends_name = ends_trail } } in
    let before : Text = item_bytes i ++ later.before in
    let item_whole : (r : Text) → item_bytes i ++ r ≡ tree_bytes tree.0 ++ (trail ++ r) = λ r. append_assoc (tree_bytes tree.0) trail r in
    let whole : (r : Text) → before ++ r ≡ item_bytes i ++ (later.before ++ r) = λ r. append_assoc (item_bytes i) later.before r in
    let ends : (s : Text) → EndsName tree.0 (trail ++ (later.before ++ s)) = λ s. ends_more tree.0 trail (later.before ++ s) ends_trail (inr (later.begins s)) in
    record {
      before = before;
      after = later.after;
      split = tree.2 ∙ ap (λ (s : Text). tree_bytes tree.0 ++ s) (sym (take-append-drop (next_command rest) rest) ∙ ap (λ (s : Text). trail ++ s) (sym next_is ∙ later.split)) ∙ sym (item_whole (later.before ++ later.after)) ∙ sym (whole later.after);
      type_name = later.type_name;
      delimiter = later.delimiter;
      no_comment = later.no_comment;
      stopped = later.stopped;
      begins = λ s. ap begins_command (whole s ∙ item_whole (later.before ++ s)) ∙ (tree_again limit tree.0 (trail ++ (later.before ++ s)) tree.1 (ends s)).begins;
      stops = λ m longer s k is total n room.
          let shape : before ++ s ≡ tree_bytes tree.0 ++ (trail ++ (later.before ++ s)) = whole s ∙ item_whole (later.before ++ s) in
          ap (read_commands m total n) shape
          ∙ stops_later m tree.0 trail (later.before ++ s) k (longer_tree limit m longer tree.0 tree.1) found.clean (ends s) (later.begins s) (later.stops m longer s k is) total n (subst (λ (u : Text). length u < n) shape room);
      reads = λ m longer s is.
          let rest_items = later.reads m longer s is in
          (i ∷ rest_items.0, All-cons (IsItem m) i rest_items.0 (longer_item limit m longer i good) rest_items.1, whole s ∙ ap (λ (u : Text). item_bytes i ++ u) rest_items.2);
    }

pub fault_before : {A B : Type 0} (m : Result A Halt) (f : A → B) (h : Halt) → (m >>= λ x. Ok (f x)) ≡ Err h → m ≡ Err h
fault_before (Ok x) f h is = absurd (not_ok (f x) h _ is refl)
fault_before (Err k) f h is = let same = err_is k h _ refl is in ap (λ (j : Halt). Err j) same

stop_step : (limit total n : ℕ) (t : Text) (h : Halt) (m : Result Text Halt) → read_command limit t ≡ m → begins_command t ≡ true → ((rest : Text) → read_command limit t ≡ Ok rest → read_commands limit total n (drop (next_command rest) rest) ≡ Err h → ItemsStop limit (drop (next_command rest) rest) h) → (m >>= λ rest. read_commands limit total n (drop (next_command rest) rest) >>= λ later. Ok (span (total - length t) (total - length rest) ∷ later)) ≡ Err h → ItemsStop limit t h
stop_step limit total n t h (Ok rest) read here later e =
    let fault = fault_before (read_commands limit total n (drop (next_command rest) rest)) (λ spans. span (total - length t) (total - length rest) ∷ spans) h e in
    stop_later limit t rest (drop (next_command rest) rest) h (command_ok limit t rest here read) refl (later rest read fault)
stop_step limit total n t h (Err k) read here later e =
    let same : k ≡ h = err_is {A = List Span} k h (Err k) refl e in
    stop_here limit t h (command_stop limit t h here (read ∙ ap (λ (j : Halt). Err j) same))

items_stop : (limit total n : ℕ) (t : Text) (h : Halt) → length t < n → Next t → read_commands limit total n t ≡ Err h → ItemsStop limit t h
unfolding read_commands
items_stop limit total zero t h room next is = absurd (omega arith)
items_stop limit total (suc n) [] h room next is = absurd (not_ok [] h _ is refl)
items_stop limit total (suc n) (b ∷ t) h room next is =
    let here : begins_command (b ∷ t) ≡ true = elim next [ inl none ↦ absurd (omega (arith, ap (length {A = ℕ}) none)) | inr it ↦ it ] in
    stop_step limit total n (b ∷ t) h (read_command limit (b ∷ t)) refl here (λ rest read fault.
    let tree = command_ok limit (b ∷ t) rest here read in
    let some = some_bytes tree.0 in
    let l1 = ap (length {A = ℕ}) tree.2 in
    let l2 = length-append (tree_bytes tree.0) rest in
    let l3 = length-drop (next_command rest) rest in
    items_stop limit total n (drop (next_command rest) rest) h (omega arith) (next_found rest).next fault) is

-- ---- the whole file

pub record FileStop (limit : ℕ) (t : Text) (h : Halt) : Type 0 where
  pub before : Text
  pub after : Text
  pub split : t ≡ before ++ after
  pub type_name : Text
  pub delimiter : Delimiter
  pub no_comment : same type_name (codes "comment") ≡ false
  pub stopped : inside limit type_name delimiter after ≡ Err h
  pub stops : (m : ℕ) → limit ≤ m → (s : Text) (k : Halt) → inside m type_name delimiter s ≡ Err k → read_all_commands m (before ++ s) ≡ Err k
  pub reads : (m : ℕ) → limit ≤ m → (s : Text) → inside m type_name delimiter s ≡ Ok [] → HasReadingWithin m (before ++ s)

pub file_stop : (limit : ℕ) (t : Text) (h : Halt) → read_all_commands limit t ≡ Err h → FileStop limit t h
file_stop limit t h is =
    let k = next_command t in
    let found = next_found t in
    let l = length-drop k t in
    let at = items_stop limit (length t) (length t + 1) (drop k t) h (omega arith) found.next is in
    let front = take k t in
    let whole : (r : Text) → (front ++ at.before) ++ r ≡ front ++ (at.before ++ r) = λ r. append_assoc front at.before r in
    record {
      before = front ++ at.before;
      after = at.after;
      split = sym (take-append-drop k t) ∙ ap (λ (s : Text). front ++ s) at.split ∙ sym (whole at.after);
      type_name = at.type_name;
      delimiter = at.delimiter;
      no_comment = at.no_comment;
      stopped = at.stopped;
      stops = λ m longer s g read.
          let new : Text = at.before ++ s in
          let len : next_command (front ++ new) ≡ length front = next_again front new found.clean (inr (at.begins s)) in
          let dropped : drop (next_command (front ++ new)) (front ++ new) ≡ new = drop_at front new _ (sym len) in
          let u : Text = front ++ new in
          let l2 = length-append front new in
          ap (read_all_commands m) (whole s) ∙ ap (read_commands m (length u) (length u + 1)) dropped ∙ at.stops m longer s g read (length u) (length u + 1) (omega arith);
      reads = λ m longer s read.
          let items = at.reads m longer s read in
          let db : Reading = record { front = front; items = items.0 } in
          (db, record { bytes = ap (λ (u : Text). front ++ u) (sym items.2) ∙ sym (whole s); front = found.clean; items = items.1 });
    }
