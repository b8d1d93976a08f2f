-- A text that is not taken apart into parts is not read as one value.
use Rattle.bib_scan.proofs.Words.{◌≡◌, ℕ, zero, suc, ◌+◌, ◌-◌, ◌≤◌, List, [], ◌∷◌, ◌++◌, length, refl, ap, subst, arith, Option, None, Some, Ok, Err, length-append, ExpectedCommaOrClose, Text, is_space, after_run, Part, Halt, Read, expected, read_part, past_hash, go_on, read_links, nothing_after}
use Rattle.bib_scan.proofs.Words.{read_whole_value, ◌>>=◌, read_link, unless_end, part_span, read_parts, read_all_parts, PartSpan}
use Rattle.bib_scan.proofs.RunLaws.{not_ok}
use Rattle.bib_scan.proofs.MendLaws.{err_is}
use Rattle.bib_scan.proofs.PartLaws.{part_len}
use Rattle.bib_scan.proofs.StopLaws.{fault_before}
use Rattle.bib_scan.proofs.TakenApart.{link_found}

-- a text that is refused after a part is refused as the rest of one value, with the same fault
abbrev RefusedAfter : ℕ → ℕ → ℕ → Halt → Type 0
RefusedAfter limit total n h =
    (m : ℕ) (t : Text) → length t ≤ n → length t ≤ m → unless_end (read_link t >>= read_parts limit total n) t ≡ Err h → (read_links limit m t >>= nothing_after) ≡ Err h

-- a part and the text after it, if links are read for `turns` turns
refused_part : (limit total n : ℕ) (turns : Part × Text → ℕ) (t : Text) (h : Halt) (read : Read Part) → read_part limit t ≡ read → RefusedAfter limit total n h → length t ≤ n → ((p : Part × Text) → length p.1 ≤ length t → length p.1 ≤ turns p) → (read >>= λ first. unless_end (read_link first.1 >>= read_parts limit total n) first.1 >>= λ later. Ok (part_span first.0 (total - length t) (total - length first.1) ∷ later)) ≡ Err h → ((read >>= λ p. read_links limit (turns p) p.1) >>= nothing_after) ≡ Err h
refused_part limit total n turns t h (Err k) read after ln room is =
    let same : k ≡ h = err_is {A = List PartSpan} k h (Err k) refl is in
    ap (λ (j : Halt). Err j) same
refused_part limit total n turns t h (Ok p) read after ln room is =
    let short = part_len limit t p read in
    let fault = fault_before (unless_end (read_link p.1 >>= read_parts limit total n) p.1) (λ later. part_span p.0 (total - length t) (total - length p.1) ∷ later) h is in
    after (turns p) p.1 (omega arith) (room p short) fault

refused_parts : (limit total n : ℕ) (turns : Part × Text → ℕ) (t : Text) (h : Halt) → RefusedAfter limit total n h → length t ≤ n → ((p : Part × Text) → length p.1 ≤ length t → length p.1 ≤ turns p) → read_parts limit total (suc n) t ≡ Err h → ((read_part limit t >>= λ p. read_links limit (turns p) p.1) >>= nothing_after) ≡ Err h
unfolding read_parts
refused_parts limit total n turns t h after ln room is = refused_part limit total n turns t h (read_part limit t) refl after ln room is

-- a link and the text after it
refused_link : (limit total n m b : ℕ) (t : Text) (h : Halt) (o : Option Text) → past_hash (after_run is_space (b ∷ t)) ≡ o → RefusedAfter limit total n h → length t ≤ n → length t ≤ m → (go_on (Err (expected ExpectedCommaOrClose (after_run is_space (b ∷ t)))) Ok o >>= read_parts limit total (suc n)) ≡ Err h → (go_on (Ok (b ∷ t)) (λ u. read_part limit u >>= λ p. read_links limit m p.1) o >>= nothing_after) ≡ Err h
refused_link limit total n m b t h None o_is after ln lm is =
    let same : expected ExpectedCommaOrClose (after_run is_space (b ∷ t)) ≡ h = err_is {A = List PartSpan} (expected ExpectedCommaOrClose (after_run is_space (b ∷ t))) h _ refl is in
    ap (λ (j : Halt). Err j) same
refused_link limit total n m b t h (Some u) o_is after ln lm is =
    let link = link_found (b ∷ t) u (Some u) o_is refl in
    let short : length u ≤ length t = omega (arith, ap (length {A = ℕ}) link.4, length-append link.0 (35 ∷ link.1 ++ u), length-append link.1 u) in
    refused_parts limit total n (λ p. m) u h after (omega arith) (λ p le. omega arith) is

refused_after : (limit total n : ℕ) (h : Halt) → RefusedAfter limit total n h
unfolding read_links
refused_after limit total n h m [] ln lm is = absurd (not_ok {A = List PartSpan} [] h _ is refl)
refused_after limit total zero h m (b ∷ t) ln lm is = absurd (omega arith)
refused_after limit total (suc n) h zero (b ∷ t) ln lm is = absurd (omega arith)
refused_after limit total (suc n) h (suc m) (b ∷ t) ln lm is =
    refused_link limit total n m b t h (past_hash (after_run is_space (b ∷ t))) refl (refused_after limit total n h) (omega arith) (omega arith) is

pub refused_whole : (limit : ℕ) (t : Text) (h : Halt) → read_all_parts limit t ≡ Err h → read_whole_value limit t ≡ Err h
refused_whole limit t h is =
    let turns : length t + 1 ≡ suc (length t) = omega arith in
    refused_parts limit (length t) (length t) (λ p. length p.1) t h (refused_after limit (length t) (length t) h) (omega arith) (λ p le. omega arith) (subst (λ (n : ℕ). read_parts limit (length t) n t ≡ Err h) turns is)
