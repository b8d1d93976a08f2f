-- Steps of the reader of values.
use Rattle.bib_scan.proofs.Words.{◌≡◌, ℕ, zero, suc, ◌-◌, ◌<◌, ◌≤◌, length, take, refl, ap, ◌∙◌, arith, Ok, Err, None, Some, Text, after_run, is_space, Part, Halt, read_part, past_hash, read_links, read_value}
use Rattle.bib_scan.proofs.ScanInvariant.{LeadsOn}

pub links_more : (limit n : ℕ) (rest next : Text) (p : Part × Text) → 0 < n → Some next ≡ past_hash (after_run is_space rest) → read_part limit next ≡ Ok p → read_links limit n rest ≡ read_links limit (n - 1) p.1
unfolding read_links
links_more limit zero rest next p some is read = absurd (omega arith)
links_more limit (suc n) rest next p some is read = rw (← is, read) (ap (λ (m : ℕ). read_links limit m p.1) (omega arith))

pub links_fault : (limit n : ℕ) (rest next : Text) (h : Halt) → 0 < n → Some next ≡ past_hash (after_run is_space rest) → read_part limit next ≡ Err h → read_links limit n rest ≡ Err h
unfolding read_links
links_fault limit zero rest next h some is read = absurd (omega arith)
links_fault limit (suc n) rest next h some is read = rw (← is, read) refl

pub links_end : (limit n : ℕ) (rest : Text) → None ≡ past_hash (after_run is_space rest) → read_links limit n rest ≡ Ok rest
unfolding read_links
links_end limit zero rest is = refl
links_end limit (suc n) rest is = rw (← is) refl

pub leads_on : (limit : ℕ) (t rest next : Text) (p : Part × Text) → LeadsOn limit t rest → length next < length rest → length p.1 < length next → Some next ≡ past_hash (after_run is_space rest) → read_part limit next ≡ Ok p → LeadsOn limit t p.1
leads_on limit t rest next p on shorter less is read =
    let n = on.read.0 in
    let room : length rest ≤ n = on.read.1 in
    record {
      shorter = omega (arith, on.shorter);
      read = (n - 1, omega arith, on.read.2 ∙ links_more limit n rest next p (omega arith) is read);
    }

pub value_fault : (limit : ℕ) (t rest next : Text) (h : Halt) → LeadsOn limit t rest → length next < length rest → Some next ≡ past_hash (after_run is_space rest) → read_part limit next ≡ Err h → read_value limit t ≡ Err h
value_fault limit t rest next h on shorter is read =
    let n = on.read.0 in
    let room : length rest ≤ n = on.read.1 in
    rw (on.read.2 ∙ links_fault limit n rest next h (omega arith) is read) refl

pub value_end : (limit : ℕ) (t rest : Text) → LeadsOn limit t rest → None ≡ past_hash (after_run is_space rest) → read_value limit t ≡ Ok (take (length t - length rest) t, rest)
value_end limit t rest on is = rw (on.read.2 ∙ links_end limit on.read.0 rest is) refl
