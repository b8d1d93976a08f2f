-- Small texts and lists, and what BibTeX 0.99d and the style `alpha` make of them; each was also run by the program itself.
use Rattle.std.specs.Prelude.{◌≡◌, List, [], ◌∷◌, map, codes}
use Rattle.bib_spec.specs.Text.{Text}
use Rattle.bibtex_labels.specs.Order.{in_order, lettered}
use Rattle.bibtex_labels.specs.Pieces.{text_prefix}
use Rattle.bibtex_labels.specs.Purified.{purified, sortified}
use Rattle.bibtex_labels.specs.declared.ordering.Labelled.{Labelled}

-- braces stay, and are closed; a special character is one text character
pub record PrefixesKeepBraces : Type 0 where
  pub braced : text_prefix 3 (codes "{KNUTH}") ≡ codes "{KNU}"
  pub special : text_prefix 3 (codes "{\\'E}abc") ≡ codes "{\\'E}ab"
  pub below : text_prefix 3 (codes "{{\\'E}abc}") ≡ codes "{{\\'E}}"
  pub short : text_prefix 3 (codes "{ab}") ≡ codes "{ab}"

-- of a special character the foreign letters stay, and what is no command
pub record SignsAreTakenAway : Type 0 where
  pub accent : purified (codes "{\\'E}tude") ≡ codes "Etude"
  pub foreign : purified (codes "{\\AE}on {\\aa}l {\\ss}") ≡ codes "AEon al ss"
  pub command : purified (codes "{\\relax A b}c") ≡ codes "Abc"
  pub separators : purified (codes "a~b--c.d") ≡ codes "a b  cd"
  pub nested : purified (codes "{{\\AE}}") ≡ codes "AE"
  pub sorted : sortified (codes "{\\OE}uvre {X}") ≡ codes "oeuvre x"

-- an entry with this label, sort label, sort key and key
abbrev pub entry : Text → Text → Text → Text → Labelled
entry label sort_label sort_key key = record { label = label; sort_label = sort_label; sort_key = sort_key; key = key }

-- the labels of entries and their keys, in the order of the bibliography
abbrev pub labels_of : List Labelled → List Text
labels_of entries = lettered (in_order entries)

abbrev pub keys_of : List Labelled → List Text
keys_of entries = map (λ e. e.key) (in_order entries)

-- two books by one author in one year, and an entry before them
abbrev pub books : List Labelled
books =
    entry (codes "Knu84") (codes "knu1984") (codes "knu1984    knuth  donald e    1984    b") (codes "k1")
    ∷ entry (codes "Knu84") (codes "knu1984") (codes "knu1984    knuth  donald    1984    a") (codes "k2")
    ∷ entry (codes "abc01") (codes "abc2001") (codes "abc2001        2001    ") (codes "abcd") ∷ []

-- the same with one sort key, and two years that end alike
abbrev pub alike : List Labelled
alike =
    entry (codes "Knu84") (codes "knu1984") (codes "knu1984") (codes "a")
    ∷ entry (codes "{KNU}84") (codes "knu1984") (codes "knu1984") (codes "b")
    ∷ entry (codes "Knu84") (codes "knu1884") (codes "knu1884") (codes "c") ∷ []

-- letters follow the order of the bibliography, and not that of the list
pub record LettersFollowTheOrder : Type 0 where
  pub keys : keys_of books ≡ codes "abcd" ∷ codes "k2" ∷ codes "k1" ∷ []
  pub labels : labels_of books ≡ codes "abc01" ∷ codes "Knu84a" ∷ codes "Knu84b" ∷ []

-- letters are for equal sort labels, and not for equal labels; entries with one sort key stay in their order
pub record LettersAreForSortLabels : Type 0 where
  pub keys : keys_of alike ≡ codes "c" ∷ codes "a" ∷ codes "b" ∷ []
  pub labels : labels_of alike ≡ codes "Knu84" ∷ codes "Knu84a" ∷ codes "{KNU}84b" ∷ []
