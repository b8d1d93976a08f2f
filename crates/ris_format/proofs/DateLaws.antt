-- A date of the profile is read back.
use Rattle.ris_format.proofs.Words.{◌≡◌, ℕ, suc, ◌+◌, true, false, cond, ◌&&◌, ◌||◌, [], ◌∷◌, ◌++◌, take, drop, refl, sym, ap, subst, ◌∙◌, arith, ⊎_elim, find, Some, prefix_len, list_any, AllByRecursion, option_map_or, bytes_eq, cases_Bool, or_parts, cond-false, Text, is_space, after_run, is_empty}
use Rattle.ris_format.proofs.Words.{eq-true, trimmed, neat, has_bytes, Month, has_slash, written_year, written_month, date_value, written_date, read_year, read_month}
use Rattle.std.proofs.Common.{not, List}
use Rattle.std.specs.Prelude.{codes, is_some}
use Rattle.ris_format.specs.Dates.{month, months, is_slash, is_no_slash, month_digits, date_values, before_slash, after_slash, numbers_month, is_plain_month}
use Rattle.ris_format.proofs.Neat.{neat-append}
use Rattle.ris_format.proofs.Trims.{trimmed-neat, after_run-yes, after_run-no}
use Rattle.ris_format.proofs.Values.{first, are_neat}

-- ---- cutting at the first slash

before-yes : (b : ℕ) (t : Text) → is_no_slash b ≡ true → before_slash (b ∷ t) ≡ b ∷ before_slash t
before-yes b t h =
    let e : 1 + prefix_len is_no_slash t ≡ suc (prefix_len is_no_slash t) = omega arith in
    ap (λ c. take (cond c (1 + prefix_len is_no_slash t) 0) (b ∷ t)) h ∙ ap (λ n. take n (b ∷ t)) e

before-is : (y z : Text) → has_slash y ≡ false → before_slash (y ++ (47 ∷ z)) ≡ y
before-is [] z h = refl
before-is (b ∷ y) z h =
    let p = or_parts (is_slash b) (has_slash y) h in
    before-yes b (y ++ (47 ∷ z)) (ap not p.0) ∙ ap (λ (u : Text). b ∷ u) (before-is y z p.1)

run-is : (y z : Text) → has_slash y ≡ false → after_run is_no_slash (y ++ (47 ∷ z)) ≡ 47 ∷ z
run-is [] z h = after_run-no is_no_slash 47 z refl
run-is (b ∷ y) z h =
    let p = or_parts (is_slash b) (has_slash y) h in
    after_run-yes is_no_slash b (y ++ (47 ∷ z)) (ap not p.0) ∙ run-is y z p.1

after-is : (y z : Text) → has_slash y ≡ false → after_slash (y ++ (47 ∷ z)) ≡ z
after-is y z h = ap (λ (u : Text). drop 1 u) (run-is y z h)

-- ---- the twelve months

-- the month is written as its number, and that number is read as the month
pub record IsMonth (m : Month) : Type 0 where
  pub written : month_digits m.name ≡ Some m.digits
  pub numbered : option_map_or (λ (n : Month). n.name) (find (numbers_month (trimmed m.digits)) months) [] ≡ m.name
  pub plain : has_slash m.digits ≡ false
  pub some : is_empty m.digits ≡ false
  pub inside : neat false (date_value [] m.digits) ≡ true
  pub front : neat true (date_value [] m.digits) ≡ true

january : IsMonth (month (codes "January") (codes "01"))
unfolding is_space
january = record { written = refl; numbered = refl; plain = refl; some = refl; inside = refl; front = refl }

february : IsMonth (month (codes "February") (codes "02"))
unfolding is_space
february = record { written = refl; numbered = refl; plain = refl; some = refl; inside = refl; front = refl }

march : IsMonth (month (codes "March") (codes "03"))
unfolding is_space
march = record { written = refl; numbered = refl; plain = refl; some = refl; inside = refl; front = refl }

april : IsMonth (month (codes "April") (codes "04"))
unfolding is_space
april = record { written = refl; numbered = refl; plain = refl; some = refl; inside = refl; front = refl }

may : IsMonth (month (codes "May") (codes "05"))
unfolding is_space
may = record { written = refl; numbered = refl; plain = refl; some = refl; inside = refl; front = refl }

june : IsMonth (month (codes "June") (codes "06"))
unfolding is_space
june = record { written = refl; numbered = refl; plain = refl; some = refl; inside = refl; front = refl }

july : IsMonth (month (codes "July") (codes "07"))
unfolding is_space
july = record { written = refl; numbered = refl; plain = refl; some = refl; inside = refl; front = refl }

august : IsMonth (month (codes "August") (codes "08"))
unfolding is_space
august = record { written = refl; numbered = refl; plain = refl; some = refl; inside = refl; front = refl }

september : IsMonth (month (codes "September") (codes "09"))
unfolding is_space
september = record { written = refl; numbered = refl; plain = refl; some = refl; inside = refl; front = refl }

october : IsMonth (month (codes "October") (codes "10"))
unfolding is_space
october = record { written = refl; numbered = refl; plain = refl; some = refl; inside = refl; front = refl }

november : IsMonth (month (codes "November") (codes "11"))
unfolding is_space
november = record { written = refl; numbered = refl; plain = refl; some = refl; inside = refl; front = refl }

december : IsMonth (month (codes "December") (codes "12"))
unfolding is_space
december = record { written = refl; numbered = refl; plain = refl; some = refl; inside = refl; front = refl }

pub each_month : AllByRecursion IsMonth months
each_month = (january, (february, (march, (april, (may, (june, (july, (august, (september, (october, (november, (december, tt))))))))))))

-- the month of this name
record Named (text : Text) : Type 0 where
  row : Month
  name : row.name ≡ text
  is : IsMonth row

named : (text : Text) (ms : List Month) → list_any (λ (m : Month). bytes_eq m.name text) ms ≡ true → AllByRecursion IsMonth ms → Named text
named text [] some all = absurd (cc)
named text (m ∷ ms) some all =
    ⊎_elim
    (λ h. record { row = m; name = eq-true m.name text h; is = all.0 })
    (λ h. named text ms (sym (ap (λ c. c || list_any (λ (n : Month). bytes_eq n.name text) ms) h) ∙ some) all.1)
    (cases_Bool (bytes_eq m.name text))

-- ---- the law

-- what is read of a date's line, where there is one, is the year and the month
pub record DateIsKept (year text : Text) : Type 0 where
  pub year_is : read_year (first (written_date year text)) ≡ year
  pub month_is : read_month (first (written_date year text)) ≡ text
  pub neat_is : are_neat (written_date year text) ≡ true

abbrev IsYear : Text → Type 0
IsYear year = has_bytes year ≡ true → (neat true year ≡ true) × (has_slash year ≡ false)

no_slash : (year : Text) → IsYear year → has_slash year ≡ false
no_slash [] fit = refl
no_slash (b ∷ t) fit = (fit refl).1

year-trimmed : (year : Text) → IsYear year → trimmed year ≡ year
year-trimmed [] fit = refl
year-trimmed (b ∷ t) fit = trimmed-neat (b ∷ t) (fit refl).0

written-is : (year : Text) → IsYear year → written_year year ≡ year
written-is year fit = cond-false (has_slash year) [] year (no_slash year fit)

-- a line with a year and a number
line-year : (year digits : Text) → IsYear year → read_year (date_value year digits) ≡ year
line-year year digits fit =
    ap trimmed (before-is year (digits ++ codes "//") (no_slash year fit)) ∙ year-trimmed year fit

line-digits : (year digits : Text) → IsYear year → has_slash digits ≡ false → before_slash (after_slash (date_value year digits)) ≡ digits
line-digits year digits fit none =
    ap before_slash (after-is year (digits ++ codes "//") (no_slash year fit)) ∙ before-is digits (codes "/") none

line-neat : (year digits : Text) → IsYear year → neat false (date_value [] digits) ≡ true → neat true (date_value [] digits) ≡ true → neat true (date_value year digits) ≡ true
line-neat [] digits fit inside front = front
line-neat (b ∷ t) digits fit inside front = neat-append true (b ∷ t) (date_value [] digits) (fit refl).0 ∙ inside

one_line : (year digits : Text) → (is_empty year && is_empty digits) ≡ false → date_values year digits ≡ date_value year digits ∷ []
one_line year digits h = cond-false (is_empty year && is_empty digits) [] (date_value year digits ∷ []) h

with_digits : (year : Text) (digits : Text) → is_empty digits ≡ false → (is_empty year && is_empty digits) ≡ false
with_digits [] digits h = h
with_digits (b ∷ t) digits h = refl

kept-month : (year : Text) (m : Month) → IsYear year → IsMonth m → DateIsKept year m.name
kept-month year m fit is =
    let digits_is : written_month m.name ≡ m.digits = ap (λ d. option_map_or (λ (x : Text). x) d []) is.written in
    let values : written_date year m.name ≡ date_value year m.digits ∷ [] =
    ap (λ y. date_values y (written_month m.name)) (written-is year fit) ∙ ap (date_values year) digits_is ∙ one_line year m.digits (with_digits year m.digits is.some) in
    record {
      year_is = ap (λ vs. read_year (first vs)) values ∙ line-year year m.digits fit;
      month_is = ap (λ vs. read_month (first vs)) values
          ∙ ap (λ (d : Text). option_map_or (λ (n : Month). n.name) (find (numbers_month (trimmed d)) months) []) (line-digits year m.digits fit is.plain)
          ∙ is.numbered;
      neat_is = ap are_neat values ∙ ap (λ c. c && true) (line-neat year m.digits fit is.inside is.front);
    }

kept-year : (year : Text) → IsYear year → DateIsKept year []
unfolding is_space
kept-year [] fit = record { year_is = refl; month_is = refl; neat_is = refl }
kept-year (b ∷ t) fit =
    let year : Text = b ∷ t in
    let values : written_date year [] ≡ date_value year [] ∷ [] = ap (λ y. date_values y []) (written-is year fit) in
    record {
      year_is = ap (λ vs. read_year (first vs)) values ∙ line-year year [] fit;
      month_is = ap (λ vs. read_month (first vs)) values
          ∙ ap (λ (d : Text). option_map_or (λ (n : Month). n.name) (find (numbers_month (trimmed d)) months) []) (line-digits year [] fit refl);
      neat_is = ap are_neat values ∙ ap (λ c. c && true) (line-neat year [] fit refl refl);
    }

pub date_kept : (year text : Text) → (has_bytes year ≡ true → (neat true year ≡ true) × (has_slash year ≡ false)) → (has_bytes text ≡ true → is_plain_month text ≡ true) → DateIsKept year text
date_kept year [] fit named_is = kept-year year fit
date_kept year (b ∷ t) fit named_is =
    let n = named (b ∷ t) months (named_is refl) each_month in
    subst (DateIsKept year) n.name (kept-month year n.row fit n.is)

-- a month of the profile has a number
pub month-written : (text : Text) → is_plain_month text ≡ true → is_some (month_digits text) ≡ true
month-written text h =
    let n = named text months h each_month in
    subst (λ (t : Text). is_some (month_digits t) ≡ true) n.name (ap is_some n.is.written)
