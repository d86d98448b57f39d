-- The text of a bridge is read back as that bridge. Assumes nothing.
use Rattle.std.proofs.Common.{◌≡◌, ℕ, suc, ◌+◌, ◌*◌, ◌<◌, ◌≤◌, Bool, true, false, cond, eqb, ltb, List, [], ◌∷◌, ◌++◌, map, length, Some, None, Ok, Err, codes, decimal, Result, sym, refl, ap, ◌∙◌, ap₂, arith}
use Rattle.std.specs.Option.{ok_or}
use Rattle.std.specs.List.{AllByRecursion}
use Rattle.std.proofs.ByRecursion.{All-append}
use Rattle.std.proofs.lemmas.List.{append-nil, append_assoc, length-append, length_push, length-map}
use Rattle.std.proofs.lemmas.Bool.{cond-false, lt-ltb, le-ltb}
use Rattle.bearing.specs.declared.fault.Fault.{Fault}
use Rattle.bearing.specs.declared.fault.Refusal.TheVariants.{NoPlace}
use Rattle.bearing.specs.declared.fault.Layer.TheVariants.{Bridge}
use Rattle.kinds.specs.declared.lead.LeadRubber.{LeadRubber}
use Rattle.kinds.specs.declared.sliding.Pendulum.{Pendulum}
use Rattle.either.specs.declared.Either.{Either}
use Rattle.either.specs.declared.Either.TheVariants.{Left, Right}
use Rattle.bearing.specs.Ranges.{between}
use Rattle.bearing.specs.Refusals.{on_line, plain_fault, with_ok}
use Rattle.loading.specs.Making.{weight_made, case_made}
use Rattle.sheet.specs.Machine.{WeightValue, RowNames, Rows, Cases}
use Rattle.sheet.specs.Parts.{begins}
use Rattle.sheet.specs.Numbers.{parsed}
use Rattle.sheet.specs.RowLines.{form_fault, names_fault, Row, row_line}
use Rattle.sheet.specs.CaseLines.{Numbers, case_line}
use Rattle.sheet.specs.Machine.{Standing, State, weight_names, row_names, case_names, weighed, kept, step}
use Rattle.sheet.specs.Reading.{Content, finished, onward, begun_with, read_lines, read_parts, read_sheet, AllMade}
use Rattle.sheet.specs.Text.{parted, five, row_fields, row_text, case_fields, case_text, case_lines, sheet_lines, ended, sheet_text, RowMade, Valid}
use Rattle.sheet.proofs.Standing.{begins_row}
use Rattle.sheet.proofs.Spelling.{parsed_decimal}
use Rattle.sheet.proofs.Parting.{Free, Field, decimal_field, parts_ended}
use Rattle.sheet.proofs.Rowwise.{of_cond, then_ok, Small, small_between, row_read, row_fields_are}
use Rattle.sheet.proofs.Casewise.{small_case, case_fields_are, case_read}

-- a line: no line end within, and fewer than 64 bytes
record Line (l : List ℕ) : Type 0 where
  ends : Free 10 l
  short : length l < 64

parted_ends : (fs : List (List ℕ)) → AllByRecursion Field fs → Free 10 (parted 44 fs)
parted_ends [] h = tt
parted_ends (f ∷ []) h = h.0.ends
parted_ends (f ∷ (g ∷ gs)) h = All-append (λ x. eqb x 10 ≡ false) f (44 ∷ parted 44 (g ∷ gs)) h.0.ends (refl, parted_ends (g ∷ gs) h.1)

parted_length : (fs : List (List ℕ)) → 0 < length fs → AllByRecursion Field fs → length (parted 44 fs) < 8 * length fs
parted_length [] some h = absurd (omega arith)
parted_length (f ∷ []) some h = let s = h.0.short in omega arith
parted_length (f ∷ (g ∷ gs)) some h =
    let s = h.0.short in
    let ih = parted_length (g ∷ gs) (omega arith) h.1 in
    let q = length-append f (44 ∷ parted 44 (g ∷ gs)) in
    omega arith

-- whether a text has no line end
abbrev clear : List ℕ → Bool
clear [] = true
clear (x ∷ xs) = cond (eqb x 10) false (clear xs)

clear_free : (xs : List ℕ) → clear xs ≡ true → Free 10 xs
clear_free [] h = tt
clear_free (x ∷ xs) h = go (eqb x 10) refl h (λ k. clear_free xs k)
  where
    go : (b : Bool) → eqb x 10 ≡ b → cond b false (clear xs) ≡ true → (clear xs ≡ true → Free 10 xs) → Free 10 (x ∷ xs)
    go true e k ih = absurd (let z : ◌≡◌ {A = ℕ} 0 1 = cc in omega arith)
    go false e k ih = (e, ih k)

row_is_line : (r : Row) → RowMade r → Line (row_text r)
row_is_line r h = record { ends = parted_ends (row_fields r) (row_fields_are r h); short = short r.member (parted_length (row_fields r) (omega arith) (row_fields_are r h)) }
  where
    short : (m : Either LeadRubber Pendulum) → length (row_text r) < 8 * suc (suc (length (map decimal (five m)))) → length (row_text r) < 64
    short (Left b) q = omega arith
    short (Right b) q = omega arith

case_is_line : (k : ℕ) (n : Numbers) → Small k → case_made n ≡ Ok n → Line (case_text k n)
case_is_line k n h e =
    let fs = case_fields_are k n h (small_case n n e) in
    let q : length (case_text k n) < 8 * 8 = parted_length (case_fields k n) (omega arith) fs in
    record { ends = parted_ends (case_fields k n) fs; short = omega arith }

rows_are_lines : (rs : List Row) → AllByRecursion RowMade rs → AllByRecursion Line (map row_text rs)
rows_are_lines [] h = tt
rows_are_lines (r ∷ rs) h = (row_is_line r h.0, rows_are_lines rs h.1)

cases_are_lines : (k : ℕ) (ns : List Numbers) → k + length ns ≤ 10000000 → AllMade ns → AllByRecursion Line (case_lines k ns)
cases_are_lines k [] few h = tt
cases_are_lines k (n ∷ ns) few h = (case_is_line k n (omega arith) h.0, cases_are_lines (k + 1) ns (omega arith) h.1)

cases_count : (k : ℕ) (ns : List Numbers) → length (case_lines k ns) ≡ length ns
cases_count k [] = refl
cases_count k (n ∷ ns) = ap suc (cases_count (k + 1) ns)

weight_small : (w : ℕ) → weight_made w ≡ Ok w → Small w
weight_small w e = small_between 1 1000000 w (omega arith) (of_cond (between 1 1000000 w) w w _ e).0

lines_free : (ls : List (List ℕ)) → AllByRecursion Line ls → AllByRecursion (Free 10) ls
lines_free [] h = tt
lines_free (l ∷ ls) h = (h.0.ends, lines_free ls h.1)

lines_short : (ls : List (List ℕ)) → AllByRecursion Line ls → length (ended ls) ≤ 64 * length ls
lines_short [] h = omega arith
lines_short (l ∷ ls) h =
    let s = h.0.short in
    let ih = lines_short ls h.1 in
    let q = length-append l (10 ∷ ended ls) in
    omega arith

-- a list with one element more
kept_is : {T : Type 0} (places : ℕ) (xs : List T) (x : T) (r : Result T Fault) → r ≡ Ok x → length xs < places → kept places xs r ≡ Ok (xs ++ (x ∷ []))
kept_is places xs x r e h =
    then_ok r x _ _ e (ap (λ (b : Bool). with_ok {S = Unit {0}} (cond b (Ok tt) (Err (plain_fault NoPlace Bridge))) (λ _. cond b (xs ++ (x ∷ [])) xs)) (lt-ltb (length xs) places h))

-- among the rows, and among the cases
abbrev pub at_rows : ℕ → List Row → State
at_rows w rows = record { at = record { stage = Rows; weight = Some w }; rows = rows; cases = [] }

abbrev pub at_cases : ℕ → List Row → List Numbers → State
at_cases w rows cases = record { at = record { stage = Cases; weight = Some w }; rows = rows; cases = cases }

some_parts : (ls : List (List ℕ)) → 0 < length (ls ++ ([] ∷ []))
some_parts [] = omega arith
some_parts (l ∷ ls) = omega arith

row_begins : (r : Row) → begins (codes "case") (row_text r) ≡ false
row_begins r = begins_row (row_text r) (omega arith) refl

module _ (rp cp : ℕ) where
  line_on : (k : ℕ) (st s : State) (l : List ℕ) (ps : List (List ℕ)) → 0 < length ps → step rp cp st l ≡ Ok s → read_parts rp cp k st (l ∷ ps) ≡ read_parts rp cp (k + 1) s ps
  line_on k st s l [] h e = absurd (omega arith)
  line_on k st s l (m ∷ ls) h e = ap (λ x. onward x k (λ t. read_lines rp cp (k + 1) t m ls)) e

  -- the lines of the cases
  end_on : (k w : ℕ) (rows : List Row) (cases : List Numbers) → 0 < length cases → finished k (at_cases w rows cases) ≡ Ok (record { weight = w; rows = rows; cases = cases })
  end_on k w rows cases h =
      ap (λ (b : Bool). with_ok (on_line k (cond b (Ok w) (Err names_fault))) (λ (x : ℕ). record { weight = x; rows = rows; cases = cases })) (lt-ltb 0 (length cases) h)

  cases_on : (ns : List Numbers) (k w : ℕ) (rows : List Row) (cs : List Numbers) → AllMade ns → length cs + length ns ≤ cp → cp ≤ 16 → 0 < length cs + length ns →
      read_parts rp cp k (at_cases w rows cs) (case_lines (length cs + 1) ns ++ ([] ∷ [])) ≡ Ok (record { weight = w; rows = rows; cases = cs ++ ns })
  cases_on [] k w rows cs h fit few some = end_on k w rows cs (omega arith) ∙ ap (λ xs. Ok (record { weight = w; rows = rows; cases = xs })) (sym (append-nil cs))
  cases_on (n ∷ ns) k w rows cs h fit few some =
      let taken = kept_is cp cs n (case_line (length cs + 1) (case_text (length cs + 1) n)) (case_read (length cs + 1) n (omega arith) h.0) (omega arith) in
      let push = length_push cs n in
      line_on k (at_cases w rows cs) (at_cases w rows (cs ++ (n ∷ []))) (case_text (length cs + 1) n) (case_lines (length cs + 1 + 1) ns ++ ([] ∷ [])) (some_parts (case_lines (length cs + 1 + 1) ns))
      (ap (λ x. with_ok x (λ xs. at_cases w rows xs)) taken)
      ∙ ap (λ j. read_parts rp cp (k + 1) (at_cases w rows (cs ++ (n ∷ []))) (case_lines (j + 1) ns ++ ([] ∷ []))) (sym push)
      ∙ cases_on ns (k + 1) w rows (cs ++ (n ∷ [])) h.1 (omega arith) few (omega arith)
      ∙ ap (λ xs. Ok (record { weight = w; rows = rows; cases = xs })) (append_assoc cs (n ∷ []) ns)

  -- the lines of the rows
  row_step : (w : ℕ) (xs : List Row) (r : Row) → RowMade r → length xs < rp → step rp cp (at_rows w xs) (row_text r) ≡ Ok (at_rows w (xs ++ (r ∷ [])))
  row_step w xs r h fit =
      cond-false (begins (codes "case") (row_text r)) _ _ (row_begins r)
      ∙ ap (λ x. with_ok x (λ ys. at_rows w ys)) (kept_is rp xs r (row_line (row_text r)) (row_read r h) fit)

  rows_on : (rs : List Row) (k w : ℕ) (xs : List Row) (ps : List (List ℕ)) → 0 < length ps → AllByRecursion RowMade rs → length xs + length rs ≤ rp →
      read_parts rp cp k (at_rows w xs) (map row_text rs ++ ps) ≡ read_parts rp cp (k + length rs) (at_rows w (xs ++ rs)) ps
  rows_on [] k w xs ps some h fit = let t : k ≡ k + 0 = omega arith in ap₂ (λ (j : ℕ) (ys : List Row). read_parts rp cp j (at_rows w ys) ps) t (sym (append-nil xs))
  rows_on (r ∷ rs) k w xs ps some h fit =
      let push = length_push xs r in
      let q = length-append (map row_text rs) ps in
      let t : k + 1 + length rs ≡ k + length (r ∷ rs) = omega arith in
      line_on k (at_rows w xs) (at_rows w (xs ++ (r ∷ []))) (row_text r) (map row_text rs ++ ps) (omega arith) (row_step w xs r h.0 (omega arith))
      ∙ rows_on rs (k + 1) w (xs ++ (r ∷ [])) ps some h.1 (omega arith)
      ∙ ap₂ (λ (j : ℕ) (ys : List Row). read_parts rp cp j (at_rows w ys) ps) t (append_assoc xs (r ∷ []) rs)

  weight_step : (w : ℕ) → weight_made w ≡ Ok w → weighed (record { stage = WeightValue; weight = None }) (decimal w) ≡ Ok (record { stage = RowNames; weight = Some w })
  weight_step w e =
      then_ok (ok_or (parsed (decimal w)) form_fault) w _ _ (ap (λ o. ok_or o form_fault) (parsed_decimal w (weight_small w e)))
      (then_ok (weight_made w) w _ _ e refl)

  names_step : (w : ℕ) (xs : List Row) → 0 < length xs → step rp cp (at_rows w xs) case_names ≡ Ok (at_cases w xs [])
  names_step w xs h =
      ap (λ (b : Bool). with_ok (cond b (Ok (record { stage = Cases; weight = Some w })) (Err names_fault)) (λ s. record { at = s; rows = xs; cases = [] })) (lt-ltb 0 (length xs) h)

  -- the lines of a sheet
  lines_on : (c : Content) → Valid rp cp c → cp ≤ 16 → read_parts rp cp 1 (begun_with [] []) (sheet_lines c ++ ([] ∷ [])) ≡ Ok c
  lines_on c v few =
      let body = map row_text c.rows ++ (case_names ∷ case_lines 1 c.cases) in
      let some = some_parts body in
      line_on 1 (begun_with [] []) (record { at = record { stage = WeightValue; weight = None }; rows = []; cases = [] }) weight_names (decimal c.weight ∷ (row_names ∷ (body ++ ([] ∷ [])))) (omega arith) refl
      ∙ line_on 2 (record { at = record { stage = WeightValue; weight = None }; rows = []; cases = [] }) (record { at = record { stage = RowNames; weight = Some c.weight }; rows = []; cases = [] }) (decimal c.weight) (row_names ∷ (body ++ ([] ∷ []))) (omega arith)
      (ap (λ x. with_ok x (λ (s : Standing). record { at = s; rows = []; cases = [] })) (weight_step c.weight v.weighed))
      ∙ line_on 3 (record { at = record { stage = RowNames; weight = Some c.weight }; rows = []; cases = [] }) (at_rows c.weight []) row_names (body ++ ([] ∷ [])) some refl
      ∙ ap (read_parts rp cp 4 (at_rows c.weight [])) (append_assoc (map row_text c.rows) (case_names ∷ case_lines 1 c.cases) ([] ∷ []))
      ∙ rows_on c.rows 4 c.weight [] (case_names ∷ (case_lines 1 c.cases ++ ([] ∷ []))) (omega arith) v.rows_made (omega (arith, v.rows_fit))
      ∙ line_on (4 + length c.rows) (at_rows c.weight c.rows) (at_cases c.weight c.rows []) case_names (case_lines 1 c.cases ++ ([] ∷ [])) (some_parts (case_lines 1 c.cases)) (names_step c.weight c.rows v.rows_some)
      ∙ cases_on c.cases (4 + length c.rows + 1) c.weight c.rows [] v.cases_made (omega (arith, v.cases_fit)) few (omega (arith, v.cases_some))

  sheet_are_lines : (c : Content) → Valid rp cp c → cp ≤ 16 → AllByRecursion Line (sheet_lines c)
  sheet_are_lines c v few =
      let d = decimal_field c.weight (weight_small c.weight v.weighed) in (
        record { ends = clear_free weight_names refl; short = omega arith },
        (
          record { ends = d.ends; short = omega (arith, d.short) },
          (
            record { ends = clear_free row_names refl; short = omega arith },
            All-append Line (map row_text c.rows) (case_names ∷ case_lines 1 c.cases) (rows_are_lines c.rows v.rows_made)
                (record { ends = clear_free case_names refl; short = omega arith }, cases_are_lines 1 c.cases (omega (arith, v.cases_fit)) v.cases_made),
          ),
        ),
      )

  sheet_short : (c : Content) → Valid rp cp c → rp ≤ 64 → cp ≤ 16 → length (sheet_text c) ≤ 16384
  sheet_short c v many few =
      let s = lines_short (sheet_lines c) (sheet_are_lines c v few) in
      let a = length-append (map row_text c.rows) (case_names ∷ case_lines 1 c.cases) in
      let m = length-map c.rows row_text in
      let n = cases_count 1 c.cases in
      omega (arith, v.rows_fit, v.cases_fit)

  -- reading the text of a bridge gives that bridge
  pub reread : (c : Content) → Valid rp cp c → rp ≤ 64 → cp ≤ 16 → read_sheet rp cp (sheet_text c) ≡ Ok c
  reread c v many few =
      cond-false (ltb 16384 (length (sheet_text c))) _ _ (le-ltb 16384 (length (sheet_text c)) (sheet_short c v many few))
      ∙ ap (read_parts rp cp 1 (begun_with [] [])) (parts_ended (sheet_lines c) (lines_free (sheet_lines c) (sheet_are_lines c v few)))
      ∙ lines_on c v few
