-- What a whole reading gives back, and that every case that is read makes a case record. Assumes nothing.
use Rattle.std.proofs.Common.{◌≡◌, ℕ, ◌+◌, ◌≤◌, Bool, true, false, cond, eqb, ltb, List, [], ◌∷◌, ◌++◌, length, is_err, Ok, Err, codes, Result, sym, refl, ap, ◌∙◌, subst, arith}
use Rattle.std.specs.Option.{ok_or}
use Rattle.std.proofs.lemmas.Bool.{cond-false, le-ltb}
use Rattle.bearing.specs.declared.fault.Fault.{Fault}
use Rattle.bearing.specs.declared.fault.Refusal.TheVariants.{NoPlace}
use Rattle.bearing.specs.declared.fault.Layer.TheVariants.{Bridge, Sheet}
use Rattle.bearing.specs.Refusals.{and_then, at_field, on_line, out_of_range, plain_fault, with_ok}
use Rattle.loading.specs.declared.weighing.Weight.{Weight}
use Rattle.listing.specs.Lists.{free}
use Rattle.loading.specs.Making.{case_made}
use Rattle.sheet.specs.Machine.{Stage, WeightNames, WeightValue, RowNames, Rows, Cases}
use Rattle.sheet.specs.Parts.{parts, begins}
use Rattle.sheet.specs.RowLines.{Row, row_line, form_fault}
use Rattle.sheet.specs.CaseLines.{Numbers, case_form, case_of, case_line}
use Rattle.bearing.specs.Checks.{clash}
use Rattle.sheet.proofs.Makings.{case_same}
use Rattle.sheet.specs.Machine.{State, step_at, step, kept, cases_named}
use Rattle.sheet.specs.Reading.{Content, weight_at_end, onward, begun_with, read_lines, read_parts, read_sheet, rows_read, cases_read, AllMade}

shifted : (by : ℕ) (r : Result Numbers Fault) (m : Numbers) → at_field by r ≡ Ok m → r ≡ Ok m
shifted by (Ok x) m e = e
shifted by (Err z) m e = absurd (clash e)

numbered : (b : Bool) (r : Result Numbers Fault) (z : Fault) (m : Numbers) → and_then {S = Unit {0}} (cond b (Ok tt) (Err z)) (λ _. r) ≡ Ok m → r ≡ Ok m
numbered true r z m e = e
numbered false r z m e = absurd (clash e)

line_made : (n : ℕ) (o : Result (ℕ × Numbers) Fault) (m : Numbers) → and_then o (case_of n) ≡ Ok m → case_made m ≡ Ok m
line_made n (Ok c) m e =
    let made : case_made c.1 ≡ Ok m = shifted 1 (case_made c.1) m (numbered (eqb c.0 n) (at_field 1 (case_made c.1)) (out_of_range Sheet 1) m e) in
    subst (λ (x : Numbers). case_made x ≡ Ok m) (case_same c.1 m made) made
line_made n (Err z) m e = absurd (clash e)

one_more : (xs : List Numbers) (x : Numbers) → AllMade xs → case_made x ≡ Ok x → AllMade (xs ++ (x ∷ []))
one_more [] x h k = (k, tt)
one_more (y ∷ ys) x h k = (h.0, one_more ys x h.1 k)

-- a list with one element more, where it could be kept
placed : (b : Bool) (xs : List Numbers) (x : Numbers) (ys : List Numbers) (z : Fault) → with_ok {S = Unit {0}} (cond b (Ok tt) (Err z)) (λ _. cond b (xs ++ (x ∷ [])) xs) ≡ Ok ys → xs ++ (x ∷ []) ≡ ys
placed true xs x ys z q = cc
placed false xs x ys z q = absurd (clash q)

kept_made : (places : ℕ) (xs : List Numbers) (r : Result Numbers Fault) (ys : List Numbers) → AllMade xs → ((m : Numbers) → r ≡ Ok m → case_made m ≡ Ok m) → kept places xs r ≡ Ok ys → AllMade ys
kept_made places xs (Err z) ys h k e = absurd (clash e)
kept_made places xs (Ok x) ys h k e = subst AllMade (placed (free places xs) xs x ys (plain_fault NoPlace Bridge) e) (one_more xs x h (k x refl))

-- a result by a part, where it is one
of_ok : {S T : Type 0} (r : Result S Fault) (f : S → T) (t : T) → with_ok r f ≡ Ok t → (s : S) × (r ≡ Ok s) × (f s ≡ t)
of_ok (Ok s) f t e = let q : f s ≡ t = cc in (s, refl, q)
of_ok (Err z) f t e = absurd (clash e)

-- a line that leaves the cases alone
alone : {S : Type 0} (r : Result S Fault) (f : S → State) (cs : List Numbers) (s : State) → ((x : S) → (f x).cases ≡ cs) → AllMade cs → with_ok r f ≡ Ok s → AllMade s.cases
alone r f cs s same h e =
    let p = of_ok r f s e in
    subst AllMade (sym (same p.0) ∙ ap (λ (t : State). t.cases) p.2) h

taken_on : (x : Result State Fault) (k : ℕ) (f : State → Result Content Fault) (c : Content) → ((s : State) → x ≡ Ok s → f s ≡ Ok c → AllMade c.cases) → onward x k f ≡ Ok c → AllMade c.cases
taken_on (Ok s) k f c g e = g s refl e
taken_on (Err z) k f c g e = absurd (clash e)

module _ (rp cp : ℕ) where
  step_made : (stage : Stage) (st s : State) (line : List ℕ) → AllMade st.cases → step_at rp cp stage st line ≡ Ok s → AllMade s.cases
  step_made WeightNames st s line h e = alone _ _ st.cases s (λ x. refl) h e
  step_made WeightValue st s line h e = alone _ _ st.cases s (λ x. refl) h e
  step_made RowNames st s line h e = alone _ _ st.cases s (λ x. refl) h e
  step_made Rows st s line h e = go (begins (codes "case") line) e
    where
      go : (b : Bool) → cond b
          (with_ok (cases_named (length st.rows) st.at line) (λ s. record { at = s; rows = st.rows; cases = st.cases }))
          (with_ok (kept rp st.rows (row_line line)) (λ rs. record { at = st.at; rows = rs; cases = st.cases })) ≡ Ok s → AllMade s.cases
      go true q = alone _ _ st.cases s (λ x. refl) h q
      go false q = alone _ _ st.cases s (λ x. refl) h q
  step_made Cases st s line h e =
      let p = of_ok (kept cp st.cases (case_line (length st.cases + 1) line)) _ s e in
      let all = kept_made cp st.cases (case_line (length st.cases + 1) line) p.0 h (λ m. line_made (length st.cases + 1) (ok_or (case_form line) form_fault) m) p.1 in
      subst AllMade (ap (λ (t : State). t.cases) p.2) all

  lines_made : (ls : List (List ℕ)) (k : ℕ) (st : State) (l : List ℕ) (c : Content) → AllMade st.cases → read_lines rp cp k st l ls ≡ Ok c → AllMade c.cases
  lines_made [] k st [] c h e =
      let p = of_ok (on_line k (weight_at_end st.at.stage st.at.weight (length st.cases))) _ c e in
      subst AllMade (ap (λ (t : Content). t.cases) p.2) h
  lines_made [] k st (x ∷ xs) c h e = absurd (clash e)
  lines_made (m ∷ ls) k st l c h e = taken_on (step rp cp st l) k (λ s. read_lines rp cp (k + 1) s m ls) c (λ s is q. lines_made ls (k + 1) s m c (step_made st.at.stage st s l h is) q) e

  parts_made : (ls : List (List ℕ)) (c : Content) → read_parts rp cp 1 (begun_with [] []) ls ≡ Ok c → AllMade c.cases
  parts_made [] c e = absurd (clash e)
  parts_made (l ∷ ls) c e = lines_made ls 1 (begun_with [] []) l c tt e

  short : (sheet : List ℕ) → length sheet ≤ 16384 → read_sheet rp cp sheet ≡ read_parts rp cp 1 (begun_with [] []) (parts 10 sheet)
  short sheet h = cond-false (ltb 16384 (length sheet)) _ _ (le-ltb 16384 (length sheet) h)

  -- what is known of a reading that is not refused
  pub record Back (sheet : List ℕ) (rows : List Row) (cases : List Numbers) (r : Result Weight Fault) : Type 0 where
    pub weight : with_ok r (λ (w : Weight). w.kn) ≡ with_ok (read_sheet rp cp sheet) (λ c. c.weight)
    pub rows_are : rows ≡ rows_read (read_sheet rp cp sheet)
    pub cases_are : cases ≡ cases_read (read_sheet rp cp sheet)
    pub made : AllMade cases

  pub read_back : (sheet : List ℕ) (rows : List Row) (cases : List Numbers) (r : Result Weight Fault) → length sheet ≤ 16384 → is_err r ≡ false →
      with_ok {T = Content} r (λ (w : Weight). record { weight = w.kn; rows = rows; cases = cases }) ≡ read_parts rp cp 1 (begun_with [] []) (parts 10 sheet) → Back sheet rows cases r
  read_back sheet rows cases (Err z) few ok e = absurd (let y : ◌≡◌ {A = ℕ} 0 1 = cc in omega arith)
  read_back sheet rows cases (Ok w) few ok e =
      let q = e ∙ sym (short sheet few) in
      record {
        weight = ap (λ x. with_ok x (λ (c : Content). c.weight)) q;
        rows_are = ap rows_read q;
        cases_are = ap cases_read q;
        made = parts_made (parts 10 sheet) _ (sym e);
      }
