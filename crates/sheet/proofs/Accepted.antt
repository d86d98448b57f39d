-- A sheet that is accepted is the text of what was read, and that is a bridge. Assumes nothing.
use Rattle.std.proofs.Common.{◌≡◌, ℕ, ◌+◌, ◌<◌, ◌≤◌, Bool, true, false, cond, ltb, List, [], ◌∷◌, ◌++◌, map, length, Some, None, Ok, Err, codes, decimal, Result, sym, refl, ap, ◌∙◌, subst, ap₂, arith}
use Rattle.std.specs.Option.{ok_or}
use Rattle.std.specs.List.{AllByRecursion}
use Rattle.std.proofs.lemmas.List.{append-nil, append_assoc, length_push}
use Rattle.std.proofs.lemmas.Bool.{ltb-true}
use Rattle.bearing.specs.declared.fault.Fault.{Fault}
use Rattle.bearing.specs.declared.fault.Refusal.TheVariants.{NoPlace, SheetTooLong}
use Rattle.bearing.specs.declared.fault.Layer.TheVariants.{Bridge, Sheet}
use Rattle.bearing.specs.Ranges.{between}
use Rattle.bearing.specs.Refusals.{on_line, plain_fault, with_ok}
use Rattle.listing.specs.Lists.{free}
use Rattle.loading.specs.Making.{weight_made}
use Rattle.sheet.specs.Machine.{Stage, WeightNames, WeightValue, RowNames, Rows, Cases}
use Rattle.sheet.specs.Parts.{parts, begins, is_text}
use Rattle.sheet.specs.Numbers.{parsed}
use Rattle.sheet.specs.RowLines.{form_fault, names_fault, Row, row_line}
use Rattle.sheet.specs.CaseLines.{Numbers, case_line}
use Rattle.sheet.specs.Machine.{Standing, State, weight_names, row_names, case_names, moved_to, named, cases_named, weighed, kept, step}
use Rattle.sheet.specs.Reading.{Content, weight_at_end, last_part, onward, begun_with, read_lines, read_parts, read_sheet, AllMade}
use Rattle.sheet.specs.Text.{parted, row_text, case_lines, sheet_lines, RowMade, Valid, IsText, TextLaw}
use Rattle.sheet.proofs.Spelling.{parsed_back}
use Rattle.sheet.proofs.Parting.{parted_parts, parted_ended}
use Rattle.bearing.specs.Checks.{clash}
use Rattle.sheet.proofs.Rowwise.{of_then, of_ok_or, of_cond, same_ok, RowBack, row_back}
use Rattle.sheet.proofs.Casewise.{text_is, case_back}
use Rattle.sheet.proofs.Reread.{at_rows, at_cases, reread}

of_with : {S T : Type 0} (r : Result S Fault) (f : S → T) (t : T) → with_ok r f ≡ Ok t → (s : S) × (r ≡ Ok s) × (f s ≡ t)
of_with (Ok s) f t e = (s, refl, same_ok (f s) t e)
of_with (Err z) f t e = absurd (clash e)

of_line : {S : Type 0} (k : ℕ) (r : Result S Fault) (x : S) → on_line k r ≡ Ok x → r ≡ Ok x
of_line k (Ok y) x e = e
of_line k (Err z) x e = absurd (clash e)

of_onward : (x : Result State Fault) (k : ℕ) (f : State → Result Content Fault) (c : Content) → onward x k f ≡ Ok c → (s : State) × (x ≡ Ok s) × (f s ≡ Ok c)
of_onward (Ok s) k f c e = (s, refl, e)
of_onward (Err z) k f c e = absurd (clash e)

-- a list that has kept one element more
record Kept {T : Type 0} (places : ℕ) (xs : List T) (r : Result T Fault) (ys : List T) : Type 0 where
  x : T
  is : r ≡ Ok x
  fit : length xs < places
  list : xs ++ (x ∷ []) ≡ ys

of_place : {T : Type 0} (b : Bool) (xs : List T) (x : T) (ys : List T) (z : Fault) → with_ok {S = Unit {0}} (cond b (Ok tt) (Err z)) (λ _. cond b (xs ++ (x ∷ [])) xs) ≡ Ok ys → (b ≡ true) × (xs ++ (x ∷ []) ≡ ys)
of_place true xs x ys z q = (refl, same_ok _ _ q)
of_place false xs x ys z q = absurd (clash q)

of_kept : {T : Type 0} (places : ℕ) (xs : List T) (r : Result T Fault) (ys : List T) → kept places xs r ≡ Ok ys → Kept places xs r ys
of_kept places xs r ys e =
    let p = of_then r _ ys e in
    let q = of_place (free places xs) xs p.0 ys (plain_fault NoPlace Bridge) p.2 in
    record { x = p.0; is = p.1; fit = ltb-true (length xs) places q.0; list = q.1 }

-- a names line that is taken
of_named : (text : List ℕ) (next : Stage) (at s : Standing) (l : List ℕ) → named text next at l ≡ Ok s → (l ≡ text) × (moved_to next at ≡ s)
of_named text next at s l e =
    let p = of_cond (is_text text l) (moved_to next at) s names_fault e in
    (text_is text l p.0, p.1)

-- a sheet does not end where a line is due
early : (k : ℕ) (st : State) (l : List ℕ) (c : Content) (z : Fault) → weight_at_end st.at.stage st.at.weight (length st.cases) ≡ Err z → last_part k st l ≡ Ok c → ⊥
early k st [] c z h e =
    let p = of_with (on_line k (weight_at_end st.at.stage st.at.weight (length st.cases))) _ c e in
    clash (sym h ∙ of_line k (weight_at_end st.at.stage st.at.weight (length st.cases)) p.0 p.1)
early k st (x ∷ xs) c z h e = clash e

module _ (rp cp : ℕ) where
  -- what is left among the cases
  record CasesLeft (w : ℕ) (rows : List Row) (cs : List Numbers) (ps : List (List ℕ)) (c : Content) : Type 0 where
    more : List Numbers
    lines : ps ≡ case_lines (length cs + 1) more ++ ([] ∷ [])
    content : record { weight = w; rows = rows; cases = cs ++ more } ≡ c
    some : 0 < length (cs ++ more)
    fit : length (cs ++ more) ≤ cp
    made : AllMade more

  cases_end : (k w : ℕ) (rows : List Row) (cs : List Numbers) (l : List ℕ) (c : Content) → length cs ≤ cp → last_part k (at_cases w rows cs) l ≡ Ok c → CasesLeft w rows cs (l ∷ []) c
  cases_end k w rows cs (x ∷ xs) c h e = absurd (clash e)
  cases_end k w rows cs [] c h e =
      let p = of_with (on_line k (cond (ltb 0 (length cs)) (Ok w) (Err names_fault))) _ c e in
      let q = of_cond (ltb 0 (length cs)) w p.0 names_fault (of_line k (cond (ltb 0 (length cs)) (Ok w) (Err names_fault)) p.0 p.1) in
      let n : cs ++ [] ≡ cs = append-nil cs in
      record {
        more = [];
        lines = refl;
        content = ap₂ (λ (v : ℕ) (xs : List Numbers). record { weight = v; rows = rows; cases = xs }) q.1 n ∙ p.2;
        some = subst (λ (xs : List Numbers). 0 < length xs) (sym n) (ltb-true 0 (length cs) q.0);
        fit = subst (λ (xs : List Numbers). length xs ≤ cp) (sym n) h;
        made = tt;
      }

  cases_back : (ls : List (List ℕ)) (k w : ℕ) (rows : List Row) (cs : List Numbers) (l : List ℕ) (c : Content) → length cs ≤ cp → read_lines rp cp k (at_cases w rows cs) l ls ≡ Ok c → CasesLeft w rows cs (l ∷ ls) c
  cases_back [] k w rows cs l c h e = cases_end k w rows cs l c h e
  cases_back (m ∷ ls) k w rows cs l c h e =
      let p = of_onward (step rp cp (at_cases w rows cs) l) k _ c e in
      let q = of_with (kept cp cs (case_line (length cs + 1) l)) (λ xs. at_cases w rows xs) p.0 p.1 in
      let t = of_kept cp cs (case_line (length cs + 1) l) q.0 q.1 in
      let push = length_push cs t.x in
      let b = case_back (length cs + 1) l t.x t.is in
      let now = ap (λ xs. read_lines rp cp (k + 1) (at_cases w rows xs) m ls) t.list ∙ ap (λ s. read_lines rp cp (k + 1) s m ls) q.2 ∙ p.2 in
      let ih = cases_back ls (k + 1) w rows (cs ++ (t.x ∷ [])) m c (omega (arith, t.fit)) now in
      let all = append_assoc cs (t.x ∷ []) ih.more in
      record {
        more = t.x ∷ ih.more;
        lines = ap₂ (λ (a : List ℕ) (bs : List (List ℕ)). a ∷ bs) b.text (ih.lines ∙ ap (λ j. case_lines (j + 1) ih.more ++ ([] ∷ [])) push);
        content = ap (λ (xs : List Numbers). record { weight = w; rows = rows; cases = xs }) (sym all) ∙ ih.content;
        some = subst (λ (xs : List Numbers). 0 < length xs) all ih.some;
        fit = subst (λ (xs : List Numbers). length xs ≤ cp) all ih.fit;
        made = (b.made, ih.made);
      }

  -- what is left among the rows
  record RowsLeft (w : ℕ) (xs : List Row) (ps : List (List ℕ)) (c : Content) : Type 0 where
    more : List Row
    cases : List Numbers
    lines : ps ≡ map row_text more ++ (case_names ∷ (case_lines 1 cases ++ ([] ∷ [])))
    content : record { weight = w; rows = xs ++ more; cases = cases } ≡ c
    rows_some : 0 < length (xs ++ more)
    rows_fit : length (xs ++ more) ≤ rp
    rows_made : AllByRecursion RowMade more
    cases_some : 0 < length cases
    cases_fit : length cases ≤ cp
    cases_made : AllMade cases

  -- the third names line
  names_back : (k w : ℕ) (xs : List Row) (l m : List ℕ) (ls : List (List ℕ)) (s : State) (c : Content) → length xs ≤ rp →
      with_ok (cases_named (length xs) (at_rows w xs).at l) (λ a. record { at = a; rows = xs; cases = [] }) ≡ Ok s → read_lines rp cp (k + 1) s m ls ≡ Ok c → RowsLeft w xs (l ∷ (m ∷ ls)) c
  names_back k w xs l m ls s c h e f =
      let p = of_with (cases_named (length xs) (at_rows w xs).at l) _ s e in
      let q = of_some_rows (ltb 0 (length xs)) p.0 p.1 in
      let r = of_named case_names Cases (at_rows w xs).at p.0 l q.1 in
      let is : at_cases w xs [] ≡ s = ap (λ (a : Standing). record { at = a; rows = xs; cases = [] }) r.1 ∙ p.2 in
      let cs = cases_back ls (k + 1) w xs [] m c (omega arith) (ap (λ t. read_lines rp cp (k + 1) t m ls) is ∙ f) in
      let n : xs ++ [] ≡ xs = append-nil xs in
      record {
        more = [];
        cases = cs.more;
        lines = ap₂ (λ (a : List ℕ) (bs : List (List ℕ)). a ∷ bs) r.0 cs.lines;
        content = ap (λ (ys : List Row). record { weight = w; rows = ys; cases = cs.more }) n ∙ cs.content;
        rows_some = subst (λ (ys : List Row). 0 < length ys) (sym n) (ltb-true 0 (length xs) q.0);
        rows_fit = subst (λ (ys : List Row). length ys ≤ rp) (sym n) h;
        rows_made = tt;
        cases_some = cs.some;
        cases_fit = cs.fit;
        cases_made = cs.made;
      }
    where
      of_some_rows : (b : Bool) (a : Standing) → cond b (named case_names Cases (at_rows w xs).at l) (Err names_fault) ≡ Ok a → (b ≡ true) × (named case_names Cases (at_rows w xs).at l ≡ Ok a)
      of_some_rows true a g = (refl, g)
      of_some_rows false a g = absurd (clash g)

  -- a line of the one kind or the other
  either_line : (b : Bool) (x y : Result State Fault) (s : State) (T : Type 0) → cond b x y ≡ Ok s → (x ≡ Ok s → T) → (y ≡ Ok s → T) → T
  either_line true x y s T e f g = f e
  either_line false x y s T e f g = g e

  -- one row line, and what the lines after it gave
  row_more : (w : ℕ) (xs : List Row) (l : List ℕ) (r : Row) (ps : List (List ℕ)) (c : Content) → RowBack l r → RowsLeft w (xs ++ (r ∷ [])) ps c → RowsLeft w xs (l ∷ ps) c
  row_more w xs l r ps c b ih =
      let all = append_assoc xs (r ∷ []) ih.more in
      record {
        more = r ∷ ih.more;
        cases = ih.cases;
        lines = ap₂ (λ (a : List ℕ) (bs : List (List ℕ)). a ∷ bs) b.text ih.lines;
        content = ap (λ (ys : List Row). record { weight = w; rows = ys; cases = ih.cases }) (sym all) ∙ ih.content;
        rows_some = subst (λ (ys : List Row). 0 < length ys) all ih.rows_some;
        rows_fit = subst (λ (ys : List Row). length ys ≤ rp) all ih.rows_fit;
        rows_made = (b.made, ih.rows_made);
        cases_some = ih.cases_some;
        cases_fit = ih.cases_fit;
        cases_made = ih.cases_made;
      }

  rows_back : (ls : List (List ℕ)) (k w : ℕ) (xs : List Row) (l : List ℕ) (c : Content) → length xs ≤ rp → read_lines rp cp k (at_rows w xs) l ls ≡ Ok c → RowsLeft w xs (l ∷ ls) c
  rows_back [] k w xs l c h e = absurd (early k (at_rows w xs) l c names_fault refl e)
  rows_back (m ∷ ls) k w xs l c h e =
      let p = of_onward (step rp cp (at_rows w xs) l) k _ c e in
      either_line (begins (codes "case") l)
      (with_ok (cases_named (length xs) (at_rows w xs).at l) (λ a. record { at = a; rows = xs; cases = [] }))
      (with_ok (kept rp xs (row_line l)) (λ ys. at_rows w ys)) p.0 (RowsLeft w xs (l ∷ (m ∷ ls)) c) p.1
      (λ f. names_back k w xs l m ls p.0 c h f p.2)
      (λ f.
      let q = of_with (kept rp xs (row_line l)) (λ ys. at_rows w ys) p.0 f in
      let t = of_kept rp xs (row_line l) q.0 q.1 in
      let push = length_push xs t.x in
      let now = ap (λ ys. read_lines rp cp (k + 1) (at_rows w ys) m ls) t.list ∙ ap (λ s. read_lines rp cp (k + 1) s m ls) q.2 ∙ p.2 in
      row_more w xs l t.x (m ∷ ls) c (row_back l t.x t.is) (rows_back ls (k + 1) w (xs ++ (t.x ∷ [])) m c (omega (arith, t.fit)) now))

  -- a line that is taken where another is due after it
  record Moved (k : ℕ) (st : State) (l : List ℕ) (ls : List (List ℕ)) (c : Content) : Type 0 where
    m : List ℕ
    ms : List (List ℕ)
    s : State
    are : ls ≡ m ∷ ms
    took : step rp cp st l ≡ Ok s
    onto : read_lines rp cp (k + 1) s m ms ≡ Ok c

  moved_on : (k : ℕ) (st : State) (l : List ℕ) (ls : List (List ℕ)) (c : Content) (z : Fault) → weight_at_end st.at.stage st.at.weight (length st.cases) ≡ Err z → read_lines rp cp k st l ls ≡ Ok c → Moved k st l ls c
  moved_on k st l [] c z h e = absurd (early k st l c z h e)
  moved_on k st l (m ∷ ms) c z h e =
      let p = of_onward (step rp cp st l) k _ c e in
      record { m = m; ms = ms; s = p.0; are = refl; took = p.1; onto = p.2 }

  -- the weight line
  of_weighed : (at s : Standing) (l : List ℕ) → weighed at l ≡ Ok s → (w : ℕ) × (l ≡ decimal w) × (weight_made w ≡ Ok w) × (record { stage = RowNames; weight = Some w } ≡ s)
  of_weighed at s l e =
      let p = of_then (ok_or (parsed l) form_fault) _ s e in
      let q = of_then (weight_made p.0) _ s p.2 in
      let r = of_cond (between 1 1000000 p.0) p.0 q.0 _ q.1 in
      (p.0, (parsed_back l p.0 (of_ok_or (parsed l) form_fault p.0 p.1)).text, q.1 ∙ sym (ap Ok r.1), ap (λ (w : ℕ). record { stage = RowNames; weight = Some w }) r.1 ∙ same_ok _ _ q.2)

  -- what is known of the parts of a sheet that is accepted
  record Whole (ps : List (List ℕ)) (c : Content) : Type 0 where
    valid : Valid rp cp c
    lines : ps ≡ sheet_lines c ++ ([] ∷ [])

  whole_of : (w : ℕ) (ps : List (List ℕ)) (c : Content) → weight_made w ≡ Ok w → RowsLeft w [] ps c → Whole (weight_names ∷ (decimal w ∷ (row_names ∷ ps))) c
  whole_of w ps c e r =
      subst (Whole (weight_names ∷ (decimal w ∷ (row_names ∷ ps)))) r.content
      (record {
        valid = record {
          weighed = e;
          rows_some = r.rows_some;
          rows_fit = r.rows_fit;
          rows_made = r.rows_made;
          cases_some = r.cases_some;
          cases_fit = r.cases_fit;
          cases_made = r.cases_made;
        };
        lines = ap (λ (bs : List (List ℕ)). weight_names ∷ (decimal w ∷ (row_names ∷ bs))) (r.lines ∙ sym (append_assoc (map row_text r.more) (case_names ∷ case_lines 1 r.cases) ([] ∷ [])));
      })

  front_back : (l : List ℕ) (ls : List (List ℕ)) (c : Content) → read_lines rp cp 1 (begun_with [] []) l ls ≡ Ok c → Whole (l ∷ ls) c
  front_back l ls c e =
      let a = moved_on 1 (begun_with [] []) l ls c names_fault refl e in
      let a1 = of_with (named weight_names WeightValue (record { stage = WeightNames; weight = None }) l) _ a.s a.took in
      let a2 = of_named weight_names WeightValue (record { stage = WeightNames; weight = None }) a1.0 l a1.1 in
      let two : State = record { at = record { stage = WeightValue; weight = None }; rows = []; cases = [] } in
      let a3 : two ≡ a.s = ap (λ (s : Standing). record { at = s; rows = []; cases = [] }) a2.1 ∙ a1.2 in
      let b = moved_on 2 two a.m a.ms c names_fault refl (ap (λ s. read_lines rp cp 2 s a.m a.ms) a3 ∙ a.onto) in
      let b1 = of_with (weighed (record { stage = WeightValue; weight = None }) a.m) _ b.s b.took in
      let b2 = of_weighed (record { stage = WeightValue; weight = None }) b1.0 a.m b1.1 in
      let three : State = record { at = record { stage = RowNames; weight = Some b2.0 }; rows = []; cases = [] } in
      let b3 : three ≡ b.s = ap (λ (s : Standing). record { at = s; rows = []; cases = [] }) b2.3 ∙ b1.2 in
      let d = moved_on 3 three b.m b.ms c names_fault refl (ap (λ s. read_lines rp cp 3 s b.m b.ms) b3 ∙ b.onto) in
      let d1 = of_with (named row_names Rows (record { stage = RowNames; weight = Some b2.0 }) b.m) _ d.s d.took in
      let d2 = of_named row_names Rows (record { stage = RowNames; weight = Some b2.0 }) d1.0 b.m d1.1 in
      let d3 : at_rows b2.0 [] ≡ d.s = ap (λ (s : Standing). record { at = s; rows = []; cases = [] }) d2.1 ∙ d1.2 in
      let r = rows_back d.ms 4 b2.0 [] d.m c (omega arith) (ap (λ s. read_lines rp cp 4 s d.m d.ms) d3 ∙ d.onto) in
      let w = whole_of b2.0 (d.m ∷ d.ms) c b2.2 r in
      let f : l ∷ ls ≡ weight_names ∷ (decimal b2.0 ∷ (row_names ∷ (d.m ∷ d.ms))) =
      ap₂ (λ (x : List ℕ) (xs : List (List ℕ)). x ∷ xs) a2.0 (a.are ∙ ap₂ (λ (x : List ℕ) (xs : List (List ℕ)). x ∷ xs) b2.1 (b.are ∙ ap₂ (λ (x : List ℕ) (xs : List (List ℕ)). x ∷ xs) d2.0 d.are)) in
      record { valid = w.valid; lines = f ∙ w.lines }

  parts_back : (ps : List (List ℕ)) (c : Content) → read_parts rp cp 1 (begun_with [] []) ps ≡ Ok c → Whole ps c
  parts_back [] c e = absurd (clash e)
  parts_back (l ∷ ls) c e = front_back l ls c e

  of_length : (b : Bool) (x : Result Content Fault) (z : Fault) (c : Content) → cond b (Err z) x ≡ Ok c → x ≡ Ok c
  of_length true x z c e = absurd (clash e)
  of_length false x z c e = e

  -- whatever is accepted is the text of what was read
  pub accepted : (sheet : List ℕ) (c : Content) → read_sheet rp cp sheet ≡ Ok c → IsText rp cp sheet c
  accepted sheet c e =
      let w = parts_back (parts 10 sheet) c (of_length (ltb 16384 (length sheet)) _ (plain_fault SheetTooLong Sheet) c e) in
      record { valid = w.valid; text = sym (parted_parts 10 sheet) ∙ ap (parted 10) w.lines ∙ parted_ended (sheet_lines c) }

  -- a sheet is accepted exactly when it is the text of some bridge
  pub text_law : (sheet : List ℕ) → rp ≤ 64 → cp ≤ 16 → TextLaw rp cp sheet
  text_law sheet many few c = (accepted sheet c, λ t. ap (read_sheet rp cp) t.text ∙ reread rp cp c t.valid many few)
