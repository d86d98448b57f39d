-- One line more of a sheet. Assumes nothing.
use Rattle.std.proofs.Common.{◌≡◌, ℕ, ◌+◌, List, [], ◌∷◌, length, Some, None, Ok, Err, Result, sym, refl, ap, ◌∙◌, arith}
use Rattle.bearing.specs.declared.fault.Fault.{Fault}
use Rattle.bearing.specs.Refusals.{lined_fault, on_line, with_ok}
use Rattle.loading.specs.declared.weighing.Weight.{Weight}
use Rattle.sheet.specs.Parts.{parts, first, rest, parts_of}
use Rattle.sheet.specs.Machine.{State, step, after, answer}
use Rattle.sheet.specs.Reading.{Content, ended_with, last_part, onward, read_lines, read_parts}
use Rattle.sheet.proofs.Cuts.{parts_cut}

module _ (rp cp : ℕ) where
  -- no line end is left
  pub run_none : (k : ℕ) (st : State) (left : List ℕ) → None ≡ rest 10 left → read_parts rp cp k st (parts 10 left) ≡ last_part k st (first 10 left)
  run_none k st left e = ap (read_parts rp cp k st) (parts_cut 10 left) ∙ ap (λ o. read_lines rp cp k st (first 10 left) (parts_of 10 o)) (sym e)

  run_some : (k : ℕ) (st : State) (left more : List ℕ) → Some more ≡ rest 10 left → read_parts rp cp k st (parts 10 left) ≡ read_lines rp cp k st (first 10 left) (parts 10 more)
  run_some k st left more e = ap (read_parts rp cp k st) (parts_cut 10 left) ∙ ap (λ o. read_lines rp cp k st (first 10 left) (parts_of 10 o)) (sym e)

  ok_of : (k : ℕ) (st s : State) (l : List ℕ) (ls : List (List ℕ)) (m : List ℕ) (ms : List (List ℕ)) → ls ≡ m ∷ ms → step rp cp st l ≡ Ok s → read_lines rp cp k st l ls ≡ read_parts rp cp (k + 1) s ls
  ok_of k st s l ls m ms e h = ap (read_lines rp cp k st l) e ∙ ap (λ x. onward x k (λ t. read_lines rp cp (k + 1) t m ms)) h ∙ sym (ap (read_parts rp cp (k + 1) s) e)

  err_of : (k : ℕ) (st : State) (z : Fault) (l : List ℕ) (ls : List (List ℕ)) (m : List ℕ) (ms : List (List ℕ)) → ls ≡ m ∷ ms → step rp cp st l ≡ Err z → read_lines rp cp k st l ls ≡ Err (lined_fault k z)
  err_of k st z l ls m ms e h = ap (read_lines rp cp k st l) e ∙ ap (λ x. onward x k (λ t. read_lines rp cp (k + 1) t m ms)) h

  -- a line that is taken, and one that is refused
  pub run_ok : (k : ℕ) (st s : State) (left l more : List ℕ) → Some more ≡ rest 10 left → l ≡ first 10 left → step rp cp st l ≡ Ok s → read_parts rp cp k st (parts 10 left) ≡ read_parts rp cp (k + 1) s (parts 10 more)
  run_ok k st s left l more e f h =
      run_some k st left more e ∙ ap (λ x. read_lines rp cp k st x (parts 10 more)) (sym f) ∙ ok_of k st s l (parts 10 more) _ _ (parts_cut 10 more) h

  pub run_err : (k : ℕ) (st : State) (z : Fault) (left l more : List ℕ) → Some more ≡ rest 10 left → l ≡ first 10 left → step rp cp st l ≡ Err z → read_parts rp cp k st (parts 10 left) ≡ Err (lined_fault k z)
  run_err k st z left l more e f h =
      run_some k st left more e ∙ ap (λ x. read_lines rp cp k st x (parts 10 more)) (sym f) ∙ err_of k st z l (parts 10 more) _ _ (parts_cut 10 more) h

-- what the turn's call did, read back from its answer
pub ok_at : (k : ℕ) (st next : State) (x : Result State Fault) (u : Unit {0}) → next ≡ after x st → on_line k (answer x) ≡ Ok u → x ≡ Ok next
ok_at k st next (Ok s) u e q = ap Ok (sym e)
ok_at k st next (Err z) u e q = let w : ◌≡◌ {A = ℕ} 0 1 = cc in absurd (omega arith)

pub err_at : (k : ℕ) (x : Result State Fault) (d : Fault) → on_line k (answer x) ≡ Err d → (z : Fault) × (x ≡ Err z) × (d ≡ lined_fault k z)
err_at k (Ok s) d q = let w : ◌≡◌ {A = ℕ} 0 1 = cc in absurd (omega arith)
err_at k (Err z) d q = let g : d ≡ lined_fault k z = cc in (z, refl, g)

-- what the end is answered, by what stands after the last line end
with_line : (k : ℕ) (r : Result Weight Fault) (f : ℕ → Content) → with_ok (on_line k r) (λ w. f w.kn) ≡ with_ok (on_line k (with_ok r (λ w. w.kn))) f
with_line k (Ok w) f = refl
with_line k (Err e) f = refl

pub last_is : (k : ℕ) (st : State) (l : List ℕ) (r : Result Weight Fault) → with_ok r (λ w. w.kn) ≡ ended_with l st.at (length st.cases) →
    with_ok {T = Content} (on_line k r) (λ w. record { weight = w.kn; rows = st.rows; cases = st.cases }) ≡ last_part k st l
last_is k st [] r e =
    let f : ℕ → Content = λ n. record { weight = n; rows = st.rows; cases = st.cases } in
    with_line k r f ∙ ap (λ v. with_ok (on_line k v) f) e
last_is k st (x ∷ xs) r e =
    let f : ℕ → Content = λ n. record { weight = n; rows = st.rows; cases = st.cases } in
    with_line k r f ∙ ap (λ v. with_ok (on_line k v) f) e
