-- A page line by line: what a caller with a loop needs of `run`.
use Rattle.std.proofs.Common.{◌≡◌, ℕ, ◌+◌, ◌<◌, ◌≤◌, false, List, [], ◌∷◌, ◌++◌, map, length, get_or, drop, Ok, Err, Result, sym, ap, ◌∙◌, add-zero, arith, rules}
use Rattle.std.proofs.lemmas.List.{at_drop_more, at_drop_all, append_assoc, append-nil, length-append}
use Rattle.std.proofs.lemmas.Bool.{cond-false, le-ltb}
use Rattle.bearing.specs.declared.fault.Fault.{Fault}
use Rattle.bridge.specs.declared.replies.Answer.{Answer}
use Rattle.bridge.specs.Outcomes.{Outcome, outcome}
use Rattle.page.specs.Text.{written, names_line, case_line, end_line, void_line}
use Rattle.page.specs.Pages.{begun, begun_len, line_answer, closed, closed_len}
use Rattle.page.specs.Runs.{if_taken, run, page_run, lines_text, page_text, Fits}
use Rattle.page.proofs.Bytes.{written_more, length_written}

-- what an element counts as past the end of the answers
abbrev pub past : Result Answer Fault
past = Ok (record { dlow = 0; dhigh = 0; force = 0; clear = 0; restores = false })

-- the old bytes after a text is written over them from the start, and the length of the text
abbrev pub text_run : List ℕ → List ℕ → List ℕ × ℕ
text_run old text = (written old 0 text, length text)

-- a page just begun
pub run_begun : (old b : List ℕ) (at count : ℕ) (os : List Outcome) → b ≡ begun old → at ≡ begun_len (length old) → count ≡ 0 → run b at count os ≡ page_run old os
run_begun old b at count os e l k =
    ap (λ (x : List ℕ). run x at count os) e ∙ ap (λ (x : ℕ). run (begun old) x count os) l ∙ ap (λ (x : ℕ). run (begun old) (begun_len (length old)) x os) k

-- a line that is taken
pub run_taken : (b b' : List ℕ) (at at' count count' i : ℕ) (rs : List (Result Answer Fault)) (u : Unit {0}) → i < length rs
    → Ok u ≡ line_answer (length b) at count (case_line (count + 1) (outcome (get_or rs i past)))
    → b' ≡ written b at (case_line (count + 1) (outcome (get_or rs i past))) → at' ≡ at + length (case_line (count + 1) (outcome (get_or rs i past))) → count' ≡ count + 1
    → run b' at' count' (map outcome (drop (i + 1) rs)) ≡ run b at count (map outcome (drop i rs))
run_taken b b' at at' count count' i rs u h a e l k =
    let o : Outcome = outcome (get_or rs i past) in
    let os : List Outcome = map outcome (drop (i + 1) rs) in
    ap (λ (x : List ℕ). run x at' count' os) e ∙ ap (λ (x : ℕ). run (written b at (case_line (count + 1) o)) x count' os) l
    ∙ ap (λ (x : ℕ). run (written b at (case_line (count + 1) o)) (at + length (case_line (count + 1) o)) x os) k
    ∙ ap (λ (x : Result (Unit {0}) Fault). if_taken x (run (written b at (case_line (count + 1) o)) (at + length (case_line (count + 1) o)) (count + 1) os) (closed b at void_line, closed_len (length b) at void_line)) a
    ∙ sym (at_drop_more (λ (l : List (Result Answer Fault)). run b at count (map outcome l)) rs i past h)

-- a line that is refused, and the void line
pub run_voided : (b b' : List ℕ) (at at' count i : ℕ) (rs : List (Result Answer Fault)) (f : Fault) → i < length rs
    → Err f ≡ line_answer (length b) at count (case_line (count + 1) (outcome (get_or rs i past))) → b' ≡ b → at' ≡ at
    → ◌≡◌ {A = List ℕ × ℕ} (closed b' at' void_line, closed_len (length b') at' void_line) (run b at count (map outcome (drop i rs)))
run_voided b b' at at' count i rs f h a e l =
    let o : Outcome = outcome (get_or rs i past) in
    ap (λ (x : List ℕ). (closed x at' void_line, closed_len (length x) at' void_line)) e ∙ ap (λ (x : ℕ). (closed b x void_line, closed_len (length b) x void_line)) l
    ∙ ap (λ (x : Result (Unit {0}) Fault). if_taken x (run (written b at (case_line (count + 1) o)) (at + length (case_line (count + 1) o)) (count + 1) (map outcome (drop (i + 1) rs))) (closed b at void_line, closed_len (length b) at void_line)) a
    ∙ sym (at_drop_more (λ (l : List (Result Answer Fault)). run b at count (map outcome l)) rs i past h)

-- no line left, and the end line
pub run_ended : (b : List ℕ) (at count i : ℕ) (rs : List (Result Answer Fault)) → length rs ≤ i
    → ◌≡◌ {A = List ℕ × ℕ} (closed b at (end_line count), closed_len (length b) at (end_line count)) (run b at count (map outcome (drop i rs)))
run_ended b at count i rs h = sym (at_drop_all (λ (l : List (Result Answer Fault)). run b at count (map outcome l)) rs i h)

-- the answer to a line that has its place
answer_taken : (size at count : ℕ) (text : List ℕ) → 51 ≤ size → count < 99 → at + length text + 7 ≤ size → line_answer size at count text ≡ Ok tt
unfolding line_answer
answer_taken size at count text l h f = search rules

-- a page of which a text is written from the start, and all that follows fits
pub run_text : (old text : List ℕ) (count : ℕ) (os : List Outcome) → 51 ≤ length old → count + length os ≤ 99 → length text + length (lines_text count os) + 7 ≤ length old
    → run (written old 0 text) (length text) count os ≡ text_run old (text ++ lines_text count os ++ end_line (count + length os))
run_text old text count [] l n f =
    let s : length (written old 0 text) ≡ length old = length_written old text (omega arith) in
    let b : closed (written old 0 text) (length text) (end_line count) ≡ written old 0 (text ++ end_line count) =
    cond-false _ _ _ (le-ltb (length (written old 0 text)) 51 (omega arith)) ∙ written_more old 0 (length text) text (end_line count) (omega arith) (omega arith) in
    let k : closed_len (length (written old 0 text)) (length text) (end_line count) ≡ length (text ++ end_line count) =
    cond-false _ _ _ (le-ltb (length (written old 0 text)) 51 (omega arith)) ∙ sym (length-append text (end_line count)) in
    let e : text ++ end_line count ≡ text ++ lines_text count [] ++ end_line (count + length {A = Outcome} []) = simp (append-nil, add-zero) in
    ap (λ (x : List ℕ). (x, closed_len (length (written old 0 text)) (length text) (end_line count))) b ∙ ap (λ (x : ℕ). (written old 0 (text ++ end_line count), x)) k ∙ ap (text_run old) e
run_text old text count (o ∷ os) l n f =
    let t : List ℕ = case_line (count + 1) o in
    let q : length (t ++ lines_text (count + 1) os) ≡ length t + length (lines_text (count + 1) os) = length-append t (lines_text (count + 1) os) in
    let s : length (written old 0 text) ≡ length old = length_written old text (omega arith) in
    let a : line_answer (length (written old 0 text)) (length text) count t ≡ Ok tt =
    answer_taken (length (written old 0 text)) (length text) count t (omega arith) (omega arith) (omega arith) in
    let m : length text + length t ≡ length (text ++ t) = sym (length-append text t) in
    let w : written (written old 0 text) (length text) t ≡ written old 0 (text ++ t) = written_more old 0 (length text) text t (omega arith) (omega arith) in
    ap (λ (x : Result (Unit {0}) Fault). if_taken x (run (written (written old 0 text) (length text) t) (length text + length t) (count + 1) os) (closed (written old 0 text) (length text) void_line, closed_len (length (written old 0 text)) (length text) void_line)) a
    ∙ ap (λ (x : List ℕ). run x (length text + length t) (count + 1) os) w ∙ ap (λ (x : ℕ). run (written old 0 (text ++ t)) x (count + 1) os) m
    ∙ run_text old (text ++ t) (count + 1) os l (omega arith) (omega arith)
    ∙ ap (text_run old) (ap (λ (x : List ℕ). x ++ end_line (count + 1 + length os)) (append_assoc text t (lines_text (count + 1) os)) ∙ ap (λ (x : ℕ). text ++ (t ++ lines_text (count + 1) os) ++ end_line x) (omega arith))

-- where all fits, a page is its text and then the old bytes
pub page_run_text : (old : List ℕ) (os : List Outcome) → Fits (length old) os → page_run old os ≡ text_run old (page_text os)
unfolding names_line
page_run_text old os h =
    let l : 51 ≤ length old = omega arith in
    let b : begun old ≡ written old 0 names_line = cond-false _ _ _ (le-ltb (length old) 51 l) in
    let k : begun_len (length old) ≡ 44 = cond-false _ _ _ (le-ltb (length old) 51 l) in
    ap (λ (x : List ℕ). run x (begun_len (length old)) 0 os) b ∙ ap (λ (x : ℕ). run (written old 0 names_line) x 0 os) k
    ∙ run_text old names_line 0 os l (omega arith) (omega arith) ∙ ap (λ (x : ℕ). text_run old (names_line ++ lines_text 0 os ++ end_line x)) (omega arith)
