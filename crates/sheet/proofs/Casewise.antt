-- The line of a case, read from its text and back. Assumes nothing.
use Rattle.std.proofs.Common.{◌≡◌, ℕ, ◌<◌, Bool, true, false, cond, eqb, List, [], ◌∷◌, Some, None, Ok, Err, codes, decimal, Option, sym, refl, ap, ◌∙◌, ap₂, arith}
use Rattle.std.specs.Option.{ok_or}
use Rattle.std.specs.List.{AllByRecursion}
use Rattle.std.proofs.lemmas.Bool.{eqb-true, and_parts}
use Rattle.bearing.specs.declared.fault.Layer.TheVariants.{Bridge, Sheet}
use Rattle.bearing.specs.Ranges.{between}
use Rattle.bearing.specs.Refusals.{at_field, out_of_range}
use Rattle.either.specs.declared.Either.TheVariants.{Left, Right}
use Rattle.loading.specs.declared.loads.Site.{Site}
use Rattle.loading.specs.declared.loads.Site.TheVariants.{I, II, III, IV}
use Rattle.loading.specs.Making.{case_field, case_made}
use Rattle.sheet.specs.Parts.{first, rest, parts, is_text}
use Rattle.sheet.specs.Numbers.{number_field}
use Rattle.sheet.specs.RowLines.{form_fault}
use Rattle.sheet.specs.CaseLines.{SheetRule, Numbers, site_named, rule_named, site_field, case_form, case_of, case_line}
use Rattle.sheet.specs.Text.{parted, site_name, rule_name, case_fields, case_text}
use Rattle.sheet.proofs.Lining.{case_is}
use Rattle.sheet.proofs.Makings.{case_same}
use Rattle.sheet.proofs.Spelling.{no_some}
use Rattle.sheet.proofs.Parting.{Field, decimal_field, parted_parts, parts_parted, cut_more, cut_back}
use Rattle.sheet.proofs.Rowwise.{then_some, of_some, of_then, of_ok_or, of_field, of_cond, same_some, Small, small_between, number_next, number_back, fields_free}

-- a line that is a text
pub text_is : (text line : List ℕ) → is_text text line ≡ true → line ≡ text
text_is [] [] e = refl
text_is [] (y ∷ ys) e = absurd (let z : ◌≡◌ {A = ℕ} 0 1 = cc in omega arith)
text_is (x ∷ xs) [] e = absurd (let z : ◌≡◌ {A = ℕ} 0 1 = cc in omega arith)
text_is (x ∷ xs) (y ∷ ys) e =
    let p = and_parts (eqb y x) (is_text xs ys) e in
    ap₂ (λ (a : ℕ) (b : List ℕ). a ∷ b) (eqb-true y x p.0) (text_is xs ys p.1)

-- a site and its name
site_read : (s : Site) → site_named (site_name s) ≡ Some s
site_read I = refl
site_read II = refl
site_read III = refl
site_read IV = refl

site_back : (f : List ℕ) (s : Site) → site_named f ≡ Some s → f ≡ site_name s
site_back f s e = one (is_text (codes "I") f) (is_text (codes "II") f) (is_text (codes "III") f) (is_text (codes "IV") f) refl refl refl refl e
  where
    named_so : (x : Site) → f ≡ site_name x → ◌≡◌ {A = Option Site} (Some x) (Some s) → f ≡ site_name s
    named_so x p q = p ∙ ap site_name (same_some x s q)

    one : (a b c d : Bool) → is_text (codes "I") f ≡ a → is_text (codes "II") f ≡ b → is_text (codes "III") f ≡ c → is_text (codes "IV") f ≡ d →
        cond a (Some I) (cond b (Some II) (cond c (Some III) (cond d (Some IV) None))) ≡ Some s → f ≡ site_name s
    one true b c d p q r t h = named_so I (text_is (codes "I") f p) h
    one false true c d p q r t h = named_so II (text_is (codes "II") f q) h
    one false false true d p q r t h = named_so III (text_is (codes "III") f r) h
    one false false false true p q r t h = named_so IV (text_is (codes "IV") f t) h
    one false false false false p q r t h = absurd (no_some h)

-- a rule and its letter
rule_read : (r : SheetRule) → rule_named (rule_name r) ≡ Some r
rule_read (Left t) = refl
rule_read (Right e) = refl

rule_back : (f : List ℕ) (r : SheetRule) → rule_named f ≡ Some r → f ≡ rule_name r
rule_back f r e = one (is_text (codes "T") f) (is_text (codes "E") f) refl refl e
  where
    named_so : (x : SheetRule) → f ≡ rule_name x → ◌≡◌ {A = Option SheetRule} (Some x) (Some r) → f ≡ rule_name r
    named_so x p q = p ∙ ap rule_name (same_some x r q)

    one : (a b : Bool) → is_text (codes "T") f ≡ a → is_text (codes "E") f ≡ b → cond a (Some (Left (record {}))) (cond b (Some (Right (record {}))) None) ≡ Some r → f ≡ rule_name r
    one true b p q h = named_so (Left (record {})) (text_is (codes "T") f p) h
    one false true p q h = named_so (Right (record {})) (text_is (codes "E") f q) h
    one false false p q h = absurd (no_some h)

-- a site, a comma, and the rest
record SiteNext (xs : List ℕ) (s : Site) (fs : List (List ℕ)) : Type 0 where
  pub more : List ℕ
  pub is : site_field xs ≡ Some (s, more)
  pub left : parts 44 more ≡ fs

site_next : (xs : List ℕ) (s : Site) (g : List ℕ) (gs : List (List ℕ)) → parts 44 xs ≡ site_name s ∷ (g ∷ gs) → SiteNext xs s (g ∷ gs)
site_next xs s g gs e =
    let c = cut_more 44 xs (site_name s) g gs e in
    record {
      more = c.more;
      is = then_some (site_named (first 44 xs)) s _ _ (ap site_named c.front ∙ site_read s) (then_some (rest 44 xs) c.more _ _ c.back refl);
      left = c.left;
    }

site_rest : (xs : List ℕ) (c : Site × List ℕ) → site_field xs ≡ Some c → parts 44 xs ≡ site_name c.0 ∷ parts 44 c.1
site_rest xs c e =
    let p = of_some (site_named (first 44 xs)) _ c e in
    let q = of_some (rest 44 xs) _ c p.2 in
    let s : ◌≡◌ {A = Site × List ℕ} (p.0, q.0) c = same_some _ _ q.2 in
    cut_back 44 xs (site_name p.0) q.0 (site_back (first 44 xs) p.0 p.1) q.1 ∙ ap (λ (z : Site × List ℕ). site_name z.0 ∷ parts 44 z.1) s

-- the numbers of a case that are written in decimal
pub record SmallCase (n : Numbers) : Type 0 where
  pub accel : Small n.accel
  pub slo : Small n.slo
  pub shi : Small n.shi
  pub klo : Small n.klo
  pub khi : Small n.khi

in_field : (x low high field : ℕ) (u : Unit {0}) → high < 10000000 → case_field x low high field ≡ Ok u → Small x
in_field x low high field u h e = small_between low high x h (of_cond (between low high x) tt u (out_of_range Bridge field) e).0

pub small_case : (n m : Numbers) → case_made n ≡ Ok m → SmallCase n
small_case n m e =
    let a = of_then (case_field n.accel 1 100 1) _ m e in
    let b = of_then (case_field n.slo 50 300 3) _ m a.2 in
    let c = of_then (case_field n.shi 50 300 4) _ m b.2 in
    let d = of_then (case_field n.klo 50 300 5) _ m c.2 in
    let f = of_then (case_field n.khi 50 300 6) _ m d.2 in
    record {
      accel = in_field n.accel 1 100 1 a.0 (omega arith) a.1;
      slo = in_field n.slo 50 300 3 b.0 (omega arith) b.1;
      shi = in_field n.shi 50 300 4 c.0 (omega arith) c.1;
      klo = in_field n.klo 50 300 5 d.0 (omega arith) d.1;
      khi = in_field n.khi 50 300 6 f.0 (omega arith) f.1;
    }

-- the fields of a case
site_is_field : (s : Site) → Field (site_name s)
site_is_field I = record { commas = (refl, tt); ends = (refl, tt); short = omega arith }
site_is_field II = record { commas = (refl, (refl, tt)); ends = (refl, (refl, tt)); short = omega arith }
site_is_field III = record { commas = (refl, (refl, (refl, tt))); ends = (refl, (refl, (refl, tt))); short = omega arith }
site_is_field IV = record { commas = (refl, (refl, tt)); ends = (refl, (refl, tt)); short = omega arith }

rule_is_field : (r : SheetRule) → Field (rule_name r)
rule_is_field (Left t) = record { commas = (refl, tt); ends = (refl, tt); short = omega arith }
rule_is_field (Right e) = record { commas = (refl, tt); ends = (refl, tt); short = omega arith }

pub case_fields_are : (k : ℕ) (n : Numbers) → Small k → SmallCase n → AllByRecursion Field (case_fields k n)
case_fields_are k n h s =
    (decimal_field k h, (decimal_field n.accel s.accel, (site_is_field n.site, (decimal_field n.slo s.slo, (decimal_field n.shi s.shi, (decimal_field n.klo s.klo, (decimal_field n.khi s.khi, (rule_is_field n.rule, tt))))))))

form_is : (text : List ℕ) (k : ℕ) (n : Numbers) → Small k → SmallCase n → parts 44 text ≡ case_fields k n → case_form text ≡ Some (k, n)
form_is text k n h s e =
    let a = number_next text k _ _ e h in
    let b = number_next a.more n.accel _ _ a.left s.accel in
    let c = site_next b.more n.site _ _ b.left in
    let d = number_next c.more n.slo _ _ c.left s.slo in
    let f = number_next d.more n.shi _ _ d.left s.shi in
    let g = number_next f.more n.klo _ _ f.left s.klo in
    let j = number_next g.more n.khi _ _ g.left s.khi in
    let last : j.more ≡ rule_name n.rule = sym (parted_parts 44 j.more) ∙ ap (parted 44) j.left in
    then_some (number_field text) (k, a.more) _ _ a.is
    (then_some (number_field a.more) (n.accel, b.more) _ _ b.is
    (then_some (site_field b.more) (n.site, c.more) _ _ c.is
    (then_some (number_field c.more) (n.slo, d.more) _ _ d.is
    (then_some (number_field d.more) (n.shi, f.more) _ _ f.is
    (then_some (number_field f.more) (n.klo, g.more) _ _ g.is
    (then_some (number_field g.more) (n.khi, j.more) _ _ j.is
    (then_some (rule_named j.more) n.rule _ _ (ap rule_named last ∙ rule_read n.rule) refl)))))))

free_rule : (r : SheetRule) → parts 44 (rule_name r) ≡ rule_name r ∷ []
free_rule (Left t) = refl
free_rule (Right e) = refl

form_back : (text : List ℕ) (c : ℕ × Numbers) → case_form text ≡ Some c → parts 44 text ≡ case_fields c.0 c.1
form_back text q e =
    let a = of_some (number_field text) _ q e in
    let b = of_some (number_field a.0.1) _ q a.2 in
    let c = of_some (site_field b.0.1) _ q b.2 in
    let d = of_some (number_field c.0.1) _ q c.2 in
    let f = of_some (number_field d.0.1) _ q d.2 in
    let g = of_some (number_field f.0.1) _ q f.2 in
    let j = of_some (number_field g.0.1) _ q g.2 in
    let r = of_some (rule_named j.0.1) _ q j.2 in
    let last : parts 44 j.0.1 ≡ rule_name r.0 ∷ [] = ap (parts 44) (rule_back j.0.1 r.0 r.1) ∙ free_rule r.0 in
    let t7 : parts 44 g.0.1 ≡ decimal j.0.0 ∷ (rule_name r.0 ∷ []) = number_back g.0.1 j.0 j.1 ∙ ap (λ fs. decimal j.0.0 ∷ fs) last in
    let t6 : parts 44 f.0.1 ≡ decimal g.0.0 ∷ (decimal j.0.0 ∷ (rule_name r.0 ∷ [])) = number_back f.0.1 g.0 g.1 ∙ ap (λ fs. decimal g.0.0 ∷ fs) t7 in
    let t5 : parts 44 d.0.1 ≡ decimal f.0.0 ∷ (decimal g.0.0 ∷ (decimal j.0.0 ∷ (rule_name r.0 ∷ []))) = number_back d.0.1 f.0 f.1 ∙ ap (λ fs. decimal f.0.0 ∷ fs) t6 in
    let t4 : parts 44 c.0.1 ≡ decimal d.0.0 ∷ (decimal f.0.0 ∷ (decimal g.0.0 ∷ (decimal j.0.0 ∷ (rule_name r.0 ∷ [])))) = number_back c.0.1 d.0 d.1 ∙ ap (λ fs. decimal d.0.0 ∷ fs) t5 in
    let t3 = site_rest b.0.1 c.0 c.1 ∙ ap (λ fs. site_name c.0.0 ∷ fs) t4 in
    let t2 = number_back a.0.1 b.0 b.1 ∙ ap (λ fs. decimal b.0.0 ∷ fs) t3 in
    number_back text a.0 a.1 ∙ ap (λ fs. decimal a.0.0 ∷ fs) t2 ∙ ap (λ (z : ℕ × Numbers). case_fields z.0 z.1) (same_some _ q r.2)

-- the line of the k-th case, where it makes a case record, gives that case
pub case_read : (k : ℕ) (n : Numbers) → Small k → case_made n ≡ Ok n → case_line k (case_text k n) ≡ Ok n
case_read k n h e =
    let s = small_case n n e in
    let p : parts 44 (case_text k n) ≡ case_fields k n = parts_parted 44 (decimal k) _ (fields_free (case_fields k n) (case_fields_are k n h s)) in
    case_is (case_text k n) k k n (ap (λ o. ok_or o form_fault) (form_is (case_text k n) k n h s p)) refl ∙ ap (at_field 1) e

-- what is known of a line that is taken as the k-th case
pub record CaseBack (k : ℕ) (l : List ℕ) (n : Numbers) : Type 0 where
  pub text : l ≡ case_text k n
  pub made : case_made n ≡ Ok n

pub case_back : (k : ℕ) (l : List ℕ) (n : Numbers) → case_line k l ≡ Ok n → CaseBack k l n
case_back k l n e =
    let p = of_then (ok_or (case_form l) form_fault) (case_of k) n e in
    let q = of_then (cond (eqb p.0.0 k) (Ok tt) (Err (out_of_range Sheet 1))) (λ (u : Unit {0}). at_field 1 (case_made p.0.1)) n p.2 in
    let made = of_field 1 (case_made p.0.1) n q.2 in
    let same = case_same p.0.1 n made in
    let number = eqb-true p.0.0 k (of_cond (eqb p.0.0 k) tt q.0 (out_of_range Sheet 1) q.1).0 in
    record {
      text = sym (parted_parts 44 l) ∙ ap (parted 44) (form_back l p.0 (of_ok_or (case_form l) form_fault p.0 p.1)) ∙ ap₂ case_text number same;
      made = ap case_made (sym same) ∙ made;
    }
