-- The line of a row, read from its text and back. Assumes nothing.
use Rattle.std.proofs.Common.{◌≡◌, ℕ, zero, suc, ◌<◌, Bool, true, false, cond, eqb, ltb, leb, List, [], ◌∷◌, map, length, Some, None, Ok, Err, decimal, Option, Result, sym, refl, ap, ◌∙◌, subst, ap₂, arith}
use Rattle.std.specs.Option.{ok_or}
use Rattle.std.specs.List.{AllByRecursion}
use Rattle.std.proofs.lemmas.Bool.{eqb-true, leb-true, ltb-false, and_parts}
use Rattle.bearing.specs.declared.fault.Fault.{Fault}
use Rattle.bearing.specs.declared.fault.Layer.TheVariants.{Bearing}
use Rattle.kinds.specs.declared.lead.LeadRubber.{LeadRubber}
use Rattle.kinds.specs.declared.sliding.Pendulum.{Pendulum}
use Rattle.either.specs.declared.Either.{Either}
use Rattle.either.specs.declared.Either.TheVariants.{Left, Right}
use Rattle.bearing.specs.Ranges.{between}
use Rattle.bearing.specs.Refusals.{and_then, at_field, out_of_range}
use Rattle.bearing.specs.Fields.{field_checked}
use Rattle.bearing.specs.Compound.{count_checked, group_of, group_made}
use Rattle.kinds.specs.Leads.{lead_fields, lead_ranged, lead_shaped, lead_checked, lead_on_line}
use Rattle.kinds.specs.Pendulums.{pendulum_fields, pendulum_ranged, pendulum_checked, pendulum_on_line}
use Rattle.sheet.specs.Parts.{first, rest, parts, fields}
use Rattle.bearing.specs.Checks.{clash}
use Rattle.sheet.specs.Numbers.{option_then, parsed, number_field, cons_if, sized}
use Rattle.sheet.specs.RowLines.{form_fault, Row, kind_force, row_form, unused_zero, bearing_of, kind_row, lead_row, pendulum_row, row_line}
use Rattle.sheet.specs.Text.{parted, letter, five, row_fields, row_text, BearingMade, RowMade}
use Rattle.sheet.proofs.Spelling.{no_some, parsed_decimal, parsed_back}
use Rattle.sheet.proofs.Parting.{Free, Field, decimal_field, parted_parts, parts_parted, cut_more, cut_back}

-- one step after another, there and back
pub then_some : {S T : Type 0} (o : Option S) (x : S) (f : S → Option T) (r : Option T) → o ≡ Some x → f x ≡ r → option_then o f ≡ r
then_some o x f r e q = ap (λ y. option_then y f) e ∙ q

pub of_some : {S T : Type 0} (o : Option S) (f : S → Option T) (r : T) → option_then o f ≡ Some r → (x : S) × (o ≡ Some x) × (f x ≡ Some r)
of_some (Some x) f r e = (x, refl, e)
of_some None f r e = absurd (no_some e)

pub then_ok : {S T : Type 0} (o : Result S Fault) (x : S) (f : S → Result T Fault) (r : Result T Fault) → o ≡ Ok x → f x ≡ r → and_then o f ≡ r
then_ok o x f r e q = ap (λ y. and_then y f) e ∙ q

pub of_then : {S T : Type 0} (o : Result S Fault) (f : S → Result T Fault) (r : T) → and_then o f ≡ Ok r → (x : S) × (o ≡ Ok x) × (f x ≡ Ok r)
of_then (Ok x) f r e = (x, refl, e)
of_then (Err z) f r e = absurd (clash e)

pub of_ok_or : {S : Type 0} (o : Option S) (z : Fault) (x : S) → ok_or o z ≡ Ok x → o ≡ Some x
of_ok_or (Some y) z x e = let q : y ≡ x = cc in ap Some q
of_ok_or None z x e = absurd (clash e)

pub of_field : {S : Type 0} (by : ℕ) (r : Result S Fault) (x : S) → at_field by r ≡ Ok x → r ≡ Ok x
of_field by (Ok y) x e = e
of_field by (Err z) x e = absurd (clash e)

pub of_cond : {T : Type 0} (b : Bool) (x m : T) (z : Fault) → ◌≡◌ {A = Result T Fault} (cond b (Ok x) (Err z)) (Ok m) → (b ≡ true) × (x ≡ m)
of_cond true x m z e = let q : x ≡ m = cc in (refl, q)
of_cond false x m z e = absurd (clash e)

pub same_ok : {S : Type 0} (x y : S) → ◌≡◌ {A = Result S Fault} (Ok x) (Ok y) → x ≡ y
same_ok x y e = cc

pub same_some : {S : Type 0} (x y : S) → ◌≡◌ {A = Option S} (Some x) (Some y) → x ≡ y
same_some x y e = cc

-- a number of at most seven digits
abbrev pub Small : ℕ → Type 0
Small n = n < 10000000

pub small_between : (lo hi x : ℕ) → hi < 10000000 → between lo hi x ≡ true → Small x
small_between lo hi x h e = let q = leb-true x hi (and_parts (leb lo x) (leb x hi) e).1 in omega arith

-- a number, a comma, and the rest
pub record Next (xs : List ℕ) (n : ℕ) (fs : List (List ℕ)) : Type 0 where
  pub more : List ℕ
  pub is : number_field xs ≡ Some (n, more)
  pub left : parts 44 more ≡ fs

pub number_next : (xs : List ℕ) (n : ℕ) (g : List ℕ) (gs : List (List ℕ)) → parts 44 xs ≡ decimal n ∷ (g ∷ gs) → Small n → Next xs n (g ∷ gs)
number_next xs n g gs e h =
    let c = cut_more 44 xs (decimal n) g gs e in
    record {
      more = c.more;
      is = then_some (parsed (first 44 xs)) n _ _ (ap parsed c.front ∙ parsed_decimal n h) (then_some (rest 44 xs) c.more _ _ c.back refl);
      left = c.left;
    }

pub number_back : (xs : List ℕ) (c : ℕ × List ℕ) → number_field xs ≡ Some c → parts 44 xs ≡ decimal c.0 ∷ parts 44 c.1
number_back xs c e =
    let p = of_some (parsed (first 44 xs)) _ c e in
    let q = of_some (rest 44 xs) _ c p.2 in
    let s : ◌≡◌ {A = ℕ × List ℕ} (p.0, q.0) c = same_some _ _ q.2 in
    cut_back 44 xs (decimal p.0) q.0 (parsed_back (first 44 xs) p.0 p.1).text q.1 ∙ ap (λ (z : ℕ × List ℕ). decimal z.0 ∷ parts 44 z.1) s

-- the numbers of fields
sized_decimals : (ns : List ℕ) → AllByRecursion Small ns → sized (length ns) (map decimal ns) ≡ Some ns
sized_decimals [] h = refl
sized_decimals (n ∷ ns) h = ap₂ cons_if (parsed_decimal n h.0) (sized_decimals ns h.1)

of_cons : (a : Option ℕ) (o : Option (List ℕ)) (ns : List ℕ) → cons_if a o ≡ Some ns → (m : ℕ) × (ms : List ℕ) × (a ≡ Some m) × (o ≡ Some ms) × (m ∷ ms ≡ ns)
of_cons None o ns e = absurd (no_some e)
of_cons (Some m) None ns e = absurd (no_some e)
of_cons (Some m) (Some ms) ns e = (m, ms, refl, refl, same_some _ _ e)

sized_back : (k : ℕ) (fs : List (List ℕ)) (ns : List ℕ) → sized k fs ≡ Some ns → (fs ≡ map decimal ns) × (length ns ≡ k)
sized_back zero [] ns e = let q : [] ≡ ns = same_some [] ns e in (ap (map decimal) q, sym (ap length q))
sized_back zero (f ∷ fs) ns e = absurd (no_some e)
sized_back (suc k) [] ns e = absurd (no_some e)
sized_back (suc k) (f ∷ fs) ns e =
    let p = of_cons (parsed f) (sized k fs) ns e in
    let r = sized_back k fs p.1 p.3 in (
      ap₂ (λ (a : List ℕ) (b : List (List ℕ)). a ∷ b) (parsed_back f p.0 p.2).text r.0 ∙ ap (map decimal) p.4,
      sym (ap length p.4) ∙ ap suc r.1,
    )

-- the count and the five numbers
form_is : (text : List ℕ) (n : ℕ) (ps : List ℕ) → parts 44 text ≡ map decimal (n ∷ ps) → length ps ≡ 5 → Small n → AllByRecursion Small ps → row_form text ≡ Some (n, ps)
form_is text n [] e l h hs = absurd (omega arith)
form_is text n (p ∷ ps) e l h hs =
    let c = number_next text n (decimal p) (map decimal ps) e h in
    then_some (number_field text) (n, c.more) _ _ c.is
    (then_some (sized 5 (fields c.more)) (p ∷ ps) _ _ (ap (sized 5) c.left ∙ ap (λ k. sized k (map decimal (p ∷ ps))) (sym l) ∙ sized_decimals (p ∷ ps) hs) refl)

form_back : (text : List ℕ) (c : ℕ × List ℕ) → row_form text ≡ Some c → (parts 44 text ≡ map decimal (c.0 ∷ c.1)) × (length c.1 ≡ 5)
form_back text c e =
    let p = of_some (number_field text) _ c e in
    let q = of_some (sized 5 (fields p.0.1)) _ c p.2 in
    let r = sized_back 5 (fields p.0.1) q.0 q.1 in
    let s : ◌≡◌ {A = ℕ × List ℕ} (p.0.0, q.0) c = same_some _ _ q.2 in (
      number_back text p.0 p.1 ∙ ap (λ fs. decimal p.0.0 ∷ fs) r.0 ∙ ap (λ (z : ℕ × List ℕ). map decimal (z.0 ∷ z.1)) s,
      sym (ap (λ (z : ℕ × List ℕ). length z.1) s) ∙ r.1,
    )

module _ {K : Type 0} (own : ℕ) (ranged : List ℕ → Result (Unit {0}) Fault) (made : List ℕ → Result K Fault) where
  kind_is : (text : List ℕ) (n : ℕ) (ps : List ℕ) (b : K) → parts 44 text ≡ map decimal (n ∷ ps) → length ps ≡ 5 → Small n → AllByRecursion Small ps →
      count_checked n ≡ Ok tt → ranged ps ≡ Ok tt → unused_zero own 0 ps ≡ Ok tt → made ps ≡ Ok b → kind_row own ranged made text ≡ Ok (n, b)
  kind_is text n ps b e l h hs counted inside unused is =
      then_ok (ok_or (row_form text) form_fault) (n, ps) _ _ (ap (λ o. ok_or o form_fault) (form_is text n ps e l h hs))
      (then_ok (at_field 1 (count_checked n)) tt _ _ (ap (at_field 1) counted)
      (then_ok (at_field 2 (bearing_of own ranged made ps)) b _ _
      (ap (at_field 2) (then_ok (ranged ps) tt _ _ inside (then_ok (unused_zero own 0 ps) tt _ _ unused is))) refl))

  record KindRow (text : List ℕ) (q : ℕ × K) : Type 0 where
    pub five_are : List ℕ
    pub left : parts 44 text ≡ map decimal (q.0 ∷ five_are)
    pub just : length five_are ≡ 5
    pub unused : unused_zero own 0 five_are ≡ Ok tt
    pub is : made five_are ≡ Ok q.1

  kind_back : (text : List ℕ) (q : ℕ × K) → kind_row own ranged made text ≡ Ok q → KindRow text q
  kind_back text q e =
      let a = of_then (ok_or (row_form text) form_fault) _ q e in
      let f = form_back text a.0 (of_ok_or (row_form text) form_fault a.0 a.1) in
      let b = of_then (at_field 1 (count_checked a.0.0)) _ q a.2 in
      let d = of_then (at_field 2 (bearing_of own ranged made a.0.1)) _ q b.2 in
      let s : ◌≡◌ {A = ℕ × K} (a.0.0, d.0) q = same_ok _ _ d.2 in
      let g = of_then (ranged a.0.1) _ d.0 (of_field 2 (bearing_of own ranged made a.0.1) d.0 d.1) in
      let u = of_then (unused_zero own 0 a.0.1) _ d.0 g.2 in
      record {
        five_are = a.0.1;
        left = f.0 ∙ ap (λ (z : ℕ × K). map decimal (z.0 ∷ a.0.1)) s;
        just = f.1;
        unused = u.1;
        is = u.2 ∙ ap (λ (z : ℕ × K). Ok z.1) s;
      }

-- a number that is checked to be in its range
in_field : (x low high place : ℕ) (u : Unit {0}) → high < 10000000 → field_checked x low high place ≡ Ok u → Small x
in_field x low high place u h e = small_between low high x h (of_cond (between low high x) tt u (out_of_range Bearing place) e).0

lead_small : (b : LeadRubber) → lead_ranged b ≡ Ok tt → AllByRecursion Small (five (Left b))
lead_small b e =
    let a = of_then (field_checked b.lead 10 400 1) _ tt e in
    let c = of_then (field_checked b.stress 50 200 2) _ tt a.2 in
    let d = of_then (field_checked b.bonded 100 1500 3) _ tt c.2 in
    let f = of_then (field_checked b.modulus 40 200 4) _ tt d.2 in (
      in_field b.lead 10 400 1 a.0 (omega arith) a.1,
      (
        in_field b.stress 50 200 2 c.0 (omega arith) c.1,
        (
          in_field b.bonded 100 1500 3 d.0 (omega arith) d.1,
          (
            in_field b.modulus 40 200 4 f.0 (omega arith) f.1,
            (in_field b.rubber 20 1000 5 tt (omega arith) f.2, tt),
          ),
        ),
      ),
    )

pendulum_small : (b : Pendulum) → pendulum_ranged b ≡ Ok tt → AllByRecursion Small (five (Right b))
pendulum_small b e =
    let a = of_then (field_checked b.load 10 20000 1) _ tt e in
    let c = of_then (field_checked b.friction 10 200 2) _ tt a.2 in
    let z : Small 0 = omega arith in (
      in_field b.load 10 20000 1 a.0 (omega arith) a.1,
      (
        in_field b.friction 10 200 2 c.0 (omega arith) c.1,
        (in_field b.radius 200 20000 3 tt (omega arith) c.2, (z, (z, tt))),
      ),
    )

lead_in : (b : LeadRubber) → lead_checked b ≡ Ok b → lead_ranged b ≡ Ok tt
lead_in b e =
    let p = of_then (lead_shaped b) _ b e in
    (of_then (lead_ranged b) _ p.0 p.1).1

pendulum_in : (b : Pendulum) → pendulum_checked b ≡ Ok b → pendulum_ranged b ≡ Ok tt
pendulum_in b e = (of_then (pendulum_ranged b) _ b e).1

-- the numbers of a row that is made are small
five_small : (m : Either LeadRubber Pendulum) → BearingMade m → AllByRecursion Small (five m)
five_small (Left b) e = lead_small b (lead_in b e)
five_small (Right b) e = pendulum_small b (pendulum_in b e)

count_in : (m : Either LeadRubber Pendulum) (n : ℕ) (r : Row) → group_made kind_force n m ≡ Ok r → count_checked n ≡ Ok tt
count_in m n r e = (of_then (count_checked n) _ r e).1

count_small : (n : ℕ) → count_checked n ≡ Ok tt → Small n
count_small n e = small_between 1 20 n (omega arith) (of_cond (between 1 20 n) tt tt _ e).0

decimal_fields : (ns : List ℕ) → AllByRecursion Small ns → AllByRecursion Field (map decimal ns)
decimal_fields [] h = tt
decimal_fields (n ∷ ns) h = (decimal_field n h.0, decimal_fields ns h.1)

pub fields_free : (fs : List (List ℕ)) → AllByRecursion Field fs → AllByRecursion (Free 44) fs
fields_free [] h = tt
fields_free (f ∷ fs) h = (h.0.commas, fields_free fs h.1)

-- the text after a row's letter
tail_parts : (n : ℕ) (ns : List ℕ) → AllByRecursion Small (n ∷ ns) → parts 44 (parted 44 (map decimal (n ∷ ns))) ≡ map decimal (n ∷ ns)
tail_parts n ns h = parts_parted 44 (decimal n) (map decimal ns) (fields_free (map decimal (n ∷ ns)) (decimal_fields (n ∷ ns) h))

row_is : (n : ℕ) (m : Either LeadRubber Pendulum) (r : Row) → BearingMade m → group_made kind_force n m ≡ Ok r → row_line (row_text (group_of n m)) ≡ Ok r
row_is n (Left b) r e g =
    let counted = count_in (Left b) n r g in
    let hs = five_small (Left b) e in
    then_ok (kind_row lead_fields (λ p. lead_ranged (lead_on_line p)) (λ p. lead_checked (lead_on_line p)) (parted 44 (map decimal (n ∷ five (Left b))))) (n, b) _ _
    (kind_is lead_fields (λ p. lead_ranged (lead_on_line p)) (λ p. lead_checked (lead_on_line p)) (parted 44 (map decimal (n ∷ five (Left b)))) n (five (Left b)) b
    (tail_parts n (five (Left b)) (count_small n counted, hs)) refl (count_small n counted) hs counted (lead_in b e) refl e)
    g
row_is n (Right b) r e g =
    let counted = count_in (Right b) n r g in
    let hs = five_small (Right b) e in
    then_ok (kind_row pendulum_fields (λ p. pendulum_ranged (pendulum_on_line p)) (λ p. pendulum_checked (pendulum_on_line p)) (parted 44 (map decimal (n ∷ five (Right b))))) (n, b) _ _
    (kind_is pendulum_fields (λ p. pendulum_ranged (pendulum_on_line p)) (λ p. pendulum_checked (pendulum_on_line p)) (parted 44 (map decimal (n ∷ five (Right b)))) n (five (Right b)) b
    (tail_parts n (five (Right b)) (count_small n counted, hs)) refl (count_small n counted) hs counted (pendulum_in b e) refl e)
    g

-- the line of a row that is made gives that row
pub row_read : (r : Row) → RowMade r → row_line (row_text r) ≡ Ok r
row_read r h = row_is r.count r.member r h.bearing h.group

-- its fields
letter_field : (m : Either LeadRubber Pendulum) → Field (letter m ∷ [])
letter_field (Left b) = record { commas = (refl, tt); ends = (refl, tt); short = omega arith }
letter_field (Right b) = record { commas = (refl, tt); ends = (refl, tt); short = omega arith }

pub row_fields_are : (r : Row) → RowMade r → AllByRecursion Field (row_fields r)
row_fields_are r h = (
  letter_field r.member,
  decimal_fields (r.count ∷ five r.member) (count_small r.count (count_in r.member r.count r h.group), five_small r.member h.bearing),
)

-- back: five numbers of a line are those of the bearing
lead_five : (p : List ℕ) → length p ≡ 5 → five (Left (lead_on_line p)) ≡ p
lead_five [] l = absurd (omega arith)
lead_five (a ∷ []) l = absurd (omega arith)
lead_five (a ∷ (b ∷ [])) l = absurd (omega arith)
lead_five (a ∷ (b ∷ (c ∷ []))) l = absurd (omega arith)
lead_five (a ∷ (b ∷ (c ∷ (d ∷ [])))) l = absurd (omega arith)
lead_five (a ∷ (b ∷ (c ∷ (d ∷ (e ∷ []))))) l = refl
lead_five (a ∷ (b ∷ (c ∷ (d ∷ (e ∷ (f ∷ fs)))))) l = absurd (omega arith)

of_unused : (b : Bool) (z : Fault) (r : Result (Unit {0}) Fault) → cond b (Err z) r ≡ Ok tt → (b ≡ false) × (r ≡ Ok tt)
of_unused true z r e = absurd (clash e)
of_unused false z r e = (refl, e)

no_more : (x : ℕ) → ltb 0 x ≡ false → x ≡ 0
no_more x e = let h = ltb-false 0 x e in omega arith

pendulum_five : (p : List ℕ) → length p ≡ 5 → unused_zero 3 0 p ≡ Ok tt → five (Right (pendulum_on_line p)) ≡ p
pendulum_five [] l u = absurd (omega arith)
pendulum_five (a ∷ []) l u = absurd (omega arith)
pendulum_five (a ∷ (b ∷ [])) l u = absurd (omega arith)
pendulum_five (a ∷ (b ∷ (c ∷ []))) l u = absurd (omega arith)
pendulum_five (a ∷ (b ∷ (c ∷ (d ∷ [])))) l u = absurd (omega arith)
pendulum_five (a ∷ (b ∷ (c ∷ (d ∷ (e ∷ []))))) l u =
    let p = of_unused (ltb 0 d) _ _ u in
    let q = of_unused (ltb 0 e) _ _ p.1 in
    ap₂ (λ (x y : ℕ). a ∷ (b ∷ (c ∷ (x ∷ (y ∷ []))))) (sym (no_more d p.0)) (sym (no_more e q.0))
pendulum_five (a ∷ (b ∷ (c ∷ (d ∷ (e ∷ (f ∷ fs)))))) l u = absurd (omega arith)

lead_same : (b m : LeadRubber) → lead_checked b ≡ Ok m → b ≡ m
lead_same b m e = let p = of_then (lead_shaped b) _ m e in (of_cond _ b m _ p.2).1

pendulum_same : (b m : Pendulum) → pendulum_checked b ≡ Ok m → b ≡ m
pendulum_same b m e = let p = of_then (pendulum_ranged b) _ m e in (of_cond _ b m _ p.2).1

group_same : (n : ℕ) (m : Either LeadRubber Pendulum) (r : Row) → group_made kind_force n m ≡ Ok r → group_of n m ≡ r
group_same n m r e = let p = of_then (count_checked n) _ r e in (of_cond _ (group_of n m) r _ p.2).1

-- what is known of a line that is taken as a row
pub record RowBack (l : List ℕ) (r : Row) : Type 0 where
  pub text : l ≡ row_text r
  pub made : RowMade r

row_from : (n : ℕ) (m : Either LeadRubber Pendulum) (r : Row) (text : List ℕ) → BearingMade m → group_made kind_force n m ≡ Ok r → parts 44 text ≡ map decimal (n ∷ five m) → RowBack (letter m ∷ (44 ∷ text)) r
row_from n m r text e g p =
    let s = group_same n m r g in
    let t : letter m ∷ (44 ∷ text) ≡ row_text (group_of n m) = ap (λ (x : List ℕ). letter m ∷ (44 ∷ x)) (sym (parted_parts 44 text) ∙ ap (parted 44) p) in
    subst (RowBack (letter m ∷ (44 ∷ text))) s (record { text = t; made = record { bearing = e; group = g ∙ sym (ap Ok s) } })

lead_back : (text : List ℕ) (r : Row) → lead_row text ≡ Ok r → RowBack (76 ∷ (44 ∷ text)) r
lead_back text r e =
    let p = of_then (kind_row lead_fields (λ p. lead_ranged (lead_on_line p)) (λ p. lead_checked (lead_on_line p)) text) _ r e in
    let k = kind_back lead_fields (λ p. lead_ranged (lead_on_line p)) (λ p. lead_checked (lead_on_line p)) text p.0 p.1 in
    let s = lead_same (lead_on_line k.five_are) p.0.1 k.is in
    row_from p.0.0 (Left p.0.1) r text (ap lead_checked (sym s) ∙ k.is) p.2
    (k.left ∙ ap (λ ns. map decimal (p.0.0 ∷ ns)) (sym (lead_five k.five_are k.just) ∙ ap (λ b. five (Left b)) s))

pendulum_back : (text : List ℕ) (r : Row) → pendulum_row text ≡ Ok r → RowBack (80 ∷ (44 ∷ text)) r
pendulum_back text r e =
    let p = of_then (kind_row pendulum_fields (λ p. pendulum_ranged (pendulum_on_line p)) (λ p. pendulum_checked (pendulum_on_line p)) text) _ r e in
    let k = kind_back pendulum_fields (λ p. pendulum_ranged (pendulum_on_line p)) (λ p. pendulum_checked (pendulum_on_line p)) text p.0 p.1 in
    let s = pendulum_same (pendulum_on_line k.five_are) p.0.1 k.is in
    row_from p.0.0 (Right p.0.1) r text (ap pendulum_checked (sym s) ∙ k.is) p.2
    (k.left ∙ ap (λ ns. map decimal (p.0.0 ∷ ns)) (sym (pendulum_five k.five_are k.just k.unused) ∙ ap (λ b. five (Right b)) s))

by_letter : (k : ℕ) (text : List ℕ) (r : Row) (a b : Bool) → eqb k 76 ≡ a → eqb k 80 ≡ b → cond a (lead_row text) (cond b (pendulum_row text) (Err form_fault)) ≡ Ok r → RowBack (k ∷ (44 ∷ text)) r
by_letter k text r true b p q e = subst (λ (x : ℕ). RowBack (x ∷ (44 ∷ text)) r) (sym (eqb-true k 76 p)) (lead_back text r e)
by_letter k text r false true p q e = subst (λ (x : ℕ). RowBack (x ∷ (44 ∷ text)) r) (sym (eqb-true k 80 q)) (pendulum_back text r e)
by_letter k text r false false p q e = absurd (clash e)

by_comma : (k c : ℕ) (text : List ℕ) (r : Row) (t : Bool) → eqb c 44 ≡ t → cond t (cond (eqb k 76) (lead_row text) (cond (eqb k 80) (pendulum_row text) (Err form_fault))) (Err form_fault) ≡ Ok r → RowBack (k ∷ (c ∷ text)) r
by_comma k c text r true p e = subst (λ (x : ℕ). RowBack (k ∷ (x ∷ text)) r) (sym (eqb-true c 44 p)) (by_letter k text r (eqb k 76) (eqb k 80) refl refl e)
by_comma k c text r false p e = absurd (clash e)

-- a line that is taken as a row is the line of that row, and making accepts it
pub row_back : (l : List ℕ) (r : Row) → row_line l ≡ Ok r → RowBack l r
row_back [] r e = absurd (clash e)
row_back (k ∷ []) r e = absurd (clash e)
row_back (k ∷ (c ∷ text)) r e = by_comma k c text r (eqb c 44) refl e
