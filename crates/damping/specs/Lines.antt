-- The table's function: it never falls as n grows, and its square over n × d never rises as n / d grows.
use Rattle.std.specs.Prelude.{◌≡◌, ℕ, ◌+◌, ◌-◌, ◌*◌, ◌/◌, ◌<◌, ◌≤◌, cond, List, [], ◌∷◌, nat_le}
use Rattle.std.proofs.Common.{sym, ◌∙◌, ap, subst, inl, inr, mul-le-mul_left, mul-le-mul_right, mul-le-mul, le_of_mul-le-mul_right, mul-div_cancel, le_of_lt, zero-mul, mul-zero, arith}
use Rattle.std.proofs.Math.Nat.{mul-sub, zero-div, sub_self}
use Rattle.std.proofs.lemmas.Bool.{cond-true, cond-false, le-leb, lt-leb, cases_lt}
use Rattle.damping.specs.Table.{Point, at, read_from, read_table, InterpolatesFrom, Interpolates}

cross : (a b u v : ℕ) → b ≤ a → u ≤ v → a * u + b * v ≤ a * v + b * u
cross a b u v h k = omega (arith, mul-le-mul_right (v - u) h, mul-sub a v u, mul-sub b v u, mul-le-mul_left a k, mul-le-mul_left b k)

-- (n', d') is the lesser fraction, and x and x' the values there
abbrev Sub : ℕ → ℕ → ℕ → ℕ → ℕ → ℕ → Type 0
Sub x n d x' n' d' = (x * x) * (n' * d') ≤ (x' * x') * (n * d)

-- on one line
chord : (a s n d n' d' : ℕ) → s * n ≤ a * d → s * n' ≤ a * d' → n' * d ≤ n * d' →
    Sub (a * d + s * n) n d (a * d' + s * n') n' d'
chord a s n d n' d' h h' k =
    omega (arith, cross ((a * d) * (a * d')) ((s * n) * (s * n')) (n' * d) (n * d') (mul-le-mul h h') k)

-- over a point b with the value z there
joined : (x n d x' n' d' z b : ℕ) → 0 < b → Sub x n d z b 1 → Sub z b 1 x' n' d' → Sub x n d x' n' d'
joined x n d x' n' d' z b p u v =
    let g : (x * x) * (n' * d') * b ≤ (x' * x') * (n * d) * b =
    omega (arith, mul-le-mul_right (n' * d') u, mul-le-mul_right (n * d) v) in
    le_of_mul-le-mul_right g p

-- at one n, which falls out
dropped : (x x' n d d' : ℕ) → 0 < n → Sub x n d x' n d' → (x * x) * d' ≤ (x' * x') * d
dropped x x' n d d' p s =
    let g : (x * x) * d' * n ≤ (x' * x') * d * n = omega (arith, s) in
    le_of_mul-le-mul_right g p

-- the line through two points of the table
record Line (k m : Point) : Type 0 where
  a : ℕ
  s : ℕ
  left : a + s * k.percent ≡ 30 * k.tenths
  right : a + s * m.percent ≡ 30 * m.tenths
  flat : s * m.percent ≤ a
  order : k.percent < m.percent
  value : (n d : ℕ) → k.percent * d ≤ n →
      30 * (k.tenths * d) + 30 * (m.tenths - k.tenths) * (n - k.percent * d) / (m.percent - k.percent) ≡ a * d + s * n

-- what is asked of two neighbours of the table
pub record Good (k m : Point) : Type 0 where
  pub order : k.percent < m.percent
  pub rise : k.tenths ≤ m.tenths
  pub whole : 30 / (m.percent - k.percent) * (m.percent - k.percent) ≡ 30
  pub flat : 2 * (m.percent * (m.tenths - k.tenths)) ≤ m.tenths * (m.percent - k.percent)

abbrev pub Goods : Point → List Point → Type 0
Goods k [] = Unit {0}
Goods k (m ∷ rest) = Good k m × Goods m rest

scaled_by : (w h y t : ℕ) → 0 < h → w * h ≡ 30 → 30 * y * t / h ≡ w * y * t
scaled_by w h y t p e =
    let g : 30 * y * t ≡ w * y * t * h = omega (arith, ap (λ (z : ℕ). z * (y * t)) e) in
    ap (λ (z : ℕ). z / h) g ∙ mul-div_cancel (w * y * t) p

sloped : (w h y b t : ℕ) → w * h ≡ 30 → 2 * ((b + h) * y) ≤ (t + y) * h → w * y * (b + h) + w * y * b ≤ 30 * t
sloped w h y b t e f = omega (arith, mul-le-mul_left w f, ap (λ (z : ℕ). z * y) e, ap (λ (z : ℕ). z * t) e)

-- the line over b = k + h, and its height
through : (k t h y w : ℕ) → 0 < h → w * h ≡ 30 → 2 * ((k + h) * y) ≤ (t + y) * h → Line (at k t) (at (k + h) (t + y))
through k t h y w p e f =
    let g = sloped w h y k t e f in
    let hh : k + h - k ≡ h = omega arith in
    let yy : t + y - t ≡ y = omega arith in
    record {
      a = 30 * t - w * y * k;
      s = w * y;
      left = omega arith;
      right = omega (arith, ap (λ (z : ℕ). z * y) e);
      flat = omega arith;
      order = omega arith;
      value = λ n d q.
          simp (hh, yy, scaled_by w h y (n - k * d) p e)
          (omega (arith, mul-sub (w * y) n (k * d), mul-le-mul_left (w * y) q, mul-sub d (30 * t) (w * y * k), mul-le-mul_right d g));
    }

line : (k m : Point) → Good k m → Line k m
line k m g =
    let ep : k.percent + (m.percent - k.percent) ≡ m.percent = omega arith in
    let et : k.tenths + (m.tenths - k.tenths) ≡ m.tenths = omega arith in
    let p : 0 < m.percent - k.percent = omega arith in
    let f : 2 * ((k.percent + (m.percent - k.percent)) * (m.tenths - k.tenths)) ≤ (k.tenths + (m.tenths - k.tenths)) * (m.percent - k.percent) =
    simp (ep, et) g.flat in
    subst (λ (y : ℕ). Line k (at m.percent y)) et
    (subst (λ (b : ℕ). Line k (at b (k.tenths + (m.tenths - k.tenths)))) ep
    (through k.percent k.tenths (m.percent - k.percent) (m.tenths - k.tenths) (30 / (m.percent - k.percent)) p g.whole f))

-- where the value is, on either side of the next point
here : (k m : Point) (rest : List Point) (l : Line k m) (n d : ℕ) → k.percent * d ≤ n → n ≤ m.percent * d → read_from k (m ∷ rest) n d ≡ l.a * d + l.s * n
here k m rest l n d p q = cond-true _ _ _ (le-leb _ _ q) ∙ l.value n d p

past : (k m : Point) (rest : List Point) (n d : ℕ) → m.percent * d < n → read_from k (m ∷ rest) n d ≡ read_from m rest n d
past k m rest n d q = cond-false _ _ _ (lt-leb _ _ q)

-- from a point on, the value is at least that point's
low : (k : Point) (ms : List Point) → Goods k ms → (n d : ℕ) → k.percent * d ≤ n → 30 * (k.tenths * d) ≤ read_from k ms n d
low k [] g n d p = omega arith
low k (m ∷ rest) g n d p =
    let l = line k m g.0 in
    elim (cases_lt (m.percent * d) n) [
      | inl q ↦ omega (arith, past k m rest n d q, low m rest g.1 n d (le_of_lt q), mul-le-mul_right d g.0.rise)
      | inr q ↦ omega (arith, here k m rest l n d p q, ap (λ (z : ℕ). z * d) l.left, mul-le-mul_left l.s p)
    ]

-- at the point itself it is that point's
start : (k : Point) (ms : List Point) → Goods k ms → read_from k ms k.percent 1 ≡ 30 * k.tenths
start k [] g = omega arith
start k (m ∷ rest) g =
    let l = line k m g.0 in
    here k m rest l k.percent 1 (omega arith) (omega (arith, g.0.order)) ∙ omega (arith, l.left)

rises : (k : Point) (ms : List Point) → Goods k ms → (n n' d : ℕ) → k.percent * d ≤ n → n ≤ n' → read_from k ms n d ≤ read_from k ms n' d
rises k [] g n n' d p h = omega arith
rises k (m ∷ rest) g n n' d p h =
    let l = line k m g.0 in
    elim (cases_lt (m.percent * d) n) [
      | inl q ↦ omega (arith, past k m rest n d q, past k m rest n' d (omega arith), rises m rest g.1 n n' d (le_of_lt q) h)
      | inr q ↦ elim (cases_lt (m.percent * d) n') [
        | inl q' ↦ omega (arith, here k m rest l n d p q, past k m rest n' d q', low m rest g.1 n' d (le_of_lt q'), ap (λ (z : ℕ). z * d) l.right, mul-le-mul_left l.s q)
        | inr q' ↦ omega (arith, here k m rest l n d p q, here k m rest l n' d (omega arith) q', mul-le-mul_left l.s h)
      ]
    ]

sub_at : (x y n d x' y' n' d' : ℕ) → x ≡ y → x' ≡ y' → Sub y n d y' n' d' → Sub x n d x' n' d'
sub_at x y n d x' y' n' d' e e' h = rw (e, e') h

under : (a s b n d : ℕ) → s * b ≤ a → n ≤ b * d → s * n ≤ a * d
under a s b n d f q = omega (arith, mul-le-mul_left s q, mul-le-mul_right d f)

sinks : (k : Point) (ms : List Point) → Goods k ms → (n d n' d' : ℕ) → 0 < d → 0 < d' → k.percent * d' ≤ n' → n' * d ≤ n * d' →
    Sub (read_from k ms n d) n d (read_from k ms n' d') n' d'
sinks k [] g n d n' d' z z' p h = omega (arith, mul-le-mul_left ((k.tenths * k.tenths) * (d * d')) h)
sinks k (m ∷ rest) g n d n' d' z z' p h =
    let l = line k m g.0 in
    elim (cases_lt (m.percent * d) n) [
      | inl q ↦ elim (cases_lt (m.percent * d') n') [
        | inl q' ↦ sub_at _ _ n d _ _ n' d' (past k m rest n d q) (past k m rest n' d' q') (sinks m rest g.1 n d n' d' z z' (le_of_lt q') h)
        | inr q' ↦ joined _ n d _ n' d' (30 * m.tenths) m.percent (omega (arith, l.order))
            (sub_at _ _ n d _ _ m.percent 1 (past k m rest n d q) (sym (start m rest g.1))
            (sinks m rest g.1 n d m.percent 1 z (omega arith) (omega arith) (omega arith)))
            (sub_at _ _ m.percent 1 _ _ n' d' (omega (arith, l.right)) (here k m rest l n' d' p q')
            (chord l.a l.s m.percent 1 n' d' (omega (arith, l.flat)) (under _ _ m.percent _ _ l.flat q') (omega arith)))
      ]
      | inr q ↦
          let u : n' * d ≤ (m.percent * d') * d = omega (arith, mul-le-mul_right d' q) in
          let v : (k.percent * d) * d' ≤ n * d' = omega (arith, mul-le-mul_right d p) in
          let q' : n' ≤ m.percent * d' = le_of_mul-le-mul_right u z in
          let r : k.percent * d ≤ n = le_of_mul-le-mul_right v z' in
          sub_at _ _ n d _ _ n' d' (here k m rest l n d r q) (here k m rest l n' d' p q')
          (chord l.a l.s n d n' d' (under _ _ m.percent _ _ l.flat q) (under _ _ m.percent _ _ l.flat q') h)
    ]

-- before the first point the line is level
level : (k : Point) (rest : List Point) (n d : ℕ) → read_table (k ∷ rest) n d ≡ read_from (at 0 k.tenths) (k ∷ rest) n d
level k rest n d =
    let z : 30 * (k.tenths - k.tenths) * (n - 0 * d) ≡ 0 = simp (sub_self, mul-zero, zero-mul) in
    let e : 30 * (k.tenths * d) ≡ 30 * (k.tenths * d) + 30 * (k.tenths - k.tenths) * (n - 0 * d) / (k.percent - 0) =
    simp (z, zero-div) (omega arith) in
    ap (λ (x : ℕ). cond (nat_le n (k.percent * d)) x (read_from k rest n d)) e

first : (k : Point) (rest : List Point) (n d : ℕ) → n ≤ 0 → read_table (k ∷ rest) n d ≡ 30 * (k.tenths * d)
first k rest n d q = cond-true _ _ _ (le-leb n (k.percent * d) (omega arith))

-- what is asked of a table
abbrev pub Sound : List Point → Type 0
Sound [] = Unit {0}
Sound (k ∷ rest) = Goods (at 0 k.tenths) (k ∷ rest)

pub more_n : (ms : List Point) → Sound ms → (n n' d : ℕ) → n ≤ n' → read_table ms n d ≤ read_table ms n' d
more_n [] g n n' d h = omega arith
more_n (k ∷ rest) g n n' d h =
    omega (arith, level k rest n d, level k rest n' d, rises (at 0 k.tenths) (k ∷ rest) g n n' d (omega arith) h)

pub more_d : (ms : List Point) → Sound ms → (n d d' : ℕ) → 0 < d → d ≤ d' → (read_table ms n d * read_table ms n d) * d' ≤ (read_table ms n d' * read_table ms n d') * d
more_d [] g n d d' z h = omega arith
more_d (k ∷ rest) g n d d' z h =
    elim (cases_lt 0 n) [
      | inl q ↦
          let s : Sub (read_table (k ∷ rest) n d) n d (read_table (k ∷ rest) n d') n d' =
          sub_at _ _ n d _ _ n d' (level k rest n d) (level k rest n d')
          (sinks (at 0 k.tenths) (k ∷ rest) g n d n d' z (omega arith) (omega arith) (mul-le-mul_left n h)) in
          dropped _ _ n d d' q s
      | inr q ↦
          let w : (30 * (k.tenths * d)) * (30 * (k.tenths * d)) * d' ≤ (30 * (k.tenths * d')) * (30 * (k.tenths * d')) * d =
          omega (arith, mul-le-mul_left ((k.tenths * k.tenths) * (d * d')) h) in
          rw (first k rest n d q, first k rest n d' q) w
    ]

weighed : (a s b0 b1 h d n u v y0 y1 : ℕ) → d * h ≡ u + v → n * h ≡ b0 * u + b1 * v → a + s * b0 ≡ 30 * y0 → a + s * b1 ≡ 30 * y1 →
    (a * d + s * n) * h ≡ 30 * (y0 * u + y1 * v)
weighed a s b0 b1 h d n u v y0 y1 p q l r =
    omega (arith, ap (λ (z : ℕ). a * z) p, ap (λ (z : ℕ). s * z) q, ap (λ (z : ℕ). z * u) l, ap (λ (z : ℕ). z * v) r)

-- the line between two points, by the distances from them
between : (a s b0 b1 h d n u v y0 y1 : ℕ) → b0 + h ≡ b1 → n + u ≡ b1 * d → b0 * d + v ≡ n → a + s * b0 ≡ 30 * y0 → a + s * b1 ≡ 30 * y1 →
    (a * d + s * n) * h ≡ 30 * (y0 * u + y1 * v)
between a s b0 b1 h d n u v y0 y1 eh eu ev l r =
    let p : d * h ≡ u + v = omega (arith, ap (λ (z : ℕ). d * z) eh) in
    let q : n * h ≡ b0 * u + b1 * v =
    omega (arith, ap (λ (z : ℕ). n * z) eh, ap (λ (z : ℕ). b0 * z) eu, ap (λ (z : ℕ). b1 * z) ev) in
    weighed a s b0 b1 h d n u v y0 y1 p q l r

reads_on : (f : ℕ → ℕ → ℕ) (k : Point) (ms : List Point) → Goods k ms → ((n d : ℕ) → k.percent * d < n → f n d ≡ read_from k ms n d) → InterpolatesFrom f k ms
reads_on f k [] g e = e
reads_on f k (m ∷ rest) g e =
    let l = line k m g.0 in (
      λ n d p q.
          ap (λ (x : ℕ). x * (m.percent - k.percent)) (e n d p ∙ here k m rest l n d (le_of_lt p) q)
          ∙ between l.a l.s k.percent m.percent (m.percent - k.percent) d n (m.percent * d - n) (n - k.percent * d) k.tenths m.tenths
          (omega (arith, l.order)) (omega arith) (omega arith) l.left l.right,
      reads_on f m rest g.1 (λ n d p. e n d (omega (arith, p, mul-le-mul_right d (le_of_lt l.order))) ∙ past k m rest n d p),
    )

pub reads : (ms : List Point) → Sound ms → Interpolates (read_table ms) ms
reads [] g = tt
reads (k ∷ rest) g =
    (λ n d p. cond-true _ _ _ (le-leb _ _ p), reads_on (read_table (k ∷ rest)) k rest g.1 (λ n d p. cond-false _ _ _ (lt-leb _ _ p)))
