-- One call more, one place more written. Assumes nothing.
use Rattle.std.proofs.Common.{◌≡◌, ℕ, ◌+◌, ◌<◌, Bool, List, [], ◌∷◌, ◌++◌, map, length, get_or, take, set, Result, sym, refl, ap, ◌∙◌, subst, add-one, take-suc-set}
use Rattle.std.proofs.lemmas.List.{take_more}
use Rattle.bearing.specs.declared.fault.Fault.{Fault}
use Rattle.bridge.specs.declared.calls.DraftCall.{DraftCall}
use Rattle.bridge.specs.Calls.{called, call_reply, hung_rows, call_replies}
use Rattle.bearing.specs.Laws.{Curve}
use Rattle.bridge.specs.declared.calls.Question.{Question}
use Rattle.bridge.specs.declared.calls.Response.{Response}
use Rattle.bridge.specs.Replay.{response_values, asked, Law, Each, Run}

pub put_next : {A : Type 0} (out : List A) (i : ℕ) (x : A) → i < length out → take (i + 1) (set out i x) ≡ take i out ++ (x ∷ [])
put_next out i x h = rw add-one (take-suc-set out i x h)

pub one_taken : {A : Type 0} (xs : List A) (i : ℕ) (x : A) → i < length xs → x ≡ get_or xs i x → take (i + 1) xs ≡ take i xs ++ (x ∷ [])
one_taken xs i x within read = take_more xs i x within ∙ ap (λ y. take i xs ++ (y ∷ [])) (sym read)

module _ {B : Type 0} (places : ℕ) where
  hung_append : (rows : List B) (cs : List (DraftCall B)) (c : DraftCall B) → hung_rows places rows (cs ++ (c ∷ [])) ≡ called places (hung_rows places rows cs) c
  hung_append rows [] c = refl
  hung_append rows (d ∷ cs) c = hung_append (called places rows d) cs c

  replies_append : (rows : List B) (cs : List (DraftCall B)) (c : DraftCall B) → call_replies places rows (cs ++ (c ∷ [])) ≡ call_replies places rows cs ++ (call_reply places (hung_rows places rows cs) c ∷ [])
  replies_append rows [] c = refl
  replies_append rows (d ∷ cs) c = ap (λ rs. call_reply places rows d ∷ rs) (replies_append (called places rows d) cs c)

  pub hung_next : (rows : List B) (cs : List (DraftCall B)) (i : ℕ) (c : DraftCall B) → i < length cs → c ≡ get_or cs i c → hung_rows places rows (take (i + 1) cs) ≡ called places (hung_rows places rows (take i cs)) c
  hung_next rows cs i c within read = ap (hung_rows places rows) (one_taken cs i c within read) ∙ hung_append rows (take i cs) c

  pub replies_next : (rows : List B) (cs : List (DraftCall B)) (i : ℕ) (c : DraftCall B) → i < length cs → c ≡ get_or cs i c →
      call_replies places rows (take (i + 1) cs) ≡ call_replies places rows (take i cs) ++ (call_reply places (hung_rows places rows (take i cs)) c ∷ [])
  replies_next rows cs i c within read = ap (call_replies places rows) (one_taken cs i c within read) ∙ replies_append rows (take i cs) c

-- a law of one question more
pub each_append : {Q A : Type 0} (L : Q → A → Type 0) (qs : List Q) (rs : List A) (q : Q) (r : A) → Each L qs rs → L q r → Each L (qs ++ (q ∷ [])) (rs ++ (r ∷ []))
each_append L [] [] q r e l = (l, tt)
each_append L [] (a ∷ rest) q r e l = absurd e
each_append L (p ∷ qs) [] q r e l = absurd e
each_append L (p ∷ qs) (a ∷ rest) q r e l = (e.0, each_append L qs rest q r e.1 l)

pub map_append : {A C : Type 0} (f : A → C) (xs : List A) (x : A) → map f (xs ++ (x ∷ [])) ≡ map f xs ++ (f x ∷ [])
map_append f [] x = refl
map_append f (y ∷ ys) x = ap (λ rest. f y ∷ rest) (map_append f ys x)

-- two places of a statement at once
pub subst₂ : {A C : Type 0} (P : A → C → Type 0) {x x' : A} {y y' : C} → x ≡ x' → y ≡ y' → P x y → P x' y'
subst₂ P {x' = x'} {y = y} e f h = subst (P x') f (subst (λ a. P a y) e h)

-- a run, by what its calls did
module _ {B R : Type 0} (force energy : B → Curve) (says : R → ℕ → ℕ → ℕ → Bool) (places : ℕ) (calls : List (DraftCall B)) where
  pub run_made : (W W' : ℕ) (rows : List B) (questions : List (Question R)) (replies : List (Result (Unit {0}) Fault)) (responses : List Response) →
      rows ≡ hung_rows places [] calls → W' ≡ W → replies ≡ call_replies places [] calls →
      map response_values responses ≡ map (asked force energy says rows W') questions → Each (Law force energy says rows W') questions responses →
      Run force energy says places W calls questions replies responses
  run_made W W' rows questions replies responses hung heavy drafted values law =
      record {
        draft = drafted;
        bridge = values ∙ ap (λ w. map (asked force energy says rows w) questions) heavy ∙ ap (λ (rs : List B). map (asked force energy says rs W) questions) hung;
        law = subst₂ (λ (rs : List B) (w : ℕ). Each (Law force energy says rs w) questions responses) hung heavy law;
      }
