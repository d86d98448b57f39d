-- What a list over lent places means: its elements. Assumes nothing.
use Rattle.std.specs.Prelude.{ℕ, ◌-◌, min, Bool, cond, List, [], ◌∷◌, ◌++◌, length, take, Ok, Err, Result, nat_lt}
use Rattle.bearing.specs.declared.fault.Fault.{Fault}
use Rattle.bearing.specs.declared.fault.Refusal.TheVariants.{NoPlace, NothingHung}
use Rattle.bearing.specs.declared.fault.Layer.TheVariants.{Bridge}
use Rattle.bearing.specs.Refusals.{plain_fault}
use Rattle.listing.specs.declared.places.Listing.{Listing}

-- a list over lent places: its elements, and how many it can hold
pub record Listed (T : Type 0) : Type 0 where
  pub items : List T
  pub capacity : ℕ

-- its elements are the first `count` places; it can hold as many as there are places, at most MAX
abbrev pub listed : {T : Type 0} {MAX : ℕ} → Listing T MAX → Listed T
listed {MAX = m} l = record { items = take l.count l.places.now; capacity = min m (length l.places.now) }

-- the same places with these elements
abbrev pub with_items : {T : Type 0} → Listed T → List T → Listed T
with_items l xs = record { items = xs; capacity = l.capacity }

-- a place is free
abbrev pub free : {T : Type 0} → ℕ → List T → Bool
free n xs = nat_lt (length xs) n

-- one element more at the end, where a place is free
abbrev pub pushed : {T : Type 0} → ℕ → List T → T → List T
pushed n xs x = cond (free n xs) (xs ++ (x ∷ [])) xs

-- done, or refused for want of a place
abbrev pub push_answer : {T : Type 0} → ℕ → List T → Result (Unit {0}) Fault
push_answer n xs = cond (free n xs) (Ok tt) (Err (plain_fault NoPlace Bridge))

-- all but the last
abbrev pub popped : {T : Type 0} → List T → List T
popped xs = take (length xs - 1) xs

-- done, or refused since nothing is there
abbrev pub pop_answer : {T : Type 0} → List T → Result (Unit {0}) Fault
pop_answer xs = cond (nat_lt 0 (length xs)) (Ok tt) (Err (plain_fault NothingHung Bridge))
