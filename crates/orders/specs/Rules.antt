-- What a change does to a symbol's orders: document 01, "The book". It fits (with the orders after it), it doesn't (9), or there is no room (10).
use Rattle.std.specs.Prelude.{Bool, true, false, List, ℕ, ◌-◌, ltb, eqb, length}
use Rattle.std.specs.Bool.{beq}
use Rattle.std.proofs.Math.Option.{Option, none, some}
use Rattle.feed.specs.Reader.{Fit, fits, misfit, no_room}
use Rattle.places.specs.Places.{insert, remove, look}
use Rattle.orders.specs.State.{orders_each, order_number}
use Rattle.orders.specs.declared.Order.{Order}
use Rattle.orders.specs.declared.Change.{Change}

-- an order as a change brings it
abbrev pub order_of : ℕ → Bool → ℕ → ℕ → Order
order_of n buy p v = record { live = true; buy = buy; number = n; price = p; volume = v }

abbrev pub repriced : Order → ℕ → ℕ → Order
repriced x p v = record { live = x.live; buy = x.buy; number = x.number; price = p; volume = v }

-- shares come off at the order's own price
abbrev pub less : Order → ℕ → Order
less x v = record { live = x.live; buy = x.buy; number = x.number; price = x.price; volume = x.volume - v }

-- Add: one that is live already doesn't fit; where every place is live there is no room
--             found     room
abbrev pub added : List Order → Order → Option Order → Bool → Fit (List Order)
added os o (some x) room = misfit
added os o none false = no_room
added os o none true = fits (insert order_number o os)

abbrev pub on_side : Bool → Fit (List Order) → Fit (List Order)
on_side true x = x
on_side false x = misfit

-- Modify: of a live order, on its own side; it gets the new price and volume
abbrev pub modified : List Order → ℕ → Bool → ℕ → ℕ → Option Order → Fit (List Order)
modified os n buy p v none = misfit
modified os n buy p v (some x) = on_side (beq x.buy buy) (fits (insert order_number (repriced x p v) (remove order_number n os)))

-- Delete: of a live order, which goes
abbrev pub deleted : List Order → ℕ → Option Order → Fit (List Order)
deleted os n none = misfit
deleted os n (some x) = fits (remove order_number n os)

-- Execute: of a live order, no more than is left of it; where nothing is left, the order goes
--                      more   all
abbrev pub taken : List Order → ℕ → ℕ → Order → Bool → Bool → Fit (List Order)
taken os n v x true all = misfit
taken os n v x false true = fits (remove order_number n os)
taken os n v x false false = fits (insert order_number (less x v) (remove order_number n os))

abbrev pub executed : List Order → ℕ → ℕ → Option Order → Fit (List Order)
executed os n v none = misfit
executed os n v (some x) = taken os n v x (ltb x.volume v) (eqb x.volume v)

-- Replace: of a live order, on its own side. It is gone before the new number is looked for, which then must not be there
abbrev pub renewed : List Order → Order → Option Order → Fit (List Order)
renewed rest o none = fits (insert order_number o rest)
renewed rest o (some x) = misfit

abbrev pub replaced : List Order → ℕ → Order → Option Order → Fit (List Order)
replaced os old o none = misfit
replaced os old o (some x) = on_side (beq x.buy o.buy) (renewed (remove order_number old os) o (look order_number o.number (remove order_number old os)))

unfoldable pub apply_to : List Order → Change → Fit (List Order)
apply_to os (Change.Add n buy p v) = added os (order_of n buy p v) (look order_number n os) (ltb (length os) orders_each)
apply_to os (Change.Modify n buy p v) = modified os n buy p v (look order_number n os)
apply_to os (Change.Delete n) = deleted os n (look order_number n os)
apply_to os (Change.Execute n v) = executed os n v (look order_number n os)
apply_to os (Change.Replace old n buy p v) = replaced os old (order_of n buy p v) (look order_number old os)
apply_to os Change.Nothing = fits os
