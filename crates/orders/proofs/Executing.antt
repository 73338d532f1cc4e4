-- An execution takes its order out and puts it back with less at the same price, so that only the sum at its own price and side falls.
use mathlib.Core.Bool.{Bool, true, false, cond, beq, false≢true}
use mathlib.Core.List.{List, Memᴰ}
use mathlib.Core.Logic.{◌≢◌}
use mathlib.Core.Option.{Option, none, some}
use mathlib.Core.Path.{◌≡◌, refl, sym, subst}
use Prim.Native.Nat.{ℕ, ◌≤◌}
use native.Mathlib.Omega.{arith}
use lib.Dec.{ltb, eqb}
use borrow.Author.Tests.{eqb-true, ltb-false}
use Rattle.feed.specs.Reader.{Fit, fits, misfit}
use Rattle.places.specs.Places.{insert, remove, look}
use Rattle.places.proofs.Sorted.{sum_insert, look_key, look_there, sum_remove}
use Rattle.orders.specs.State.{order_number}
use Rattle.orders.specs.Rules.{less, taken, executed, apply_to}
use Rattle.orders.specs.Levels.{shares_at, TakesOff}
use Rattle.orders.specs.declared.Order.{Order}
use Rattle.orders.specs.declared.Change.{Change}
use Rattle.orders.proofs.Sides.{shares_own}

-- ---- an order has no shares elsewhere than at its own price and side
side_is : (own side : Bool) → beq own side ≡ true → side ≡ own
side_is true true e = refl
side_is true false e = absurd (false≢true e)
side_is false true e = absurd (false≢true e)
side_is false false e = refl

shares_elsewhere : (o : Order) (buy : Bool) (price : ℕ) → (buy ≡ o.buy → price ≢ o.price) → shares_at buy price o ≡ 0
unfolding shares_at
shares_elsewhere o buy price other = go o.live (beq o.buy buy) (eqb o.price price) refl refl
  where
    go : (live side at : Bool) → beq o.buy buy ≡ side → eqb o.price price ≡ at → cond (cond live side false) (cond at o.volume 0) 0 ≡ 0
    go false side at p q = refl
    go true false at p q = refl
    go true true false p q = refl
    go true true true p q = absurd (other (side_is o.buy buy p) (sym (eqb-true o.price price q)))

-- ---- of a live order, no more than is left of it
module _ (os : List Order) (n v : ℕ) (x : Order) (found : look order_number n os ≡ some x) (live : x.live ≡ true) where
  goes : x.volume ≡ v → TakesOff n v os (remove order_number n os)
  goes all = record {
    order = x;
    live = look_there order_number n os x found;
    named = look_key order_number n os x found;
    own_price = let out = sum_remove order_number (shares_at x.buy x.price) n os x found in let shares = shares_own x live in omega arith;
    elsewhere = λ buy price other. let out = sum_remove order_number (shares_at buy price) n os x found in let shares = shares_elsewhere x buy price other in omega arith;
  }

  stays : v ≤ x.volume → TakesOff n v os (insert order_number (less x v) (remove order_number n os))
  stays enough = record {
    order = x;
    live = look_there order_number n os x found;
    named = look_key order_number n os x found;
    own_price =
        let out = sum_remove order_number (shares_at x.buy x.price) n os x found in
        let back = sum_insert order_number (shares_at x.buy x.price) (less x v) (remove order_number n os) in
        let shares = shares_own x live in
        let rest = shares_own (less x v) live in omega (arith, enough);
    elsewhere = λ buy price other.
        let out = sum_remove order_number (shares_at buy price) n os x found in
        let back = sum_insert order_number (shares_at buy price) (less x v) (remove order_number n os) in
        let shares = shares_elsewhere x buy price other in
        let rest = shares_elsewhere (less x v) buy price other in omega arith;
  }

misfits_not : {B : Type 0} (os : List Order) → ◌≡◌ {A = Fit (List Order)} misfit (fits os) → B
misfits_not os e = absurd (let z : ◌≡◌ {A = ℕ} 0 1 = cc in omega arith)

-- ---- what fits was found live, and had as much left
pub takes_off : (os : List Order) (n v : ℕ) (after : List Order) → ((o : Order) → Memᴰ o os → o.live ≡ true) → apply_to os (Change.Execute n v) ≡ fits after → TakesOff n v os after
unfolding apply_to
takes_off os n v after live = go (look order_number n os) refl
  where
    fitting : (x : Order) → look order_number n os ≡ some x → (more all : Bool) → ltb x.volume v ≡ more → eqb x.volume v ≡ all → taken os n v x more all ≡ fits after → TakesOff n v os after
    fitting x q true all p r e = misfits_not after e
    fitting x q false true p r e =
        let z : remove order_number n os ≡ after = cc in
        subst (TakesOff n v os) z (goes os n v x q (live x (look_there order_number n os x q)) (eqb-true x.volume v r))
    fitting x q false false p r e =
        let z : insert order_number (less x v) (remove order_number n os) ≡ after = cc in
        subst (TakesOff n v os) z (stays os n v x q (live x (look_there order_number n os x q)) (ltb-false x.volume v p))

    go : (found : Option Order) → look order_number n os ≡ found → executed os n v found ≡ fits after → TakesOff n v os after
    go none q e = misfits_not after e
    go (some x) q e = fitting x q (ltb x.volume v) (eqb x.volume v) refl refl e
