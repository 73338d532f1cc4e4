-- What is live lies in a symbol's places, a number at most once; in a new state nothing is.
use mathlib.Core.Bool.{true}
use mathlib.Core.List.{[], Memᴰ}
use mathlib.Core.Path.{◌≡◌, refl}
use Prim.Native.Nat.{ℕ, ◌*◌, ◌<◌, ◌≤◌}
use lib.Dec.{eqb}
use lib.ListN.{length, length-replicate}
use Rattle.places.specs.Places.{symbols, shelf, count}
use Rattle.places.proofs.Living.{in_order_live}
use Rattle.places.proofs.Nearness.{near_new}
use Rattle.places.proofs.Mirroring.{mirrored_new}
use Rattle.places.proofs.EightShelves.{within_places, one_of_number, new_singles, new_none}
use Rattle.orders.specs.State.{orders_each, no_order, order_number, order_live, live_at, Wf, no_orders}
use Rattle.orders.specs.declared.Order.{Order}
use Rattle.orders.specs.declared.Orders.{Orders}

module _ (b : Orders) (k : ℕ) where
  pub live_within : length (live_at b k) ≤ orders_each
  unfolding live_at
  live_within = within_places order_number order_live orders_each b.places k

  pub all_live : (o : Order) → Memᴰ o (live_at b k) → o.live ≡ true
  unfolding live_at
  all_live = in_order_live order_number order_live (shelf orders_each k b.places)

  pub one_live : Wf b → k < symbols → (number : ℕ) → count (λ x. eqb (order_number x) number) (live_at b k) ≤ 1
  unfolding live_at
  one_live w h = one_of_number order_number order_live orders_each b.places k w.singles h

pub no_orders_sound : Wf no_orders
no_orders_sound = record {
  sized = record { places = length-replicate (symbols * orders_each) no_order; spans = length-replicate {A = ℕ} (symbols * orders_each) 0 };
  singles = new_singles order_number order_live orders_each no_order refl (symbols * orders_each);
  mirrored = mirrored_new order_number order_live (symbols * orders_each) no_order;
  near = λ k h. near_new orders_each k (symbols * orders_each);
}

pub new_has_none : (k : ℕ) → live_at no_orders k ≡ []
unfolding live_at
new_has_none = new_none order_number order_live orders_each no_order refl (symbols * orders_each)
