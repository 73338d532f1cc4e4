-- Each verdict on the orders is the rule's: the search says which clause of the rule it is, and the stores that go with it are changes of a shelf, one after the other where there are two.
use mathlib.Core.Bool.{Bool, true, false, beq, false≢true}
use mathlib.Core.List.{List}
use mathlib.Core.Option.{none, none-ne-some}
use mathlib.Core.Path.{◌≡◌, refl, sym, ◌∙◌}
use Prim.Native.Nat.{ℕ, ◌<◌, ◌≤◌}
use native.Mathlib.Omega.{arith}
use borrow.Author.Tests.{lt-ltb, le-ltb, eq-eqb, ne_eqb}
use lib.ListN.{get_or, set}
use Rattle.std.specs.Prelude.{Ok, Err}
use Rattle.places.specs.Places.{count, has, look, in_order, insert}
use Rattle.places.proofs.Living.{Lies, look_none}
use Rattle.places.proofs.Landing.{missing, found, crowded, roomy, lands_new, lands_out, lands_changed, lands_instead, lands_moved, absent_after, same_after, still_there}
use Rattle.orders.specs.State.{orders_each, no_order, order_number, order_live}
use Rattle.orders.specs.Rules.{apply_to, order_of, repriced, less}
use Rattle.orders.specs.Deciding.{OrderShelf, OrderAt, OrderRoom, live_orders, TakesRoom, Decides, stays, lands, moves, misfits, crowds}
use Rattle.orders.specs.declared.Order.{Order}
use Rattle.orders.specs.declared.Unfit.{Unfit}
use Rattle.orders.specs.declared.rules.Verdict.{Verdict}
use Rattle.orders.specs.declared.Change.{Change}

-- a change brings a live order
live_order : (o : Order) → o.live ≡ true → order_of o.number o.buy o.price o.volume ≡ o
live_order o e = λ i. record { live = sym e i; buy = o.buy; number = o.number; price = o.price; volume = o.volume }

module _ (l : List Order) (room_for : ℕ → ℕ) (w : OrderShelf l) where
  missed : (n i : ℕ) → OrderAt n l i → orders_each ≤ i → look order_number n (live_orders l) ≡ none
  missed = missing order_number order_live no_order refl orders_each l w

  hit : (n i : ℕ) → OrderAt n l i → i < orders_each → Lies order_number order_live no_order refl n l i
  hit = found order_number order_live no_order refl orders_each l w

  -- what is not live, and whose number was live already, needs no room
  no_order_lem : (place : ℕ) → TakesRoom room_for l place no_order
  no_order_lem place lv = absurd (false≢true lv)

  not_new : (n i place : ℕ) (o : Order) → OrderAt n l i → i < orders_each → o.number ≡ n → TakesRoom room_for l place o
  not_new n i place o at h e lv unmet = absurd (none-ne-some _ (sym (rw e at unmet) ∙ (hit n i at h).looked))

  -- ---- add
  module _ (o : Order) (lv : o.live ≡ true) (i : ℕ) (at : OrderAt o.number l i) where
    pub add_twice : i < orders_each → Decides l room_for (Err Unfit.Misfit) (apply_to (live_orders l) (Change.Add o.number o.buy o.price o.volume))
    unfolding apply_to
    add_twice h = rw (hit o.number i at h).looked misfits

    module _ (h : orders_each ≤ i) (j : ℕ) (room : OrderRoom l j) where
      pub add_crowded : orders_each ≤ j → Decides l room_for (Err Unfit.NoRoom) (apply_to (live_orders l) (Change.Add o.number o.buy o.price o.volume))
      unfolding apply_to
      add_crowded g = rw (missed o.number i at h, crowded order_number order_live no_order refl orders_each l w j room g) crowds

      pub add_fits : j ≡ room_for o.number → j < orders_each → Decides l room_for (Ok (Verdict.Lands j o)) (apply_to (live_orders l) (Change.Add o.number o.buy o.price o.volume))
      unfolding apply_to
      add_fits near g =
          rw (missed o.number i at h, lt-ltb _ _ (roomy order_number order_live no_order refl orders_each l w j room g), live_order o lv)
          (lands (lands_new order_number order_live no_order refl orders_each l w o i j lv at h room g) (λ e unmet r. near))

  -- ---- the others find their order at i, or nowhere
  module _ (n i : ℕ) (at : OrderAt n l i) where
    module _ (h : orders_each ≤ i) where
      pub modify_missing : (buy : Bool) (p v : ℕ) → Decides l room_for (Err Unfit.Misfit) (apply_to (live_orders l) (Change.Modify n buy p v))
      unfolding apply_to
      modify_missing buy p v = rw (missed n i at h) misfits

      pub delete_missing : Decides l room_for (Err Unfit.Misfit) (apply_to (live_orders l) (Change.Delete n))
      unfolding apply_to
      delete_missing = rw (missed n i at h) misfits

      pub execute_missing : (v : ℕ) → Decides l room_for (Err Unfit.Misfit) (apply_to (live_orders l) (Change.Execute n v))
      unfolding apply_to
      execute_missing v = rw (missed n i at h) misfits

      pub replace_missing : (new : ℕ) (buy : Bool) (p v : ℕ) → Decides l room_for (Err Unfit.Misfit) (apply_to (live_orders l) (Change.Replace n new buy p v))
      unfolding apply_to
      replace_missing new buy p v = rw (missed n i at h) misfits

    module _ (h : i < orders_each) where
      abbrev x : Order
      x = get_or l i no_order

      pub modify_other_side : (buy : Bool) (p v : ℕ) → beq x.buy buy ≡ false → Decides l room_for (Err Unfit.Misfit) (apply_to (live_orders l) (Change.Modify n buy p v))
      unfolding apply_to
      modify_other_side buy p v t = rw ((hit n i at h).looked, t) misfits

      pub modify_fits : (buy : Bool) (p v : ℕ) → beq x.buy buy ≡ true → Decides l room_for (Ok (Verdict.Lands i (repriced x p v))) (apply_to (live_orders l) (Change.Modify n buy p v))
      unfolding apply_to
      modify_fits buy p v t =
          rw ((hit n i at h).looked, t)
          (lands (lands_changed order_number order_live no_order refl orders_each l w n i (repriced x p v) at h (hit n i at h).key_is (hit n i at h).live_is) (not_new n i i (repriced x p v) at h (hit n i at h).key_is))

      pub delete_fits : Decides l room_for (Ok (Verdict.Lands i no_order)) (apply_to (live_orders l) (Change.Delete n))
      unfolding apply_to
      delete_fits = rw (hit n i at h).looked (lands (lands_out order_number order_live no_order refl orders_each l w n i at h) (no_order_lem i))

      module _ (v : ℕ) where
        pub execute_over : x.volume < v → Decides l room_for (Err Unfit.Misfit) (apply_to (live_orders l) (Change.Execute n v))
        unfolding apply_to
        execute_over g = rw ((hit n i at h).looked, lt-ltb _ _ g) misfits

        pub execute_all : x.volume ≡ v → Decides l room_for (Ok (Verdict.Lands i no_order)) (apply_to (live_orders l) (Change.Execute n v))
        unfolding apply_to
        execute_all g = rw ((hit n i at h).looked, le-ltb x.volume v (omega arith), eq-eqb _ _ g) (lands (lands_out order_number order_live no_order refl orders_each l w n i at h) (no_order_lem i))

        pub execute_some : v ≤ x.volume → (x.volume ≡ v → ⊥) → Decides l room_for (Ok (Verdict.Lands i (less x v))) (apply_to (live_orders l) (Change.Execute n v))
        unfolding apply_to
        execute_some g ne =
            rw ((hit n i at h).looked, le-ltb _ _ g, ne_eqb _ _ ne)
            (lands (lands_changed order_number order_live no_order refl orders_each l w n i (less x v) at h (hit n i at h).key_is (hit n i at h).live_is) (not_new n i i (less x v) at h (hit n i at h).key_is))

      module _ (o : Order) (lv : o.live ≡ true) where
        pub replace_other_side : beq x.buy o.buy ≡ false → Decides l room_for (Err Unfit.Misfit) (apply_to (live_orders l) (Change.Replace n o.number o.buy o.price o.volume))
        unfolding apply_to
        replace_other_side t = rw ((hit n i at h).looked, t) misfits

        module _ (t : beq x.buy o.buy ≡ true) (j : ℕ) (there : OrderAt o.number l j) where
          -- the new order in the old one's place, where its number is nowhere else
          instead : count (has order_number order_live o.number) (set l i no_order) ≡ 0 → TakesRoom room_for l i o → Decides l room_for (Ok (Verdict.Lands i o)) (apply_to (live_orders l) (Change.Replace n o.number o.buy o.price o.volume))
          unfolding apply_to
          instead z room =
              rw ((hit n i at h).looked, t, (hit n i at h).removed, look_none order_number order_live o.number (set l i no_order) z, live_order o lv)
              (lands {place = i} {o = o} {os = insert order_number o (in_order order_number order_live (set l i no_order))} (lands_instead order_number order_live no_order refl orders_each l w n i at h o lv z) room)

          -- where the new number is nowhere, its order goes to the place with room for it, or takes the old one's where every place is live
          module _ (g : orders_each ≤ j) where
            absent : count (has order_number order_live o.number) (set l i no_order) ≡ 0
            absent = absent_after order_number order_live no_order refl orders_each l w n i at h o lv j there g

            pub replace_moves : (free : ℕ) → OrderRoom l free → free ≡ room_for o.number → free < orders_each → Decides l room_for (Ok (Verdict.Moves i free o)) (apply_to (live_orders l) (Change.Replace n o.number o.buy o.price o.volume))
            unfolding apply_to
            replace_moves free room near r =
                rw ((hit n i at h).looked, t, (hit n i at h).removed, look_none order_number order_live o.number (set l i no_order) absent, live_order o lv)
                (moves {gone = i} {place = free} {o = o} {os = insert order_number o (in_order order_number order_live (set l i no_order))} (lands_out order_number order_live no_order refl orders_each l w n i at h)
                (lands_moved order_number order_live no_order refl orders_each l w n i at h o lv j there g free room r) (λ e unmet q. near))

            pub replace_instead : orders_each ≤ room_for o.number → Decides l room_for (Ok (Verdict.Lands i o)) (apply_to (live_orders l) (Change.Replace n o.number o.buy o.price o.volume))
            replace_instead full = instead absent (λ e unmet r. absurd (omega (arith, full, r)))

          pub replace_same : i ≡ j → Decides l room_for (Ok (Verdict.Lands i o)) (apply_to (live_orders l) (Change.Replace n o.number o.buy o.price o.volume))
          replace_same e = instead (same_after order_number order_live no_order refl orders_each l w n i at h o lv j there e) (not_new o.number j i o there (rw (← e) h) refl)

          pub replace_twice : j < orders_each → (i ≡ j → ⊥) → Decides l room_for (Err Unfit.Misfit) (apply_to (live_orders l) (Change.Replace n o.number o.buy o.price o.volume))
          unfolding apply_to
          replace_twice g ne =
              rw ((hit n i at h).looked, t, (hit n i at h).removed, (still_there order_number order_live no_order refl orders_each l w n i at h o lv j there g ne).looked) misfits

-- ---- the rest change no order
pub nothing_fits : (l : List Order) (room_for : ℕ → ℕ) → Decides l room_for (Ok Verdict.Keeps) (apply_to (live_orders l) Change.Nothing)
unfolding apply_to
nothing_fits l room_for = stays
