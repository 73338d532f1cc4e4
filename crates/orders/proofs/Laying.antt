-- Two stores among all places, with what searches read mirrored after them, obey the rule as one place emptied and one filled do.
use mathlib.Core.List.{List}
use mathlib.Core.Path.{◌≡◌, refl, ◌∙◌}
use Prim.Native.Nat.{ℕ, ◌+◌, ◌*◌, ◌<◌, ◌≤◌}
use native.Mathlib.Omega.{arith}
use borrow.Author.Tests.{lt-ltb, le-ltb}
use lib.ListN.{get_or, set}
use lib.Seq.{set-set, set-get_or}
use Rattle.std.specs.Prelude.{Ok}
use Rattle.feed.specs.Reader.{fits}
use Rattle.places.specs.Places.{symbols, placed, spot_in, Lands}
use Rattle.places.proofs.Landing.{spot_within}
use Rattle.orders.specs.State.{orders_each, no_order, order_number, order_live, shelf_at, Wf}
use Rattle.orders.specs.Deciding.{with_order}
use Rattle.orders.specs.Laying.{Beside, besides, Landing, Mirrors, LandsAs, laid_in}
use Rattle.orders.specs.Promises.{Obeys}
use Rattle.orders.specs.declared.Order.{Order}
use Rattle.orders.specs.declared.Orders.{Orders}
use Rattle.orders.proofs.Storing.{moves_obeys}

-- ---- the four cases of two places, each there or none
spot_of : (k i : ℕ) → k < symbols → i < orders_each → spot_in orders_each k i ≡ k * orders_each + i
unfolding spot_in
spot_of k i h g = rw (lt-ltb k symbols h, lt-ltb i orders_each g)

in_all : (k i s : ℕ) → s ≡ spot_in orders_each k i → s < symbols * orders_each
in_all k i s e = rw e (spot_within orders_each k i (omega arith))

module _ (k gone place : ℕ) (o : Order) (i : ℕ) (x : Order) where
  -- where no place is filled, it matters not by what
  mirrors_none : (y : Order) → orders_each ≤ place → (b m : Beside) → Mirrors b k gone place y m → Mirrors b k gone place o m
  mirrors_none y h b m q = record { inside = λ j. q.inside j ∙ (rw (le-ltb place orders_each h)); outside = q.outside }

  pub lands_both : gone < orders_each → place < orders_each → (g p : ℕ) → g ≡ spot_in orders_each k gone → p ≡ spot_in orders_each k place → LandsAs k gone place o i x (record { emptied = g; filled = p; order = o; gone = gone; place = place })
  lands_both h j g p eg ep = record {
    within = (in_all k gone g eg, in_all k place p ep);
    lands = λ l r e. rw (eg, ep, spot_of k gone r h, spot_of k place r j, lt-ltb gone orders_each h, lt-ltb place orders_each j);
    mirrors = λ b m q. q;
  }

  pub lands_emptied : gone < orders_each → orders_each ≤ place → (g : ℕ) → g ≡ spot_in orders_each k gone → LandsAs k gone place o i x (record { emptied = g; filled = g; order = no_order; gone = gone; place = place })
  lands_emptied h j g eg = record {
    within = (in_all k gone g eg, in_all k gone g eg);
    lands = λ l r e. rw (eg, spot_of k gone r h, lt-ltb gone orders_each h, le-ltb place orders_each j) (set-set l (k * orders_each + gone) no_order no_order);
    mirrors = mirrors_none no_order j;
  }

  pub lands_filled : orders_each ≤ gone → place < orders_each → (p : ℕ) → p ≡ spot_in orders_each k place → LandsAs k gone place o i x (record { emptied = p; filled = p; order = o; gone = gone; place = place })
  lands_filled h j p ep = record {
    within = (in_all k place p ep, in_all k place p ep);
    lands = λ l r e. rw (ep, spot_of k place r j, le-ltb gone orders_each h, lt-ltb place orders_each j) (set-set l (k * orders_each + place) no_order o);
    mirrors = λ b m q. q;
  }

  pub lands_again : orders_each ≤ gone → orders_each ≤ place → (s : ℕ) → s ≡ spot_in orders_each k i → LandsAs k gone place o i x (record { emptied = s; filled = s; order = x; gone = gone; place = place })
  lands_again h j s es = record {
    within = (in_all k i s es, in_all k i s es);
    lands = λ l r e. rw (es, e, le-ltb gone orders_each h, le-ltb place orders_each j) (set-set l (spot_in orders_each k i) no_order (get_or l (spot_in orders_each k i) no_order) ∙ set-get_or l (spot_in orders_each k i) no_order);
    mirrors = mirrors_none x j;
  }

-- ---- one order stored
module _ (b : Orders) (k : ℕ) (h : k < symbols) (w : Wf b) (gone place : ℕ) (o : Order) (i : ℕ) (r : Landing) (p : LandsAs k gone place o i (get_or b.places (spot_in orders_each k i) no_order) r)
    (m : Beside) (n : Mirrors (besides b) k r.gone r.place r.order m) where
  laid_is : laid_in b r m ≡ with_order (with_order b k gone no_order) k place o
  laid_is = let q = p.mirrors (besides b) m n in λ j. record { places = p.lands b.places h refl j; numbers = (q.inside h j).numbers; lives = (q.inside h j).lives; spans = (q.inside h j).spans }

  pub laid_obeys : (rest os : List Order) → Lands order_number order_live orders_each (shelf_at b k) gone no_order rest
      → Lands order_number order_live orders_each (placed orders_each (shelf_at b k) gone no_order) place o os → Obeys b k (fits os) (laid_in b r m) (Ok tt)
  laid_obeys rest os s t = rw laid_is (moves_obeys b k h w.sized gone place o rest os s t w)
