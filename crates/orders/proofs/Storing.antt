-- A change at place k obeys the rule: what was decided lands on the symbol's shelf, and no other shelf is touched.
use mathlib.Core.Bool.{Bool, true, false}
use mathlib.Core.List.{List, [], ◌++◌, append_assoc}
use mathlib.Core.Logic.{◌≢◌}
use mathlib.Core.Path.{◌≡◌, refl, sym, ap, ◌∙◌}
use Prim.Native.Nat.{ℕ, zero, suc, ◌+◌, ◌*◌, ◌<◌, ◌≤◌}
use native.Mathlib.Omega.{arith}
use borrow.Author.Tests.{ltb-true, le-ltb}
use lib.Dec.{eqb, ltb}
use lib.ListN.{length, get_or, set, take, drop, replicate, length-set, length-replicate}
use lib.Seq.{paste, paste-zero, paste-suc, drop-drop, take_all}
use borrow.Rule.Slice.PartMut.{mid_of, put_mid}
use Rattle.std.specs.Prelude.{Result, Ok, Err}
use Rattle.feed.specs.Reader.{Fit, fits}
use Rattle.feed.specs.Book.{fitted}
use Rattle.places.specs.Places.{symbols, placed, Lands, emptied}
use Rattle.places.specs.Homes.{leaves, Mirrored, Near}
use Rattle.places.proofs.Emptied.{is_emptied}
use Rattle.places.proofs.Shelves.{shelf_length, get_or_replicated}
use Rattle.places.proofs.Landing.{shelf_placed}
use Rattle.places.proofs.Nearness.{as_many_spans, near_stored, near_emptied}
use Rattle.places.proofs.Mirroring.{as_many_numbers, as_many_marks, mirrored_set, mirrored_emptied}
use Rattle.places.proofs.EightShelves.{shelf_reach, nothing_past, store_own, store_other, store_singles, emptied_own, emptied_other, emptied_singles}
use Rattle.orders.proofs.Finding.{searchable}
use Rattle.orders.specs.State.{orders_each, no_order, order_number, order_live, shelf_at, live_at, Sized, Wf}
use Rattle.orders.specs.Rules.{apply_to}
use Rattle.orders.specs.Deciding.{Decides, stays, lands, moves, misfits, crowds, Judges, room_in, with_order, settled_at, fit_by, emptied_to}
use Rattle.orders.specs.Promises.{fit_number, Obeys, Changes, Clears}
use Rattle.orders.specs.declared.Order.{Order}
use Rattle.orders.specs.declared.Orders.{Orders}
use Rattle.orders.specs.declared.Change.{Change}
use Rattle.orders.specs.declared.Unfit.{Unfit}
use Rattle.orders.specs.declared.rules.Verdict.{Verdict}

module _ (b : Orders) (k : ℕ) (h : k < symbols) (s : Sized b) where
  in_places : k * orders_each + orders_each ≤ length b.places
  in_places = shelf_reach orders_each k b.places s.places h

  in_spans : k * orders_each + orders_each ≤ length b.spans
  in_spans = shelf_reach orders_each k b.spans s.spans h

  module _ (w : Wf b) where
    in_numbers : k * orders_each + orders_each ≤ length b.numbers
    in_numbers = rw (as_many_numbers order_number order_live b.places b.numbers b.lives w.mirrored) in_places

    in_lives : k * orders_each + orders_each ≤ length b.lives
    in_lives = rw (as_many_marks order_number order_live b.places b.numbers b.lives w.mirrored) in_places

-- ---- one place changed
module _ (b : Orders) (k : ℕ) (h : k < symbols) (s : Sized b) (i : ℕ) (o : Order) where
  store_sized : Sized (with_order b k i o)
  store_sized = go (ltb i orders_each) refl
    where
      go : (t : Bool) → ltb i orders_each ≡ t → Sized (with_order b k i o)
      go true e = rw e (record { places = rw length-set s.places; spans = rw as_many_spans s.spans })
      go false e = rw e s

  store_mirrored : Wf b → Mirrored order_number order_live (with_order b k i o).places (with_order b k i o).numbers (with_order b k i o).lives
  store_mirrored w = go (ltb i orders_each) refl
    where
      go : (t : Bool) → ltb i orders_each ≡ t → Mirrored order_number order_live (with_order b k i o).places (with_order b k i o).numbers (with_order b k i o).lives
      go true e = rw e (mirrored_set order_number order_live b.places b.numbers b.lives (k * orders_each + i) o w.mirrored)
      go false e = rw e w.mirrored

  store_near : Wf b → (m : ℕ) → m < symbols → Near (with_order b k i o).numbers (with_order b k i o).lives (with_order b k i o).spans (m * orders_each) orders_each
  store_near w m g = go (ltb i orders_each) refl
    where
      go : (t : Bool) → ltb i orders_each ≡ t → Near (with_order b k i o).numbers (with_order b k i o).lives (with_order b k i o).spans (m * orders_each) orders_each
      go true e =
          rw e (near_stored b.numbers b.lives b.spans orders_each k (in_numbers b k h s w) (in_lives b k h s w) (in_spans b k h s)
          i o.number o.live (get_or b.numbers (k * orders_each + i) 0) (ltb-true i orders_each e)
          (leaves (get_or b.lives (k * orders_each + i) false) o.live (eqb (get_or b.numbers (k * orders_each + i) 0) o.number)) m (w.near m g))
      go false e = rw e (w.near m g)

  module _ (os : List Order) (p : Lands order_number order_live orders_each (shelf_at b k) i o os) where
    store_sound : Wf b → Wf (with_order b k i o)
    store_sound w = record {
      sized = store_sized;
      singles = store_singles order_number order_live orders_each b.places k i o os p w.singles;
      mirrored = store_mirrored w;
      near = store_near w;
    }

-- ---- what was decided, settled
module _ (b : Orders) (k : ℕ) (h : k < symbols) (s : Sized b) where
  lands_obeys : (place : ℕ) (o : Order) (os : List Order) → Lands order_number order_live orders_each (shelf_at b k) place o os → Wf b → Obeys b k (fits os) (with_order b k place o) (Ok tt)
  unfolding fitted live_at
  lands_obeys place o os p w = record {
    wf = store_sound b k h s place o os p w;
    fit = refl;
    own = store_own order_number order_live orders_each b.places k place o os p;
    others = store_other order_number order_live orders_each b.places k place o;
  }

  -- one place after the other
  pub moves_obeys : (gone place : ℕ) (o : Order) (rest os : List Order) → Lands order_number order_live orders_each (shelf_at b k) gone no_order rest
      → Lands order_number order_live orders_each (placed orders_each (shelf_at b k) gone no_order) place o os → Wf b → Obeys b k (fits os) (with_order (with_order b k gone no_order) k place o) (Ok tt)
  unfolding fitted live_at
  moves_obeys gone place o rest os p q w =
      let left = with_order b k gone no_order in
      let then : Lands order_number order_live orders_each (shelf_at left k) place o os = (rw (shelf_placed orders_each k b.places gone no_order) q) in
      record {
        wf = store_sound left k h (store_sized b k h s gone no_order) place o os then (store_sound b k h s gone no_order rest p w);
        fit = refl;
        own = store_own order_number order_live orders_each left.places k place o os then;
        others = λ m ne. store_other order_number order_live orders_each left.places k place o m ne ∙ store_other order_number order_live orders_each b.places k gone no_order m ne;
      }

  pub settled_obeys : (room_for : ℕ → ℕ) (v : Result Verdict Unfit) (x : Fit (List Order)) → Decides (shelf_at b k) room_for v x → Wf b → Obeys b k x (settled_at b k v) (fit_by v)
  unfolding fitted live_at
  settled_obeys room_for v x (lands {place = place} {o = o} {os = os} p near) w = lands_obeys place o os p w
  settled_obeys room_for v x (moves {gone = gone} {place = place} {o = o} {rest = rest} {os = os} p q near) w = moves_obeys gone place o rest os p q w
  settled_obeys room_for v x stays w = record { wf = w; fit = refl; own = refl; others = λ m ne. refl }
  settled_obeys room_for v x misfits w = record { wf = w; fit = refl; own = refl; others = λ m ne. refl }
  settled_obeys room_for v x crowds w = record { wf = w; fit = refl; own = refl; others = λ m ne. refl }

-- one place emptied, then one filled: where no place is emptied first, and where none is filled either
abbrev pub landed_in : Orders → ℕ → ℕ → ℕ → Order → Orders
landed_in b k gone place o = with_order (with_order b k gone no_order) k place o

pub landed_once : (b : Orders) (k gone place : ℕ) (o : Order) → orders_each ≤ gone → with_order b k place o ≡ landed_in b k gone place o
landed_once b k gone place o h = rw (le-ltb gone orders_each h)

pub landed_nowhere : (b : Orders) (k gone place : ℕ) (o : Order) → orders_each ≤ gone → orders_each ≤ place → b ≡ landed_in b k gone place o
landed_nowhere b k gone place o h j = rw (le-ltb gone orders_each h, le-ltb place orders_each j)

settled_kept : (b : Orders) (k : ℕ) (v : Result Verdict Unfit) → fit_number (fit_by v) ≢ 0 → settled_at b k v ≡ b
settled_kept b k (Ok v) ne = absurd (ne refl)
settled_kept b k (Err e) ne = refl

-- ---- so a change that is judged and settled keeps its promise
module _ (b : Orders) (k : ℕ) (c : Change) where
  pub changes : (v : Result Verdict Unfit) → k < symbols → Judges b k c v → Changes b k c (settled_at b k v) (fit_by v)
  unfolding live_at
  changes v h p = record {
    kept = settled_kept b k v;
    outside = λ o. absurd (omega (arith, h, o));
    obeys = λ j w. settled_obeys b k h w.sized (room_in b k) v (apply_to (live_at b k) c) (p (searchable b k h w)) w;
  }

  pub changes_nothing : symbols ≤ k → Changes b k c b (Err Unfit.Misfit)
  changes_nothing h = record { kept = λ ne. refl; outside = λ o. (refl, refl); obeys = λ j w. absurd (omega (arith, h, j)) }

-- ---- the places of a symbol filled with what is empty
module _ {A : Type 0} (n k : ℕ) (z : A) (l : List A) (reach : k * n + n ≤ length l) where
  emptied_pasted : (j : ℕ) → j ≤ n → emptied n k z l j ≡ paste l (k * n) (replicate n z) j
  unfolding emptied
  emptied_pasted zero h = paste-zero l (k * n) (replicate n z)
  emptied_pasted (suc j) h =
      ap (λ (m : List A). set m (k * n + j) z) (emptied_pasted j (omega (arith, h)))
      ∙ ap (λ (y : A). set (paste l (k * n) (replicate n z) j) (k * n + j) y) (sym (get_or_replicated z n j))
      ∙ paste-suc l (k * n) (replicate n z) j z (omega (arith, h, reach)) (rw length-replicate h)

  pub filled_is_emptied : (m : ℕ) (ys : List A) → m ≡ n → ys ≡ replicate (length (mid_of (k * n) m l)) z → put_mid (k * n) m l ys ≡ emptied n k z l n
  filled_is_emptied m ys e f =
      let long : length (mid_of (k * n) m l) ≡ n = (rw e (shelf_length n k l reach)) in
      let all : ys ≡ replicate n z = f ∙ ap (λ (i : ℕ). replicate i z) long in
      let whole : take n (replicate n z) ≡ replicate n z = take_all n (replicate n z) (rw length-replicate (omega arith)) in
      rw (all, e, drop-drop n (k * n) l)
      (ap (λ (r : List A). take (k * n) l ++ (r ++ drop (k * n + n) l)) (sym whole)
      ∙ sym (append_assoc (take (k * n) l) (take n (replicate n z)) (drop (k * n + n) l))
      ∙ sym (emptied_pasted n (omega arith)))

-- ---- all orders of symbol k gone
module _ (b : Orders) (k : ℕ) where
  pub clears : Sized b → k < symbols → Clears b k (emptied_to b k orders_each)
  unfolding live_at
  clears s h =
      let reach = in_places b k h s in
      let p = is_emptied orders_each k no_order b.places reach orders_each (omega arith) in
      let q = is_emptied orders_each k 0 b.spans (in_spans b k h s) orders_each (omega arith) in
      record {
        outside = λ o. absurd (omega (arith, h, o));
        own = λ j. emptied_own order_number order_live orders_each no_order refl b.places _ k p reach;
        others = emptied_other order_number order_live orders_each no_order refl b.places _ k p reach;
        wf = λ w. record {
          sized = record { places = p.long ∙ s.places; spans = q.long ∙ s.spans };
          singles = emptied_singles order_number order_live orders_each no_order refl b.places _ k p reach w.singles;
          mirrored = mirrored_emptied order_number order_live orders_each k no_order b.places b.numbers b.lives orders_each w.mirrored;
          near = λ m g. near_emptied b.numbers b.lives b.spans orders_each k (in_numbers b k h s w) (in_lives b k h s w) (in_spans b k h s) m (w.near m g);
        };
      }

-- ---- past the eighth symbol there is no order
pub none_past : (b : Orders) (k : ℕ) → length b.places ≡ symbols * orders_each → symbols ≤ k → live_at b k ≡ []
unfolding live_at
none_past b k size h = nothing_past order_number order_live orders_each b.places k size h
