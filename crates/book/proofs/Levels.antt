-- The quoted size is the sum over the live orders at the quoted price, and no live order is better, since a quote shows the levels of the symbol's orders; a message that is done brings the orders that the rule says.
use Rattle.std.specs.Prelude.{None, is_some}
use mathlib.Core.Bool.{Bool, true, false, false≢true}
use mathlib.Core.List.{List, Memᴰ}
use mathlib.Core.Option.{Option, none, some}
use mathlib.Core.Path.{◌≡◌, refl, sym, ap, ◌∙◌, subst}
use Prim.Native.Nat.{ℕ, ◌+◌}
use native.Mathlib.Omega.{arith}
use lib.Dec.{ltb}
use lib.ListN.{length}
use Rattle.feed.specs.Reader.{Fit, fits, misfit, no_room, ruled, numbered}
use Rattle.places.specs.Places.{sum_by, insert, look}
use Rattle.orders.specs.State.{orders_each, order_number}
use Rattle.orders.specs.Rules.{apply_to, added, order_of}
use Rattle.orders.specs.Levels.{counts, shares_at, level_at, level_of, NoBetter, Attained, TakesOff}
use Rattle.orders.specs.declared.Order.{Order}
use Rattle.orders.proofs.Sides as levels
use Rattle.orders.proofs.Sides.{shows, best_of_all, attained_of_all, add_level}
use Rattle.orders.proofs.Executing.{takes_off}
use Rattle.record.specs.declared.Deal.{Deal}
use Rattle.book.specs.declared.acts.Effect.{Effect}
use Rattle.book.specs.State.{Symbol, View, place_in, symbol_in, live_of, live_in}
use Rattle.book.specs.Step.{change_of, deal_of, enacted, meeting, act_at, act_on}
use Rattle.book.specs.Quote.{quoted_if, quoted, quote_of, side_of}
use Rattle.book.proofs.Isolation.{own_symbol}

-- a quote that shows a price shows the level of the symbol's orders
quoted_side : (buy : Bool) (v : View) (index : ℕ) (s : Symbol) (p n : ℕ) → symbol_in index v ≡ some s → side_of buy (quote_of index v) ≡ level_at p n → (s.entry.standing.stale ≡ false) × (level_of buy s.orders ≡ level_at p n)
unfolding quote_of
quoted_side buy v index s p n e q = go buy s.entry.standing.stale refl (sym (ap (λ (x : Option Symbol). side_of buy (quoted x)) e) ∙ q)
  where
    go : (side : Bool) (t : Bool) → s.entry.standing.stale ≡ t → side_of side (quoted_if s.entry.standing.stale s.orders) ≡ level_at p n → (s.entry.standing.stale ≡ false) × (level_of side s.orders ≡ level_at p n)
    go true true f z = absurd (false≢true (ap is_some (rw f at z)))
    go false true f z = absurd (false≢true (ap is_some (rw f at z)))
    go true false f z = (f, rw f at z)
    go false false f z = (f, rw f at z)

-- ---- the quoted size at a price is the sum over the live orders there
pub exact_sum : (buy : Bool) (v : View) (index : ℕ) (s : Symbol) (p n : ℕ) → symbol_in index v ≡ some s → side_of buy (quote_of index v) ≡ level_at p n → n ≡ sum_by (shares_at buy p) s.orders
exact_sum buy v index s p n e q = sym (shows buy s.orders p n (quoted_side buy v index s p n e q).1).size

pub best_price : (buy : Bool) (v : View) (index : ℕ) (s : Symbol) (p n : ℕ) → symbol_in index v ≡ some s → side_of buy (quote_of index v) ≡ level_at p n
    → (o : Order) → Memᴰ o s.orders → counts buy o ≡ true → NoBetter buy p o.price
best_price buy v index s p n e q o m c = rw (shows buy s.orders p n (quoted_side buy v index s p n e q).1).best at (best_of_all buy s.orders o m c)

pub attained : (buy : Bool) (v : View) (index : ℕ) (s : Symbol) (p n : ℕ) → symbol_in index v ≡ some s → side_of buy (quote_of index v) ≡ level_at p n → Attained buy p s.orders
attained buy v index s p n e q = attained_of_all buy s.orders p (shows buy s.orders p n (quoted_side buy v index s p n e q).1).best

-- ---- where none is shown, none of the side is live
empty_side : (stale buy : Bool) (os : List Order) → (quoted_if stale os).answer ≡ 0 → side_of buy (quoted_if stale os) ≡ None → level_of buy os ≡ None
empty_side true buy os z q = absurd (omega (arith, z))
empty_side false true os z q = q
empty_side false false os z q = q

pub none_live : (buy : Bool) (v : View) (index : ℕ) (s : Symbol) → symbol_in index v ≡ some s → (quote_of index v).answer ≡ 0 → side_of buy (quote_of index v) ≡ None
    → (o : Order) → Memᴰ o s.orders → counts buy o ≡ true → ⊥
unfolding quote_of
none_live buy v index s e z q o m c =
    let level = empty_side s.entry.standing.stale buy s.orders (sym (ap (λ (x : Option Symbol). (quoted x).answer) e) ∙ z) (sym (ap (λ (x : Option Symbol). side_of buy (quoted x)) e) ∙ q) in
    levels.none_live buy s.orders level o m c

-- ---- an applied add at the best price raises the quoted size by its volume
-- an add that is done has its order among the others
pub record AddsOrder (s t : Symbol) (o : Order) : Type 0 where
  pub orders : t.orders ≡ insert order_number o s.orders
  pub stale : t.entry.standing.stale ≡ s.entry.standing.stale

add_done : (s : Symbol) (o : Order) (stale below above : Bool) (found : Option Order) (room : Bool) (d : Deal) → (enacted s d (ruled stale below above (added s.orders o found room))).answer ≡ 0
    → AddsOrder s (enacted s d (ruled stale below above (added s.orders o found room))).symbol o
unfolding enacted ruled
add_done s o true below above found room d e = absurd (omega (arith, e))
add_done s o false true above found room d e = absurd (omega (arith, e))
add_done s o false false true found room d e = absurd (omega (arith, e))
add_done s o false false false (some x) room d e = absurd (omega (arith, e))
add_done s o false false false none false d e = absurd (omega (arith, e))
add_done s o false false false none true d e = record { orders = refl; stale = refl }

meeting_adds : (s : Symbol) (index number n : ℕ) (buy : Bool) (p v : ℕ) → (meeting s (numbered index number (Effect.Add n buy p v))).answer ≡ 0 → AddsOrder s (meeting s (numbered index number (Effect.Add n buy p v))).symbol (order_of n buy p v)
unfolding meeting apply_to
meeting_adds s index number n buy p v e = add_done s (order_of n buy p v) s.entry.standing.stale (ltb number s.entry.standing.expected) (ltb s.entry.standing.expected number) (look order_number n s.orders) (ltb (length s.orders) orders_each) Deal.Nothing e

shown_side : (buy stale : Bool) (os : List Order) → stale ≡ false → side_of buy (quoted_if stale os) ≡ level_of buy os
shown_side true stale os e = rw e
shown_side false stale os e = rw e

pub case_d : (buy : Bool) (v : View) (index number n p vol m : ℕ) (s : Symbol) → symbol_in index v ≡ some s → side_of buy (quote_of index v) ≡ level_at p m
    → (act_on v (numbered index number (Effect.Add n buy p vol))).answer ≡ 0
    → side_of buy (quote_of index (act_on v (numbered index number (Effect.Add n buy p vol))).view) ≡ level_at p (m + vol)
unfolding quote_of act_on
case_d buy v index number n p vol m s e q z =
    let shown = quoted_side buy v index s p m e q in
    let done : (meeting s (numbered index number (Effect.Add n buy p vol))).answer ≡ 0 = (rw e at z) in
    let added-it = meeting_adds s index number n buy p vol done in
    ap (λ (x : Option Symbol). side_of buy (quoted x)) (own_symbol v (numbered index number (Effect.Add n buy p vol)) s e)
    ∙ shown_side buy _ _ (added-it.stale ∙ shown.0)
    ∙ ap (level_of buy) added-it.orders
    ∙ add_level buy s.orders n p vol m shown.1

-- ---- an execution that is done takes its volume off at its order's own price
ruled_done : (s : Symbol) (stale below above : Bool) (x : Fit (List Order)) (d : Deal) → (enacted s d (ruled stale below above x)).answer ≡ 0 → x ≡ fits (enacted s d (ruled stale below above x)).symbol.orders
unfolding enacted ruled
ruled_done s true below above x d e = absurd (omega (arith, e))
ruled_done s false true above x d e = absurd (omega (arith, e))
ruled_done s false false true x d e = absurd (omega (arith, e))
ruled_done s false false false misfit d e = absurd (omega (arith, e))
ruled_done s false false false no_room d e = absurd (omega (arith, e))
ruled_done s false false false (fits os) d e = refl

meeting_done : (s : Symbol) (index number : ℕ) (f : Effect) → (meeting s (numbered index number f)).answer ≡ 0 → apply_to s.orders (change_of f) ≡ fits (meeting s (numbered index number f)).symbol.orders
unfolding meeting
meeting_done s index number f e = ruled_done s s.entry.standing.stale (ltb number s.entry.standing.expected) (ltb s.entry.standing.expected number) (apply_to s.orders (change_of f)) (deal_of f) e

pub execution : (v : View) (index number n vol : ℕ) (deal : Deal) → ((s : Symbol) → symbol_in index v ≡ some s → (o : Order) → Memᴰ o s.orders → o.live ≡ true)
    → (act_on v (numbered index number (Effect.Execute n vol deal))).answer ≡ 0 → TakesOff n vol (live_in index v) (live_in index (act_on v (numbered index number (Effect.Execute n vol deal))).view)
unfolding act_on
execution v index number n vol deal live = go (symbol_in index v) refl
  where
    go : (x : Option Symbol) → symbol_in index v ≡ x → (act_at v (place_in index v) x (numbered index number (Effect.Execute n vol deal))).answer ≡ 0
        → TakesOff n vol (live_in index v) (live_in index (act_on v (numbered index number (Effect.Execute n vol deal))).view)
    go none q z = absurd (omega (arith, z))
    go (some s) q z =
        subst (λ (x : Option Symbol). TakesOff n vol (live_in index v) (live_of x)) (sym (own_symbol v (numbered index number (Effect.Execute n vol deal)) s q))
        (subst (λ (x : Option Symbol). TakesOff n vol (live_of x) (meeting s (numbered index number (Effect.Execute n vol deal))).symbol.orders) (sym q)
        (takes_off s.orders n vol _ (live s q) (meeting_done s index number (Effect.Execute n vol deal) z)))
