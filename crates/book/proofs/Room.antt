-- How many live orders a symbol has room for, with the numbers themselves: every rule speaks of `orders_each`, and would hold of a wrong one.
use mathlib.Core.Bool.{Bool, true, false}
use mathlib.Core.List.{[], ◌∷◌}
use mathlib.Core.Option.{Option, none, some}
use mathlib.Core.Path.{◌≡◌, refl, ap, ◌∙◌}
use Prim.Native.Nat.{ℕ, zero, suc}
use native.Mathlib.Omega.{arith}
use borrow.Author.Tests.{le-ltb}
use lib.Dec.{ltb}
use lib.ListN.{length, replicate}
use Rattle.feed.specs.Reader.{ruled, Act, numbered}
use Rattle.markets.specs.declared.Market.{Market}
use Rattle.wire.specs.Fields.{buy_letter}
use Rattle.wire.specs.Outcome.{done}
use Rattle.wire.specs.Reading.{Read}
use Rattle.wire.specs.declared.Message.{Message}
use Rattle.places.specs.Places.{first_where, insert, look}
use Rattle.places.proofs.Sorted.{length_insert}
use Rattle.symbols.specs.State.{place_of, found_in, vacancy_of}
use Rattle.symbols.specs.Registering.{name_bad, registered}
use Rattle.symbols.specs.Turns.{counted}
use Rattle.orders.specs.State.{orders_each, no_order, order_number}
use Rattle.orders.specs.Rules.{order_of, added, apply_to}
use Rattle.orders.specs.declared.Order.{Order}
use Rattle.record.specs.Rules.{deal_to}
use Rattle.record.specs.declared.Deal.{Deal}
use Rattle.book.specs.State.{Symbol, View, symbol_in, live_of, live_in, new_view, Fresh}
use Rattle.book.specs.Registering.{register_of}
use Rattle.book.specs.Step.{becomes, symbol_made_stale, enacted, meeting, act_on, meant, step_on, step_of}
use Rattle.book.specs.declared.Book.{Book}
use Rattle.book.specs.declared.acts.Effect.{Effect}
use Rattle.book.proofs.Isolation.{own_symbol}

-- a new state has a place for each of 2,048 orders, all empty
pub places_of_a_new_state : (m : Market) (r : Book) → Fresh m r → r.orders.places ≡ replicate 2048 no_order
places_of_a_new_state m r f = rw f.orders

-- what was read adds an order that is not live, in its turn, to a symbol that isn't stale and has so many live ones
pub record AddsTo (v : View) (d : Read) (live : ℕ) : Type 0 where
  pub message : Message
  pub index : ℕ
  pub number : ℕ
  pub price : ℕ
  pub volume : ℕ
  pub buy : Bool
  pub symbol : Symbol
  pub read : d.outcome ≡ done message
  pub means : meant message ≡ numbered index symbol.entry.standing.expected (Effect.Add number buy price volume)
  pub there : symbol_in index v ≡ some symbol
  pub not_stale : symbol.entry.standing.stale ≡ false
  pub not_live : look order_number number symbol.orders ≡ none
  pub so_many : length symbol.orders ≡ live

-- not stale, neither below nor above, and not live: then it hangs on the room alone
in_turn : (s : Symbol) (index number price volume live : ℕ) (buy : Bool) → s.entry.standing.stale ≡ false → look order_number number s.orders ≡ none → length s.orders ≡ live
    → meeting s (numbered index s.entry.standing.expected (Effect.Add number buy price volume)) ≡ enacted s Deal.Nothing (ruled false false false (added s.orders (order_of number buy price volume) none (ltb live orders_each)))
unfolding meeting apply_to
in_turn s index number price volume live buy not_stale not_live so_many = rw (not_stale, le-ltb s.entry.standing.expected s.entry.standing.expected (omega arith), not_live, so_many)

module _ (v : View) (d : Read) (live : ℕ) (a : AddsTo v d live) where
  abbrev before : Symbol
  before = a.symbol

  abbrev new : Order
  new = order_of a.number a.buy a.price a.volume

  abbrev act : Act Effect
  act = numbered a.index before.entry.standing.expected (Effect.Add a.number a.buy a.price a.volume)

  stepped : step_of v d ≡ act_on v act
  unfolding step_of
  stepped = ap (step_on v) a.read ∙ ap (act_on v) a.means

  answers : (step_of v d).answer ≡ (meeting before act).answer
  unfolding act_on
  answers = rw (stepped, a.there)

  stands : symbol_in a.index (step_of v d).view ≡ some (meeting before act).symbol
  stands = rw stepped (own_symbol v act before a.there)

  by_room : meeting before act ≡ enacted before Deal.Nothing (ruled false false false (added before.orders new none (ltb live orders_each)))
  by_room = in_turn before a.index a.number a.price a.volume live a.buy a.not_stale a.not_live a.so_many

  -- what it comes to where there is room: the symbol is a number on, with the new order among its orders, of which so many are live then
  pub record Added (then : ℕ) : Type 0 where
    pub answer : (step_of v d).answer ≡ 0
    pub there : symbol_in a.index (step_of v d).view ≡ some (becomes before (counted false before.entry.standing) (insert order_number new before.orders) before.kept)
    pub so_many : length (live_in a.index (step_of v d).view) ≡ then

  -- and where there is none: the symbol is stale and its record without the mark, with the orders that it had
  pub record NoRoom : Type 0 where
    pub answer : (step_of v d).answer ≡ 10
    pub there : symbol_in a.index (step_of v d).view ≡ some (symbol_made_stale before)

module _ (v : View) (d : Read) where
  pub the_256th_is_added : (a : AddsTo v d 255) → Added v d 255 a 256
  unfolding enacted ruled deal_to
  the_256th_is_added a =
      let is = by_room v d 255 a in
      let there = stands v d 255 a ∙ ap (λ r. some r.symbol) is in
      record { answer = answers v d 255 a ∙ ap (λ r. r.answer) is; there = there; so_many = ap (λ x. length (live_of x)) there ∙ length_insert order_number (new v d 255 a) a.symbol.orders ∙ ap suc a.so_many }

  pub the_257th_answers_10 : (a : AddsTo v d 256) → NoRoom v d 256 a
  unfolding enacted ruled
  the_257th_answers_10 a =
      let is = by_room v d 256 a in
      record { answer = answers v d 256 a ∙ ap (λ r. r.answer) is; there = stands v d 256 a ∙ ap (λ r. some r.symbol) is }

-- ---- such adds come: in a new state a symbol is registered, and its orders are added one by one
abbrev adding : ℕ → Read
adding n = record { outcome = done (Message.Add (record { nanos = 0; index = 7; number = n }) n 1000 10 buy_letter); offset = 0; plain = [] }

unfoldable pub filled : ℕ → View
filled zero = (register_of (new_view Market.Nyse) 7 (65 ∷ []) 0).view
filled (suc n) = (step_of (filled n) (adding (suc n))).view

-- what the next one asks of the symbol, as one value to compute
record Asked : Type 0 where
  pub turn : ℕ
  pub stale : Bool
  pub live : Option Order
  pub so_many : ℕ

abbrev asked_of : ℕ → Option Symbol → Asked
asked_of n none = record { turn = 0; stale = true; live = none; so_many = 0 }
asked_of n (some s) = record { turn = s.entry.standing.expected; stale = s.entry.standing.stale; live = look order_number (suc n) s.orders; so_many = length s.orders }

comes : (n : ℕ) (x : Option Symbol) → symbol_in 7 (filled n) ≡ x → asked_of n x ≡ record { turn = suc n; stale = false; live = none; so_many = n } → AddsTo (filled n) (adding (suc n)) n
unfolding meant
comes n none e r = absurd (omega (arith, ap (λ (a : Asked). a.turn) r))
comes n (some s) e r = record {
  message = _;
  index = 7;
  number = suc n;
  price = 1000;
  volume = 10;
  buy = true;
  symbol = s;
  read = refl;
  means = rw (ap (λ (a : Asked). a.turn) r);
  there = e;
  not_stale = ap (λ (a : Asked). a.stale) r;
  not_live = ap (λ (a : Asked). a.live) r;
  so_many = ap (λ (a : Asked). a.so_many) r;
}

pub the_256th_comes : AddsTo (filled 255) (adding 256) 255
unfolding filled first_where insert look place_of found_in vacancy_of apply_to deal_to name_bad registered ruled enacted meeting act_on meant step_of
the_256th_comes = comes 255 (symbol_in 7 (filled 255)) refl refl

pub the_257th_comes : AddsTo (filled 256) (adding 257) 256
unfolding filled first_where insert look place_of found_in vacancy_of apply_to deal_to name_bad registered ruled enacted meeting act_on meant step_of
the_257th_comes = comes 256 (symbol_in 7 (filled 256)) refl refl
