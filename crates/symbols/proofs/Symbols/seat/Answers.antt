-- From the back: after each place, the seat of the first ticket of the index from there on.
use mathlib.Core.Bool.{false}
use mathlib.Core.List.{List}
use mathlib.Core.Path.{◌≡◌, subst, ap, ◌∙◌}
use Prim.Native.Nat.{ℕ, suc, ◌+◌, ◌-◌, ◌<◌, ◌≤◌}
use native.Mathlib.Nat.{zero-add}
use native.Mathlib.Numerals.{add-one}
use native.Mathlib.Omega.{arith}
use borrow.Author.Tests.{eq-eqb, ne_eqb}
use lib.ListN.{length, get_or}
use Rattle.std.specs.Prelude.{Option, Some, None, IfSome, IfNone}
use Rattle.std.proofs.Common.{rules}
use Rattle.places.specs.Places.{symbols}
use Rattle.places.specs.declared.seats.Seat.{Seat}
use Rattle.symbols.specs.Answers.{Sits}
use Rattle.places.specs.Homes.{outside}
use Rattle.places.specs.Tickets.{first_in}
use Rattle.places.proofs.Rounds.{not_outside}
use Rattle.places.proofs.Ticketing.{Back, back_end, back_hit, back_miss, back_first}
use Rattle.symbols.proofs.Symbols.seat.Goals as goal

-- one place after the other, the last one first
module _ (t : List ℕ) (x : ℕ) (eight : length t ≡ symbols) where
  in_list : outside 0 symbols (length t) ≡ false
  in_list = not_outside 0 symbols (length t) (omega arith) (omega (arith, eight))

  ends : Back t 0 symbols x symbols symbols
  ends = back_end t 0 symbols x in_list

  hits : (j : ℕ) → 0 < j → j ≤ symbols → get_or t (j - 1) 0 ≡ x → Back t 0 symbols x (j - 1) (j - 1)
  hits j h g e = back_hit t 0 symbols x in_list (j - 1) (omega (arith, h, g)) (rw zero-add (eq-eqb _ x e))

  misses : (j r : ℕ) → 0 < j → j ≤ symbols → (get_or t (j - 1) 0 ≡ x → ⊥) → Back t 0 symbols x j r → Back t 0 symbols x (j - 1) r
  misses j r h g ne b =
      let next : j ≡ j - 1 + 1 = omega (arith, h) in
      back_miss t 0 symbols x in_list (j - 1) r (omega (arith, h, g)) (rw zero-add (ne_eqb _ x ne)) (subst (λ (m : ℕ). Back t 0 symbols x m r) next b)

  comes-first : (j r : ℕ) → j ≤ 0 → Back t 0 symbols x j r → r ≡ first_in t 0 symbols x
  comes-first j r h b = let e : j ≡ 0 = omega (arith, h) in back_first t 0 symbols x in_list r (subst (λ (m : ℕ). Back t 0 symbols x m r) e b)

-- the seat of a place is that seat, or there is none past the eighth
sits : (o : Option Seat) (n : ℕ) → IfSome o (λ s. s.place ≡ n) → IfNone o (symbols ≤ n) → Sits o n
sits None n here none = none
sits (Some s) n here none = here

pub loop-j-init : goal.loop-j-init
loop-j-init c = (symbols, ends c.args.self.now.tickets _ (search rules), omega arith)

pub loop-j-preserved-then-self-j : goal.loop-j-preserved-then-self-j
loop-j-preserved-then-self-j c = (c.loop-j.j - 1, hits c.args.self.now.tickets _ (search rules) c.loop-j.j c.loop-j-test.true c.loop-j.auto.j c.if-self-j.true, sits c.of-seat.result (c.loop-j.j - 1) c.of-seat.ensures.seat c.of-seat.ensures.none)

pub loop-j-preserved : goal.loop-j-preserved
loop-j-preserved c = let at = c.loop-j.invariant in (at.0, misses c.args.self.now.tickets _ (search rules) c.loop-j.j at.0 c.loop-j-test.true c.loop-j.auto.j c.if-self-j.false at.1, at.2)

pub returns : goal.returns
returns c = let at = c.loop-j.invariant in
    let first = comes-first c.args.self.now.tickets _ (search rules) c.loop-j.j at.0 c.loop-j-test.false at.1 ∙ ap (λ (n : ℕ). first_in c.args.self.now.tickets 0 symbols n) (add-one c.from-ticket.result ∙ ap suc c.from-ticket.ensures) in
    subst (λ (n : ℕ). Sits c.loop-j.seat n) first at.2
