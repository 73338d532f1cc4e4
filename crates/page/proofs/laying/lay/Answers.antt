-- What is left of the laying comes to all of it (`Rest`): each batch is run and laid, and it ends where the walk stops or the buffer is full.
use Rattle.std.proofs.Common.{◌≡◌, ap, sym, refl, ◌∙◌, arith, rules}
use Rattle.symbols.specs.State.{itself, found_in, entries}
use Rattle.symbols.specs.Registering.{told_of}
use Rattle.symbols.specs.declared.Symbols.{Symbols}
use Rattle.book.specs.declared.Book.{Book}
use Rattle.book.specs.State.{view}
use Rattle.book.proofs.Asking.{tells}
use Rattle.page.specs.Laying.{Tells}
use Rattle.page.proofs.Sheets.{rest_all}
use Rattle.page.proofs.Batches.{full, next, stopped, onward}
use Rattle.page.proofs.laying.lay.Goals as goal

-- what the names tell is what the book's view tells
told : (b : Book) (names : Symbols) → names ≡ b.symbols → Tells names (view b)
told b names e i = tells b i _ (ap (λ (s : Symbols). told_of (found_in itself i (entries s))) e)

pub loop-market-init : goal.loop-market-init
loop-market-init c = (refl, (search rules, rest_all _ _ _ _ _ _))

pub returns-then-t-r : goal.returns-then-t-r
returns-then-t-r c = let l = c.loop-market.invariant in full l.1.1 l.0 (c.market-market.ensures ∙ sym l.1.1.same_market) (told _ _ c.names-names.ensures) c.run_noted-r.ensures c.lay_noted-t.ensures (search rules) c.if-second-gt-LAST_SECOND.false c.if-t-r.true c.run_some-q.result c.run_some-q.ensures

pub returns-then-r-ne-NO_ROOM : goal.returns-then-r-ne-NO_ROOM
returns-then-r-ne-NO_ROOM c = let l = c.loop-market.invariant in stopped l.1.1 l.0 (c.market-market.ensures ∙ sym l.1.1.same_market) (told _ _ c.names-names.ensures) c.run_noted-r.ensures c.lay_noted-t.ensures (search rules) c.if-t-r.false c.if-second-gt-LAST_SECOND.false c.if-r-ne-NO_ROOM.true

pub loop-market-smaller : goal.loop-market-smaller
loop-market-smaller c = let l = c.loop-market.invariant in let o = onward l.1.1 l.0 (c.market-market.ensures ∙ sym l.1.1.same_market) (told _ _ c.names-names.ensures) c.run_noted-r.ensures c.lay_noted-t.ensures (search rules) c.if-t-r.false (omega (arith, l.1.0)) c.if-r-ne-NO_ROOM.false in omega (arith, o.0, o.1)

pub loop-market-preserved : goal.loop-market-preserved
loop-market-preserved c = let l = c.loop-market.invariant in (search rules, (search rules, next l.1.1 l.0 (c.market-market.ensures ∙ sym l.1.1.same_market) (told _ _ c.names-names.ensures) c.run_noted-r.ensures c.lay_noted-t.ensures (search rules) c.if-t-r.false))
